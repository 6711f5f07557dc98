-- `words::run_words` meets its contract: without words it is the run, and with any it is no run.
use Rattle.lists.specs.Kit.{arith}
use Rattle.player.proofs.words.run_words.Goals as goal

pub returns-then-count-eq0 : goal.returns-then-count-eq0
returns-then-count-eq0 g c = record { few = c.run.ensures.few; run = λ e. c.run.ensures }

pub returns-then-is_same : goal.returns-then-is_same
returns-then-is_same g c = record { few = c.help.ensures; run = λ e. absurd (c.if-count-eq0.false e) }

pub returns-then-is_same-2 : goal.returns-then-is_same-2
returns-then-is_same-2 g c = record { few = c.print.ensures; run = λ e. absurd (c.if-count-eq0.false e) }

pub returns : goal.returns
returns g c = record { few = omega arith; run = λ e. absurd (c.if-count-eq0.false e) }
