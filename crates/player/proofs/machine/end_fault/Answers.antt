-- `machine::end_fault` meets its contract: bytes that are held are a fault.
use Rattle.lists.specs.Kit.{sym, ◌∙◌}
use Rattle.player.proofs.{ReadingLaws.{some_fault}}
use Rattle.player.proofs.machine.end_fault.Goals as goal

pub returns-then-least-eq0 : goal.returns-then-least-eq0
returns-then-least-eq0 c = λ e. sym c.least.ensures ∙ c.if-least-eq0.true

pub returns : goal.returns
returns c = λ e. absurd (some_fault c.args.s.fault _ (sym c.or.ensures ∙ e))
