-- `lines::starts_with` meets its contract: what is left of the word and of the text gives what the whole gives.
use Rattle.lists.specs.Kit.{refl, sym, ◌∙◌, arith}
use Rattle.script.proofs.{LineLaws.{starts_end, starts_short, starts_differ, starts_step}}
use Rattle.script.proofs.lines.starts_with.Goals as goal

pub loop-i-init : goal.loop-i-init
loop-i-init c = (omega arith, refl)

pub returns-then-s-i : goal.returns-then-s-i
returns-then-s-i c = sym (starts_short c.args.word.now c.args.s.now c.loop-i.i (omega arith) (omega arith)) ∙ c.loop-i.invariant.1

pub returns-then-word-i : goal.returns-then-word-i
returns-then-word-i c =
    sym (starts_differ c.args.word.now c.args.s.now c.loop-i.i (omega arith) (omega arith) c.if-word-i.true) ∙ c.loop-i.invariant.1

pub loop-i-preserved : goal.loop-i-preserved
loop-i-preserved c =
    (omega arith, sym (starts_step c.args.word.now c.args.s.now c.loop-i.i (omega arith) (omega arith) c.if-word-i.false) ∙ c.loop-i.invariant.1)

pub returns : goal.returns
returns c = sym (starts_end c.args.word.now c.args.s.now c.loop-i.i (omega arith)) ∙ c.loop-i.invariant.1
