-- `checks::all_good` meets its contract: the blocks passed are good, so what is left decides.
use Rattle.lists.specs.Kit.{sym, ◌∙◌, arith}
use Rattle.mesh.specs.Image.{checks_good}
use Rattle.image.proofs.{CheckLaws.{testing_turn, testing_stop, testing_end}}
use Rattle.image.proofs.checks.all_good.Goals as goal

pub returns-then-not-is_good : goal.returns-then-not-is_good
unfolding checks_good
returns-then-not-is_good c = sym (testing_stop _ _ _ c.loop-i.invariant (omega arith) (sym c.is_good.ensures ∙ c.if-not-is_good.true))

pub loop-i-preserved : goal.loop-i-preserved
loop-i-preserved c = testing_turn _ _ _ c.loop-i.invariant (omega arith) (sym c.is_good.ensures ∙ c.if-not-is_good.false)

pub returns : goal.returns
unfolding checks_good
returns c = sym (testing_end _ _ _ c.loop-i.invariant (omega arith))
