-- `form::are_zeros` meets its contract: the answer so far is that of the bytes passed.
use Rattle.lists.specs.Kit.{arith}
use Rattle.image.specs.Form.{zeros}
use Rattle.image.proofs.{CheckLaws.{passing_none, passing_turn, passing_end}}
use Rattle.image.proofs.form.are_zeros.Goals as goal

pub loop-j-init : goal.loop-j-init
loop-j-init c = passing_none _ _

pub loop-j-preserved : goal.loop-j-preserved
loop-j-preserved c = passing_turn _ _ _ _ c.loop-j.invariant (omega arith)

pub returns : goal.returns
unfolding zeros
returns c = passing_end _ _ _ _ c.loop-j.invariant c.loop-j-test.false
