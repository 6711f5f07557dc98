-- `shift::move_up` meets its contract: the bytes from i on stand one place higher.
use Rattle.lists.specs.Kit.{refl, arith}
use Rattle.marks.proofs.{Moving.{moving_up_turn, up_none}}
use Rattle.marks.proofs.shift.move_up.Goals as goal

pub loop-i-init : goal.loop-i-init
loop-i-init c = record { low = c.requires.0; high = omega arith; long = refl; is = up_none _ _ }

pub loop-i-preserved : goal.loop-i-preserved
loop-i-preserved c = moving_up_turn _ c.loop-i.kept _ _ c.loop-i.i c.requires.1 c.loop-i.invariant (omega arith)
