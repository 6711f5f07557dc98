-- `shift::move_down` meets its contract: the bytes before i stand one place lower.
use Rattle.lists.specs.Kit.{refl, arith}
use Rattle.marks.proofs.{Moving.{moving_down_turn, down_none}}
use Rattle.marks.proofs.shift.move_down.Goals as goal

pub loop-i-init : goal.loop-i-init
loop-i-init c = record { low = omega arith; high = c.requires.1; long = refl; is = down_none _ _ c.requires.0 }

pub loop-i-preserved : goal.loop-i-preserved
loop-i-preserved c = moving_down_turn _ c.loop-i.kept _ _ c.loop-i.i c.requires.0 c.requires.2 c.loop-i.invariant (omega arith)
