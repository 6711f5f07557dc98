-- `Peel::take` meets its contract: its counter grows, its row is put into a set, and of the row the radios that are left are lowered (`state_takes`).
use Rattle.lists.specs.Kit.{arith}
use Rattle.lift.proofs.{SetLaws.{in_taken}, PeelSteps.{own_small, state_takes, state_fewer}}
use Rattle.lift.proofs.peel.Peel.take.Goals as goal

pub overflow_add-self : goal.overflow_add-self
overflow_add-self c =
    let small = own_small _ _ _ _ _ _ _ c.requires.0 c.requires.1 _ c.requires.2 c.requires.3 in
    record { fits = omega (arith, small) }

pub returns : goal.returns
returns c =
    let out = in_taken _ _ _ c.requires.2 c.take_out.ensures.long c.take_out.ensures.left in
    let row = rw c.empty-near.ensures at c.join_row.ensures in
    let out_stay = in_taken _ _ _ c.requires.2 c.take_out-2.ensures.long c.take_out-2.ensures.left in
    record {
      state = rw c.lower.ensures.stay (state_takes _ _ _ _ _ _ _ c.requires.0 c.requires.1 _ c.requires.2 c.requires.3 _ _ _ _ _ out out_stay
          row c.lower.ensures.lowered);
      fewer = state_fewer _ _ _ _ _ _ _ c.requires.0 c.requires.1 _ c.requires.2 c.requires.3 _ _ _ _ _ out out_stay
          row c.lower.ensures.lowered;
    }
