-- `soundness::count_ends` meets its contract: the words of the row are walked one by one, and the ends that are left and what is counted
-- come to what the whole row comes to (`RowWalking`). The measure is the words that are left.
use Rattle.soundness.specs.Checks.{tally}
use Rattle.soundness.proofs.{Tallies.{RowWalking}}
use Rattle.soundness.proofs.count_ends.Given as goal

abbrev pub invariant-loop-k : goal.invariant-loop-k
invariant-loop-k l = RowWalking l.t.links.now l.t.numbers.now l.places l.a l.k (tally l.walk.count l.walk.later l.walk.high l.walk.key)
