-- `keeping::copy` meets its contract: the reads before the last went on.
use Rattle.player.proofs.StatusLaws.{Copying}
use Rattle.player.proofs.keeping.copy.Given as goal

abbrev pub invariant-loop : goal.invariant-loop
invariant-loop g l = Copying
