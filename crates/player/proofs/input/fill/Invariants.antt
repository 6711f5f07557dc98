-- `fill` meets its contract: the reads so far filled the buffer to the place.
use Rattle.player.proofs.ReadLaws.{Filled}
use Rattle.player.proofs.input.fill.Given as goal

abbrev pub invariant-loop : goal.invariant-loop
invariant-loop g l = Filled l.initial.buffer l.buffer l.at
