-- `radios::first_of_two` meets its contract: what is left of the list decides.
use Rattle.queries.proofs.AnswerLaws.{FirstSoFar}
use Rattle.queries.proofs.radios.first_of_two.Given as goal

abbrev pub invariant-loop-entry : goal.invariant-loop-entry
invariant-loop-entry l = FirstSoFar l.a l.b l.order l.entry-index
