-- `is_proper` meets its contract: the rows before row a got yes (`ProperBelow`), and a row that gets no decides.
use Rattle.conditions.proofs.AskLaws.{ProperBelow}
use Rattle.hearing.proofs.questions.is_proper.Given as goal

abbrev pub invariant-loop-a : goal.invariant-loop-a
invariant-loop-a l = ProperBelow l.n l.heard l.a
