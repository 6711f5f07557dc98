-- `are_few` meets its contract: as few radios as a radio may have neighbours cannot have more agreed links; else the radios before a have few enough agreed
-- links (`FewBelow`), and one that has more decides.
use Rattle.conditions.proofs.AskLaws.{FewBelow}
use Rattle.hearing.proofs.questions.are_few.Given as goal

abbrev pub invariant-loop-a : goal.invariant-loop-a
invariant-loop-a l = FewBelow l.n l.heard l.a
