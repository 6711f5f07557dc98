-- `mark_row` meets its contract: the words of the row are taken one by one, and what is left of the row gives with what is marked
-- what the whole row gives (`WordsMarking`).
use Rattle.conditions.proofs.{MarkLaws.{WordsMarking}}
use Rattle.hearing.proofs.one_sided.mark_row.Given as goal

abbrev pub invariant-loop-k : goal.invariant-loop-k
invariant-loop-k l = WordsMarking l.heard l.a l.initial.one_sided l.k l.n l.one_sided
