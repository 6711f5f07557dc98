-- `count_agreed` meets its contract: the words of the row are taken one by one, and what is left of the row comes with what is
-- counted to what the whole row comes to (`WordsCounting`).
use Rattle.conditions.{specs.Hearing.{hears}, proofs.TallyLaws.{WordsCounting}}
use Rattle.hearing.proofs.questions.count_agreed.Given as goal

abbrev pub invariant-loop-k : goal.invariant-loop-k
invariant-loop-k l = WordsCounting (hears l.heard l.a) l.heard l.a l.k l.n
