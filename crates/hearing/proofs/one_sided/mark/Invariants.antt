-- `mark` meets its contract: the rows before row a are marked, and counted with what is left as the whole (`Marking`).
use Rattle.lists.specs.Kit.{length}
use Rattle.conditions.{specs.Hearing.{OfSize}, proofs.MarkLaws.{Marking}}
use Rattle.hearing.proofs.one_sided.mark.Given as goal

abbrev pub invariant-loop-a : goal.invariant-loop-a
invariant-loop-a l = OfSize l.n l.heard × Marking l.n l.heard (length l.initial.one_sided) l.one_sided l.count l.a
