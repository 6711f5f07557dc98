-- `batch::take_links` meets its contract: what is left of the list gives, of the tables as they are, what the whole list gives of the
-- tables as they were (`Batching`).
use Rattle.mesh.specs.Tables.{tables}
use Rattle.links.proofs.BatchLaws.{Batching}
use Rattle.links.proofs.batch.take_links.Given as goal

abbrev pub invariant-loop-i : goal.invariant-loop-i
invariant-loop-i l = Batching l.n l.list (tables l.initial.links l.initial.numbers l.initial.order)
    (tables l.links l.numbers l.order) l.found.places l.found.not_lower l.i
