-- `count_links` meets its contract: the links of the rows passed and of the rows left are all. The measure is the rows left.
use Rattle.std.specs.Prelude.{◌≡◌}
use Rattle.lists.specs.Kit.{length}
use Rattle.rows.proofs.{LinksFrom.{Counting}}
use Rattle.rows.proofs.link_list.count_links.Given as goal

abbrev pub invariant-loop-a : goal.invariant-loop-a
invariant-loop-a l = (length l.list ≡ length l.initial.list) × Counting l.n l.links l.count l.a
