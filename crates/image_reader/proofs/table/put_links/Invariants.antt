-- `table::put_links` meets its contract: the blocks passed are marked.
use Rattle.std.specs.Prelude.{◌≡◌}
use Rattle.lists.specs.Kit.{length}
use Rattle.image_reader.specs.Site.{passed}
use Rattle.image_reader.proofs.{TableWritten.{Linking}}
use Rattle.image_reader.proofs.table.put_links.Given as goal

abbrev pub invariant-loop-q : goal.invariant-loop-q
invariant-loop-q l = (length l.links ≡ length l.initial.links) × Linking l.header.radios l.image l.links (passed l.header.links l.q)
