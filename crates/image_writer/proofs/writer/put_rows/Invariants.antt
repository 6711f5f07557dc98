-- `writer::put_rows` meets its contract: what is put so far leaves the links of the rows from a on.
use Rattle.std.specs.Prelude.{◌≡◌, ◌%◌, ◌≤◌}
use Rattle.lists.specs.Kit.{length}
use Rattle.rows.specs.Links.{links_from}
use Rattle.image_writer.specs.Blocks.{LinksPut}
use Rattle.image_writer.proofs.writer.put_rows.Given as goal

abbrev pub invariant-loop-a : goal.invariant-loop-a
invariant-loop-a l =
    (l.a ≤ l.n) × (l.at % 4 ≡ 0) × (length l.part ≡ length l.initial.part)
    × LinksPut (links_from l.n l.links l.first 0) l.from l.initial.part l.part l.at
    (links_from l.n l.links l.a 0)
