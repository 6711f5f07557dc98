-- `writer::put_words` meets its contract: what is put so far leaves the links of the words from k on.
use Rattle.std.specs.Prelude.{◌≡◌, ◌%◌, ◌≤◌}
use Rattle.lists.specs.Kit.{length}
use Rattle.rows.specs.{Rows.{row_from}, Links.{links_to}}
use Rattle.image_writer.specs.Blocks.{LinksPut}
use Rattle.image_writer.proofs.writer.put_words.Given as goal

abbrev pub invariant-loop-k : goal.invariant-loop-k
invariant-loop-k l = (l.k ≤ 8) × (l.at % 4 ≡ 0) × (length l.part ≡ length l.initial.part) × LinksPut (links_to l.a (row_from l.links l.a l.first)) l.from
    l.initial.part l.part l.at (links_to l.a (row_from l.links l.a l.k))
