-- `writer::put_bits` meets its contract: each turn takes the lowest set bit off the word, and what is put so far leaves the links of the others
-- (`LinksPut`). The measure is the word that is left.
use Rattle.std.specs.Prelude.{◌≡◌, ◌%◌, ◌^◌, ◌<◌}
use Rattle.lists.specs.Kit.{length}
use Rattle.rows.{specs.Rows.{set_bits}, specs.Links.{links_to}}
use Rattle.image_writer.specs.Blocks.{LinksPut}
use Rattle.image_writer.proofs.writer.put_bits.Given as goal

abbrev pub invariant-loop-rest : goal.invariant-loop-rest
invariant-loop-rest l = (l.rest < 2 ^ 64) × (l.at % 4 ≡ 0) × (length l.part ≡ length l.initial.part) × LinksPut (links_to l.a (set_bits 64 l.first l.word))
    l.from l.initial.part l.part l.at (links_to l.a (set_bits 64 l.first l.rest))

abbrev pub decreases-loop-rest : goal.decreases-loop-rest
decreases-loop-rest l = l.rest
