-- `blocks::count_block` meets its contract: the links passed in both halves of the block are counted in both tables.
use Rattle.std.specs.Prelude.{◌+◌, ◌*◌, ◌≤◌}
use Rattle.lists.specs.Kit.{[], length}
use Rattle.mesh.specs.Image.{block_links}
use Rattle.image_reader.proofs.{TallyLaws.{Tallying}, HalvesLaws.{Block}}
use Rattle.image_reader.proofs.blocks.count_block.Given as goal

abbrev pub invariant-loop-i : goal.invariant-loop-i
invariant-loop-i l =
    (l.i ≤ l.half) × Block l.fn.header l.q l.part l.image (length l.places) l.initial.counts
    × Tallying l.fn.header.radios [] 1 l.image l.initial.counts l.counts (block_links * l.q + l.i) (block_links * l.q + l.half) l.i
    × Block l.fn.header l.q l.part l.image (length l.places) l.initial.later
    × Tallying l.fn.header.radios l.places 0 l.image l.initial.later l.later (block_links * l.q + l.i) (block_links * l.q + l.half) l.i
