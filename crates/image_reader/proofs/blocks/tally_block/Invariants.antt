-- `blocks::tally_block` meets its contract: the links passed in both halves of the block are counted.
use Rattle.std.specs.Prelude.{◌+◌, ◌*◌, ◌≤◌}
use Rattle.lists.specs.Kit.{length}
use Rattle.mesh.specs.Image.{block_links}
use Rattle.image_reader.proofs.{TallyLaws.{Tallying}, HalvesLaws.{Block}}
use Rattle.image_reader.proofs.blocks.tally_block.Given as goal

abbrev pub invariant-loop-i : goal.invariant-loop-i
invariant-loop-i l =
    (l.i ≤ l.half) × Block l.fn.header l.q l.part l.image (length l.ranks) l.initial.counts
    × Tallying l.fn.header.radios l.ranks l.slack l.image l.initial.counts l.counts (block_links * l.q + l.i) (block_links * l.q + l.half) l.i
