-- `blocks::list_block` meets its contract: whether all links are listed well is what the links passed and the rest decide.
use Rattle.std.specs.Prelude.{◌+◌, ◌*◌, ◌≤◌}
use Rattle.mesh.specs.Image.{block_links}
use Rattle.image_reader.specs.Site.{Listed}
use Rattle.image_reader.proofs.blocks.list_block.Given as goal

abbrev pub invariant-loop-i : goal.invariant-loop-i
invariant-loop-i l = (l.i ≤ l.part.count) × Listed l.header l.image (record { good = l.good; key = l.key }) (block_links * l.q + l.i)
