-- `blocks::tally_block` meets its contract: the links passed in both halves of the block are counted.
use Rattle.lists.specs.Kit.{arith}
use Rattle.image_reader.proofs.{TallyLaws.{tallying_from}, HalvesLaws.{link_there, first_turn, second_turn, both_halves, block_end}}
use Rattle.image_reader.proofs.blocks.tally_block.Goals as goal

pub loop-i-init : goal.loop-i-init
loop-i-init c = (
  omega arith,
  record { part = c.part_of-part.ensures; there = c.requires.there; room = c.requires.room },
  tallying_from _ _ _ _ _ _ _ _ c.requires.before (omega (arith, c.requires.there)),
)

pub tally_at-requires : goal.tally_at-requires
tally_at-requires c = link_there c.loop-i.invariant.1 c.loop-i.invariant.2 _ (omega arith) (omega arith)

pub tally_at-requires-in-loop-i : goal.tally_at-requires-in-loop-i
tally_at-requires-in-loop-i c =
    link_there c.loop-i.invariant.1 (first_turn c.loop-i.invariant.1 _ c.loop-i.invariant.2 (omega arith) c.tally_at.ensures) _ (omega arith) (omega arith)

pub loop-i-preserved : goal.loop-i-preserved
loop-i-preserved c = (
  omega arith,
  c.loop-i.invariant.1,
  second_turn c.loop-i.invariant.1 _ _ (first_turn c.loop-i.invariant.1 _ c.loop-i.invariant.2 (omega arith) c.tally_at.ensures) (omega arith) c.tally_at-in-loop-i.ensures,
)

pub returns-then-part-half : goal.returns-then-part-half
returns-then-part-half c =
    block_end c.loop-i.invariant.1 _ (both_halves c.loop-i.invariant.1 _ _ c.loop-i.invariant.2 c.loop-i.invariant.0 (omega arith)) (omega arith) (omega arith)

pub tally_at-requires-2 : goal.tally_at-requires-2
tally_at-requires-2 c =
    link_there c.loop-i.invariant.1 (both_halves c.loop-i.invariant.1 _ _ c.loop-i.invariant.2 c.loop-i.invariant.0 (omega arith)) _ (omega arith) (omega arith)

pub returns : goal.returns
returns c =
    block_end c.loop-i.invariant.1 _
    (first_turn c.loop-i.invariant.1 _ (both_halves c.loop-i.invariant.1 _ _ c.loop-i.invariant.2 c.loop-i.invariant.0 (omega arith)) (omega arith) c.tally_at-2.ensures) (omega arith) (omega arith)
