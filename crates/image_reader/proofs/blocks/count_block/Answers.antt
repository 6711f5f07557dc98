-- `blocks::count_block` meets its contract: the links passed in both halves of the block are counted in both tables.
use Rattle.lists.specs.Kit.{arith}
use Rattle.image_reader.proofs.{TallyLaws.{tallying_from}, HalvesLaws.{link_there, first_turn, second_turn, both_halves, block_end}}
use Rattle.image_reader.proofs.blocks.count_block.Goals as goal

pub loop-i-init : goal.loop-i-init
loop-i-init c = (
  omega arith,
  record { part = c.part_of-part.ensures; there = c.requires.there; room = c.requires.room },
  tallying_from _ _ _ _ _ _ _ _ c.requires.ends (omega arith),
  record {
    part = c.part_of-part.ensures;
    there = c.requires.there;
    room =
        record {
          most = c.requires.room.most;
          few = c.requires.room.few;
          whole = c.requires.room.whole;
          ranked = c.requires.room.ranked;
          counted = c.requires.later_long;
          is_proper = c.requires.room.is_proper;
        };
  },
  tallying_from _ _ _ _ _ _ _ _ c.requires.before (omega arith),
)

pub count_at-requires : goal.count_at-requires
count_at-requires c =
    (link_there c.loop-i.invariant.1 c.loop-i.invariant.2 _ (omega arith) (omega arith), link_there c.loop-i.invariant.3 c.loop-i.invariant.4 _ (omega arith) (omega arith))

pub count_at-requires-in-loop-i : goal.count_at-requires-in-loop-i
count_at-requires-in-loop-i c = (
  link_there c.loop-i.invariant.1 (first_turn c.loop-i.invariant.1 _ c.loop-i.invariant.2 (omega arith) c.count_at.ensures.0) _ (omega arith) (omega arith),
  link_there c.loop-i.invariant.3 (first_turn c.loop-i.invariant.3 _ c.loop-i.invariant.4 (omega arith) c.count_at.ensures.1) _ (omega arith) (omega arith),
)

pub loop-i-preserved : goal.loop-i-preserved
loop-i-preserved c = (
  omega arith,
  c.loop-i.invariant.1,
  second_turn c.loop-i.invariant.1 _ _ (first_turn c.loop-i.invariant.1 _ c.loop-i.invariant.2 (omega arith) c.count_at.ensures.0) (omega arith) c.count_at-in-loop-i.ensures.0,
  c.loop-i.invariant.3,
  second_turn c.loop-i.invariant.3 _ _ (first_turn c.loop-i.invariant.3 _ c.loop-i.invariant.4 (omega arith) c.count_at.ensures.1) (omega arith) c.count_at-in-loop-i.ensures.1,
)

pub returns-then-part-half : goal.returns-then-part-half
returns-then-part-half c = (
  block_end c.loop-i.invariant.1 _ (both_halves c.loop-i.invariant.1 _ _ c.loop-i.invariant.2 c.loop-i.invariant.0 (omega arith)) (omega arith) (omega arith),
  block_end c.loop-i.invariant.3 _ (both_halves c.loop-i.invariant.3 _ _ c.loop-i.invariant.4 c.loop-i.invariant.0 (omega arith)) (omega arith) (omega arith),
)

pub count_at-requires-2 : goal.count_at-requires-2
count_at-requires-2 c = (
  link_there c.loop-i.invariant.1 (both_halves c.loop-i.invariant.1 _ _ c.loop-i.invariant.2 c.loop-i.invariant.0 (omega arith)) _ (omega arith) (omega arith),
  link_there c.loop-i.invariant.3 (both_halves c.loop-i.invariant.3 _ _ c.loop-i.invariant.4 c.loop-i.invariant.0 (omega arith)) _ (omega arith) (omega arith),
)

pub returns : goal.returns
returns c = (
  block_end c.loop-i.invariant.1 _
      (first_turn c.loop-i.invariant.1 _ (both_halves c.loop-i.invariant.1 _ _ c.loop-i.invariant.2 c.loop-i.invariant.0 (omega arith)) (omega arith) c.count_at-2.ensures.0) (omega arith)
      (omega arith),
  block_end c.loop-i.invariant.3 _
      (first_turn c.loop-i.invariant.3 _ (both_halves c.loop-i.invariant.3 _ _ c.loop-i.invariant.4 c.loop-i.invariant.0 (omega arith)) (omega arith) c.count_at-2.ensures.1) (omega arith)
      (omega arith),
)
