-- `flood::flood` meets its contract: what came in is what the flood spreads to over the radios done so far (`Walking`). The measure is
-- what is left of the most radios that may come in.
use Rattle.lists.specs.Kit.{arith, rules}
use Rattle.floods.proofs.{FloodLaws.{walking_turn, walking_end, flood_starts}}
use Rattle.floods.proofs.flood.flood.Goals as goal

pub take_layer-next-requires : goal.take_layer-next-requires
take_layer-next-requires c =
    let walked = c.loop-i.invariant.1 c.args.set.now (flood_starts c.args.links.now c.args.v c.args.set.now
    c.args.queue.now _ c.requires c.take_out.ensures.left c.take_out.ensures.long) in
    (walked.reached, omega (arith, walked.few, walked.room), walked.few)

pub loop-i-smaller : goal.loop-i-smaller
loop-i-smaller c =
    omega (
      arith,
      (c.loop-i.invariant.1 c.args.set.now (flood_starts c.args.links.now c.args.v c.args.set.now
          c.args.queue.now _ c.requires c.take_out.ensures.left c.take_out.ensures.long)).few,
      c.loop-i-test.true,
    )

pub loop-i-preserved : goal.loop-i-preserved
loop-i-preserved c = (
  search rules,
  λ old h. walking_turn c.args.links.now c.args.v old c.loop-i.i _ _ c.take_layer-next.ensures (c.loop-i.invariant.1 old h),
)

pub returns : goal.returns
returns c =
    walking_end c.args.links.now c.args.v c.args.set.now _ _ c.loop-i-test.false
    (c.loop-i.invariant.1 c.args.set.now (flood_starts c.args.links.now c.args.v c.args.set.now
    c.args.queue.now _ c.requires c.take_out.ensures.left c.take_out.ensures.long))
