-- `levels::take_level` meets its contract: up to the lowest radio of the level that the set still has, the set and the lists are right
-- if they were so at the level's start (`Reached`). The measure is what is left of the radios.
use Rattle.lists.specs.{Kit.{arith}}
use Rattle.tree.proofs.LevelLoop.{levelling_start, found_radio, found_few, levelling_smaller, levelling_next, levelling_end}
use Rattle.tree.proofs.levels.take_level.Goals as goal

pub loop-v-init : goal.loop-v-init
loop-v-init c = levelling_start c.args.t.now.links.now c.args.t.now.numbers.now _ _ c.requires.positive c.args.shell.now c.requires.own

pub overflow_cast-v : goal.overflow_cast-v
overflow_cast-v c =
    let radio =
    found_radio c.args.t.now.links.now c.args.t.now.numbers.now _ _ c.requires.positive c.args.shell.now c.requires.own c.in-Some.v _
    c.in-Some.ensures c.requires.small c.loop-v.invariant in
    omega (arith, radio, c.requires.small)

pub take_node-c-requires : goal.take_node-c-requires
take_node-c-requires c =
    let radio =
    found_radio c.args.t.now.links.now c.args.t.now.numbers.now _ _ c.requires.positive c.args.shell.now c.requires.own c.in-Some.v _
    c.in-Some.ensures c.requires.small c.loop-v.invariant in
    let few =
    found_few c.args.t.now.links.now c.args.t.now.numbers.now _ _ c.requires.positive c.args.shell.now c.requires.own c.in-Some.v _
    c.in-Some.ensures c.requires.small c.loop-v.invariant in (
      record { radio = omega (arith, radio, c.requires.small); room = omega (arith, c.requires.room, c.loop-v.auto.queue) },
      omega (arith, radio, c.requires.named, c.loop-v.auto.answer),
      omega (arith, radio, c.requires.small, c.requires.few, few),
    )

pub loop-v-smaller : goal.loop-v-smaller
loop-v-smaller c =
    levelling_smaller c.args.t.now.links.now c.args.t.now.numbers.now _ _ c.requires.positive c.args.shell.now c.requires.own c.in-Some.v
    _ c.in-Some.ensures c.requires.small c.loop-v.invariant _ c.take_node-c.ensures

pub loop-v-preserved : goal.loop-v-preserved
loop-v-preserved c =
    levelling_next c.args.t.now.links.now c.args.t.now.numbers.now _ _ c.requires.positive c.args.shell.now c.requires.own c.in-Some.v
    _ c.in-Some.ensures c.requires.small c.loop-v.invariant _ c.take_node-c.ensures

pub returns : goal.returns
returns c = record {
  few = omega (arith, c.requires.small, c.requires.few, c.loop-v.invariant.within, c.loop-v.invariant.few);
  levelled = levelling_end c.args.t.now.links.now c.args.t.now.numbers.now _ _ c.requires.positive c.args.shell.now c.requires.own _
      c.requires.words c.requires.level c.requires.small c.in_default.ensures c.loop-v.invariant;
}
