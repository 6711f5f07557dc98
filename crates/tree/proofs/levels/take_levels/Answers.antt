-- `levels::take_levels` meets its contract: before each level the lists are right if they were so with the root alone (`Treeing`), the set is
-- that of the level, and the level's radios stand in the order from a place on (`LevelFrom`).
use Rattle.lists.specs.Kit.{arith}
use Rattle.tree.proofs.{ShellSets.{level_next}, TreeLoop.{treeing_turn, treeing_end}}
use Rattle.tree.proofs.levels.take_levels.Goals as goal

pub loop-k-preserved : goal.loop-k-preserved
loop-k-preserved c = (
  c.take_set.ensures.long,
  omega (arith, c.take_level-count.auto.queue, c.loop-k.invariant.1),
  omega (arith, c.loop-k-test.true),
  level_next c.args.t.now.numbers.now c.loop-k.k _ c.loop-k.all _ c.shell_of-shell.ensures.own c.loop-k.invariant.3 c.take_set.ensures,
  c.shell_of-shell.ensures.next,
  treeing_turn c.args.t.now.links.now c.args.t.now.numbers.now _ _ c.loop-k.k _ _ _ _ c.take_level-count.ensures.few
      c.take_level-count.ensures.levelled c.loop-k.invariant.5,
)

pub returns : goal.returns
returns c =
    treeing_end c.args.t.now.links.now c.args.t.now.numbers.now _ c.args.top c.loop-k.k _ _
    (omega (arith, c.loop-k-test.false, c.loop-k.invariant.2)) c.loop-k.invariant.5
