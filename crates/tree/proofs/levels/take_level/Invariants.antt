-- `levels::take_level` meets its contract: up to the lowest radio of the level that the set still has, the set and the lists are right
-- if they were so at the level's start (`Reached`). The measure is what is left of the radios.
use Rattle.std.specs.Prelude.{◌-◌}
use Rattle.lists.specs.{Kit.{min, length}}
use Rattle.tree.specs.Trees.{lists, stand}
use Rattle.tree.proofs.{LevelLoop.{Reached, lowest}}
use Rattle.tree.proofs.levels.take_level.Given as goal

abbrev pub invariant-loop-v : goal.invariant-loop-v
invariant-loop-v l =
    Reached l.t.links.now l.t.numbers.now l.level l.shell
    (stand l.initial.set (lists l.initial.nodes l.initial.answer) l.count)
    (stand l.set (lists l.nodes l.answer) l.c)

abbrev pub decreases-loop-v : goal.decreases-loop-v
decreases-loop-v l = length l.t.numbers.now - min (lowest l.shell l.set) (length l.t.numbers.now)
