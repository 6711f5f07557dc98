-- `levels::take_levels` meets its contract: before each level the lists are right if they were so with the root alone (`Treeing`), the set is
-- that of the level, and the level's radios stand in the order from a place on (`LevelFrom`).
use Rattle.std.specs.Prelude.{◌≡◌, ◌+◌, ◌≤◌}
use Rattle.lists.specs.Kit.{length}
use Rattle.mesh.specs.Limits.{max_radios}
use Rattle.floods.specs.Floods.{LevelSet}
use Rattle.tree.specs.Trees.{lists, LevelFrom}
use Rattle.tree.proofs.{TreeLoop.{Treeing}}
use Rattle.tree.proofs.levels.take_levels.Given as goal

abbrev pub invariant-loop-k : goal.invariant-loop-k
invariant-loop-k l =
    (length l.all ≡ 8) × (length l.queue ≡ max_radios) × (l.k ≤ l.top + 1) × LevelSet l.t.numbers.now l.k l.all × LevelFrom l.t.numbers.now l.t.order.now l.k l.from ×
    Treeing l.t.links.now l.t.numbers.now (lists l.initial.nodes l.initial.answer) l.initial.count l.k
    (lists l.nodes l.answer) l.count
