-- `take_levels` meets its contract: the levels from this one down give what all of them give (`Taking`), and the radios of the levels
-- above are in a set; the next level is the greatest number below. The measure is the level.
use Rattle.std.specs.Prelude.{◌≤◌}
use Rattle.lists.specs.Kit.{length}
use Rattle.mesh.specs.{Limits.{max_neighbours}}
use Rattle.rows.specs.Links.{links_from}
use Rattle.forests.specs.Growing.{table_weight, levels_falling}
use Rattle.staircase.proofs.{LevelRows.{AboveSet}, TakingLaws.{Taking}}
use Rattle.staircase.proofs.forest.Forest.take_levels.Given as goal

abbrev pub invariant-loop-level : goal.invariant-loop-level
invariant-loop-level l =
    let links = links_from (length l.numbers) l.links 0 0 in
    (l.level ≤ max_neighbours) × AboveSet l.numbers l.level l.higher × Taking (levels_falling (table_weight l.numbers) l.initial.level links)
    l.initial.self (levels_falling (table_weight l.numbers) l.level links) l.self

abbrev pub decreases-loop-level : goal.decreases-loop-level
decreases-loop-level l = l.level
