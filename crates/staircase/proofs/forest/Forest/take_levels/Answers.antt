-- `take_levels` meets its contract: the levels from this one down give what all of them give (`Taking`), and the radios of the levels
-- above are in a set; the next level is the greatest number below. The measure is the level.
use Rattle.std.specs.Prelude.{◌≤◌}
use Rattle.lists.specs.Kit.{refl, arith, length}
use Rattle.mesh.specs.{Limits.{max_neighbours}, Staircase.{of_weight}}
use Rattle.rows.specs.Links.{links_from}
use Rattle.forests.specs.Growing.{table_weight, levels_falling}
use Rattle.staircase.specs.Taking.{greatest_below}
use Rattle.staircase.proofs.{SkipLaws.{greatest_below_lt}, LevelRows.{above_none, above_next, level_sets}, TakingLaws.{taking_none}}
use Rattle.staircase.proofs.{TakingLaws.{taking_front, taking_part, taking_end}, LevelsTaken.{levels_next, levels_none, levels_takeable}}
use Rattle.staircase.proofs.forest.Forest.take_levels.Goals as goal

pub loop-level-init : goal.loop-level-init
loop-level-init c =
    let low : c.greatest-level.result ≤ max_neighbours = omega (arith, c.greatest-level.ensures, c.requires.4) in (
      low,
      rw c.empty-higher.ensures (above_none c.args.numbers.now _ c.greatest-level.ensures),
      taking_none _ _ _ refl (levels_takeable c.args.numbers.now c.args.links.now _ _ c.requires.0 c.requires.1 c.requires.3 low),
    )

pub take_level-requires : goal.take_level-requires
take_level-requires c =
    let ls = links_from (length c.args.numbers.now) c.args.links.now 0 0 in (
      c.requires.2,
      omega (arith, c.loop-level-test.true),
      level_sets c.args.numbers.now c.loop-level.level _ _ _ c.loop-level.invariant.1 c.at_least-reach.ensures.level c.take_set.ensures,
      taking_front _ _ (of_weight (table_weight c.args.numbers.now) c.loop-level.level ls)
          (levels_falling (table_weight c.args.numbers.now) (greatest_below c.loop-level.level c.args.numbers.now) ls) _
          (rw (levels_next c.args.numbers.now ls c.loop-level.level c.loop-level-test.true) at c.loop-level.invariant.2),
    )

pub loop-level-smaller : goal.loop-level-smaller
loop-level-smaller c =
    omega (arith, c.level_below-level.ensures, greatest_below_lt c.loop-level.level c.args.numbers.now c.loop-level-test.true)

pub loop-level-preserved : goal.loop-level-preserved
loop-level-preserved c =
    let ls = links_from (length c.args.numbers.now) c.args.links.now 0 0 in
    let less = greatest_below_lt c.loop-level.level c.args.numbers.now c.loop-level-test.true in (
      omega (arith, c.level_below-level.ensures, less, c.loop-level.invariant.0),
      above_next c.args.numbers.now c.loop-level.level _ _ c.level_below-level.ensures (omega (arith, c.level_below-level.ensures, less))
          c.at_least-reach.ensures.level,
      rw c.level_below-level.ensures
          (taking_part _ _ (of_weight (table_weight c.args.numbers.now) c.loop-level.level ls)
          (levels_falling (table_weight c.args.numbers.now) (greatest_below c.loop-level.level c.args.numbers.now) ls)
          _ _ (rw (levels_next c.args.numbers.now ls c.loop-level.level c.loop-level-test.true) at c.loop-level.invariant.2) c.take_level.ensures),
    )

pub returns : goal.returns
returns c =
    let ls = links_from (length c.args.numbers.now) c.args.links.now 0 0 in
    rw (← c.greatest-level.ensures)
    (taking_end _ _ _ _ (levels_none (table_weight c.args.numbers.now) ls c.loop-level.level (omega (arith, c.loop-level-test.false)))
    c.loop-level.invariant.2)
