-- `take_rows` meets its contract: the rows from place i on give what all of them give (`Taking`).
use Rattle.lists.specs.Kit.{flat_map, drop}
use Rattle.staircase.specs.Rows.{level_row}
use Rattle.staircase.proofs.{TakingLaws.{Taking}}
use Rattle.staircase.proofs.forest.Forest.take_rows.Given as goal

abbrev pub invariant-loop-a : goal.invariant-loop-a
invariant-loop-a l =
    let row = level_row l.links l.own l.reach in Taking (flat_map row l.list) l.initial.self (flat_map row (drop l.a-index l.list)) l.self
