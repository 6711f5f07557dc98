-- `take_rows` meets its contract: the rows from place i on give what all of them give (`Taking`).
use Rattle.std.specs.Prelude.{◌+◌}
use Rattle.lists.specs.Kit.{refl, flat_map, get_or, drop}
use Rattle.staircase.specs.Rows.{level_row}
use Rattle.staircase.proofs.{TakingLaws.{taking_none, taking_front, taking_part, taking_end}, RowLaws.{rows_next, rows_end}}
use Rattle.staircase.proofs.forest.Forest.take_rows.Goals as goal

pub loop-a-init : goal.loop-a-init
loop-a-init c = taking_none _ _ _ refl c.requires.1

pub take_radio-requires : goal.take_radio-requires
take_radio-requires c =
    let row = level_row c.args.links.now c.args.own.now c.args.reach.now in
    let i = c.loop-a.a-index in
    let whole = c.requires.0 i c.loop-a-test.true in (
      whole.0,
      whole.1,
      taking_front _ _ (row (get_or c.args.list.now i 0)) (flat_map row (drop (i + 1) c.args.list.now)) _
          (rw (rows_next row c.args.list.now i c.loop-a-test.true) at c.loop-a.invariant),
    )

pub loop-a-preserved : goal.loop-a-preserved
loop-a-preserved c =
    let row = level_row c.args.links.now c.args.own.now c.args.reach.now in
    let i = c.loop-a.a-index in
    taking_part _ _ (row (get_or c.args.list.now i 0)) (flat_map row (drop (i + 1) c.args.list.now)) _ _
    (rw (rows_next row c.args.list.now i c.loop-a-test.true) at c.loop-a.invariant) c.take_radio.ensures

pub returns : goal.returns
returns c =
    taking_end _ _ _ _ (rows_end (level_row c.args.links.now c.args.own.now c.args.reach.now) c.args.list.now c.loop-a.a-index
    c.loop-a-test.false)
    c.loop-a.invariant
