-- `take_radio` meets its contract: whether the radio is of the level says which set counts.
use Rattle.lists.specs.Kit.{sym, ◌∙◌}
use Rattle.staircase.proofs.{RowLaws.{level_row_own, level_row_other}}
use Rattle.staircase.proofs.forest.Forest.take_radio.Goals as goal

pub take_row-requires : goal.take_row-requires
take_row-requires c =
    let row = level_row_own c.args.links.now c.args.own.now c.args.reach.now c.args.a (sym c.has.ensures ∙ c.if-has.true) in
    (c.requires.0, c.requires.1, rw row at c.requires.2)

pub returns-then-has : goal.returns-then-has
returns-then-has c =
    rw (level_row_own c.args.links.now c.args.own.now c.args.reach.now c.args.a (sym c.has.ensures ∙ c.if-has.true))
    c.take_row.ensures

pub take_row-requires-2 : goal.take_row-requires-2
take_row-requires-2 c =
    let row = level_row_other c.args.links.now c.args.own.now c.args.reach.now c.args.a (sym c.has.ensures ∙ c.if-has.false) in
    (c.requires.0, c.requires.1, rw row at c.requires.2)

pub returns : goal.returns
returns c =
    rw (level_row_other c.args.links.now c.args.own.now c.args.reach.now c.args.a (sym c.has.ensures ∙ c.if-has.false))
    c.take_row-2.ensures
