-- `take_level` meets its contract: the links of the listed rows are the links of the level's weight.
use Rattle.lists.specs.Kit.{sym, length-take-le}
use Rattle.staircase.proofs.{LevelRows.{level_links, level_whole}}
use Rattle.staircase.proofs.forest.Forest.take_level.Goals as goal

pub list_rows-many-requires : goal.list_rows-many-requires
list_rows-many-requires c = c.requires.2.own_long

pub slice_bounds-take_rows-end : goal.slice_bounds-take_rows-end
slice_bounds-take_rows-end c = sym (length-take-le _ _ c.list_rows-many.ensures.fits)

pub take_rows-requires : goal.take_rows-requires
take_rows-requires c = (
  level_whole c.args.links.now c.args.numbers.now c.args.level c.requires.1 c.requires.0 _ _ c.requires.2 _ _ c.list_rows-many.ensures,
  rw (level_links c.args.links.now c.args.numbers.now c.args.level c.requires.1 c.requires.0 _ _ c.requires.2 _ _ c.list_rows-many.ensures) c.requires.3,
)

pub returns : goal.returns
returns c =
    rw (level_links c.args.links.now c.args.numbers.now c.args.level c.requires.1 c.requires.0 _ _ c.requires.2 _ _ c.list_rows-many.ensures)
    at c.take_rows.ensures
