-- `list_rows` meets its contract: at the first level reach is listed whole; else the radios of the level are listed, they and their
-- neighbours put into a set, and what reach has of it is listed in their place.
use Rattle.lists.specs.Kit.{sym, arith, length-take-le}
use Rattle.staircase.proofs.{LevelRows.{own_entries, own_fits, all_rows, level_rows}}
use Rattle.staircase.proofs.list_rows.Goals as goal

pub returns-then-first : goal.returns-then-first
returns-then-first c = all_rows c.args.links.now c.args.reach.now _ _ _ (omega arith) c.list.ensures _ (omega (arith, c.list.auto.list))

pub slice_bounds-radios_in-end : goal.slice_bounds-radios_in-end
slice_bounds-radios_in-end c =
    sym (length-take-le _ _ (own_fits c.args.links.now _ _ _ _ (omega arith) c.list-many.ensures c.list-many.auto.list))

pub radios_in-set-requires : goal.radios_in-set-requires
radios_in-set-requires c = own_entries c.args.links.now c.args.own.now _ _ _ (omega arith) c.list-many.ensures

pub slice_bounds-put_neighbours-end : goal.slice_bounds-put_neighbours-end
slice_bounds-put_neighbours-end c =
    sym (length-take-le _ _ (own_fits c.args.links.now _ _ _ _ (omega arith) c.list-many.ensures c.list-many.auto.list))

pub returns : goal.returns
returns c =
    level_rows c.args.links.now c.args.own.now _ _ _ (omega arith) c.list-many.ensures
    c.args.reach.now _ _ _ _ _ c.requires (omega (arith, c.list-many.auto.list))
    c.radios_in-set.ensures c.put_neighbours.ensures c.take_common.ensures
