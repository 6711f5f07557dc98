-- `fill::put16` meets its contract: a store past a list's end changes nothing.
use Rattle.lists.specs.Kit.{sym, set_out}
use Rattle.tables.proofs.fill.put16.Goals as goal

pub returns-else-at-list : goal.returns-else-at-list
returns-else-at-list c = sym (set_out _ _ _ c.if-at-list.false)
