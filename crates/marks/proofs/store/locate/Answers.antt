-- `store::locate` meets its contract: the names before the given one are counted, and the next name is compared.
use Rattle.marks.proofs.{StoreLoops.{located_end, located_at}}
use Rattle.marks.proofs.store.locate.Goals as goal

pub returns-then-rank-used : goal.returns-then-rank-used
returns-then-rank-used c = located_end _ _ _ _ c.requires c.rank_of-rank.ensures.0 c.rank_of-rank.ensures.1 c.if-rank-used.true

pub returns : goal.returns
returns c = located_at _ _ _ _ c.requires c.rank_of-rank.ensures.0 c.rank_of-rank.ensures.1 _ c.is_same.ensures c.if-rank-used.false
