-- `store::is_rising` meets its contract: the names are parts of the store.
use Rattle.marks.proofs.{StoreLoops.{rising_first, rising_next}}
use Rattle.marks.proofs.store.is_rising.Goals as goal

pub returns-then-i-eq0 : goal.returns-then-i-eq0
returns-then-i-eq0 c = rising_first _ _ _ c.if-i-eq0.true c.is_before.ensures

pub returns : goal.returns
returns c = rising_next _ _ _ c.if-i-eq0.false c.is_before-2.ensures
