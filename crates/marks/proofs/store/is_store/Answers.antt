-- `store::is_store` meets its contract: the used places passed are marks in rising order, so what is left decides.
use Rattle.lists.specs.Kit.{sym, arith}
use Rattle.marks.proofs.StoreLoops.{testing_none, testing_turn, store_not_mark, store_not_rising, store_tested}
use Rattle.marks.proofs.store.is_store.Goals as goal

pub loop-i-init : goal.loop-i-init
loop-i-init c = testing_none _ _

pub returns-then-not-is_mark : goal.returns-then-not-is_mark
returns-then-not-is_mark c =
    sym (store_not_mark _ _ c.loop-i.i c.loop-i.invariant (omega (arith, c.requires.1.counted)) c.is_mark.result c.is_mark.ensures
    (c.if-not-is_mark.true))

pub returns-then-not-is_rising : goal.returns-then-not-is_rising
returns-then-not-is_rising c =
    sym (store_not_rising _ _ c.loop-i.i c.loop-i.invariant (omega (arith, c.requires.1.counted)) c.is_mark.result c.is_mark.ensures
    (c.if-not-is_mark.false) c.is_rising.result c.is_rising.ensures
    (c.if-not-is_rising.true))

pub loop-i-preserved : goal.loop-i-preserved
loop-i-preserved c =
    testing_turn _ _ c.loop-i.i c.loop-i.invariant (omega (arith, c.requires.1.counted)) c.is_mark.result c.is_mark.ensures
    (c.if-not-is_mark.false) c.is_rising.result c.is_rising.ensures
    (c.if-not-is_rising.false)

pub returns : goal.returns
returns c =
    store_tested _ _ c.loop-i.i _ c.are_zeros.result c.loop-i.invariant (omega arith)
    c.requires.1.counted c.are_zeros.ensures
