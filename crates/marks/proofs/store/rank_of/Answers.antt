-- `store::rank_of` meets its contract: the names passed stand before the given one, so what is left decides.
use Rattle.lists.specs.Kit.{arith}
use Rattle.marks.proofs.StoreLoops.{ranking_turn, ranking_stop, ranking_end}
use Rattle.marks.proofs.store.rank_of.Goals as goal

pub returns-then-not-is_before : goal.returns-then-not-is_before
returns-then-not-is_before c = (
  ranking_stop _ _ c.loop-i.i c.loop-i.invariant (omega (arith, c.requires.counted)) c.is_before.result c.is_before.ensures
      (c.if-not-is_before.true),
  omega arith,
)

pub loop-i-preserved : goal.loop-i-preserved
loop-i-preserved c =
    ranking_turn _ _ c.loop-i.i c.loop-i.invariant (omega (arith, c.requires.counted)) c.is_before.result c.is_before.ensures
    (c.if-not-is_before.false)

pub returns : goal.returns
returns c = (ranking_end _ _ c.loop-i.i _ c.loop-i.invariant c.requires.counted (omega arith), omega arith)
