-- `RadioSet::count_common` meets its contract: what is counted so far and the radios from word k on are all (`CommonCounting`). The measure
-- is the words that are left.
use Rattle.lists.specs.Kit.{arith}
use Rattle.rows.proofs.SetLaws.{common_counting_turn, common_counting_end}
use Rattle.rows.proofs.sets.RadioSet.count_common.Goals as goal

pub loop-k-preserved : goal.loop-k-preserved
loop-k-preserved c =
    common_counting_turn _ _ c.loop-k.n c.loop-k.k c.loop-k-test.true (omega arith)
    (omega arith) c.loop-k.invariant

pub returns : goal.returns
returns c = rw (← c.self.view_is, ← c.other.view_is) (common_counting_end _ _ c.loop-k.n c.loop-k.k c.loop-k-test.false c.loop-k.invariant)
