-- `RadioSet::first_common` meets its contract: both sets have no radio before word k (`Searching`), and the lowest bit of the first
-- word that is not 0 is theirs. The measure is the words that are left.
use Rattle.lists.specs.Kit.{arith, and_lt}
use Rattle.rows.specs.Sets.{common}
use Rattle.rows.proofs.{RowWords.{searching_turn, searching_found, searching_end}, SetLaws.{both_word}}
use Rattle.rows.proofs.sets.RadioSet.first_common.Goals as goal

pub returns-then-word-ne0 : goal.returns-then-word-ne0
unfolding common
returns-then-word-ne0 c =
    rw (← c.self.view_is, ← c.other.view_is)
    (searching_found _ c.loop-k.k _ c.loop-k-test.true (both_word c.self.inside.words c.other.inside.words c.loop-k.k) c.loop-k.invariant
    (and_lt 64 _ _ (omega arith) (omega arith)) c.if-word-ne0.true)

pub loop-k-preserved : goal.loop-k-preserved
loop-k-preserved c =
    searching_turn _ c.loop-k.k _ c.loop-k-test.true (both_word c.self.inside.words c.other.inside.words c.loop-k.k) c.loop-k.invariant
    c.if-word-ne0.false

pub returns : goal.returns
unfolding common
returns c = rw (← c.self.view_is, ← c.other.view_is) (searching_end _ c.loop-k.k c.loop-k-test.false c.loop-k.invariant)
