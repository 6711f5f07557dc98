-- `places::list_entries` meets its contract: what is listed so far and the places from word k on give what the whole set gives
-- (`SetEntries`).
use Rattle.lists.specs.Kit.{arith}
use Rattle.plan.proofs.EntryLists.{set_entries_stand, set_entries_turn, set_entries_end}
use Rattle.plan.proofs.places.list_entries.Goals as goal

pub list_word-at-requires : goal.list_word-at-requires
list_word-at-requires c =
    let stand = set_entries_stand _ _ _ _ _ _ c.loop-k.k _ c.loop-k-test.true c.loop-k.invariant in
    (c.loop-k-test.true, omega (arith, c.loop-k.invariant.few, c.requires.0), rw c.word.ensures stand)

pub loop-k-preserved : goal.loop-k-preserved
loop-k-preserved c =
    set_entries_turn _ _ _ _ _ _ c.loop-k.k _ c.loop-k-test.true c.loop-k.invariant _ _ (rw c.word.ensures at c.list_word-at.ensures.counted)
    (rw c.word.ensures at c.list_word-at.ensures.listed)

pub returns : goal.returns
returns c = set_entries_end _ _ _ _ _ _ c.loop-k.k _ c.loop-k-test.false c.loop-k.invariant
