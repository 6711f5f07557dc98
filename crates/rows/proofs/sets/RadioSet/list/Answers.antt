-- `RadioSet::list` meets its contract: what is listed so far and what is left from word k on give what the whole set gives
-- (`SetListing`). The measure is the words that are left.
use Rattle.rows.proofs.{SetLaws.{set_listing_turn, set_listing_end}}
use Rattle.rows.proofs.sets.RadioSet.list.Goals as goal

pub loop-k-preserved : goal.loop-k-preserved
loop-k-preserved c =
    set_listing_turn c.self.inside.words c.args.list.now c.loop-k.n c.loop-k.k _ c.loop-k.list _
    c.loop-k-test.true c.list_word.ensures.counted c.list_word.ensures.listed c.loop-k.invariant

pub returns : goal.returns
returns c = rw (← c.self.view_is) (set_listing_end _ _ c.loop-k.n c.loop-k.k c.loop-k.list c.loop-k-test.false c.loop-k.invariant)
