-- `list_above` meets its contract: each turn takes the lowest set bit off the word, and what is left of the radios above a gives with
-- the ones written what all of them give (`AboveListing`). The measure is the word that is left.
use Rattle.conditions.proofs.WantLaws.{listing_full, above_listing_turn, above_listing_end}
use Rattle.hearing.proofs.wanted.list_above.Goals as goal

pub returns-then-list-n : goal.returns-then-list-n
returns-then-list-n c = listing_full c.loop-rest.invariant.1 c.if-list-n.true

pub loop-rest-preserved : goal.loop-rest-preserved
loop-rest-preserved c = above_listing_turn _ _ _ c.loop-rest.rest c.loop-rest.invariant c.loop-rest-test.true c.if-list-n.false

pub returns : goal.returns
returns c = above_listing_end _ _ _ c.loop-rest.rest c.loop-rest.invariant c.loop-rest-test.false
