-- `turn::release_word` meets its contract: each turn takes the lowest set bit off the word and releases its radio, and what is left of
-- the set bits gives what all of them give (`WordReleasing`). The measure is the word that is left.
use Rattle.plan.proofs.TurnLoops.{word_next, word_turn, word_end}
use Rattle.plan.proofs.turn.release_word.Goals as goal

pub release_one-requires : goal.release_one-requires
release_one-requires c = word_next _ _ _ _ _ _ _ _ c.loop-rest.rest _ _ c.loop-rest-test.true c.loop-rest.invariant

pub loop-rest-preserved : goal.loop-rest-preserved
loop-rest-preserved c =
    word_turn _ _ _ _ _ _ _ _ c.loop-rest.rest _ _ c.loop-rest-test.true c.loop-rest.invariant _ _ c.release_one.ensures.counted
    c.release_one.ensures.marked

pub returns : goal.returns
returns c =
    let both = word_end _ _ _ _ _ _ _ _ _ _ _ c.loop-rest-test.false c.loop-rest.invariant in record { counted = both.0; marked = both.1 }
