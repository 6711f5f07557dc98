-- `rows::list_bits` meets its contract: each turn takes the lowest set bit off the word, and what is left of the word's set
-- bits gives what all of them give (`WordListing`). The measure is the word that is left.
use Rattle.lists.specs.Kit.{arith}
use Rattle.rows.proofs.{WordLaws.{word_none, length_set_bits_le}, Listing.{word_listing_turn, partial_end, partial_full}}
use Rattle.rows.proofs.list_bits.Goals as goal

pub returns-then-list-n : goal.returns-then-list-n
returns-then-list-n c = let both = partial_full _ _ _ (omega arith) c.loop-rest.invariant.1 in record { counted = both.0; listed = both.1 }

pub overflow_add-n : goal.overflow_add-n
overflow_add-n c = omega (arith, length_set_bits_le 64 c.args.first c.args.word)

pub loop-rest-preserved : goal.loop-rest-preserved
loop-rest-preserved c =
    word_listing_turn _ _ _ _ c.loop-rest.rest c.loop-rest.n _ c.loop-rest-test.true (omega arith)
    c.loop-rest.invariant

pub returns : goal.returns
returns c =
    let both = partial_end _ _ _ (word_none c.args.first _ c.loop-rest-test.false) c.loop-rest.invariant.1 in record { counted = both.0; listed = both.1 }
