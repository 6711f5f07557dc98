-- `rows::list_words` meets its contract: the radios listed so far and the ones from word k on are all from the first word on, as
-- far as the list reaches (`WordsListing`). The measure is the words that are left.
use Rattle.lists.specs.Kit.{arith}
use Rattle.rows.proofs.{RowWords.{words_listing_turn, words_listing_end}}
use Rattle.rows.proofs.list_words.Goals as goal

pub loop-k-preserved : goal.loop-k-preserved
loop-k-preserved c =
    words_listing_turn _ (λ j. (c.type_inv.links j).fits) _ _ _ c.args.list.now
    c.loop-k.n c.loop-k.k c.word_at.result _ c.loop-k.list _
    (omega arith) c.word_at.ensures c.list_bits-n.ensures.counted c.list_bits-n.ensures.listed c.loop-k.invariant

pub returns : goal.returns
returns c =
    let both = words_listing_end _ _ _ _ _ _ _ _ c.loop-k-test.false c.loop-k.invariant in record { counted = both.0; listed = both.1 }
