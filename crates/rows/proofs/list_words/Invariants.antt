-- `rows::list_words` meets its contract: the radios listed so far and the ones from word k on are all from the first word on, as
-- far as the list reaches (`WordsListing`). The measure is the words that are left.
use Rattle.rows.proofs.{RowWords.{WordsListing}}
use Rattle.rows.proofs.list_words.Given as goal

abbrev pub invariant-loop-k : goal.invariant-loop-k
invariant-loop-k l = WordsListing l.links l.a l.from l.count l.initial.list l.n l.k l.list
