-- `turn::release_row` meets its contract: the words of the row are released one by one, and the radios from word k on give what the whole
-- row gives (`WordsReleasing`). The measure is the words that are left.
use Rattle.lists.specs.Kit.{refl, arith}
use Rattle.rows.{specs.Rows.{row_from}, proofs.RowWords.{row_from_zero, row_from_end}}
use Rattle.plan.proofs.{NearLaws.{releasable_same, released_same}, TurnLoops.{words_none, words_ready, words_turn, words_end}}
use Rattle.plan.proofs.{TurnLoops.{row_split}}
use Rattle.plan.proofs.turn.release_row.Goals as goal

pub loop-k-init : goal.loop-k-init
loop-k-init c = words_none _ _ _ _ (row_from _ 0) _ _ (releasable_same _ _ _ _ (row_from_zero _ 0) c.requires.1)

pub release_word-requires : goal.release_word-requires
release_word-requires c = (
  omega arith,
  words_ready _ _ _ _ (row_from _ 0) _ _ c.loop-k.k _ _ _ (omega arith)
      (row_split _ c.requires.0 (λ j. (c.type_inv.row j).fits) c.loop-k.k _ (omega arith) c.word_of.ensures)
      c.loop-k.invariant,
)

pub loop-k-preserved : goal.loop-k-preserved
loop-k-preserved c =
    words_turn _ _ _ _ (row_from _ 0) _ _ c.loop-k.k _ _ _ (omega arith)
    (row_split _ c.requires.0 (λ j. (c.type_inv.row j).fits) c.loop-k.k _ (omega arith) c.word_of.ensures)
    c.loop-k.invariant _ _ c.release_word.ensures.counted c.release_word.ensures.marked

pub returns : goal.returns
returns c =
    let done = words_end _ _ _ _ (row_from _ 0) _ _ _ _ _ (row_from_end _ 0 _ c.loop-k-test.false) c.loop-k.invariant in
    let both = released_same _ _ _ _ _ _ _ _ _ (row_from_zero _ 0) refl done.0 done.1 in record { counted = both.0; marked = both.1 }
