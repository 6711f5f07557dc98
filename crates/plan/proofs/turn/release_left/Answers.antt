-- `turn::release_left` meets its contract: the words of the row are released one by one, each without what is taken, and the radios that
-- are left from word k on give what all of them give (`WordsReleasing`). The measure is the words that are left.
use Rattle.lists.specs.Kit.{refl, arith}
use Rattle.plan.proofs.{NearLaws.{releasable_same, released_same}, TurnLoops.{words_none, words_ready, words_turn, words_end}}
use Rattle.plan.proofs.{TurnLoops.{left_from, left_from_zero, left_from_end, left_split}}
use Rattle.plan.proofs.turn.release_left.Goals as goal

pub loop-k-init : goal.loop-k-init
loop-k-init c = words_none _ _ _ _ (left_from _ _) _ _ (releasable_same _ _ _ _ (left_from_zero _ _) c.requires.1)

pub release_word-requires : goal.release_word-requires
release_word-requires c = (
  omega arith,
  rw c.word.ensures
      (words_ready _ _ _ _ (left_from _ _) _ _ c.loop-k.k _ _ _ (omega arith)
      (left_split _ c.requires.0 (λ j. (c.type_inv.row j).fits) c.loop-k.k _ (omega arith) c.word_of.ensures _)
      c.loop-k.invariant),
)

pub loop-k-preserved : goal.loop-k-preserved
loop-k-preserved c =
    words_turn _ _ _ _ (left_from _ _) _ _ c.loop-k.k _ _ _ (omega arith)
    (left_split _ c.requires.0 (λ j. (c.type_inv.row j).fits) c.loop-k.k _ (omega arith) c.word_of.ensures _)
    c.loop-k.invariant _ _ (rw c.word.ensures at c.release_word.ensures.counted) (rw c.word.ensures at c.release_word.ensures.marked)

pub returns : goal.returns
returns c =
    let done = words_end _ _ _ _ (left_from _ _) _ _ _ _ _ (left_from_end _ _ _ c.loop-k-test.false) c.loop-k.invariant in
    let both = released_same _ _ _ _ _ _ _ _ _ (left_from_zero _ _) refl done.0 done.1 in record { counted = both.0; marked = both.1 }
