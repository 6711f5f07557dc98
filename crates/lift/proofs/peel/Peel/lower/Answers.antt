-- `Peel::lower` meets its contract: the words before word k are done (`WordsLowering`).
use Rattle.lists.specs.Kit.{refl, ◌∙◌}
use Rattle.lift.proofs.{PeelLaws.{words_none, words_turn, words_over}}
use Rattle.lift.proofs.peel.Peel.lower.Goals as goal

pub loop-k-init : goal.loop-k-init
loop-k-init c = (words_none _ _ _ _ _ _ _, refl)

pub loop-k-preserved : goal.loop-k-preserved
loop-k-preserved c = (
  words_turn _ _ _ _ _ _ _ c.loop-k.k _ _ _ _ c.loop-k-test.true c.loop-k.invariant.0
      (rw (c.word.ensures, c.word-in-loop-k.ensures, c.loop-k.invariant.1) at c.lower_word.ensures.lowered),
  c.lower_word.ensures.stay ∙ c.loop-k.invariant.1,
)

pub returns : goal.returns
returns c = record {
  lowered = words_over _ _ _ _ _ _ _ c.loop-k.k _ _ c.loop-k-test.false c.loop-k.invariant.0;
  stay = c.loop-k.invariant.1;
}
