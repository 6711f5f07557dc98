-- `Peel::lower_word` meets its contract: each turn takes the lowest set bit off the word (`WordLowering`). The measure is the word that is left.
use Rattle.lists.specs.Kit.{refl, ◌∙◌, rules}
use Rattle.lift.proofs.{PeelLaws.{word_none, word_turn, word_end}}
use Rattle.lift.proofs.peel.Peel.lower_word.Goals as goal

pub loop-rest-init : goal.loop-rest-init
loop-rest-init c = (word_none _ _ _ _ _ _ _ (search rules), refl)

pub loop-rest-preserved : goal.loop-rest-preserved
loop-rest-preserved c = (
  word_turn _ _ _ _ _ _ _ c.loop-rest.rest _ _ _ _ c.loop-rest-test.true c.loop-rest.invariant.0 c.lower_one.ensures.lowered,
  c.lower_one.ensures.stay ∙ c.loop-rest.invariant.1,
)

pub returns : goal.returns
returns c = record {
  lowered = word_end _ _ _ _ _ _ _ c.loop-rest.rest _ _ c.loop-rest-test.false c.loop-rest.invariant.0;
  stay = c.loop-rest.invariant.1;
}
