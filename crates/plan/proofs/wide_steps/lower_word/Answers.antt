-- `words::lower_word` meets its contract: each turn takes the lowest set bit off the word, and what the rest leaves, the whole leaves
-- (`WordLowering`). The measure is the word that is left.
use Rattle.lists.specs.Kit.{ap, ◌∙◌}
use Rattle.rows.{specs.Rows.{set_bits}, proofs.WordLaws.{set_bits_nothing}}
use Rattle.plan.proofs.WordLaws.{lowering_end, word_known, word_lowered}
use Rattle.plan.proofs.wide_steps.lower_word.Goals as goal

pub lower_one-requires : goal.lower_one-requires
lower_one-requires c = word_known _ _ _ _ _ _ c.loop-rest.rest _ _ c.loop-rest.invariant c.loop-rest-test.true

pub loop-rest-preserved : goal.loop-rest-preserved
loop-rest-preserved c = word_lowered _ _ _ _ _ _ c.loop-rest.rest _ _ c.loop-rest.invariant c.loop-rest-test.true _ _ c.lower_one.ensures

pub returns : goal.returns
returns c =
    lowering_end _ _ _ _ _ _ _ _ (ap (set_bits 64 _) c.loop-rest-test.false ∙ set_bits_nothing 64 _) c.loop-rest.invariant.lowering
