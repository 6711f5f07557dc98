-- `words::lower` meets its contract: what the words from word k on leave, all of them leave (`WordsLowering`).
use Rattle.lists.specs.Kit.{arith}
use Rattle.plan.proofs.WordLaws.{words_lowering_none, words_lowering_end, words_ready, words_lowered}
use Rattle.plan.proofs.wide_steps.lower.Goals as goal

pub loop-k-init : goal.loop-k-init
loop-k-init c = words_lowering_none _ _ _ _ _ _ c.requires

pub lower_word-requires : goal.lower_word-requires
lower_word-requires c = (
  omega (arith, c.loop-k-test.true),
  rw (c.word.ensures, c.word-in-loop-k.ensures) (words_ready _ _ _ _ _ _ c.loop-k.k _ _ c.loop-k.invariant c.loop-k-test.true),
)

pub loop-k-preserved : goal.loop-k-preserved
loop-k-preserved c =
    words_lowered _ _ _ _ _ _ c.loop-k.k _ _ c.loop-k.invariant c.loop-k-test.true _ _
    (rw (c.word.ensures, c.word-in-loop-k.ensures) at c.lower_word.ensures)

pub returns : goal.returns
returns c = words_lowering_end _ _ _ _ _ _ c.loop-k.k _ _ c.loop-k.invariant c.loop-k-test.false
