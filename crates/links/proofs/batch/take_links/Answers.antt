-- `batch::take_links` meets its contract: what is left of the list gives, of the tables as they are, what the whole list gives of the
-- tables as they were (`Batching`).
use Rattle.lists.specs.Kit.{refl, arith}
use Rattle.calls.proofs.AnswerLaws.{refused_not}
use Rattle.links.proofs.BatchLaws.{batching_few, batching_end, batching_turn, batching_halt}
use Rattle.links.proofs.batch.take_links.Goals as goal

pub overflow_cast-result : goal.overflow_cast-result
overflow_cast-result c = omega (arith, batching_few c.loop-i.invariant)

pub returns-in-Err : goal.returns-in-Err
returns-in-Err c =
    batching_halt c.loop-i.invariant c.loop-i-test.true _ _ _ _ c.in-Err.ensures (refused_not c.in-Err.refusal)

pub loop-i-preserved : goal.loop-i-preserved
loop-i-preserved c = batching_turn c.loop-i.invariant c.loop-i-test.true _ _ _ _ c.in_default.ensures refl

pub overflow_cast-result-2 : goal.overflow_cast-result-2
overflow_cast-result-2 c = omega (arith, batching_few c.loop-i.invariant)

pub returns : goal.returns
returns c = batching_end c.loop-i.invariant c.requires.1 (omega arith)
