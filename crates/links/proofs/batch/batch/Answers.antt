-- `batch::batch` meets its contract: a refusal by 1 to 3 touches nothing but scratch; else the links are taken up.
use Rattle.lists.specs.Kit.{refl, arith}
use Rattle.mesh.specs.Tables.{tables}
use Rattle.calls.{specs.Batches.{list_length}, proofs.AnswerLaws.{refused_not}}
use Rattle.links.proofs.BatchLaws.{batch_refused, batch_ready, batch_carried}
use Rattle.links.proofs.batch.batch.Goals as goal

pub returns-in-Err : goal.returns-in-Err
unfolding list_length
returns-in-Err c =
    batch_refused c.args.n c.args.list.now (tables c.args.links.now c.args.numbers.now c.args.order.now) _ _ _ c.in-Err.ensures
    (refused_not c.in-Err.refusal)

pub take_links-requires : goal.take_links-requires
unfolding list_length
take_links-requires c =
    batch_ready c.args.n c.args.list.now (tables c.args.links.now c.args.numbers.now c.args.order.now) _ _ _ c.in_default.ensures refl
    (omega arith) (omega arith)

pub returns : goal.returns
unfolding list_length
returns c =
    batch_carried c.args.n c.args.list.now (tables c.args.links.now c.args.numbers.now c.args.order.now) _ _ _ c.in_default.ensures refl
    _ _ c.take_links.ensures
