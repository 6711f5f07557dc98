-- `apply::put_before` meets its contract: the part of the order that is lent is as long as what is copied over it.
use Rattle.lists.specs.Kit.{arith}
use Rattle.plan.proofs.Pasted.{put_part}
use Rattle.links.proofs.apply.put_before.Goals as goal

pub returns : goal.returns
returns c =
    put_part c.args.order.now c.args.part.now _ _ c.args.end
    (omega (arith, c.requires.0)) c.requires.1 c.copy.ensures
