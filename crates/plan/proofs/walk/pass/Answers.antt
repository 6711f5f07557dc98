-- `walk::pass` meets its contract: the part of the list that is lent is as long as what is copied over it.
use Rattle.plan.proofs.{WalkLoops.{copied_part}}
use Rattle.plan.proofs.walk.pass.Goals as goal

pub returns : goal.returns
returns c =
    copied_part c.args.list.now c.args.tail.now _ c.args.front c.args.until c.args.taken c.requires.0
    c.requires.1
    c.requires.2 c.copy.ensures
