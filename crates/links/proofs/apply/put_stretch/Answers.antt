-- `apply::put_stretch` meets its contract: both parts of the stretch, one behind the other.
use Rattle.lists.specs.Kit.{refl}
use Rattle.links.proofs.{ChangeLaws.{paste_stretch}}
use Rattle.links.proofs.apply.put_stretch.Goals as goal

pub returns : goal.returns
returns c =
    paste_stretch c.args.order.now c.args.stretch.now c.args.plan.start c.args.plan.taken c.args.plan.size c.requires.fits c.requires.long
    c.requires.taken_fits _ _ _ _ refl refl c.put_before.ensures c.put_before-2.ensures
