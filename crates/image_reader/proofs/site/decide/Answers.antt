-- `site::decide` meets its contract: links that are not listed well refuse, and else the rest decides.
use Rattle.lists.specs.Kit.{arith}
use Rattle.image_reader.proofs.SoundLaws.{orders_inside}
use Rattle.image_reader.proofs.site.decide.Goals as goal

pub read_order-requires : goal.read_order-requires
read_order-requires c =
    (omega (arith, c.requires.room.most, c.requires.room.order_long), orders_inside _ _ _ _ c.requires.room.order_long c.requires.room.whole)
