-- `site::is_k_order` meets its contract: each step hands its counts to the next; the mathematics is in `proofs.KOrderLaws`.
use Rattle.lists.specs.Kit.{◌∙◌}
use Rattle.image_reader.proofs.{KOrderLaws.{k_order_decided}}
use Rattle.image_reader.proofs.site.is_k_order.Goals as goal

pub returns : goal.returns
returns c =
    k_order_decided _ _ c.requires.room.is_proper c.requires.ascends _ _ _ _ _ c.requires.counted c.run_maxima.ensures c.tally.ensures
    (c.run_maxima.auto.cores ∙ c.requires.room.ranked) c.each_at_most.ensures
