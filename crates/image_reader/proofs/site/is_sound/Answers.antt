-- `site::is_sound` meets its contract: places, degrees and the k-order, the first of which that gets no refuses.
use Rattle.lists.specs.Kit.{◌∙◌}
use Rattle.image_reader.proofs.{KOrderLaws.{few_tallied, not_placed, order_counted}, SoundLaws.{not_few, sound_decided}}
use Rattle.image_reader.proofs.site.is_sound.Goals as goal

pub returns-then-not-places_of : goal.returns-then-not-places_of
returns-then-not-places_of c =
    not_placed _ _ c.requires.room.is_proper c.requires.ascends _ _ _ _ _ c.requires.room.most c.requires.long c.requires.room.ranked c.places_of.ensures
    (c.if-not-places_of.true)

pub is_k_order-requires-clause-counted : goal.is_k_order-requires-clause-counted
is_k_order-requires-clause-counted c =
    order_counted _ _ c.requires.room.is_proper c.requires.ascends _ _ _ _ _ c.requires.room.most c.requires.long c.requires.room.ranked c.places_of.ensures
    (c.if-not-places_of.false) c.count_links.ensures.1

pub returns-then-not-are_few : goal.returns-then-not-are_few
returns-then-not-are_few c =
    not_few _ _ _ _ _
    (c.are_few.ensures
    ∙ few_tallied _ _ _ (c.count_links.auto.counts ∙ c.requires.room.counted) c.count_links.ensures.0)
    c.if-not-are_few.true

pub returns : goal.returns
returns c =
    sound_decided _ _ _ _ _
    (c.are_few.ensures
    ∙ few_tallied _ _ _ (c.count_links.auto.counts ∙ c.requires.room.counted) c.count_links.ensures.0)
    _ c.if-not-are_few.false c.is_k_order.ensures
