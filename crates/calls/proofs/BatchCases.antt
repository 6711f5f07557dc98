-- Worked batches, computed from the definitions, on four radios without links.
use Rattle.std.specs.Prelude.{◌≡◌, ◌∷◌}
use Rattle.lists.specs.{Kit.{refl, true, false, List, [], ℕ}, Lists.{range, count, member}}
use Rattle.mesh.specs.Graph.{radios, other_ends, linked, neighbours_among, degree, link, link_before, with_link, new_links}
use Rattle.calls.specs.{Questions.{ask, is_radio, are_radios, ends_differ, can_switch, has_room, ends_refusal}, Switches.{switch}, Batches.{list_length}}
use Rattle.calls.specs.{Batches.{batch_switches, batch_stop}}
use Rattle.calls.specs.Questions.{by_number}

-- the third link has the same ends: 5 beside two links, and the fourth is not taken
abbrev stopping : List ℕ
stopping = 0 ∷ 1 ∷ 1 ∷ 2 ∷ 0 ∷ 0 ∷ 0 ∷ 2 ∷ []

pub stops : batch_stop 4 stopping [] ≡ 5
unfolding batch_stop by_number ends_refusal ask is_radio are_radios ends_differ can_switch has_room linked other_ends member degree neighbours_among radios
    range count new_links with_link link link_before
stops = refl

pub stops_after_two : batch_switches 4 stopping [] ≡ switch true 0 1 ∷ switch true 1 2 ∷ []
unfolding batch_switches by_number ends_refusal ask is_radio are_radios ends_differ can_switch has_room linked other_ends member degree neighbours_among radios
    range count new_links with_link link link_before
stops_after_two = refl

-- a link twice: 6 beside one link
pub twice : batch_stop 4 (0 ∷ 1 ∷ 1 ∷ 0 ∷ []) [] ≡ 6
unfolding batch_stop by_number ends_refusal ask is_radio are_radios ends_differ can_switch has_room linked other_ends member degree neighbours_among radios
    range count new_links with_link link link_before
twice = refl

-- a radio that is not there is 4 before it is 5
pub unknown : batch_stop 4 (4 ∷ 4 ∷ []) [] ≡ 4
unfolding batch_stop by_number ends_refusal ask is_radio are_radios ends_differ
unknown = refl

-- three entries are not two a link; none are
pub odd : list_length 3 ≡ false
unfolding list_length
odd = refl

pub empty : (list_length 0 ≡ true) × (batch_stop 4 [] [] ≡ 0)
unfolding list_length batch_stop
empty = (refl, refl)
