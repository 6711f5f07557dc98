-- Every row of the table is right: the definition, computed.
use Rattle.std.specs.Prelude.{◌≡◌}
use Rattle.lists.specs.{Kit.{refl, true, flat_map}, Lists.{range, count, filter, member}}
use Rattle.mesh.specs.{Graph.{radios, linked, other_ends, neighbours_among, degree, link, link_before, same_link, with_link, new_links, relinked}}
use Rattle.mesh.specs.{Cores.{survivors, peeled, cores_from, cores, depth, number}}
use Rattle.calls.specs.{Questions.{ask, is_radio, are_radios, ends_differ, can_switch, has_room, ends_refusal}, Lift.{lifts, lifting_from, lifting}}
use Rattle.lifting.specs.Cases.{same_first, right, all_right, unlinked, path, triangle, alone, tail, tail_end, tail_middle, two_triangles, ring, cases}

pub lift_cases : all_right cases ≡ true
unfolding range count filter member radios linked other_ends neighbours_among degree link link_before same_link with_link new_links relinked survivors peeled
    cores_from cores depth number ask is_radio are_radios ends_differ can_switch has_room ends_refusal lifts lifting_from lifting same_first right all_right
    unlinked path triangle alone tail tail_end tail_middle two_triangles ring cases flat_map
lift_cases = refl
