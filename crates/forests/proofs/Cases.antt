-- Every row of the table is right: the definition, computed.
use Rattle.std.specs.Prelude.{◌≡◌}
use Rattle.lists.specs.{Kit.{refl, true}, Lists.{range, count, filter, member, same}}
use Rattle.mesh.specs.{Graph.{radios, linked, other_ends, neighbours_among}, Cores.{survivors, peeled, cores_from, cores, depth, number, numbers}}
use Rattle.mesh.specs.{Connected.{reached, greatest}, Staircase.{weight, filter_links, falling, joined, keep, staircase, link_entries}}
use Rattle.forests.specs.Cases.{right, all_right, alone, unlinked, m3, m4, m5, ring, hanging, cases}

pub staircase_cases : all_right cases ≡ true
unfolding range count filter member same radios linked other_ends neighbours_among survivors peeled cores_from cores depth number numbers reached greatest
    weight filter_links falling joined keep staircase link_entries right all_right alone unlinked m3 m4 m5 ring hanging cases
staircase_cases = refl
