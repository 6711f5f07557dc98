-- `search::later` meets its contract: the row's neighbours are listed, and the later ones counted.
use Rattle.lists.specs.Kit.{arith, refl, replicate, rules, length-take-le}
use Rattle.mesh.specs.Limits.{max_neighbours}
use Rattle.lift.proofs.{PeelSteps.{links_site, row_taken}, OrderLaws.{near_placed, near_later}}
use Rattle.lift.proofs.search.later.Goals as goal

pub bounds-places-v : goal.bounds-places-v
bounds-places-v c = omega (arith, c.requires.1, (links_site _ c.requires.0).small)

pub count_later-requires : goal.count_later-requires
count_later-requires c =
    let near = row_taken c.args.links.now c.requires.0 c.args.v _ (replicate max_neighbours 0) _ c.requires.1 refl c.row_neighbours-k.ensures.counted c.row_neighbours-k.ensures.listed (search rules) in
    (omega (arith, c.row_neighbours-k.ensures.counted, length-take-le c.row_neighbours-k.result c.row_neighbours-k.new.list near.0), near_placed c.args.links.now c.requires.0 c.args.v c.requires.1 c.args.places.now _ near.1)

pub returns : goal.returns
returns c =
    let near = row_taken c.args.links.now c.requires.0 c.args.v _ (replicate max_neighbours 0) _ c.requires.1 refl c.row_neighbours-k.ensures.counted c.row_neighbours-k.ensures.listed (search rules) in
    near_later c.args.links.now c.requires.0 c.args.v c.requires.1 c.args.places.now _ _ near.1 c.count_later.ensures
