-- `counts::high_of` meets its contract: the list has room for the row, so all neighbours are counted.
use Rattle.lists.specs.Kit.{refl, length, replicate}
use Rattle.mesh.specs.Limits.{max_neighbours}
use Rattle.links.proofs.{CountLaws.{near_asked, high_listed}}
use Rattle.links.proofs.counts.high_of.Goals as goal

pub count_high-requires : goal.count_high-requires
count_high-requires c =
    near_asked (length c.args.numbers.now) c.args.links.now c.args.v _ (replicate max_neighbours 0) _ c.requires.0
    c.requires.1 refl c.row_neighbours-k.ensures.counted c.row_neighbours-k.ensures.listed

pub returns : goal.returns
returns c =
    high_listed (length c.args.numbers.now) c.args.links.now c.args.numbers.now c.args.v _ (replicate max_neighbours 0) _
    c.requires.0 c.requires.1
    refl c.row_neighbours-k.ensures.counted c.row_neighbours-k.ensures.listed _ c.count_high.ensures
