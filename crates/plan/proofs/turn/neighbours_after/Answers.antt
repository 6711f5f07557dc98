-- `turn::neighbours_after` meets its contract: the rows of both ends are read with one bit put, the other rows as they are.
use Rattle.plan.proofs.{NearLaws.{end_ready, lists_end, lists_other}}
use Rattle.plan.proofs.turn.neighbours_after.Goals as goal

pub end_neighbours-requires : goal.end_neighbours-requires
end_neighbours-requires c = end_ready _ _ _ _ _ _ c.other_end-w.ensures _ c.if-w-v.true c.requires

pub returns-then-w-v : goal.returns-then-w-v
returns-then-w-v c =
    lists_end _ _ _ _ _ _ c.other_end-w.ensures _ _ c.if-w-v.true
    c.requires c.end_neighbours.ensures

pub returns : goal.returns
returns c =
    lists_other _ _ _ _ _ _ c.other_end-w.ensures _ c.args.near.now _
    c.if-w-v.false c.requires c.row_neighbours.ensures.counted
    c.row_neighbours.ensures.listed
