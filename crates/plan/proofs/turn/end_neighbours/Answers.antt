-- `turn::end_neighbours` meets its contract: the copied row is listed.
use Rattle.lists.specs.Kit.{rules}
use Rattle.plan.proofs.NearLaws.{lists_copy}
use Rattle.plan.proofs.turn.end_neighbours.Goals as goal

pub returns : goal.returns
returns c =
    lists_copy c.end_row-row.result _ c.args.near.now _ (search rules) c.end_row-row.ensures c.requires.2 c.row_neighbours.ensures.counted
    c.row_neighbours.ensures.listed
