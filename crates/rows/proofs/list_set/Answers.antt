-- `rows::list_set` meets its contract: the row is put into an empty set, whose radios are listed and counted.
use Rattle.lists.specs.Kit.{List, ℕ, ap, length, take, ◌∙◌}
use Rattle.lists.specs.Lists.{overwrite}
use Rattle.rows.proofs.SetLaws.{common_own, members_of_row}
use Rattle.rows.proofs.list_set.Goals as goal

pub returns-clause-counted : goal.returns-clause-counted
returns-clause-counted c =
    c.count_common.ensures
    ∙ ap length (common_own _ ∙ members_of_row c.args.set.now _ _ c.empty-radios.ensures c.join_row.ensures)

pub returns-clause-listed : goal.returns-clause-listed
returns-clause-listed c =
    c.list.ensures.listed
    ∙ ap (λ (xs : List ℕ). overwrite (take (length c.args.list.now) xs) c.args.list.now)
    (members_of_row c.args.set.now _ _ c.empty-radios.ensures c.join_row.ensures)
