-- `checks::check_runs` meets its contract: the columns' total is the check.
use Rattle.lists.specs.Kit.{◌∙◌}
use Rattle.image.proofs.{ColumnLaws.{columns_none, columns_fit, columns_check}}
use Rattle.image.proofs.checks.check_runs.Goals as goal

pub add_runs-requires : goal.add_runs-requires
add_runs-requires c = (c.requires, columns_none _)

pub columns_total-requires : goal.columns_total-requires
columns_total-requires c = columns_fit _ _ _ c.add_runs.ensures (λ j. (c.type_inv.block j).fits)

pub returns : goal.returns
returns c = c.columns_total.ensures ∙ columns_check _ _ _ c.add_runs.ensures c.requires
