-- The worked case of the walk is right: computed on pairs and order, and so by `all_by_state` over the contracts' own outcomes.
use Rattle.std.specs.Prelude.{◌≡◌}
use Rattle.lists.specs.Kit.{refl, true}
use Rattle.calls.{specs.Worked.{AllRight}, proofs.WorkedState.{all_state_right, compute}, proofs.WorkedLaws.{all_by_state}}
use Rattle.walks.specs.Cases.{cases, taken_back}

computed : all_state_right cases ≡ true
unfolding compute cases taken_back
computed = refl

pub cases_right : AllRight cases
cases_right = all_by_state cases computed
