-- `listing::lift` meets its contract: the line is of the pair that the call answers.
use Rattle.lists.specs.Kit.{ℕ}
use Rattle.std.proofs.lemmas.Result.{err_from_is_err_and}
use Rattle.calls.specs.{CallContracts.{LiftContract}, LiftOutcome.{lift_outcome}}
use Rattle.site_program.specs.{Texts.{link_line}, Said.{LiftSaid}}
use Rattle.site_program.proofs.{TextLaws.{pair_refused, by_pair}}
use Rattle.site_program.proofs.listing.lift.Goals as goal

pub returns-in_err-ends : goal.returns-in_err-ends
unfolding LiftSaid LiftContract lift_outcome
returns-in_err-ends c =
    let p = err_from_is_err_and c.from_residual.result c.from_residual.ensures.1 in rw (p.1, p.2) (pair_refused _ _ _ _ _ _ c.in_err-ends.ensures)

pub returns : goal.returns
unfolding LiftSaid LiftContract lift_outcome
returns c = by_pair _ _ _ (λ (a b : ℕ). link_line a b) c.in_ok-ends.ends _ _ _ c.in_ok-ends.ensures c.put_link.ensures
