-- `listing::staircase` meets its contract: the text is of what the call lists.
use Rattle.std.specs.Prelude.{◌*◌}
use Rattle.lists.specs.Kit.{List, ℕ}
use Rattle.std.proofs.lemmas.Result.{err_from_is_err_and}
use Rattle.mesh.specs.Sound.{sound}
use Rattle.calls.specs.{CallContracts.{StaircaseContract}, Outcomes.{staircase_outcome}}
use Rattle.forests.proofs.Tree.{length_link_entries}
use Rattle.site_program.specs.{Texts.{pair_lines}, Said.{StaircaseSaid}}
use Rattle.site_program.proofs.{TextLaws.{listed_refused, by_listed}}
use Rattle.site_program.proofs.listing.staircase.Goals as goal

pub returns-in_err-count : goal.returns-in_err-count
unfolding StaircaseSaid StaircaseContract staircase_outcome sound
returns-in_err-count c =
    let p = err_from_is_err_and c.from_residual.result c.from_residual.ensures.1 in rw (p.1, p.2) (listed_refused _ _ _ _ _ _ _ _ c.in_err-count.ensures)

pub returns : goal.returns
unfolding StaircaseSaid StaircaseContract staircase_outcome sound
returns c = by_listed _ _ _ _ _ (λ (xs : List ℕ). pair_lines xs) (λ (k : ℕ). 2 * k) _ _ _ _ (length_link_entries _) c.in_ok-count.ensures c.put_kept.ensures
