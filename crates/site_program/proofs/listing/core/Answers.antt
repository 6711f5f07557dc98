-- `listing::core` meets its contract: the text is of what the call lists.
use Rattle.lists.specs.Kit.{refl, List, ℕ}
use Rattle.text.specs.Text.{bytes_of}
use Rattle.std.proofs.lemmas.Result.{err_from_is_err_and}
use Rattle.mesh.specs.Sound.{sound}
use Rattle.calls.specs.{CallContracts.{CoreContract}, Outcomes.{core_outcome}}
use Rattle.site_program.specs.{Texts.{radios_line}, Said.{CoreSaid}}
use Rattle.site_program.proofs.{TextLaws.{listed_refused, by_listed}}
use Rattle.site_program.proofs.listing.core.Goals as goal

pub returns-in_err-count : goal.returns-in_err-count
unfolding CoreSaid CoreContract core_outcome sound
returns-in_err-count c =
    let p = err_from_is_err_and c.from_residual.result c.from_residual.ensures.1 in rw (p.1, p.2) (listed_refused _ _ _ _ _ _ _ _ c.in_err-count.ensures)

pub returns : goal.returns
unfolding CoreSaid CoreContract core_outcome sound
returns c = by_listed _ _ _ _ _ (λ (xs : List ℕ). radios_line (bytes_of "core") xs) (λ (k : ℕ). k) _ _ _ _ refl c.in_ok-count.ensures c.put_list.ensures
