-- Clearing meets its contract, on plain values: refused, and accepted.
use Rattle.std.specs.Prelude.{◌≡◌}
use Rattle.lists.specs.Kit.{ap, ◌∙◌, true, ℕ, arith, length, replicate}
use Rattle.mesh.specs.Tables.{Tables}
use Rattle.calls.{specs.Questions.{lengths_of, tables_refusal}, specs.CallContracts.{ClearContract}, specs.Outcomes.{clear_outcome}}
use Rattle.calls.{proofs.ContractLaws.{by_accepted, by_refused}, proofs.ChainLaws.{LentGood, lent_zero}}
use Rattle.tables.specs.Widths.{values}
use Rattle.tables.proofs.WidthLaws.{values_index}

-- the tables are as they were
pub clear_refused : (n r : ℕ) (t : Tables) → r ≡ tables_refusal n (lengths_of t) → (r ≡ 0 → ⊥) → ClearContract n t r t
unfolding ClearContract clear_outcome
clear_refused n r t e h = by_refused _ _ _ (λ p. h (e ∙ p)) (rw e)

-- zeros to the length of links and of numbers, and the indexes to that of the order
pub clear_accepted :
    (n : ℕ) (t v : Tables) → tables_refusal n (lengths_of t) ≡ 0 → v.links ≡ replicate (length t.links) 0 →
    v.numbers ≡ replicate (length t.numbers) 0 → v.order ≡ values 16 (λ i. i) (length t.order) → ClearContract n t 0 v
unfolding ClearContract clear_outcome tables_refusal lengths_of
clear_accepted n t v e l k o =
    let good : LentGood n (lengths_of t) true = (lent_zero n (lengths_of t) true 0 e).0 in
    by_accepted _ _ e (rw (
      l ∙ ap (λ i. replicate i 0) good.lengths.links,
      k ∙ ap (λ i. replicate i 0) good.lengths.numbers,
      o ∙ ap (values 16 (λ i. i)) good.lengths.order ∙ values_index 16 n (omega (arith, good.most)),
    ))
