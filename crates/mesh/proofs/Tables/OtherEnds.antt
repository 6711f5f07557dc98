-- The other ends of a radio's links are its neighbours, each once: so links can be counted as they are listed.
--   distinct_other_ends   no neighbour comes twice
--   ends_neighbours_in    the other ends that pass are the neighbours that pass
use Rattle.std.specs.Prelude.{◌≡◌, ◌⊎◌, ◌&&◌, ◌∷◌}
use Rattle.lists.{specs.Kit.{ap, ◌∙◌, inl, inr, Bool, true, false, cond, List, [], ℕ, arith, le_antisymm, eqb, eqb-true}}
use Rattle.lists.{specs.Lists.{range, count, In}, specs.Facts.{Distinct}, proofs.Tests.{bool_cases, and_left, and_right, and_both}, proofs.Member.{member_in}}
use Rattle.lists.{proofs.Member.{in_member}, proofs.Range.{in_range, distinct_range}, proofs.Distinct.{count_sub}}
use Rattle.mesh.specs.Graph.{Link, Graph, radios, linked, neighbours_in, other_ends, proper, ascending}
use Rattle.mesh.proofs.{GraphLaws.{linked_by, linked_by_sym, linked_by_proper, Proper, proper_of}, Tables.AscendingLinks.{Sorted, sorted_of}}
use Rattle.mesh.proofs.{Tables.DegreeSum.{fresh}}

pub distinct_other_ends : (n v : ℕ) (ls : List Link) → Proper n ls → Sorted ls → Distinct (other_ends v ls)
unfolding other_ends
distinct_other_ends n v [] p s = tt
distinct_other_ends n v (l ∷ ls) p s =
    go (bool_cases (eqb l.low v)) (bool_cases (eqb l.high v)) (distinct_other_ends n v ls p.2 s.1)
  where
    rest : List ℕ
    rest = other_ends v ls

    go : (eqb l.low v ≡ true) ⊎ (eqb l.low v ≡ false) → (eqb l.high v ≡ true) ⊎ (eqb l.high v ≡ false) → Distinct rest
        → Distinct (cond (eqb l.low v) (l.high ∷ rest) (cond (eqb l.high v) (l.low ∷ rest) rest))
    go (inl a) t d =
        let low : l.low ≡ v = eqb-true l.low v a in
        let new : In l.high rest → ⊥ = λ i. fresh n l ls p s (ap (λ (x : ℕ). linked_by ls x l.high) low ∙ in_member l.high rest i) in
        rw a (new, d)
    go (inr a) (inl b) d =
        let high : l.high ≡ v = eqb-true l.high v b in
        let new : In l.low rest → ⊥ =
        λ i. fresh n l ls p s (linked_by_sym ls l.low l.high ∙ ap (λ (x : ℕ). linked_by ls x l.low) high ∙ in_member l.low rest i) in
        rw (a, b) (new, d)
    go (inr a) (inr b) d = rw (a, b) d

count_other_ends : (n : ℕ) (ls : List Link) (v : ℕ) (f : ℕ → Bool) → Proper n ls → Sorted ls
    → count f (other_ends v ls) ≡ count (λ w. linked_by ls v w && f w) (range 0 n)
count_other_ends n ls v f p s =
    let both : ℕ → Bool = λ w. linked_by ls v w && f w in
    le_antisymm
    (count_sub f both (other_ends v ls) (range 0 n) (distinct_other_ends n v ls p s)
    (λ x m e. let t = in_member x (other_ends v ls) m in
    (in_range 0 n x (omega arith) (omega (arith, (linked_by_proper n ls p v x t).1)), and_both (linked_by ls v x) (f x) t e)))
    (count_sub both f (range 0 n) (other_ends v ls) (distinct_range 0 n)
    (λ x m e. (member_in x (other_ends v ls) (and_left (linked_by ls v x) (f x) e), and_right (linked_by ls v x) (f x) e)))

pub ends_neighbours_in : (g : Graph) → proper g.n g.links ≡ true → ascending g.links ≡ true → (v : ℕ) (s : ℕ → Bool)
    → count s (other_ends v g.links) ≡ neighbours_in g v s
unfolding neighbours_in radios linked
ends_neighbours_in g p a v s = count_other_ends g.n g.links v s (proper_of g.n g.links p) (sorted_of g.links a)
