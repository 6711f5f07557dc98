-- The first radio of a list, as an option: laws for callers.
--   first_none, first_some       of any list: it is empty, or begins with the radio
--   common_none, common_some     of what two sets have
--   row_none, row_some           of what a row marks
use Rattle.std.specs.Prelude.{None, Some, Option, ◌≡◌, ◌⊎◌, ◌&&◌, ◌∷◌, ◌+◌, ◌*◌, ◌<◌}
use Rattle.lists.{specs.Kit.{refl, sym, ap, inl, inr, Bool, true, false, List, [], ℕ, arith, leb, length, leb-true, leb-false}}
use Rattle.lists.{specs.Lists.{range, filter, In, head_or}, proofs.Range.{range_in}, proofs.Filter.{in_filter}, proofs.Tests.{bool_cases}}
use Rattle.mesh.specs.Limits.{max_radios, row_bytes}
use Rattle.rows.specs.{Rows.{first_in, row_listed}, Sets.{in_set, common}}
use Rattle.rows.proofs.{RowWords.{row_listed_whole, row_listed_short}, RowListLaws.{in_neighbours_of}}

value_of : Option ℕ → ℕ
value_of None = 0
value_of (Some v) = v

pub first_none : (xs : List ℕ) → None ≡ first_in xs → xs ≡ []
unfolding first_in
first_none [] e = refl
first_none (x ∷ xs) e = absurd (let n : ◌≡◌ {A = ℕ} 0 1 = cc in omega arith)

pub first_some : (default : ℕ) (xs : List ℕ) {v : ℕ} → Some v ≡ first_in xs → In v xs × (head_or default xs ≡ v)
unfolding first_in head_or value_of
first_some d [] e = absurd (let n : ◌≡◌ {A = ℕ} 0 1 = cc in omega arith)
first_some d (x ∷ xs) {v} e = let q : x ≡ v = sym (ap value_of e) in (inl q, q)

-- ---- what two sets have, and what a row marks: radios

in_radios : (f : ℕ → Bool) (v : ℕ) → In v (filter f (range 0 max_radios)) → v < max_radios
in_radios f v m = omega (arith, (range_in 0 max_radios v (in_filter f (range 0 max_radios) v m).0).1)

pub common_none : (x y : List ℕ) → None ≡ first_in (common x y) → head_or max_radios (common x y) ≡ max_radios
unfolding head_or
common_none x y e = rw (first_none (common x y) e)

pub common_some : (x y : List ℕ) {v : ℕ} → Some v ≡ first_in (common x y) → (v < max_radios) × (head_or max_radios (common x y) ≡ v)
unfolding common
common_some x y {v} e =
    let f = first_some max_radios (common x y) e in (in_radios (λ w. in_set x w && in_set y w) v f.0, f.1)

pub row_none : (ts : List ℕ) (a : ℕ) → None ≡ first_in (row_listed ts a) → head_or max_radios (row_listed ts a) ≡ max_radios
unfolding head_or
row_none ts a e = rw (first_none (row_listed ts a) e)

pub row_some : (ts : List ℕ) (a : ℕ) {v : ℕ} → Some v ≡ first_in (row_listed ts a)
    → (v < max_radios) × (head_or max_radios (row_listed ts a) ≡ v)
row_some ts a {v} e = let f = first_some max_radios (row_listed ts a) e in (go f.0 (bool_cases (leb (row_bytes * a + row_bytes) (length ts))), f.1)
  where
    go : In v (row_listed ts a) → (leb (row_bytes * a + row_bytes) (length ts) ≡ true) ⊎ (leb (row_bytes * a + row_bytes) (length ts) ≡ false) → v < max_radios
    go m (inl q) = (in_neighbours_of ts a v (rw (row_listed_whole ts a (leb-true _ _ q)) at m)).0
    go m (inr q) = absurd (rw (row_listed_short ts a (leb-false _ _ q)) at m)
