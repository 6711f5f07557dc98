-- An order along which numbers never fall is cut into the radios below a level, at it and above it; the level's entries are
-- one stretch, and `stretch_start` and `stretch_length` say where it stands.
use Rattle.std.specs.Prelude.{◌≡◌, ◌⊎◌, ◌∷◌, ◌++◌, ◌+◌, ◌≤◌, ◌<◌}
use Rattle.lists.{specs.Kit.{refl, sym, ap, ◌∙◌, inl, inr, List, [], append_assoc, ℕ, arith, ltb, eqb, length}}
use Rattle.lists.{specs.Kit.{length-append, take, drop, take_at, drop_at, lt-ltb, le-ltb, eq-eqb, ne_eqb}, specs.Lists.{filter}, specs.Facts.{EachOnce}}
use Rattle.lists.{specs.Facts.{Rising}, proofs.Tests.{trichotomy}, proofs.Filter.{filter_none, length_filter}}
use Rattle.mesh.specs.{Graph.{Graph, radios}, Cores.{number}, Levels.{stretch_start, stretch_length}}

abbrev pub lows : (num : ℕ → ℕ) → (k : ℕ) → List ℕ → List ℕ
lows num k xs = filter (λ v. ltb (num v) k) xs

abbrev pub mids : (num : ℕ → ℕ) → (k : ℕ) → List ℕ → List ℕ
mids num k xs = filter (λ v. eqb (num v) k) xs

abbrev pub highs : (num : ℕ → ℕ) → (k : ℕ) → List ℕ → List ℕ
highs num k xs = filter (λ v. ltb k (num v)) xs

pub level_cut : (num : ℕ → ℕ) (k : ℕ) (xs : List ℕ) → Rising num xs → xs ≡ lows num k xs ++ (mids num k xs ++ highs num k xs)
unfolding filter
level_cut num k [] r = refl
level_cut num k (x ∷ xs) r = go (level_cut num k xs r.1) (trichotomy (num x) k)
  where
    no_lows : k ≤ num x → lows num k xs ≡ []
    no_lows h = filter_none (λ v. ltb (num v) k) xs (λ v m. le-ltb (num v) k (omega (arith, r.0 v m)))

    no_mids : k < num x → mids num k xs ≡ []
    no_mids h = filter_none (λ v. eqb (num v) k) xs (λ v m. ne_eqb (num v) k (λ e. omega (arith, r.0 v m)))

    go : xs ≡ lows num k xs ++ (mids num k xs ++ highs num k xs) → (num x < k) ⊎ ((num x ≡ k) ⊎ (k < num x))
        → x ∷ xs ≡ lows num k (x ∷ xs) ++ (mids num k (x ∷ xs) ++ highs num k (x ∷ xs))
    go rec (inl h) =
        rw (lt-ltb (num x) k h, ne_eqb (num x) k (λ e. omega arith), le-ltb k (num x) (omega arith)) (ap {B = List ℕ} (λ z. x ∷ z) rec)
    go rec (inr (inl h)) =
        let none = no_lows (omega arith) in
        rw (le-ltb (num x) k (omega arith), eq-eqb (num x) k h, le-ltb k (num x) (omega arith), none) (ap {B = List ℕ} (λ z. x ∷ z) (rw none at rec))
    go rec (inr (inr h)) =
        let none = no_lows (omega arith) in
        let also = no_mids h in
        rw (le-ltb (num x) k (omega arith), ne_eqb (num x) k (λ e. omega arith), lt-ltb k (num x) h, none, also)
        (ap {B = List ℕ} (λ z. x ∷ z) (rw (none, also) at rec))

-- ---- where the stretch stands

module _ (g : Graph) (k : ℕ) (xs : List ℕ) (once : EachOnce g.n xs) where
  pub stretch_start_is : stretch_start g k ≡ length (lows (number g) k xs)
  unfolding stretch_start radios
  stretch_start_is = sym (once (λ v. ltb (number g v) k)) ∙ sym (length_filter (λ v. ltb (number g v) k) xs)

  pub stretch_length_is : stretch_length g k ≡ length (mids (number g) k xs)
  unfolding stretch_length radios
  stretch_length_is = sym (once (λ v. eqb (number g v) k)) ∙ sym (length_filter (λ v. eqb (number g v) k) xs)

-- ---- a list of three parts, cut by their lengths

module _ (below level above xs : List ℕ) (i m : ℕ) (cut : xs ≡ below ++ (level ++ above)) (ei : i ≡ length below) (em : m ≡ length level) where
  pub take_below : take i xs ≡ below
  take_below = ap (take i) cut ∙ take_at below (level ++ above) i (sym ei)

  pub take_level : take m (drop i xs) ≡ level
  take_level =
      ap (λ (z : List ℕ). take m (drop i z)) cut ∙ ap (take m) (drop_at below (level ++ above) i (sym ei)) ∙ take_at level above m (sym em)

  pub drop_above : drop (i + m) xs ≡ above
  drop_above =
      ap (drop (i + m)) (cut ∙ sym (append_assoc below level above))
      ∙ drop_at (below ++ level) above (i + m) (omega (arith, length-append below level))
