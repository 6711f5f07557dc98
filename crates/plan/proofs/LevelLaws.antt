-- The stretch of a level: which radios stand in it, and in which order their places are.
-- In order: laws of lists, the radios of the stretch, places along what is left of it.
use Rattle.std.specs.Prelude.{◌≡◌, ◌⊎◌, ◌∷◌, ◌+◌, ◌-◌, ◌≤◌, ◌<◌, ◌&&◌}
use Rattle.lists.{specs.Kit.{sym, ap, ◌∙◌, inl, inr, Bool, true, false, List, [], ℕ, suc, arith, length, get_or}}
use Rattle.lists.{specs.Lists.{head_or, In}, specs.Facts.{Distinct, Rising}, proofs.Tests.{bool_cases}, proofs.Member.{in_get_d, get_d_of_in}}
use Rattle.lists.{proofs.Member.{head_or_below}, proofs.Ascending.{head_or_lowest, rising_index}}
use Rattle.mesh.specs.{Limits.{max_radios}}
use Rattle.plan.specs.Peels.{stretch, Level}
use Rattle.plan.proofs.StretchLoops.{length_stretch, get_d_stretch}
use Rattle.lists.proofs.Ascending.{ascending_range, ascending_filter}
use Rattle.lists.proofs.Range.{in_range}
use Rattle.lists.proofs.Tests.{and_left, and_both}
use Rattle.lists.proofs.Filter.{in_filter, filter_in}
use Rattle.lists.specs.Lists.{filter, range}
use Rattle.rows.proofs.SetLaws.{common_filter}
use Rattle.rows.specs.Sets.{in_set, common}

-- ---- the lowest marked place

module _ (fs : List ℕ) (p : ℕ) (first : p ≡ head_or max_radios (common fs fs)) where
  abbrev twice : ℕ → Bool
  twice v = in_set fs v && in_set fs v

  listed : common fs fs ≡ filter twice (range 0 max_radios)
  listed = common_filter fs fs

  pub first_marked_in : p < max_radios → in_set fs p ≡ true
  first_marked_in l =
      let at : In p (common fs fs) = rw first (head_or_below max_radios (common fs fs) (omega arith)) in
      and_left (in_set fs p) (in_set fs p) (in_filter twice (range 0 max_radios) p (rw listed at at)).1

  pub first_marked_least : (q : ℕ) → q < p → q < max_radios → in_set fs q ≡ false
  first_marked_least q l lq = go (bool_cases (in_set fs q))
    where
      go : (in_set fs q ≡ true) ⊎ (in_set fs q ≡ false) → in_set fs q ≡ false
      go (inr e) = e
      go (inl e) =
          let m : In q (common fs fs) = rw listed (filter_in twice (range 0 max_radios) q (in_range 0 max_radios q (omega arith) (omega arith))
          (and_both (in_set fs q) (in_set fs q) e e)) in
          absurd (omega (
            arith,
            head_or_lowest max_radios q (common fs fs)
                (rw listed (ascending_filter twice (range 0 max_radios) (ascending_range 0 max_radios))) m,
          ))

-- ---- the radios of the stretch

module _ {f : ℕ → ℕ → Bool} {ns os ps : List ℕ} {k start size : ℕ} (lv : Level f ns os ps k start size) where
  -- what stands at a place of the stretch
  pub place_level : (p : ℕ) → start ≤ p → p < start + size → In (get_or os p 0) (stretch os start size)
  place_level p low high =
      let i : start + (p - start) ≡ p = omega arith in
      let at : get_or (stretch os start size) (p - start) 0 ≡ get_or os p 0 = get_d_stretch os start size (p - start) (omega arith) ∙ ap (λ (x : ℕ). get_or os x 0)
      i in
      rw (← at) (in_get_d (stretch os start size) (p - start) (omega (arith, length_stretch os start size lv.fits)))

  pub level_stretch : (v : ℕ) → v < length os → get_or ns v 0 ≡ k → In v (stretch os start size)
  level_stretch v l e = let r = lv.stands v l e in rw r.2 at (place_level (get_or ps v 0) r.0 r.1)

  pub record Stands (v : ℕ) : Type 0 where
    pub below : v < length os
    pub level : get_or ns v 0 ≡ k
    pub low : start ≤ get_or ps v 0
    pub high : get_or ps v 0 < start + size
    pub entry : get_or os (get_or ps v 0) 0 ≡ v

  stands_at : (v i : ℕ) → i < size → get_or (stretch os start size) i 0 ≡ v → Stands v
  stands_at v i l e =
      let is : get_or os (start + i) 0 ≡ v = sym (get_d_stretch os start size i l) ∙ e in
      let b : v < length os = rw is at (lv.radios (start + i) (omega (arith, lv.fits))) in
      let at_level : get_or ns v 0 ≡ k = rw is at (lv.numbered (start + i) (omega arith) (omega arith)) in
      let r = lv.stands v b at_level in
      record { below = b; level = at_level; low = r.0; high = r.1; entry = r.2 }

  pub stretch_stands : (v : ℕ) → In v (stretch os start size) → Stands v
  stretch_stands v m =
      let r = get_d_of_in v (stretch os start size) m in stands_at v r.0 (omega (arith, r.1, length_stretch os start size lv.fits)) r.2

  -- radios of the level at one place are one
  pub place_apart : (v w : ℕ) → v < length ns → w < length ns → get_or ns v 0 ≡ k → get_or ns w 0 ≡ k → get_or ps v 0 ≡ get_or ps w 0 → v ≡ w
  place_apart v w l m e d q =
      sym (lv.stands v (omega (arith, lv.numbers_length)) e).2 ∙ ap (λ (x : ℕ). get_or os x 0) q ∙ (lv.stands w (omega (arith, lv.numbers_length)) d).2

  pub place_small : (v : ℕ) → v < length ns → get_or ns v 0 ≡ k → get_or ps v 0 < max_radios
  place_small v l e = omega (arith, (lv.stands v (omega (arith, lv.numbers_length)) e).1, lv.fits, lv.small)

  pub rising_stretch : Rising (λ v. get_or ps v 0) (stretch os start size)
  rising_stretch = rising_index (λ v. get_or ps v 0) start (stretch os start size) (λ j l.
      let h : j < size = omega (arith, length_stretch os start size lv.fits) in
      ap (λ (x : ℕ). get_or ps x 0) (get_d_stretch os start size j h) ∙ lv.placed (start + j) (omega arith) (omega arith))

  pub distinct_stretch : Distinct (stretch os start size)
  distinct_stretch = distinct_index start (stretch os start size) (λ j l.
      let h : j < size = omega (arith, length_stretch os start size lv.fits) in
      ap (λ (x : ℕ). get_or ps x 0) (get_d_stretch os start size j h) ∙ lv.placed (start + j) (omega arith) (omega arith))
    where
      distinct_index : (i : ℕ) (xs : List ℕ) → ((j : ℕ) → j < length xs → get_or ps (get_or xs j 0) 0 ≡ i + j) → Distinct xs
      distinct_index i [] h = tt
      distinct_index i (x ∷ xs) h = (
        λ m. (let r = get_d_of_in x xs m in omega (arith, r.1, h 0 (omega arith), h (suc r.0) (omega (arith, r.1)), ap (λ (y : ℕ). get_or ps y 0) r.2)),
        distinct_index (suc i) xs (λ j l. h (suc j) (omega arith) ∙ omega arith),
      )
