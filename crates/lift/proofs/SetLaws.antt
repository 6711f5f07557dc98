-- Sets of radios, as the code changes and asks them.
--   in_put, in_taken       a radio put in, or taken out
--   has_none, has_in, has_out    the radios below n that pass a test, put in one by one (`Has`)
--   lowest_some, lowest_none     the lowest radio of a set
use Rattle.std.specs.Prelude.{None, Some, ◌≡◌, ◌⊎◌, ◌&&◌, ◌||◌, ◌+◌, ◌<◌}
use Rattle.lists.{specs.Kit.{refl, sym, ap, ◌∙◌, inl, inr, Bool, true, false, cond, List, ℕ, arith, ltb, eqb, length, replicate}}
use Rattle.lists.{specs.Kit.{subst, eqb-true, eqb-false, eq-eqb, ltb-true, lt-ltb, le-ltb}, specs.Lists.{range, member}}
use Rattle.lists.{proofs.Tests.{bool_cases, iff_eq, and_left}, proofs.Member.{member_in}, proofs.Filter.{in_filter, member_filter}}
use Rattle.lists.{proofs.Range.{in_range}, proofs.Ascending.{head_or_lowest, ascending_filter, ascending_range}}
use Rattle.mesh.specs.Limits.{max_radios}
use Rattle.rows.{specs.Rows.{first_in}, specs.Sets.{in_set, put_in, take_out, common}}
use Rattle.rows.{proofs.SetLaws.{in_set_zeros, in_put_in, in_take_out, length_put_in, length_take_out, common_filter}}
use Rattle.rows.{proofs.FirstLaws.{first_none, first_some, common_some}}
use Rattle.lift.specs.Peels.{Has}
use Rattle.lists.specs.Lists.{head_or, Ascending}

-- ---- one radio

module _ (v : ℕ) (old new : List ℕ) (l : v < max_radios) (long : length new ≡ 8) where
  pub in_put : new ≡ put_in v old → (w : ℕ) → in_set new w ≡ cond (eqb v w) true (in_set old w)
  in_put e w = ap (λ (xs : List ℕ). in_set xs w) e ∙ in_put_in v w old (omega (arith, l, long, ap length e, length_put_in v old))

  pub in_taken : new ≡ take_out v old → (w : ℕ) → in_set new w ≡ cond (eqb v w) false (in_set old w)
  in_taken e w = ap (λ (xs : List ℕ). in_set xs w) e ∙ in_take_out v w old (omega (arith, l, long, ap length e, length_take_out v old))

  -- put in where a test says so
  pub put_yes : (t : Bool) → t ≡ true → new ≡ put_in v old → (w : ℕ) → in_set new w ≡ (in_set old w || (eqb v w && t))
  put_yes t on e w = in_put e w ∙ rw on (flip (eqb v w) (in_set old w))
    where
      flip : (b m : Bool) → cond b true m ≡ (m || (b && true))
      flip true true = refl
      flip true false = refl
      flip false true = refl
      flip false false = refl

pub put_no : (v : ℕ) (old : List ℕ) (t : Bool) → t ≡ false → (w : ℕ) → in_set old w ≡ (in_set old w || (eqb v w && t))
put_no v old t off w = rw off (flip (eqb v w) (in_set old w))
  where
    flip : (b m : Bool) → m ≡ (m || (b && false))
    flip true true = refl
    flip true false = refl
    flip false true = refl
    flip false false = refl

-- ---- the radios that pass a test

pub has_none : (f : ℕ → Bool) → Has 0 f (replicate 8 0)
has_none f = λ w lw. in_set_zeros 8 w ∙ rw (le-ltb w 0 (omega arith)) refl

module _ (f : ℕ → Bool) (v : ℕ) (old : List ℕ) (h : Has v f old) where
  further : (w : ℕ) → (v ≡ w → ⊥) → ltb w v ≡ ltb w (v + 1)
  further w ne =
      iff_eq (ltb w v) (ltb w (v + 1)) (λ q. lt-ltb w (v + 1) (omega (arith, ltb-true w v q)))
      (λ q. let less = ltb-true w (v + 1) q in lt-ltb w v (omega arith))

  pub has_in : (new : List ℕ) → v < max_radios → length new ≡ 8 → new ≡ put_in v old → f v ≡ true → Has (v + 1) f new
  has_in new l long e on = λ w lw. in_put v old new l long e w ∙ at w lw (bool_cases (eqb v w))
    where
      at : (w : ℕ) → w < max_radios → (eqb v w ≡ true) ⊎ (eqb v w ≡ false) → cond (eqb v w) true (in_set old w) ≡ (ltb w (v + 1) && f w)
      at w lw (inl q) =
          subst (λ (x : ℕ). cond (eqb v x) true (in_set old x) ≡ (ltb x (v + 1) && f x)) (eqb-true v w q)
          (rw (eq-eqb v v refl, lt-ltb v (v + 1) (omega arith), on) refl)
      at w lw (inr q) = rw (q, ← further w (eqb-false v w q)) (h w lw)

  pub has_out : f v ≡ false → Has (v + 1) f old
  has_out off = λ w lw. h w lw ∙ at w (bool_cases (eqb v w))
    where
      at : (w : ℕ) → (eqb v w ≡ true) ⊎ (eqb v w ≡ false) → (ltb w v && f w) ≡ (ltb w (v + 1) && f w)
      at w (inl q) =
          subst (λ (x : ℕ). (ltb x v && f x) ≡ (ltb x (v + 1) && f x)) (eqb-true v w q)
          (rw (off, le-ltb v v (omega arith), lt-ltb v (v + 1) (omega arith)) refl)
      at w (inr q) = rw (← further w (eqb-false v w q)) refl

pub has_all : (f : ℕ → Bool) (n v : ℕ) (set : List ℕ) → v ≡ n → Has v f set → Has n f set
has_all f n v set e h = subst (λ (x : ℕ). Has x f set) e h

-- ---- the lowest radio

own_common : (x : List ℕ) (w : ℕ) → w < max_radios → member w (common x x) ≡ in_set x w
own_common x w l =
    ap (member w) (common_filter x x)
    ∙ member_filter (λ v. in_set x v && in_set x v) (range 0 max_radios) w (in_range 0 max_radios w (omega arith) (omega arith)) ∙ same (in_set x w)
  where
    same : (b : Bool) → (b && b) ≡ b
    same true = refl
    same false = refl

pub lowest_none : (x : List ℕ) → None ≡ first_in (common x x) → (w : ℕ) → w < max_radios → in_set x w ≡ false
unfolding member
lowest_none x e w l = sym (own_common x w l) ∙ ap (member w) (first_none (common x x) e)

pub lowest_some : (x : List ℕ) {v : ℕ} → Some v ≡ first_in (common x x)
    → (v < max_radios) × (in_set x v ≡ true) × ((w : ℕ) → w < v → in_set x w ≡ false)
lowest_some x {v} e =
    let low = common_some x x e in
    let both = first_some max_radios (common x x) e in (
      low.0,
      and_left (in_set x v) (in_set x v) (in_filter (λ w. in_set x w && in_set x w) (range 0 max_radios) v (rw (common_filter x x) at both.0)).1,
      λ w l. not_in low.0 low.1 w l (bool_cases (in_set x w)),
    )
  where
    not_in : v < max_radios → head_or max_radios (common x x) ≡ v → (w : ℕ) → w < v → (in_set x w ≡ true) ⊎ (in_set x w ≡ false) → in_set x w ≡ false
    not_in lv first w l (inr q) = q
    not_in lv first w l (inl q) =
        let there = member_in w (common x x) (own_common x w (omega arith) ∙ q) in
        absurd (omega (arith, first, head_or_lowest max_radios w (common x x) ascending there))
      where
        ascending : Ascending (common x x)
        ascending = rw (common_filter x x) (ascending_filter _ (range 0 max_radios) (ascending_range 0 max_radios))
