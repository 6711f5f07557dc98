-- Where a name stands or is to stand among places in rising order: laws of `rank`.
--   ranked             the name is there exactly if the place at its rank has it
--   found_at           then that place is the mark
--   with_at, with_new  a mark set is put at its rank, in place of the one of its name or before the ones that follow
--   without_at         a mark removed leaves the places before and after it
use Rattle.std.specs.Prelude.{◌≡◌, ◌⊎◌, ◌∷◌, ◌++◌, ◌≤◌}
use Rattle.lists.specs.Kit.{refl, ap, ◌∙◌, inl, inr, Bool, true, false, cond, List, [], ℕ, suc, arith, length, get_or, take, drop}
use Rattle.lists.specs.Kit.{⊎_elim}
use Rattle.lists.{specs.Lists.{same}, proofs.Tests.{bool_cases, never}, proofs.All.{same_refl, same_eq}}
use Rattle.mesh.specs.{Marks.{before, name_in, has_mark, found, with_mark, without_mark}, MarkPlaces.{rank, heads}}
use Rattle.mesh.proofs.Marks.{NameOrder.{before_trans, before_self, before_total}, Lists.{RisingMarks, absent}}

-- ---- two names

pub differ_before : (x y : List ℕ) → before x y ≡ true → same x y ≡ false
differ_before x y p = ⊎_elim (λ e. absurd (before_self y (rw (same_eq x y e) at p))) (λ e. e) (bool_cases (same x y))

one_way : (x y : List ℕ) → before x y ≡ true → before y x ≡ false
one_way x y p = ⊎_elim (λ e. absurd (before_self x (before_trans x y x p e))) (λ e. e) (bool_cases (before y x))

not_itself : (x y : List ℕ) → same x y ≡ true → before y x ≡ false
not_itself x y p = ⊎_elim (λ e. absurd (before_self y (rw (same_eq x y p) at e))) (λ e. e) (bool_cases (before y x))

after_both : (x y : List ℕ) → before x y ≡ false → same x y ≡ false → before y x ≡ true
after_both x y p q = before_total x y p (go (bool_cases (same y x)))
  where
    go : (same y x ≡ true) ⊎ (same y x ≡ false) → same y x ≡ false
    go (inl e) = never (same x y) (ap (λ (z : List ℕ). same x z) (same_eq y x e) ∙ same_refl x) q
    go (inr e) = e

-- ---- the first of the places

-- where its name stands before x, equals it, or stands after it
data Compared (x y : List ℕ) : Type 0 where
  lower : before y x ≡ true → same y x ≡ false → before x y ≡ false → Compared x y
  equal : before y x ≡ false → same y x ≡ true → before x y ≡ false → Compared x y
  higher : before y x ≡ false → same y x ≡ false → before x y ≡ true → Compared x y

compared : (x y : List ℕ) → Compared x y
compared x y = go (bool_cases (before y x)) (bool_cases (same y x))
  where
    go : (before y x ≡ true) ⊎ (before y x ≡ false) → (same y x ≡ true) ⊎ (same y x ≡ false) → Compared x y
    go (inl p) q = lower p (differ_before y x p) (one_way y x p)
    go (inr p) (inl q) = equal p q (not_itself y x q)
    go (inr p) (inr q) = higher p q (after_both y x p q)

-- ---- places in rising order

module _ (n : ℕ) (x : List ℕ) where
  -- a name that stands before the first is not there
  none_after : (q : List ℕ) (qs : List (List ℕ)) → RisingMarks n (name_in q) qs → before x (name_in q) ≡ true → has_mark x qs ≡ false
  none_after q qs r p = absent n x (name_in q) qs r (λ y k. before_trans x (name_in q) y p k)

  pub rank_most : (ps : List (List ℕ)) → rank x ps ≤ length ps
  unfolding rank
  rank_most [] = omega arith
  rank_most (q ∷ qs) = go (before (name_in q) x) (rank_most qs)
    where
      go : (t : Bool) → rank x qs ≤ length qs → cond t (suc (rank x qs)) 0 ≤ suc (length qs)
      go true h = omega arith
      go false h = omega arith

  pub ranked : (last : List ℕ) (ps : List (List ℕ)) → RisingMarks n last ps → has_mark x ps ≡ heads x (drop (rank x ps) ps)
  unfolding rank has_mark heads
  ranked last [] r = refl
  ranked last (q ∷ qs) r = go (compared x (name_in q)) (ranked (name_in q) qs r.3)
    where
      go : Compared x (name_in q) → has_mark x qs ≡ heads x (drop (rank x qs) qs) → has_mark x (q ∷ qs) ≡ heads x (drop (rank x (q ∷ qs)) (q ∷ qs))
      go (lower a b d) k = rw (a, b) k
      go (equal a b d) k = rw (a, b)
      go (higher a b d) k = rw (a, b) (none_after q qs r.3 d)

  pub found_at : (last : List ℕ) (ps : List (List ℕ)) → RisingMarks n last ps → has_mark x ps ≡ true → found x ps ≡ get_or ps (rank x ps) []
  unfolding rank has_mark found
  found_at last [] r h = never false h refl
  found_at last (q ∷ qs) r h = go (compared x (name_in q)) h (found_at (name_in q) qs r.3)
    where
      go : Compared x (name_in q) → has_mark x (q ∷ qs) ≡ true → (has_mark x qs ≡ true → found x qs ≡ get_or qs (rank x qs) []) →
          found x (q ∷ qs) ≡ get_or (q ∷ qs) (rank x (q ∷ qs)) []
      go (lower a b d) e k = rw (a, b) (k (rw b at e))
      go (equal a b d) e k = rw (a, b)
      go (higher a b d) e k = never (has_mark x (q ∷ qs)) e (rw b (none_after q qs r.3 d))

  pub without_at : (last : List ℕ) (ps : List (List ℕ)) → RisingMarks n last ps → has_mark x ps ≡ true → without_mark x ps ≡ take (rank x ps) ps ++ drop
      (suc (rank x ps)) ps
  unfolding rank has_mark without_mark
  without_at last [] r h = never false h refl
  without_at last (q ∷ qs) r h = go (compared x (name_in q)) h (without_at (name_in q) qs r.3)
    where
      go : Compared x (name_in q) → has_mark x (q ∷ qs) ≡ true → (has_mark x qs ≡ true → without_mark x qs ≡ take (rank x qs) qs ++ drop (suc (rank x qs)) qs) →
          without_mark x (q ∷ qs) ≡ take (rank x (q ∷ qs)) (q ∷ qs) ++ drop (suc (rank x (q ∷ qs))) (q ∷ qs)
      go (lower a b d) e k = rw (a, b) (ap {B = List (List ℕ)} (λ zs. q ∷ zs) (k (rw b at e)))
      go (equal a b d) e k = rw (a, b)
      go (higher a b d) e k = never (has_mark x (q ∷ qs)) e (rw b (none_after q qs r.3 d))

-- the place p is set
module _ (n : ℕ) (p : List ℕ) where
  abbrev x : List ℕ
  x = name_in p

  pub with_at : (last : List ℕ) (ps : List (List ℕ)) → RisingMarks n last ps → has_mark x ps ≡ true → with_mark p ps ≡ take (rank x ps) ps ++
      (p ∷ drop (suc (rank x ps)) ps)
  unfolding rank has_mark with_mark
  with_at last [] r h = never false h refl
  with_at last (q ∷ qs) r h = go (compared x (name_in q)) h (with_at (name_in q) qs r.3)
    where
      go : Compared x (name_in q) → has_mark x (q ∷ qs) ≡ true →
          (has_mark x qs ≡ true → with_mark p qs ≡ take (rank x qs) qs ++ (p ∷ drop (suc (rank x qs)) qs)) →
          with_mark p (q ∷ qs) ≡ take (rank x (q ∷ qs)) (q ∷ qs) ++ (p ∷ drop (suc (rank x (q ∷ qs))) (q ∷ qs))
      go (lower a b d) e k = rw (a, b, d) (ap {B = List (List ℕ)} (λ zs. q ∷ zs) (k (rw b at e)))
      go (equal a b d) e k = rw (a, b, d)
      go (higher a b d) e k = never (has_mark x (q ∷ qs)) e (rw b (none_after n x q qs r.3 d))

  pub with_new : (last : List ℕ) (ps : List (List ℕ)) → RisingMarks n last ps → has_mark x ps ≡ false → with_mark p ps ≡ take (rank x ps) ps ++
      (p ∷ drop (rank x ps) ps)
  unfolding rank has_mark with_mark
  with_new last [] r h = refl
  with_new last (q ∷ qs) r h = go (compared x (name_in q)) h (with_new (name_in q) qs r.3)
    where
      go : Compared x (name_in q) → has_mark x (q ∷ qs) ≡ false → (has_mark x qs ≡ false → with_mark p qs ≡ take (rank x qs) qs ++ (p ∷ drop (rank x qs) qs)) →
          with_mark p (q ∷ qs) ≡ take (rank x (q ∷ qs)) (q ∷ qs) ++ (p ∷ drop (rank x (q ∷ qs)) (q ∷ qs))
      go (lower a b d) e k = rw (a, b, d) (ap {B = List (List ℕ)} (λ zs. q ∷ zs) (k (rw b at e)))
      go (equal a b d) e k = never true refl (rw b at e)
      go (higher a b d) e k = rw (a, b, d)
