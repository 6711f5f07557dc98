-- Parts as parents.
--   root-..          steps to parents: how far they lead, where they end
--   label-..         the root of a radio, which is its label
--   roots_shorter    a parent moved up to the parent's parent leaves every root
--   roots_joined     the root of one part set under that of another gives all of them its label
use Rattle.std.specs.Prelude.{◌≡◌, ◌⊎◌, ◌≤◌, ◌<◌}
use Rattle.lists.{specs.Kit.{refl, sym, ap, ◌∙◌, inl, inr, true, false, List, map, map-map, ℕ, zero, suc, arith, eqb, ltb, length, get_or}}
use Rattle.lists.{specs.Kit.{set, length-set, List·getD-eq-default, get_or-set_same, get_or-set_other, ltb-true, ltb-false, eqb-true, eqb-false, eq-eqb, ne_eqb}}
use Rattle.lists.{specs.Lists.{range}, proofs.Tests.{bool_cases}, proofs.Map.{get_d_map_range, map_range_ext, map_range_id}, proofs.Range.{length_range}}
use Rattle.lists.{proofs.Range.{get_d_range}}
use Rattle.forests.specs.Growing.{relabelled}
use Rattle.staircase.specs.Parts.{Parents, root, roots, Rooted}

-- ---- labels replaced

relabelled_hit : (lo hi x : ℕ) → x ≡ hi → relabelled lo hi x ≡ lo
unfolding relabelled
relabelled_hit lo hi x e = rw (eq-eqb x hi e)

relabelled_miss : (lo hi x : ℕ) → (x ≡ hi → ⊥) → relabelled lo hi x ≡ x
unfolding relabelled
relabelled_miss lo hi x e = rw (ne_eqb x hi e)

-- ---- steps to parents

module _ (ps : List ℕ) (up : Parents ps) where
  abbrev parent : ℕ → ℕ
  parent v = get_or ps v 0

  root_le : (k v : ℕ) → root k ps v ≤ v
  unfolding root
  root_le zero v = omega arith
  root_le (suc k) v = omega (arith, root_le k (parent v), up v)

  root_own : (k v : ℕ) → parent v ≡ v → root k ps v ≡ v
  unfolding root
  root_own zero v e = refl
  root_own (suc k) v e = ap (root k ps) e ∙ root_own k v e

  root_last : (k v : ℕ) → root (suc k) ps v ≡ parent (root k ps v)
  unfolding root
  root_last zero v = refl
  root_last (suc k) v = root_last k (parent v)

  root_settled : (k v : ℕ) → v ≤ k → parent (root k ps v) ≡ root k ps v
  unfolding root
  root_settled zero v l = omega (arith, up v)
  root_settled (suc k) v l = go (bool_cases (eqb (parent v) v)) (root_settled k (parent v))
    where
      go : (eqb (parent v) v ≡ true) ⊎ (eqb (parent v) v ≡ false) → (parent v ≤ k → parent (root k ps (parent v)) ≡ root k ps (parent v))
          → parent (root k ps (parent v)) ≡ root k ps (parent v)
      go (inl q) rec =
          let e = eqb-true (parent v) v q in
          let r : root k ps (parent v) ≡ v = ap (root k ps) e ∙ root_own k v e in rw r e
      go (inr q) rec = let d = eqb-false (parent v) v q in rec (omega (arith, up v, d))

  root_step : (k v : ℕ) → v ≤ k → root k ps (parent v) ≡ root k ps v
  unfolding root
  root_step k v l = root_last k v ∙ root_settled k v l

  -- what is kept from radio to parent, and is itself where both are one, is the root
  root_unique : (f : ℕ → ℕ) (n : ℕ) → ((v : ℕ) → v < n → parent v ≡ v → f v ≡ v) → ((v : ℕ) → v < n → f (parent v) ≡ f v)
      → (k v : ℕ) → v < n → v ≤ k → root k ps v ≡ f v
  unfolding root
  root_unique f n own step zero v r l = sym (own v r (omega (arith, up v)))
  root_unique f n own step (suc k) v r l = go (bool_cases (eqb (parent v) v)) (root_unique f n own step k (parent v))
    where
      go : (eqb (parent v) v ≡ true) ⊎ (eqb (parent v) v ≡ false) → (parent v < n → parent v ≤ k → root k ps (parent v) ≡ f (parent v))
          → root k ps (parent v) ≡ f v
      go (inl q) rec = let e = eqb-true (parent v) v q in ap (root k ps) e ∙ root_own k v e ∙ sym (own v r e)
      go (inr q) rec = let d = eqb-false (parent v) v q in rec (omega (arith, up v)) (omega (arith, up v, d)) ∙ step v r

-- ---- the root of a radio

abbrev label : (ps : List ℕ) → (v : ℕ) → ℕ
label ps v = root (length ps) ps v

label_entry : (ps : List ℕ) (v : ℕ) → v < length ps → get_or (roots ps) v 0 ≡ label ps v
unfolding roots
label_entry ps v l = get_d_map_range 0 (label ps) 0 (length ps) v l ∙ ap (label ps) (omega arith)

module _ (ps : List ℕ) (up : Parents ps) (v : ℕ) (l : v < length ps) where
  pub label_le : get_or (roots ps) v 0 ≤ v
  label_le = omega (arith, label_entry ps v l, root_le ps up (length ps) v)

  pub label_own : get_or ps v 0 ≡ v → get_or (roots ps) v 0 ≡ v
  label_own e = label_entry ps v l ∙ root_own ps up (length ps) v e

  pub label_settled : get_or ps (get_or (roots ps) v 0) 0 ≡ get_or (roots ps) v 0
  label_settled = rw (label_entry ps v l) (root_settled ps up (length ps) v (omega arith))

  pub label_parent : get_or (roots ps) (get_or ps v 0) 0 ≡ get_or (roots ps) v 0
  label_parent =
      label_entry ps (get_or ps v 0) (omega (arith, up v)) ∙ root_step ps up (length ps) v (omega arith) ∙ sym (label_entry ps v l)

-- each radio its own parent
pub parents_own : (n : ℕ) → Parents (range 0 n)
parents_own n v = go (bool_cases (ltb v n))
  where
    go : (ltb v n ≡ true) ⊎ (ltb v n ≡ false) → get_or (range 0 n) v 0 ≤ v
    go (inl e) = omega (arith, get_d_range 0 n v (ltb-true v n e))
    go (inr e) = omega (arith, List·getD-eq-default (range 0 n) 0 {n = v} (omega (arith, length_range 0 n, ltb-false v n e)))

pub roots_own : (n : ℕ) → roots (range 0 n) ≡ range 0 n
unfolding roots
roots_own n = rw (length_range 0 n) (map_range_ext (root n (range 0 n)) (λ j. j) 0 n (λ w h l. own w (omega arith)) ∙ map_range_id 0 n)
  where
    own : (w : ℕ) → w < n → root n (range 0 n) w ≡ w
    own w l = root_own (range 0 n) (parents_own n) n w (get_d_range 0 n w l ∙ omega arith)

-- ---- one parent written

module _ (ps : List ℕ) (up : Parents ps) (x y : ℕ) (l : x < length ps) (low : y ≤ x) where
  parent_same : get_or (set ps x y) x 0 ≡ y
  parent_same = get_or-set_same ps x y 0 l

  parent_other : (v : ℕ) → (v ≡ x → ⊥) → get_or (set ps x y) v 0 ≡ get_or ps v 0
  parent_other v d = get_or-set_other ps x v y 0 d

  pub parents_set : Parents (set ps x y)
  parents_set v = go (bool_cases (eqb v x))
    where
      go : (eqb v x ≡ true) ⊎ (eqb v x ≡ false) → get_or (set ps x y) v 0 ≤ v
      go (inl q) = let e = eqb-true v x q in rw e (omega (arith, parent_same))
      go (inr q) = omega (arith, parent_other v (eqb-false v x q), up v)

  -- the labels after, as a function of the radio
  roots_set : (f : ℕ → ℕ) → (y ≡ x → f x ≡ x) → f y ≡ f x
      → ((v : ℕ) → v < length ps → (v ≡ x → ⊥) → get_or ps v 0 ≡ v → f v ≡ v) → ((v : ℕ) → v < length ps → (v ≡ x → ⊥) → f (get_or ps v 0) ≡ f v)
      → roots (set ps x y) ≡ map f (range 0 (length ps))
  unfolding roots
  roots_set f own same owns steps =
      rw (length-set ps x y) (map_range_ext (root (length ps) (set ps x y)) f 0 (length ps)
      (λ w h r. root_unique (set ps x y) parents_set f (length ps) (λ v. at_own v (bool_cases (eqb v x))) (λ v. at_step v (bool_cases (eqb v x)))
      (length ps) w (omega arith) (omega arith)))
    where
      at_own : (v : ℕ) → (eqb v x ≡ true) ⊎ (eqb v x ≡ false) → v < length ps → get_or (set ps x y) v 0 ≡ v → f v ≡ v
      at_own v (inl q) r e = let z = eqb-true v x q in rw z (own (sym parent_same ∙ ap (λ (u : ℕ). get_or (set ps x y) u 0) (sym z) ∙ e ∙ z))
      at_own v (inr q) r e = let d = eqb-false v x q in owns v r d (sym (parent_other v d) ∙ e)

      at_step : (v : ℕ) → (eqb v x ≡ true) ⊎ (eqb v x ≡ false) → v < length ps → f (get_or (set ps x y) v 0) ≡ f v
      at_step v (inl q) r = let z = eqb-true v x q in rw (z, parent_same) same
      at_step v (inr q) r = let d = eqb-false v x q in rw (parent_other v d) (steps v r d)

-- a way made shorter
pub roots_shorter : (ps : List ℕ) → Parents ps → (x : ℕ) → x < length ps → (get_or ps x 0 ≡ x → ⊥)
    → roots (set ps x (get_or ps (get_or ps x 0) 0)) ≡ roots ps
unfolding roots
roots_shorter ps up x l d =
    let p = get_or ps x 0 in
    let y = get_or ps p 0 in
    let n = length ps in
    roots_set ps up x y l (omega (arith, up x, up p)) (label ps) (λ e. absurd (omega (arith, up x, up p, d)))
    (root_step ps up n p (omega (arith, up x)) ∙ root_step ps up n x (omega arith))
    (λ v r o e. root_own ps up n v e) (λ v r o. root_step ps up n v (omega arith))

-- two parts made one
pub roots_joined : (ps : List ℕ) → Parents ps → (lo hi : ℕ) → lo < hi → hi < length ps → get_or ps lo 0 ≡ lo → get_or ps hi 0 ≡ hi
    → roots (set ps hi lo) ≡ map (relabelled lo hi) (roots ps)
unfolding roots
roots_joined ps up lo hi less l own_lo own_hi =
    let n = length ps in
    let f : ℕ → ℕ = λ v. relabelled lo hi (label ps v) in
    let at_lo : f lo ≡ lo = ap (relabelled lo hi) (root_own ps up n lo own_lo) ∙ relabelled_miss lo hi lo (λ e. omega arith) in
    let at_hi : f hi ≡ lo = relabelled_hit lo hi (label ps hi) (root_own ps up n hi own_hi) in
    roots_set ps up hi lo l (omega arith) f (λ e. absurd (omega arith)) (at_lo ∙ sym at_hi)
    (λ v r o e. ap (relabelled lo hi) (root_own ps up n v e) ∙ relabelled_miss lo hi v o)
    (λ v r o. ap (relabelled lo hi) (root_step ps up n v (omega arith))) ∙ sym (map-map (relabelled lo hi) (label ps) (range 0 n))

-- ---- the search for a root

-- from x the way leads where it led from v
pub record Searching (ps : List ℕ) (v : ℕ) (qs : List ℕ) (x : ℕ) : Type 0 where
  pub parents : Parents qs
  pub long : length qs ≡ length ps
  pub same : roots qs ≡ roots ps
  pub radio : x < length qs
  pub leads : get_or (roots ps) x 0 ≡ get_or (roots ps) v 0

pub searching_none : (ps : List ℕ) (v : ℕ) → Parents ps → v < length ps → Searching ps v ps v
searching_none ps v up l = record { parents = up; long = refl; same = refl; radio = l; leads = refl }

pub searching_turn : (ps : List ℕ) (v : ℕ) (qs : List ℕ) (x y : ℕ) → (get_or qs x 0 ≡ x → ⊥) → y ≡ get_or qs (get_or qs x 0) 0 → Searching ps v qs x
    → Searching ps v (set qs x y) y
searching_turn ps v qs x y d e h =
    let p = get_or qs x 0 in
    let up = h.parents in
    let low : y ≤ x = omega (arith, e, up p, up x) in
    let two : get_or (roots qs) y 0 ≡ get_or (roots qs) x 0 =
    ap (λ (u : ℕ). get_or (roots qs) u 0) e ∙ label_parent qs up p (omega (arith, up x, h.radio)) ∙ label_parent qs up x h.radio in
    record {
      parents = parents_set qs up x y h.radio low;
      long = length-set qs x y ∙ h.long;
      same = ap (λ (u : ℕ). roots (set qs x u)) e ∙ roots_shorter qs up x h.radio d ∙ h.same;
      radio = omega (arith, length-set qs x y, h.radio);
      leads = rw h.same at two ∙ h.leads;
    }

pub searching_end : (ps : List ℕ) (v : ℕ) (qs : List ℕ) (x : ℕ) → get_or qs x 0 ≡ x → Searching ps v qs x → Rooted ps v qs x
searching_end ps v qs x e h = record {
  parents = h.parents;
  same = h.same;
  found = sym (label_own qs h.parents x h.radio e) ∙ ap (λ (rs : List ℕ). get_or rs x 0) h.same ∙ h.leads;
}
