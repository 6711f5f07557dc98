-- What releasing listed radios comes to: each radio of the level that is listed has a counter one less, and its place is marked
-- if that counter is then the bound; no other place of the level changes.
use Rattle.std.specs.Prelude.{◌≡◌, ◌⊎◌, ◌&&◌, ◌||◌, ◌∷◌, ◌+◌, ◌-◌, ◌<◌}
use Rattle.lists.{specs.Kit.{refl, sym, ap, ◌∙◌, inl, inr, Bool, true, false, cond, or-true, or-false, and-false, List, [], ℕ}}
use Rattle.lists.{specs.Kit.{arith, leb, eqb, length, get_or, set, get_or-set_same, get_or-set_other, eqb-true, eqb-false, eq-eqb, ne_eqb, leb-true}}
use Rattle.lists.{specs.Kit.{leb-false, le-leb, lt-leb}, specs.Lists.{member}, proofs.Tests.{never, bool_cases, and_left}, proofs.Member.{not_member}}
use Rattle.mesh.{specs.Limits.{max_radios}}
use Rattle.plan.specs.Turns.{counter_less, released, place_marked, places_released, Releasable}
use Rattle.plan.proofs.TurnLoops.{length_place_marked, releasable_tail}
use Rattle.rows.proofs.SetLaws.{in_put_in, in_take_out}
use Rattle.rows.specs.Sets.{in_set, put_in, take_out}

-- ---- a place put into a set of eight words, or taken out

pub place_put : (p q : ℕ) (fs : List ℕ) → length fs ≡ 8 → p < max_radios → in_set (put_in p fs) q ≡ cond (eqb p q) true (in_set fs q)
place_put p q fs e lp = in_put_in p q fs (omega arith)

pub place_out : (p q : ℕ) (fs : List ℕ) → length fs ≡ 8 → p < max_radios → in_set (take_out p fs) q ≡ cond (eqb p q) false (in_set fs q)
place_out p q fs e lp = in_take_out p q fs (omega arith)

-- where one place of a part is cleared, a place that is still marked is another
pub cleared_other : (first p q : ℕ) (fs : List ℕ) → length fs ≡ 8 → first + p < max_radios → first + q < max_radios
    → in_set (take_out (first + p) fs) (first + q) ≡ true → (q ≡ p → ⊥) × (in_set fs (first + q) ≡ true)
cleared_other first p q fs long lp lq t = go (bool_cases (eqb (first + p) (first + q)))
  where
    put : in_set (take_out (first + p) fs) (first + q) ≡ cond (eqb (first + p) (first + q)) false (in_set fs (first + q))
    put = place_out (first + p) (first + q) fs long lp

    go : (eqb (first + p) (first + q) ≡ true) ⊎ (eqb (first + p) (first + q) ≡ false) → (q ≡ p → ⊥) × (in_set fs (first + q) ≡ true)
    go (inl e) = never (in_set (take_out (first + p) fs) (first + q)) t (put ∙ ap (λ (b : Bool). cond b false (in_set fs (first + q))) e)
    go (inr e) = (
      λ s. eqb-false (first + p) (first + q) e (ap (λ (z : ℕ). first + z) (sym s)),
      sym (put ∙ ap (λ (b : Bool). cond b false (in_set fs (first + q))) e) ∙ t,
    )

-- ---- counters

module _ (ns : List ℕ) (k : ℕ) where
  -- listed, and of the level
  abbrev bit : (near : List ℕ) → (w : ℕ) → ℕ
  bit vs w = cond (member w vs && eqb (get_or ns w 0) k) 1 0

  counter_same : (v : ℕ) (cs : List ℕ) → v < length cs → get_or ns v 0 ≡ k → get_or (counter_less ns k v cs) v 0 ≡ get_or cs v 0 - 1
  unfolding counter_less
  counter_same v cs l e = rw (eq-eqb (get_or ns v 0) k e) (get_or-set_same cs v (get_or cs v 0 - 1) 0 l)

  counter_kept : (v w : ℕ) (cs : List ℕ) → (w ≡ v → ⊥) ⊎ (get_or ns v 0 ≡ k → ⊥) → get_or (counter_less ns k v cs) w 0 ≡ get_or cs w 0
  unfolding counter_less
  counter_kept v w cs (inr ne) = rw (ne_eqb (get_or ns v 0) k ne)
  counter_kept v w cs (inl ne) = go (bool_cases (eqb (get_or ns v 0) k))
    where
      go : (eqb (get_or ns v 0) k ≡ true) ⊎ (eqb (get_or ns v 0) k ≡ false)
          → get_or (cond (eqb (get_or ns v 0) k) (set cs v (get_or cs v 0 - 1)) cs) w 0 ≡ get_or cs w 0
      go (inl e) = rw e (get_or-set_other cs v w (get_or cs v 0 - 1) 0 ne)
      go (inr e) = rw e

  pub get_d_released : (ps near cs : List ℕ) → Releasable ns ps k near cs → (w : ℕ) → get_or (released ns k near cs) w 0 + bit near w ≡ get_or cs w 0
  unfolding released member
  get_d_released ps [] cs h w = omega arith
  get_d_released ps (v ∷ vs) cs h w =
      let rec = get_d_released ps vs (counter_less ns k v cs) (releasable_tail ns ps k v vs cs h) w in
      go rec (bool_cases (eqb v w)) (bool_cases (eqb (get_or ns w 0) k))
    where
      go : get_or (released ns k vs (counter_less ns k v cs)) w 0 + bit vs w ≡ get_or (counter_less ns k v cs) w 0
          → (eqb v w ≡ true) ⊎ (eqb v w ≡ false) → (eqb (get_or ns w 0) k ≡ true) ⊎ (eqb (get_or ns w 0) k ≡ false)
          → get_or (released ns k vs (counter_less ns k v cs)) w 0 + bit (v ∷ vs) w ≡ get_or cs w 0
      go rec (inr ne) q =
          rw ne (rec ∙ counter_kept v w cs (inl (λ e. eqb-false v w ne (sym e))))
      go rec (inl e) (inr q) =
          let same = eqb-true v w e in
          rw (e, q) (let zero_bit : get_or (released ns k vs (counter_less ns k v cs)) w 0 + 0 ≡ get_or (counter_less ns k v cs) w 0 = ap
          (λ (x : ℕ). get_or (released ns k vs (counter_less ns k v cs)) w 0 + x) (sym (none q (member w vs))) ∙ rec in
          zero_bit ∙ counter_kept v w cs (inr (rw same (eqb-false (get_or ns w 0) k q))))
        where
          none : eqb (get_or ns w 0) k ≡ false → (t : Bool) → cond {A = ℕ} (t && eqb (get_or ns w 0) k) 1 0 ≡ 0
          none e true = rw e
          none e false = refl
      go rec (inl e) (inl q) =
          let same = eqb-true v w e in
          let at_level : get_or ns v 0 ≡ k = rw same (eqb-true (get_or ns w 0) k q) in
          let out : member w vs ≡ false = not_member w vs (rw same at h.once.0) in
          let rest : get_or (released ns k vs (counter_less ns k v cs)) w 0 + 0 ≡ get_or (counter_less ns k v cs) w 0 = rw out at rec in
          let less = counter_same v cs (h.known v (inl refl)).2 at_level in
          rw (e, q) (omega (
            arith,
            rest,
            less,
            ap (λ (x : ℕ). get_or (counter_less ns k v cs) x 0) same,
            ap (λ (x : ℕ). get_or cs x 0) same,
            h.above_zero v (inl refl) at_level,
          ))

  -- a radio of the level
  pub get_d_released_level : (ps near cs : List ℕ) → Releasable ns ps k near cs → (w : ℕ) → get_or ns w 0 ≡ k
      → get_or (released ns k near cs) w 0 + cond (member w near) 1 0 ≡ get_or cs w 0
  get_d_released_level ps near cs h w e =
      ap (λ (b : Bool). get_or (released ns k near cs) w 0 + cond b 1 0) (and_right_true (member w near) (eqb (get_or ns w 0) k) (eq-eqb (get_or ns w 0) k e))
      ∙ get_d_released ps near cs h w
    where
      and_right_true : (a b : Bool) → b ≡ true → a ≡ (a && b)
      and_right_true true b e = sym e
      and_right_true false b e = refl

-- a counter that falls to the bound, and one that was there
pub fits_released : (m : ℕ) (t : Bool) (x y : ℕ) → y + cond t 1 0 ≡ x → (leb x m || (t && eqb y m)) ≡ leb y m
fits_released m false x y e = or-false (leb x m) ∙ ap (λ (z : ℕ). leb z m) (omega arith)
fits_released m true x y e = go (bool_cases (leb x m)) (bool_cases (eqb y m))
  where
    go : (leb x m ≡ true) ⊎ (leb x m ≡ false) → (eqb y m ≡ true) ⊎ (eqb y m ≡ false) → (leb x m || eqb y m) ≡ leb y m
    go (inl a) b = ap (λ (z : Bool). z || eqb y m) a ∙ sym (le-leb y m (omega (arith, leb-true x m a)))
    go (inr a) (inl b) = ap (λ (z : Bool). z || eqb y m) a ∙ b ∙ sym (le-leb y m (omega (arith, eqb-true y m b)))
    go (inr a) (inr b) = ap (λ (z : Bool). z || eqb y m) a ∙ b ∙ sym (lt-leb y m (omega (arith, leb-false x m a, eqb-false y m b)))

-- ---- places

module _ (ns ps : List ℕ) (k m : ℕ) (small : (v : ℕ) → v < length ns → get_or ns v 0 ≡ k → get_or ps v 0 < max_radios) where
  -- a mark more is the place of a radio of the level
  pub marked_released : (near cs fs : List ℕ) → length fs ≡ 8 → Releasable ns ps k near cs → (q : ℕ) → q < max_radios
      → in_set (places_released ns ps k m near cs fs) q ≡ true
      → (in_set fs q ≡ true) ⊎ ((w : ℕ) × (w < length ns) × (get_or ns w 0 ≡ k) × (get_or ps w 0 ≡ q))
  unfolding places_released place_marked
  marked_released [] cs fs e h q lq t = inl t
  marked_released (v ∷ vs) cs fs e h q lq t =
      let less = counter_less ns k v cs in
      one (marked_released vs less (place_marked ns ps k m v less fs) (length_place_marked ns ps k m v less fs ∙ e) (releasable_tail ns ps k v vs cs h) q lq t)
      (bool_cases (eqb (get_or ns v 0) k && eqb (get_or less v 0) m))
    where
      test : Bool
      test = eqb (get_or ns v 0) k && eqb (get_or (counter_less ns k v cs) v 0) m

      put : test ≡ true → in_set (put_in (get_or ps v 0) fs) q ≡ true → (eqb (get_or ps v 0) q ≡ true) ⊎ (eqb (get_or ps v 0) q ≡ false)
          → (in_set fs q ≡ true) ⊎ ((w : ℕ) × (w < length ns) × (get_or ns w 0 ≡ k) × (get_or ps w 0 ≡ q))
      put p u (inl s) =
          let at_level = eqb-true (get_or ns v 0) k (and_left (eqb (get_or ns v 0) k) (eqb (get_or (counter_less ns k v cs) v 0) m) p) in
          inr (v, (h.known v (inl refl)).0, at_level, eqb-true (get_or ps v 0) q s)
      put p u (inr s) =
          let at_level = eqb-true (get_or ns v 0) k (and_left (eqb (get_or ns v 0) k) (eqb (get_or (counter_less ns k v cs) v 0) m) p) in
          inl (ap (λ (b : Bool). cond b true (in_set fs q)) (sym s) ∙ sym (place_put (get_or ps v 0) q fs e (small v (h.known v (inl refl)).0 at_level)) ∙ u)

      one : (in_set (place_marked ns ps k m v (counter_less ns k v cs) fs) q ≡ true) ⊎ ((w : ℕ) × (w < length ns) × (get_or ns w 0 ≡ k) × (get_or ps w 0 ≡ q))
          → (test ≡ true) ⊎ (test ≡ false)
          → (in_set fs q ≡ true) ⊎ ((w : ℕ) × (w < length ns) × (get_or ns w 0 ≡ k) × (get_or ps w 0 ≡ q))
      one (inr r) s = inr r
      one (inl u) (inr s) = inl (rw s at u)
      one (inl u) (inl s) = put s (rw s at u) (bool_cases (eqb (get_or ps v 0) q))

  module _ (apart : (v w : ℕ) → v < length ns → w < length ns → get_or ns v 0 ≡ k → get_or ns w 0 ≡ k → get_or ps v 0 ≡ get_or ps w 0 → v ≡ w) where
    -- the mark of a radio of the level
    pub marked_released_place : (near cs fs : List ℕ) → length fs ≡ 8 → Releasable ns ps k near cs → (w : ℕ) → w < length ns → get_or ns w 0 ≡ k
        → in_set (places_released ns ps k m near cs fs) (get_or ps w 0)
        ≡ (in_set fs (get_or ps w 0) || (member w near && eqb (get_or (released ns k near cs) w 0) m))
    unfolding places_released released place_marked member
    marked_released_place [] cs fs e h w lw kw = sym (or-false (in_set fs (get_or ps w 0)))
    marked_released_place (v ∷ vs) cs fs e h w lw kw =
        let less = counter_less ns k v cs in
        marked_released_place vs less (place_marked ns ps k m v less fs) (length_place_marked ns ps k m v less fs ∙ e) (releasable_tail ns ps k v vs cs h) w lw
        kw
        ∙ go (bool_cases (eqb v w))
      where
        less : List ℕ
        less = counter_less ns k v cs

        end : List ℕ
        end = released ns k vs less

        here : v ≡ w → (t : Bool) → eqb (get_or less v 0) m ≡ t
            → in_set (cond (eqb (get_or ns v 0) k && t) (put_in (get_or ps v 0) fs) fs) (get_or ps w 0) ≡ (in_set fs (get_or ps w 0) || t)
        here s true q =
            rw (eq-eqb (get_or ns v 0) k (rw s kw), s)
            (place_put (get_or ps w 0) (get_or ps w 0) fs e (small w lw kw) ∙ rw (eq-eqb (get_or ps w 0) (get_or ps w 0) refl)
            (sym (or-true (in_set fs (get_or ps w 0)))))
        here s false q = rw (and-false (eqb (get_or ns v 0) k)) (sym (or-false (in_set fs (get_or ps w 0))))

        elsewhere : (v ≡ w → ⊥) → (t : Bool) → (eqb (get_or ns v 0) k && eqb (get_or less v 0) m) ≡ t
            → in_set (cond t (put_in (get_or ps v 0) fs) fs) (get_or ps w 0) ≡ in_set fs (get_or ps w 0)
        elsewhere ne true q =
            let kv = eqb-true (get_or ns v 0) k (and_left (eqb (get_or ns v 0) k) (eqb (get_or less v 0) m) q) in
            let lv = (h.known v (inl refl)).0 in
            place_put (get_or ps v 0) (get_or ps w 0) fs e (small v lv kv)
            ∙ rw (ne_eqb (get_or ps v 0) (get_or ps w 0) (λ s. ne (apart v w lv lw kv kw s)))
        elsewhere ne false q = refl

        go : (eqb v w ≡ true) ⊎ (eqb v w ≡ false)
            → (in_set (place_marked ns ps k m v less fs) (get_or ps w 0) || (member w vs && eqb (get_or end w 0) m))
            ≡ (in_set fs (get_or ps w 0) || ((eqb v w || member w vs) && eqb (get_or end w 0) m))
        go (inr s) =
            rw (s, elsewhere (eqb-false v w s) (eqb (get_or ns v 0) k && eqb (get_or less v 0) m) refl)
        go (inl s) =
            let same = eqb-true v w s in
            let out : member w vs ≡ false = not_member w vs (rw same at h.once.0) in
            let kept : get_or end w 0 ≡ get_or less v 0 =
            (let r = get_d_released ns k ps vs less (releasable_tail ns ps k v vs cs h) w in
            omega (arith, rw out at r, ap (λ (x : ℕ). get_or less x 0) same)) in
            rw (s, out, kept) (or-false (in_set (place_marked ns ps k m v less fs) (get_or ps w 0)) ∙ here same (eqb (get_or less v 0) m) refl)
