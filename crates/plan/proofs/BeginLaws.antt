-- What stands before the first turn: the counters of both ends brought to the graph after the call, and the places that fit.
use Rattle.std.specs.Prelude.{◌≡◌, ◌⊎◌, ◌&&◌, ◌||◌, ◌∷◌, ◌+◌, ◌-◌, ◌≤◌, ◌<◌}
use Rattle.lists.{specs.Kit.{refl, sym, ap, ◌∙◌, inl, inr, Bool, true, false, cond, or-true, or-false, and-false, List, [], ℕ}}
use Rattle.lists.{specs.Kit.{arith, leb, eqb, length, get_or, set, get_or-set_same, get_or-set_other, eqb-true, eq-eqb}, specs.Lists.{member, In}}
use Rattle.lists.{proofs.Tests.{bool_cases}}
use Rattle.mesh.{specs.Limits.{max_radios}, specs.Peel.{bound}}
use Rattle.plan.specs.Turns.{end_counted, ends_counted, places_fitting, BeginReady}
use Rattle.plan.specs.Turns.{call_of}
use Rattle.plan.proofs.TurnLaws.{place_put}
use Rattle.rows.proofs.SetLaws.{length_put_in}
use Rattle.rows.specs.Sets.{in_set, put_in}

-- ---- the bound of the peel

pub bound_up : (u : Bool) (x : ℕ) → u ≡ true → x ≡ bound u x
bound_up u x e = rw e

pub bound_down : (u : Bool) (x : ℕ) → u ≡ false → x - 1 ≡ bound u x
bound_down u x e = rw e

-- ---- counters of the ends

module _ (u : Bool) (k : ℕ) (ns : List ℕ) (v : ℕ) (cs : List ℕ) where
  pub get_d_end_other : (w : ℕ) → (w ≡ v → ⊥) → get_or (end_counted u k ns v cs) w 0 ≡ get_or cs w 0
  unfolding end_counted
  get_d_end_other w ne = go (bool_cases (eqb (get_or ns v 0) k))
    where
      go : (eqb (get_or ns v 0) k ≡ true) ⊎ (eqb (get_or ns v 0) k ≡ false)
          → get_or (cond (eqb (get_or ns v 0) k) (set cs v (cond u (get_or cs v 0 + 1) (get_or cs v 0 - 1))) cs) w 0 ≡ get_or cs w 0
      go (inl e) = rw e (get_or-set_other cs v w (cond u (get_or cs v 0 + 1) (get_or cs v 0 - 1)) 0 ne)
      go (inr e) = rw e

  pub get_d_end_same : v < length cs → get_or ns v 0 ≡ k → get_or (end_counted u k ns v cs) v 0 ≡ cond u (get_or cs v 0 + 1) (get_or cs v 0 - 1)
  unfolding end_counted
  get_d_end_same l e = rw (eq-eqb (get_or ns v 0) k e) (get_or-set_same cs v (cond u (get_or cs v 0 + 1) (get_or cs v 0 - 1)) 0 l)

module _ {u : Bool} {a b k most start size : ℕ} {ns os cs : List ℕ} (h : BeginReady (call_of u a b k most) start size ns os cs) where
  pub begin_a : (a < length ns) × (a < max_radios) × (u ≡ false → get_or ns a 0 ≡ k → 1 ≤ get_or cs a 0) × (get_or ns a 0 ≡ k → get_or cs a 0 < 255)
  begin_a = (h.known_a.0, h.known_a.1, h.above_zero a (inl refl), h.small a h.known_a.0)

  module _ (cs1 : List ℕ) (e : cs1 ≡ end_counted u k ns a cs) where
    kept : get_or cs1 b 0 ≡ get_or cs b 0
    kept = ap (λ (xs : List ℕ). get_or xs b 0) e ∙ get_d_end_other u k ns a cs b (λ q. h.differ (sym q))

    pub begin_b : (b < length ns) × (b < max_radios) × (u ≡ false → get_or ns b 0 ≡ k → 1 ≤ get_or cs1 b 0) × (get_or ns b 0 ≡ k → get_or cs1 b 0 < 255)
    begin_b = (
      h.known_b.0,
      h.known_b.1,
      λ d q. omega (arith, h.above_zero b (inr refl) d q, kept),
      λ q. omega (arith, h.small b h.known_b.0 q, kept),
    )

    pub begin_done : (cs2 fs2 : List ℕ) (m : ℕ) (ps fs : List ℕ) → cs2 ≡ end_counted u k ns b cs1 → fs2 ≡ places_fitting os cs2 m ps fs
        → (cs2 ≡ ends_counted u a b k ns cs) × (fs2 ≡ places_fitting os (ends_counted u a b k ns cs) m ps fs)
    unfolding ends_counted
    begin_done cs2 fs2 m ps fs f g =
        let both : cs2 ≡ ends_counted u a b k ns cs = f ∙ ap (end_counted u k ns b) e in
        (both, g ∙ ap (λ (xs : List ℕ). places_fitting os xs m ps fs) both)

-- ---- the places that fit

pub marked_fitting : (os cs : List ℕ) (m : ℕ) (ps fs : List ℕ) → length fs ≡ 8 → ((p : ℕ) → In p ps → p < max_radios) → (q : ℕ) → q < max_radios
    → in_set (places_fitting os cs m ps fs) q ≡ (in_set fs q || (member q ps && leb (get_or cs (get_or os q 0) 0) m))
unfolding places_fitting member
marked_fitting os cs m [] fs e h q l = sym (or-false (in_set fs q))
marked_fitting os cs m (p ∷ ps) fs e h q l =
    marked_fitting os cs m ps (cond (leb (get_or cs (get_or os p 0) 0) m) (put_in p fs) fs) (long (leb (get_or cs (get_or os p 0) 0) m)) (λ r i. h r (inr i)) q l
    ∙ go (bool_cases (eqb p q)) (leb (get_or cs (get_or os p 0) 0) m) refl (member q ps) (leb (get_or cs (get_or os q 0) 0) m) refl
  where
    long : (t : Bool) → length (cond t (put_in p fs) fs) ≡ 8
    long true = length_put_in p fs ∙ e
    long false = e

    go : (eqb p q ≡ true) ⊎ (eqb p q ≡ false) → (t : Bool) → leb (get_or cs (get_or os p 0) 0) m ≡ t → (x y : Bool) → leb (get_or cs (get_or os q 0) 0) m ≡ y
        → (in_set (cond t (put_in p fs) fs) q || (x && y)) ≡ (in_set fs q || ((eqb p q || x) && y))
    go (inr ne) true s x y r = rw (place_put p q fs e (h p (inl refl)), ne)
    go (inr ne) false s x y r = rw ne
    go (inl eq) t s x y r =
        let same : t ≡ y = sym s ∙ ap (λ (z : ℕ). leb (get_or cs (get_or os z 0) 0) m) (eqb-true p q eq) ∙ r in
        rw eq (here t x y same)
      where
        here : (t x y : Bool) → t ≡ y → (in_set (cond t (put_in p fs) fs) q || (x && y)) ≡ (in_set fs q || y)
        here true x y c = rw (← c, place_put p q fs e (h p (inl refl)), eq) (sym (or-true (in_set fs q)))
        here false x y c = rw (← c, and-false x)
