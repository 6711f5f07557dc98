-- A pair that lifts a radio begins at a tight end. Of the pair's group the radio that stands first in the order has all its neighbours of the
-- group later. It is no other than an end, which has at least k of them, and then it has no more.
use Rattle.std.specs.Prelude.{◌≡◌, ◌⊎◌, ◌&&◌, ◌≤◌, ◌<◌}
use Rattle.lists.{specs.Kit.{refl, sym, ap, ◌∙◌, inl, inr, Bool, true, false, cond, List, ℕ, zero, suc, arith, le_antisymm, ltb, leb}}
use Rattle.lists.{specs.Kit.{eqb, eqb-true, eqb-false, eq-eqb, leb-true, leb-false, le-leb, ltb-true, ltb-false, lt-ltb}, proofs.Tests.{bool_cases, never}}
use Rattle.lists.{proofs.Tests.{and_both}}
use Rattle.mesh.{specs.Limits.{max_neighbours}, specs.Graph.{Graph, proper, link_of, linked, neighbours_in}, specs.Cores.{number}, specs.Valid.{Valid}}
use Rattle.mesh.{proofs.GraphLaws.{neighbours_in_mono, linked_self}}
use Rattle.calls.specs.Lift.{lifts}
use Rattle.lifting.specs.{Peeling.{PairGroup}, Tight.{later, Ordered, tight, first_end}}
use Rattle.lifting.proofs.Pairs.{refuted, lift_group, risen, r_risen}

-- ---- the first radio of a set

-- of the radios of s below m, x stands first
record First (place : ℕ → ℕ) (s : ℕ → Bool) (m : ℕ) : Type 0 where
  x : ℕ
  below : x < m
  has : s x ≡ true
  before : (w : ℕ) → w < m → s w ≡ true → place x ≤ place w

first_of_set : (place : ℕ → ℕ) (s : ℕ → Bool) (m : ℕ) → ((w : ℕ) → w < m → s w ≡ false) ⊎ First place s m
first_of_set place s zero = inl (λ w l. absurd (omega arith))
first_of_set place s (suc m) = go (first_of_set place s m) (bool_cases (s m))
  where
    split : (P : ℕ → Type 0) → ((w : ℕ) → w < m → P w) → P m → (w : ℕ) → w < suc m → P w
    split P h e w l = at (bool_cases (eqb m w))
      where
        at : (eqb m w ≡ true) ⊎ (eqb m w ≡ false) → P w
        at (inl q) = rw (eqb-true m w q) at e
        at (inr q) = let ne = eqb-false m w q in h w (omega (arith, other ne))
          where
            other : (m ≡ w → ⊥) → w < m
            other ne = omega arith

    go : ((w : ℕ) → w < m → s w ≡ false) ⊎ First place s m → (s m ≡ true) ⊎ (s m ≡ false)
        → ((w : ℕ) → w < suc m → s w ≡ false) ⊎ First place s (suc m)
    go (inl none) (inr e) = inl (split (λ w. s w ≡ false) none e)
    go (inl none) (inl e) =
        inr (record {
          x = m;
          below = omega arith;
          has = e;
          before = split (λ w. s w ≡ true → place m ≤ place w)
              (λ w l q. never (s w) q (none w l)) (λ q. omega arith);
        })
    go (inr f) (inr e) =
        inr (record {
          x = f.x;
          below = omega (arith, f.below);
          has = f.has;
          before = split (λ w. s w ≡ true → place f.x ≤ place w)
              f.before (λ q. never (s m) q e);
        })
    go (inr f) (inl e) = pick (bool_cases (leb (place f.x) (place m)))
      where
        pick : (leb (place f.x) (place m) ≡ true) ⊎ (leb (place f.x) (place m) ≡ false)
            → ((w : ℕ) → w < suc m → s w ≡ false) ⊎ First place s (suc m)
        pick (inl q) =
            inr (record {
              x = f.x;
              below = omega (arith, f.below);
              has = f.has;
              before = split (λ w. s w ≡ true → place f.x ≤ place w)
                  f.before (λ p. leb-true (place f.x) (place m) q);
            })
        pick (inr q) =
            inr (record {
              x = m;
              below = omega arith;
              has = e;
              before = split (λ w. s w ≡ true → place m ≤ place w)
                  (λ w l p. omega (arith, f.before w l p, leb-false (place f.x) (place m) q)) (λ p. omega arith);
            })

-- ---- where a pair begins

module _ (g : Graph) (place : ℕ → ℕ) (o : Ordered g place) (k r a c : ℕ) (s : ℕ → Bool) (p : PairGroup g k a c s) (in_r : s r ≡ true)
    (kr : number g r ≡ k) (proper_links : proper g.n g.links ≡ true) where
  -- all neighbours in the group stand later than its first radio
  all_later : (f : First place s g.n) → neighbours_in g f.x s ≤ later g place f.x
  unfolding later
  all_later f =
      neighbours_in_mono g g f.x s (λ w. ltb (place f.x) (place w)) refl
      (λ w l e m. (e, lt-ltb (place f.x) (place w) (behind w l e (f.before w l m))))
    where
      behind : (w : ℕ) → w < g.n → linked g f.x w ≡ true → place f.x ≤ place w → place f.x < place w
      behind w l e h = at (bool_cases (ltb (place f.x) (place w)))
        where
          at : (ltb (place f.x) (place w) ≡ true) ⊎ (ltb (place f.x) (place w) ≡ false) → place f.x < place w
          at (inl q) = ltb-true (place f.x) (place w) q
          at (inr q) =
              let same : f.x ≡ w = o.apart f.x w f.below l (omega (arith, h, ltb-false (place f.x) (place w) q)) in
              never (linked g w w) (ap (λ (y : ℕ). linked g y w) (sym same) ∙ e) (linked_self g proper_links w)

  level_first : (f : First place s g.n) → number g f.x ≡ k
  level_first f = le_antisymm (at (bool_cases (ltb (place f.x) (place r)))) (p.high f.x f.has)
    where
      at : (ltb (place f.x) (place r) ≡ true) ⊎ (ltb (place f.x) (place r) ≡ false) → number g f.x ≤ k
      at (inl q) = omega (arith, kr, o.rises f.x r f.below (p.radio r in_r) (ltb-true (place f.x) (place r) q))
      at (inr q) =
          omega (
            arith,
            kr,
            ap (number g) (o.apart f.x r f.below (p.radio r in_r) (omega
                (arith, f.before r (p.radio r in_r) in_r, ltb-false (place f.x) (place r) q))),
          )

  tight_first : (f : First place s g.n) → tight g place k r f.x ≡ true
  unfolding tight
  tight_first f =
      let level = level_first f in
      and_both (eqb (number g f.x) k) (leb (place f.x) (place r) && eqb (later g place f.x) k) (eq-eqb (number g f.x) k level)
      (and_both (leb (place f.x) (place r)) (eqb (later g place f.x) k) (le-leb (place f.x) (place r) (f.before r (p.radio r in_r) in_r))
      (eq-eqb (later g place f.x) k (omega (arith, level, o.few f.x f.below, all_later f, p.ends f.x f.has))))

  -- the first radio of the group is the first end
  first_is : (f : First place s g.n) → f.x ≡ first_end place a c
  unfolding first_end
  first_is f = at (bool_cases (eqb f.x a)) (bool_cases (eqb f.x c)) (bool_cases (ltb (place c) (place a)))
    where
      la : place f.x ≤ place a
      la = f.before a (p.radio a p.low_end) p.low_end

      lc : place f.x ≤ place c
      lc = f.before c (p.radio c p.high_end) p.high_end

      at : (eqb f.x a ≡ true) ⊎ (eqb f.x a ≡ false) → (eqb f.x c ≡ true) ⊎ (eqb f.x c ≡ false)
          → (ltb (place c) (place a) ≡ true) ⊎ (ltb (place c) (place a) ≡ false) → f.x ≡ cond (ltb (place c) (place a)) c a
      at (inl q) z (inr t) = rw t (eqb-true f.x a q)
      at (inl q) z (inl t) = absurd (omega (arith, lc, ltb-true (place c) (place a) t, ap place (eqb-true f.x a q)))
      at (inr q) (inl z) (inl t) = rw t (eqb-true f.x c z)
      at (inr q) (inl z) (inr t) =
          let e = eqb-true f.x c z in
          rw t (o.apart f.x a f.below (p.radio a p.low_end) (omega (arith, la, ap place e, ltb-false (place c) (place a) t)))
      at (inr q) (inr z) t =
          absurd (omega (arith, p.others f.x f.has (eqb-false f.x a q) (eqb-false f.x c z), all_later f, o.few f.x f.below, level_first f))

  pub group_begins : tight g place k r (first_end place a c) ≡ true
  group_begins = go (first_of_set place s g.n)
    where
      go : ((w : ℕ) → w < g.n → s w ≡ false) ⊎ First place s g.n → tight g place k r (first_end place a c) ≡ true
      go (inl none) = never (s r) in_r (none r (p.radio r in_r))
      go (inr f) = ap (tight g place k r) (sym (first_is f)) ∙ tight_first f

-- not tight, or later than r: the pair does not lift r
pub tight_refutes : (g : Graph) (xs : List ℕ) (valid : Valid max_neighbours g xs) (place : ℕ → ℕ) → Ordered g place → (k r a c : ℕ) (lr : r < g.n)
    (kr : number g r ≡ k) → tight g place k r (first_end place a c) ≡ false → lifts g r (link_of a c) ≡ false
tight_refutes g xs valid place o k r a c lr kr e =
    refuted g r a c (λ h. never (tight g place k r (first_end place a c))
    (group_begins g place o k r a c (risen g xs valid k r a c lr kr h) (lift_group g xs valid k r a c lr kr h) (r_risen g xs valid k r a c lr kr h) kr
    valid.links_proper) e)
