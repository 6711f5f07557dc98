-- What one link more or less changes: at most one neighbour a radio, none below the lower end's level or above it.
use Rattle.std.specs.Prelude.{◌≡◌, ◌⊎◌, ◌≤◌, ◌<◌}
use Rattle.lists.{specs.Kit.{refl, sym, ap, ◌∙◌, inl, inr, Bool, true, false, cond, List, ℕ, suc, min, arith, eqb, eq-eqb, ne_eqb}}
use Rattle.lists.{specs.Lists.{count}, specs.Facts.{Distinct}, proofs.Tests.{iff_eq}, proofs.Distinct.{count_one_more}, proofs.Count.{count_mono}}
use Rattle.mesh.specs.{Graph.{Graph, linked, relinked}, Valid.{smaller, larger}, Peel.{bound}}
use Rattle.mesh.proofs.{GraphLaws.{Ends, Adds, adds_keeps, adds_cases}, Links.PeelSound.{Moves}}

module _ {p q : Graph} {a b : ℕ} (apart : Adds p q a b) where
  pub adds_elsewhere : (v w : ℕ) → (Ends a b v w → ⊥) → linked p v w ≡ linked q v w
  adds_elsewhere v w h = iff_eq (linked p v w) (linked q v w) (adds_keeps apart v w) (λ e. go (adds_cases apart v w e))
    where
      go : (linked p v w ≡ true) ⊎ Ends a b v w → linked p v w ≡ true
      go (inl e) = e
      go (inr e) = absurd (h e)

  pub adds_least : (v : ℕ) (zs : List ℕ) → count (linked p v) zs ≤ count (linked q v) zs
  adds_least v zs = count_mono (linked p v) (linked q v) zs (λ w m h. adds_keeps apart v w h)

  pub adds_most : (v : ℕ) (zs : List ℕ) → Distinct zs → count (linked q v) zs ≤ suc (count (linked p v) zs)
  adds_most v zs d = count_one_more (linked q v) (linked p v) (cond (eqb v a) b a) zs (λ w h. other w (adds_cases apart v w h)) d
    where
      other : (w : ℕ) → (linked p v w ≡ true) ⊎ Ends a b v w → (linked p v w ≡ true) ⊎ (w ≡ cond (eqb v a) b a)
      other w (inl h) = inl h
      other w (inr (inl h)) = inr (rw (eq-eqb v a h.0) h.1)
      other w (inr (inr h)) = inr (rw (ne_eqb v a (λ e. apart.differ (sym e ∙ h.0))) h.1)

  -- the lower end's level
  module _ (num : ℕ → ℕ) where
    pub adds_low : (v w : ℕ) → num v < min (num a) (num b) → linked p v w ≡ linked q v w
    adds_low v w h = adds_elsewhere v w out
      where
        out : Ends a b v w → ⊥
        out (inl e) = omega (arith, ap num e.0)
        out (inr e) = omega (arith, ap num e.0)

    pub adds_high : (v w : ℕ) → min (num a) (num b) < num v → min (num a) (num b) < num w → linked p v w ≡ linked q v w
    adds_high v w h k = adds_elsewhere v w out
      where
        out : Ends a b v w → ⊥
        out (inl e) = omega (arith, ap num e.0, ap num e.1)
        out (inr e) = omega (arith, ap num e.0, ap num e.1)

-- from the graph before a link call to the one after it
pub link_moves : (u : Bool) (a b : ℕ) (g : Graph) (num : ℕ → ℕ) → Adds (smaller u a b g) (larger u a b g) a b
    → (u ≡ false → 1 ≤ min (num a) (num b)) → Moves g (relinked u a b g) num (min (num a) (num b)) (bound u (min (num a) (num b)))
unfolding smaller larger
link_moves true a b g num apart pos = record {
  same_n = apart.same_n;
  low = adds_low apart num;
  high = adds_high apart num;
  gain = λ v zs d. omega (arith, adds_most apart v zs d);
  loss = λ v zs d. omega (arith, adds_least apart v zs);
  most_low = omega arith;
  most_high = omega arith;
}
link_moves false a b g num apart pos = record {
  same_n = sym apart.same_n;
  low = λ v w h. sym (adds_low apart num v w h);
  high = λ v w h k. sym (adds_high apart num v w h k);
  gain = λ v zs d. omega (arith, adds_least apart v zs, pos refl);
  loss = λ v zs d. omega (arith, adds_most apart v zs d, pos refl);
  most_low = omega arith;
  most_high = omega arith;
}
