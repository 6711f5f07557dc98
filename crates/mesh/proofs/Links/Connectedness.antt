-- Radios whose number differs between two graphs one link apart are connected through one another alone, in the graph that
-- has the link, and include an end of it.
-- Why: take the radios that one of them reaches over changed radios. With no end among them, they and the radios above the level
-- would be a group of the larger number in the graph without the link already.
use Rattle.std.specs.Prelude.{◌≡◌, ◌⊎◌, ◌||◌, ◌∷◌, ◌≤◌, ◌<◌}
use Rattle.lists.specs.Kit.{refl, sym, ap, ◌∙◌, inl, inr, Bool, true, false, List, [], ℕ, suc, arith, le_trans, le_of_eq, leb}
use Rattle.lists.{specs.Kit.{leb-true, le-leb, ⊎_elim}, specs.Lists.{member}, proofs.Tests.{bool_cases, never, or_cases, or_left, or_right}}
use Rattle.mesh.specs.{Graph.{Graph, linked, neighbours_in}, Cores.{Group, number}, Connected.{Reachable, here, onward, reached}}
use Rattle.mesh.proofs.{GraphLaws.{Ends, Adds, adds_cases, adds_has, linked_sym, neighbours_in_mono}, Cores.Certificate.{core_enough}}
use Rattle.mesh.proofs.{Cores.Peeling.{number_core}, Trees.Reach.{reachable_passes, reachable_trans, reachable_sym, reached_iff}}

module _ {p q : Graph} {a b : ℕ} (apart : Adds p q a b) (a_radio : a < q.n) (b_radio : b < q.n) (j : ℕ) (changed : List ℕ)
    (below : (v : ℕ) → member v changed ≡ true → v < q.n)
    (moved : (v : ℕ) → member v changed ≡ true → (number p v ≡ j) × (number q v ≡ suc j))
    (same : (v : ℕ) → v < q.n → member v changed ≡ false → number p v ≡ number q v) where
  abbrev over : ℕ → Bool
  over v = member v changed

  -- a set of changed radios that its changed neighbours do not leave has an end
  no_end : (s : ℕ → Bool) → ((v : ℕ) → s v ≡ true → over v ≡ true)
      → ((v w : ℕ) → s v ≡ true → over w ≡ true → w < q.n → linked q v w ≡ true → s w ≡ true)
      → s a ≡ false → s b ≡ false → (v : ℕ) → s v ≡ true → ⊥
  unfolding Group
  no_end s sub closed na nb v c =
      omega (arith, (moved v (sub v c)).0, (number_core p v (in_p (below v (sub v c)))).largest (suc j) group all (or_left (s v) (leb (suc j) (number p v)) c))
    where
      in_p : {w : ℕ} → w < q.n → w < p.n
      in_p l = rw apart.same_n l

      group : ℕ → Bool
      group w = s w || leb (suc j) (number p w)

      still : (w x : ℕ) → s w ≡ true → (linked p w x ≡ true) ⊎ Ends a b w x → linked p w x ≡ true
      still w x h (inl e) = e
      still w x h (inr (inl e)) = never (s w) h (ap s e.0 ∙ na)
      still w x h (inr (inr e)) = never (s w) h (ap s e.0 ∙ nb)

      to : (w x : ℕ) → x < q.n → s w ≡ true → linked q w x ≡ true → number q w ≤ number q x → (over x ≡ true) ⊎ (over x ≡ false) → group x ≡ true
      to w x l h k r (inl m) = or_left (s x) (leb (suc j) (number p x)) (closed w x h m l k)
      to w x l h k r (inr m) =
          or_right (s x) (leb (suc j) (number p x)) (le-leb (suc j) (number p x) (omega (arith, r, same x l m, (moved w (sub w h)).1)))

      one : (w : ℕ) → w < p.n → (s w ≡ true) ⊎ (leb (suc j) (number p w) ≡ true) → suc j ≤ neighbours_in p w group
      one w l (inl h) =
          le_trans (le_of_eq (sym (moved w (sub w h)).1)) (le_trans (core_enough q (number q) (number_core q) w (rw (← apart.same_n) l))
          (neighbours_in_mono q p w (λ x. leb (number q w) (number q x)) group (sym apart.same_n)
          (λ x lx k r. (still w x h (adds_cases apart w x k), to w x lx h k (leb-true (number q w) (number q x) r) (bool_cases (over x))))))
      one w l (inr h) =
          le_trans (leb-true (suc j) (number p w) h) (le_trans (core_enough p (number p) (number_core p) w l)
          (neighbours_in_mono p p w (λ x. leb (number p w) (number p x)) group refl
          (λ x lx k r. (
            k,
            or_right (s x) (leb (suc j) (number p x))
                (le-leb (suc j) (number p x) (le_trans (leb-true (suc j) (number p w) h) (leb-true (number p w) (number p x) r))),
          ))))

      all : (w : ℕ) → w < p.n → group w ≡ true → suc j ≤ neighbours_in p w group
      all w l h = one w l (or_cases (s w) (leb (suc j) (number p w)) h)

  -- every changed radio reaches an end
  reaches_end : (v : ℕ) → over v ≡ true → Reachable q over v a ⊎ Reachable q over v b
  reaches_end v m = go (bool_cases (s a)) (bool_cases (s b))
    where
      s : ℕ → Bool
      s w = member w (reached q.n q over (v ∷ []))

      to : (w : ℕ) → s w ≡ true → Reachable q over v w
      to w h = (reached_iff q over v (below v m) w).0 h

      from : (w : ℕ) → Reachable q over v w → s w ≡ true
      from w r = (reached_iff q over v (below v m) w).1 r

      go : (s a ≡ true) ⊎ (s a ≡ false) → (s b ≡ true) ⊎ (s b ≡ false) → Reachable q over v a ⊎ Reachable q over v b
      go (inl e) f = inl (to a e)
      go (inr e) (inl f) = inr (to b f)
      go (inr e) (inr f) =
          absurd (no_end s (λ w h. reachable_passes m (to w h)) (λ w x h o l k. from x (onward (to w h) k l o)) e f v (from v here))

  -- connected through one another alone
  pub changed_connected : (v w : ℕ) → over v ≡ true → over w ≡ true → Reachable q over v w
  changed_connected v w mv mw = go (reaches_end v mv) (reaches_end w mw)
    where
      back : {x : ℕ} → Reachable q over w x → Reachable q over x w
      back r = reachable_sym (below w mw) mw r

      go : Reachable q over v a ⊎ Reachable q over v b → Reachable q over w a ⊎ Reachable q over w b → Reachable q over v w
      go (inl x) (inl y) = reachable_trans x (back y)
      go (inr x) (inr y) = reachable_trans x (back y)
      go (inl x) (inr y) = reachable_trans (onward x (adds_has apart) b_radio (reachable_passes mw y)) (back y)
      go (inr x) (inl y) =
          reachable_trans (onward x (linked_sym q b a ∙ adds_has apart) a_radio (reachable_passes mw y)) (back y)

  -- an end is among them
  pub changed_has_end : (v : ℕ) → over v ≡ true → (over a ≡ true) ⊎ (over b ≡ true)
  changed_has_end v m = ⊎_elim (λ x. inl (reachable_passes m x)) (λ x. inr (reachable_passes m x)) (reaches_end v m)
