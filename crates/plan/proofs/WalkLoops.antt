-- The loops of the walk's leaves, and what touching listed radios comes to: places due are kept, and each new one is the place of a listed
-- radio that stands later in the level.
use Rattle.std.specs.Prelude.{◌≡◌, ◌⊎◌, ◌∷◌, ◌++◌, ◌+◌, ◌-◌, ◌≤◌, ◌<◌}
use Rattle.lists.{specs.Kit.{refl, sym, ap, ◌∙◌, inl, inr, Bool, true, false, cond, List, [], ℕ, arith, eqb, length}}
use Rattle.lists.{specs.Kit.{get_or, take, drop, take-take, paste, eqb-true, eq-eqb, ne_eqb, lt-ltb, le-ltb}}
use Rattle.lists.{specs.Lists.{overwrite, In}, specs.Facts.{folded}, proofs.Tests.{bool_cases}, proofs.Member.{in_get_d}, proofs.Parts.{length_cond}}
use Rattle.lists.{proofs.Loops.{length_folded}}
use borrow.Rule.Slice.PartMut.{mid_of, put_mid, mid_len}
use Rattle.mesh.{specs.Limits.{max_radios}}
use Rattle.plan.proofs.{Pasted.{put_part}}
use Rattle.plan.specs.Walks.{is_later, place_touched, places_touched, Known}
use Rattle.plan.proofs.TurnLaws.{place_put}
use Rattle.rows.proofs.SetLaws.{length_put_in}
use Rattle.rows.specs.Sets.{in_set, put_in}

-- ---- listed radios

-- a listed radio is known
pub near_known : (near : List ℕ) (a b d i : ℕ) → i < length near → Known a b d near
    → (get_or near i 0 < a) × (get_or near i 0 < b) × (get_or near i 0 < d)
near_known near a b d i l h = h (get_or near i 0) (in_get_d near i l)

-- ---- passing

-- a part of ys copied over as long a part of xs
pub copied_part : (xs ys new : List ℕ) (front until at : ℕ) → front ≤ until → until ≤ length ys → at + (until - front) ≤ length xs
    → new ≡ overwrite (take (length (mid_of at (at + (until - front) - at) xs)) (mid_of front (until - front) ys)) (mid_of at (at + (until - front) - at) xs)
    → put_mid at (at + (until - front) - at) xs new ≡ paste xs at (drop front ys) (until - front)
copied_part xs ys new front until at low high room e =
    let m = until - front in
    let long : length (mid_of front m ys) ≡ m = mid_len front until ys high in
    put_part xs (mid_of front m ys) new at (at + m) (ap (λ (x : ℕ). at + x) long) room e
    ∙ ap (λ (x : ℕ). paste xs at (mid_of front m ys) x) long
    ∙ ap (λ (z : List ℕ). take at xs ++ z ++ drop (at + m) xs) (take-take m m (drop front ys) (omega arith))

-- ---- touching

module _ (k p : ℕ) (ns ps : List ℕ) where
  pub touched_put : (w : ℕ) (ds : List ℕ) → get_or ns w 0 ≡ k → p < get_or ps w 0 → put_in (get_or ps w 0) ds ≡ place_touched k p ns ps w ds
  unfolding place_touched is_later
  touched_put w ds e l = rw (eq-eqb (get_or ns w 0) k e, lt-ltb p (get_or ps w 0) l)

  pub touched_not : (w : ℕ) (ds : List ℕ) → (get_or ns w 0 ≡ k → ⊥) ⊎ ((get_or ns w 0 ≡ k) × (get_or ps w 0 ≤ p)) → ds ≡ place_touched k p ns ps w ds
  unfolding place_touched is_later
  touched_not w ds (inl e) = rw (ne_eqb (get_or ns w 0) k e)
  touched_not w ds (inr e) = rw (eq-eqb (get_or ns w 0) k e.0, le-ltb p (get_or ps w 0) e.1)

  pub length_place_touched : (w : ℕ) (ds : List ℕ) → length (place_touched k p ns ps w ds) ≡ length ds
  unfolding place_touched
  length_place_touched w ds = length_cond (is_later k p ns ps w) (put_in (get_or ps w 0) ds) ds (length_put_in (get_or ps w 0) ds)

  pub length_touched : (near ds : List ℕ) → length (places_touched k p ns ps near ds) ≡ length ds
  unfolding places_touched
  length_touched near ds = length_folded (place_touched k p ns ps) length_place_touched near ds

  put_keeps : (v : ℕ) (ds : List ℕ) → length ds ≡ 8 → (is_later k p ns ps v ≡ true → get_or ps v 0 < max_radios) → (q : ℕ) → q < max_radios
      → in_set ds q ≡ true → (t : Bool) → is_later k p ns ps v ≡ t → in_set (cond t (put_in (get_or ps v 0) ds) ds) q ≡ true
  put_keeps v ds long small q lq m true s = place_put (get_or ps v 0) q ds long (small s) ∙ go (eqb (get_or ps v 0) q)
    where
      go : (b : Bool) → cond b true (in_set ds q) ≡ true
      go true = refl
      go false = m
  put_keeps v ds long small q lq m false s = m

  -- listed radios that stand later have a place in a row
  abbrev pub Small : List ℕ → Type 0
  Small near = (w : ℕ) → In w near → is_later k p ns ps w ≡ true → get_or ps w 0 < max_radios

  pub touched_keeps : (near ds : List ℕ) → Small near → length ds ≡ 8 → (q : ℕ) → q < max_radios → in_set ds q ≡ true
      → in_set (places_touched k p ns ps near ds) q ≡ true
  unfolding places_touched folded place_touched
  touched_keeps [] ds small long q lq m = m
  touched_keeps (v ∷ vs) ds small long q lq m =
      touched_keeps vs (cond (is_later k p ns ps v) (put_in (get_or ps v 0) ds) ds) (λ w i. small w (inr i)) (length_place_touched v ds ∙ long) q lq
      (put_keeps v ds long (small v (inl refl)) q lq m (is_later k p ns ps v) refl)

  pub touched_marks : (near ds : List ℕ) → Small near → length ds ≡ 8 → (w : ℕ) → In w near → is_later k p ns ps w ≡ true
      → in_set (places_touched k p ns ps near ds) (get_or ps w 0) ≡ true
  unfolding places_touched folded place_touched
  touched_marks [] ds small long w x4 t = elim x4 [ ]
  touched_marks (v ∷ vs) ds small long w (inl s) t =
      let lw = small w (inl s) t in
      touched_keeps vs (cond (is_later k p ns ps v) (put_in (get_or ps v 0) ds) ds) (λ u i. small u (inr i)) (length_place_touched v ds ∙ long) (get_or ps w 0) lw
      (rw s (rw t (place_put (get_or ps w 0) (get_or ps w 0) ds long lw ∙ rw (eq-eqb (get_or ps w 0) (get_or ps w 0) refl))))
  touched_marks (v ∷ vs) ds small long w (inr m) t =
      touched_marks vs (cond (is_later k p ns ps v) (put_in (get_or ps v 0) ds) ds) (λ u i. small u (inr i)) (length_place_touched v ds ∙ long) w m t

  pub touched_only : (near ds : List ℕ) → Small near → length ds ≡ 8 → (q : ℕ) → q < max_radios
      → in_set (places_touched k p ns ps near ds) q ≡ true
      → (in_set ds q ≡ true) ⊎ ((w : ℕ) × In w near × (is_later k p ns ps w ≡ true) × (get_or ps w 0 ≡ q))
  unfolding places_touched folded place_touched
  touched_only [] ds small long q lq m = inl m
  touched_only (v ∷ vs) ds small long q lq m =
      one (touched_only vs (cond (is_later k p ns ps v) (put_in (get_or ps v 0) ds) ds) (λ w i. small w (inr i)) (length_place_touched v ds ∙ long) q lq m)
    where
      put : (t : Bool) → is_later k p ns ps v ≡ t → in_set (cond t (put_in (get_or ps v 0) ds) ds) q ≡ true
          → (eqb (get_or ps v 0) q ≡ true) ⊎ (eqb (get_or ps v 0) q ≡ false)
          → (in_set ds q ≡ true) ⊎ ((w : ℕ) × In w (v ∷ vs) × (is_later k p ns ps w ≡ true) × (get_or ps w 0 ≡ q))
      put true t u (inl s) = inr (v, inl refl, t, eqb-true (get_or ps v 0) q s)
      put true t u (inr s) =
          inl (sym (place_put (get_or ps v 0) q ds long (small v (inl refl) t) ∙ ap (λ (b : Bool). cond b true (in_set ds q)) s) ∙ u)
      put false t u s = inl u

      one : (in_set (cond (is_later k p ns ps v) (put_in (get_or ps v 0) ds) ds) q ≡ true) ⊎
          ((w : ℕ) × In w vs × (is_later k p ns ps w ≡ true) × (get_or ps w 0 ≡ q))
          → (in_set ds q ≡ true) ⊎ ((w : ℕ) × In w (v ∷ vs) × (is_later k p ns ps w ≡ true) × (get_or ps w 0 ≡ q))
      one (inl u) = put (is_later k p ns ps v) refl u (bool_cases (eqb (get_or ps v 0) q))
      one (inr (w, m, t, s)) = inr (w, inr m, t, s)
