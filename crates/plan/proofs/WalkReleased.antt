-- What a turn of the walk that takes a radio writes into its tables, as the turns of crate walks ask it: `turn::release` has the table of
-- candidates in the place of the numbers.
use Rattle.std.specs.Prelude.{◌≡◌, ◌⊎◌, ◌&&◌, ◌||◌, ◌∷◌, ◌+◌, ◌-◌, ◌≤◌, ◌<◌}
use Rattle.lists.{specs.Kit.{refl, sym, ap, ◌∙◌, inl, inr, Bool, true, false, cond, or-true, List, [], ℕ}}
use Rattle.lists.{specs.Kit.{arith, eqb, length, get_or, eqb-true, eq-eqb, ne_eqb}, specs.Lists.{member, In}}
use Rattle.lists.{proofs.Tests.{bool_cases, never, and_left, and_right, or_cases}, proofs.Member.{member_in, in_member}}
use Rattle.mesh.{specs.Limits.{max_radios}, specs.Tables.{marked}}
use Rattle.rows.{specs.Rows.{neighbours_of}, proofs.RowListLaws.{in_neighbours_of, member_neighbours_of}}
use Rattle.plan.specs.Turns.{counter_less, released, place_marked, places_released, Releasable}
use Rattle.plan.proofs.{TurnLoops.{length_place_marked, length_places_released, releasable_tail}, TurnLaws.{cleared_other, get_d_released}}
use Rattle.plan.proofs.{TurnLaws.{marked_released, marked_released_place}}
use Rattle.walks.proofs.Turns.{Released}
use Rattle.plan.proofs.TurnLaws.{place_put, place_out}
use Rattle.rows.proofs.SetLaws.{length_take_out, in_set_radio}
use Rattle.rows.specs.Sets.{in_set, put_in, take_out}

module _ (ns ps : List ℕ) (k m : ℕ) (small : (v : ℕ) → v < length ns → get_or ns v 0 ≡ k → get_or ps v 0 < max_radios) where
  -- marks are only added
  released_keeps : (near cs fs : List ℕ) → length fs ≡ 8 → Releasable ns ps k near cs → (q : ℕ) → q < max_radios
      → in_set fs q ≡ true → in_set (places_released ns ps k m near cs fs) q ≡ true
  unfolding places_released place_marked
  released_keeps [] cs fs e h q lq t = t
  released_keeps (v ∷ vs) cs fs e h q lq t =
      let less = counter_less ns k v cs in
      released_keeps vs less (place_marked ns ps k m v less fs) (length_place_marked ns ps k m v less fs ∙ e) (releasable_tail ns ps k v vs cs h) q lq
      (one (eqb (get_or ns v 0) k && eqb (get_or less v 0) m) refl)
    where
      put : (b : Bool) → cond b true (in_set fs q) ≡ true
      put true = refl
      put false = t

      one : (b : Bool) → (eqb (get_or ns v 0) k && eqb (get_or (counter_less ns k v cs) v 0) m) ≡ b → in_set (cond b (put_in (get_or ps v 0) fs) fs) q ≡ true
      one true s =
          let at_level = eqb-true (get_or ns v 0) k (and_left (eqb (get_or ns v 0) k) (eqb (get_or (counter_less ns k v cs) v 0) m) s) in
          place_put (get_or ps v 0) q fs e (small v (h.known v (inl refl)).0 at_level) ∙ put (eqb (get_or ps v 0) q)
      one false s = t

-- hs marks the candidates by 1; the part starts at place `first`
module _ (f : ℕ → ℕ → Bool) (most first : ℕ) (above part hs ps : List ℕ)
    (stands : (v : ℕ) → v < length hs → get_or hs v 0 ≡ 1 → (first ≤ get_or ps v 0) × (get_or ps v 0 < max_radios))
    (apart : (v w : ℕ) → v < length hs → w < length hs → get_or hs v 0 ≡ 1 → get_or hs w 0 ≡ 1 → get_or ps v 0 ≡ get_or ps w 0 → v ≡ w)
    (x : ℕ) (us : List ℕ) (row_is : (w : ℕ) → w < max_radios → marked us x w ≡ f x w) (within : (w : ℕ) → f x w ≡ true → w < max_radios)
    (cs fs : List ℕ) (long : length fs ≡ 8) (ready : Releasable hs ps 1 (neighbours_of us x) cs) (p : ℕ) (lp : first + p < max_radios) where
  abbrev near : List ℕ
  near = neighbours_of us x

  abbrev pos : ℕ → ℕ
  pos v = get_or ps v 0 - first

  abbrev mark : ℕ → Bool
  mark v = eqb (get_or hs v 0) 1

  abbrev cs1 : List ℕ
  cs1 = released hs 1 near cs

  abbrev fs0 : List ℕ
  fs0 = take_out (first + p) fs

  abbrev fs1 : List ℕ
  fs1 = places_released hs ps 1 most near cs fs0

  long0 : length fs0 ≡ 8
  long0 = length_take_out (first + p) fs ∙ long

  small : (v : ℕ) → v < length hs → get_or hs v 0 ≡ 1 → get_or ps v 0 < max_radios
  small v l e = (stands v l e).1

  near_is : (w : ℕ) → w < max_radios → member w near ≡ f x w
  near_is w l = member_neighbours_of us x w l ∙ row_is w l

  near_in : (w : ℕ) → f x w ≡ true → In w near
  near_in w e = member_in w near (near_is w (within w e) ∙ e)

  place_is : (w : ℕ) → f x w ≡ true → mark w ≡ true → first + pos w ≡ get_or ps w 0
  place_is w e a = omega (arith, (stands w (ready.known w (near_in w e)).0 (eqb-true (get_or hs w 0) 1 a)).0)

  at_place : (w : ℕ) → w < length hs → mark w ≡ true → in_set fs1 (get_or ps w 0) ≡ (in_set fs0 (get_or ps w 0) || (member w near && eqb (get_or cs1 w 0) most))
  at_place w l a = marked_released_place hs ps 1 most small apart near cs fs0 long0 ready w l (eqb-true (get_or hs w 0) 1 a)

  pub released_is : Released f most above part pos x p mark (λ v. get_or cs v 0) (λ v. get_or cs1 v 0) (λ q. in_set fs (first + q)) (λ q. in_set fs1 (first + q))
  released_is = record {
    less = λ w a e. omega (arith, get_d_released hs 1 ps near cs ready w, bit w (in_member w near (near_in w e)) a);
    same = λ w e. omega (arith, get_d_released hs 1 ps near cs ready w, no_bit w e);
    falls = λ w a e z. rw (place_is w e a) (at_place w (ready.known w (near_in w e)).0 a ∙ rw
        (in_member w near (near_in w e), eq-eqb (get_or cs1 w 0) most z) (or-true (in_set fs0 (get_or ps w 0))));
    kept = kept;
    only = only;
  }
    where
      bit : (w : ℕ) → member w near ≡ true → mark w ≡ true → cond {A = ℕ} (member w near && mark w) 1 0 ≡ 1
      bit w a b = rw (a, b)

      no_bit : (w : ℕ) → (mark w ≡ false) ⊎ (f x w ≡ false) → cond {A = ℕ} (member w near && mark w) 1 0 ≡ 0
      no_bit w (inl a) = go (member w near)
        where
          go : (t : Bool) → cond {A = ℕ} (t && mark w) 1 0 ≡ 0
          go true = rw a
          go false = refl
      no_bit w (inr a) = go (bool_cases (member w near))
        where
          go : (member w near ≡ true) ⊎ (member w near ≡ false) → cond {A = ℕ} (member w near && mark w) 1 0 ≡ 0
          go (inl e) = never (f x w) (linked (member_in w near e)) a
            where
              linked : In w near → f x w ≡ true
              linked m = let r = in_neighbours_of us x w m in sym (row_is w r.0) ∙ r.1
          go (inr e) = rw e

      kept : (q : ℕ) → (q ≡ p → ⊥) → in_set fs (first + q) ≡ true → in_set fs1 (first + q) ≡ true
      kept q ne t =
          let l = in_set_radio fs (first + q) long t in
          released_keeps hs ps 1 most small near cs fs0 long0 ready (first + q) l
          (place_out (first + p) (first + q) fs long lp ∙ rw (ne_eqb (first + p) (first + q) (λ s. ne (omega arith))) t)

      only : (q : ℕ) → in_set fs1 (first + q) ≡ true
          → ((q ≡ p → ⊥) × (in_set fs (first + q) ≡ true)) ⊎ ((w : ℕ) × (mark w ≡ true) × (f x w ≡ true) × (get_or cs1 w 0 ≡ most) × (pos w ≡ q))
      only q t = go (marked_released hs ps 1 most small near cs fs0 long0 ready (first + q) l t)
        where
          l : first + q < max_radios
          l = in_set_radio fs1 (first + q) (length_places_released hs ps 1 most near cs fs0 ∙ long0) t

          new : (w : ℕ) → w < length hs → mark w ≡ true → get_or ps w 0 ≡ first + q
              → (in_set fs0 (get_or ps w 0) ≡ true) ⊎ ((member w near && eqb (get_or cs1 w 0) most) ≡ true)
              → ((q ≡ p → ⊥) × (in_set fs (first + q) ≡ true)) ⊎ ((w : ℕ) × (mark w ≡ true) × (f x w ≡ true) × (get_or cs1 w 0 ≡ most) × (pos w ≡ q))
          new w lw a e (inl u) = inl (cleared_other first p q fs long lp l (rw e at u))
          new w lw a e (inr u) =
              let m = in_neighbours_of us x w (member_in w near (and_left (member w near) (eqb (get_or cs1 w 0) most) u)) in
              inr (w, a, sym (row_is w m.0) ∙ m.1, eqb-true (get_or cs1 w 0) most (and_right (member w near) (eqb (get_or cs1 w 0) most) u), omega arith)

          go : (in_set fs0 (first + q) ≡ true) ⊎ ((w : ℕ) × (w < length hs) × (get_or hs w 0 ≡ 1) × (get_or ps w 0 ≡ first + q))
              → ((q ≡ p → ⊥) × (in_set fs (first + q) ≡ true)) ⊎ ((w : ℕ) × (mark w ≡ true) × (f x w ≡ true) × (get_or cs1 w 0 ≡ most) × (pos w ≡ q))
          go (inl u) = inl (cleared_other first p q fs long lp l u)
          go (inr (w, lw, a, e)) =
              let b : mark w ≡ true = eq-eqb (get_or hs w 0) 1 a in
              new w lw b e (or_cases (in_set fs0 (get_or ps w 0)) (member w near && eqb (get_or cs1 w 0) most) (sym (at_place w lw b) ∙ ap (in_set fs1) e ∙ t))
