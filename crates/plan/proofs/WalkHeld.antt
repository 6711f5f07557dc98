-- What a turn of the walk that holds a radio writes into its tables, as the turns of crate walks ask it: its counter, and the places of its
-- later neighbours.
use Rattle.std.specs.Prelude.{◌≡◌, ◌⊎◌, ◌+◌, ◌-◌, ◌<◌}
use Rattle.lists.{specs.Kit.{refl, sym, ◌∙◌, inl, inr, Bool, true, false, List, ℕ, arith, length, get_or, set, ne_eqb, get_or-set_same}}
use Rattle.lists.{specs.Kit.{get_or-set_other}, specs.Lists.{In}, proofs.Tests.{bool_cases}, proofs.Member.{member_in}}
use Rattle.mesh.{specs.Limits.{max_radios}, specs.Tables.{marked}}
use Rattle.rows.{specs.Rows.{neighbours_of}, proofs.RowListLaws.{in_neighbours_of, member_neighbours_of}}
use Rattle.plan.proofs.{TurnLaws.{cleared_other}, WalkLoops.{Small, length_touched, touched_keeps, touched_marks, touched_only}}
use Rattle.walks.proofs.Turns.{Held}
use Rattle.plan.specs.Walks.{is_later, places_touched}
use Rattle.plan.proofs.TurnLaws.{place_out}
use Rattle.rows.proofs.SetLaws.{length_take_out, in_set_radio}
use Rattle.rows.specs.Sets.{in_set, take_out}

module _ (f : ℕ → ℕ → Bool) (most first : ℕ) (above part ns ps : List ℕ) (x p c : ℕ) (us : List ℕ)
    (row_is : (w : ℕ) → w < max_radios → marked us x w ≡ f x w) (within : (w : ℕ) → f x w ≡ true → w < max_radios) (cs fs : List ℕ)
    (known : x < length cs) (long : length fs ≡ 8) (lp : first + p < max_radios) (later : List ℕ)
    (stands : (w : ℕ) → In w later → (first + p < get_or ps w 0) × (is_later most (first + p) ns ps w ≡ true))
    (back : (w : ℕ) → f x w ≡ true → is_later most (first + p) ns ps w ≡ true → In w later)
    (low : (w : ℕ) → In w later → get_or ps w 0 < max_radios) where
  abbrev near : List ℕ
  near = neighbours_of us x

  abbrev pos : ℕ → ℕ
  pos v = get_or ps v 0 - first

  abbrev fs0 : List ℕ
  fs0 = take_out (first + p) fs

  abbrev fs1 : List ℕ
  fs1 = places_touched most (first + p) ns ps near fs0

  long0 : length fs0 ≡ 8
  long0 = length_take_out (first + p) fs ∙ long

  long1 : length fs1 ≡ 8
  long1 = length_touched most (first + p) ns ps near fs0 ∙ long0

  near_joined : (w : ℕ) → In w near → f x w ≡ true
  near_joined w m = let r = in_neighbours_of us x w m in sym (row_is w r.0) ∙ r.1

  small : Small most (first + p) ns ps near
  small w m t = low w (back w (near_joined w m) t)

  only_at : (q : ℕ) → in_set fs1 (first + q) ≡ true → ((q ≡ p → ⊥) × (in_set fs (first + q) ≡ true)) ⊎ ((w : ℕ) × In w later × (pos w ≡ q))
  only_at q t = go (touched_only most (first + p) ns ps near fs0 small long0 (first + q) l t)
    where
      l : first + q < max_radios
      l = in_set_radio fs1 (first + q) long1 t

      go : (in_set fs0 (first + q) ≡ true) ⊎ ((w : ℕ) × In w near × (is_later most (first + p) ns ps w ≡ true) × (get_or ps w 0 ≡ first + q))
          → ((q ≡ p → ⊥) × (in_set fs (first + q) ≡ true)) ⊎ ((w : ℕ) × In w later × (pos w ≡ q))
      go (inl u) = inl (cleared_other first p q fs long lp l u)
      go (inr (w, m, u, e)) = inr (w, back w (near_joined w m) u, omega arith)

  pub held_is : Held f most above part pos x p c later (λ v. get_or cs v 0) (λ v. get_or (set cs x c) v 0) (λ q. in_set fs (first + q))
      (λ q. in_set fs1 (first + q))
  held_is = record {
    own = get_or-set_same cs x c 0 known;
    other = λ w ne. get_or-set_other cs x w c 0 ne;
    cleared = next_false (bool_cases (in_set fs1 (first + p)));
    kept = λ q ne t. (let l = in_set_radio fs (first + q) long t in
        touched_keeps most (first + p) ns ps near fs0 small long0 (first + q) l
        (place_out (first + p) (first + q) fs long lp ∙ rw (ne_eqb (first + p) (first + q) (λ s. ne (omega arith))) t));
    touches = λ w m e. (let s = stands w m in
        let is : first + (get_or ps w 0 - first) ≡ get_or ps w 0 = omega (arith, s.0) in
        rw is (touched_marks most (first + p) ns ps near fs0 small long0 w
        (member_in w near (member_neighbours_of us x w (within w e) ∙ row_is w (within w e) ∙ e)) s.1));
    only = only_at;
  }
    where
      not_p : ((p ≡ p → ⊥) × (in_set fs (first + p) ≡ true)) ⊎ ((w : ℕ) × In w later × (pos w ≡ p)) → ⊥
      not_p (inl q) = q.0 refl
      not_p (inr (w, m, e)) = omega (arith, (stands w m).0)

      next_false : (in_set fs1 (first + p) ≡ true) ⊎ (in_set fs1 (first + p) ≡ false) → in_set fs1 (first + p) ≡ false
      next_false (inl t) = absurd (not_p (only_at p t))
      next_false (inr t) = t
