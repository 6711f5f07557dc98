-- The turns of the walk, on plain values: counters of the candidates and the places due. A turn takes a radio (back, or where it
-- stands) or holds one as a candidate; the walk stays a run of the peel.
--   Walking      so many radios are taken, how far the front is, the counters and the places due
--   Released     what taking x writes: candidates among its neighbours lose one, and are due when they fall short
--   Held         what holding x writes: its counter, and its later neighbours of the part are due
--   turn_leave   x is taken
--   turn_hold    x is held
use Rattle.std.specs.Prelude.{◌≡◌, ◌⊎◌, ◌&&◌, ◌∷◌, ◌++◌, ◌+◌, ◌≤◌, ◌<◌}
use Rattle.lists.{specs.Kit.{refl, sym, ap, ◌∙◌, inl, inr, Bool, true, false, not, cond, List, [], append-nil, append_assoc, ℕ}}
use Rattle.lists.{specs.Kit.{zero, suc, arith, add-zero, add-suc, le_antisymm, ltb, leb, eqb, length, get_or, take, drop, length-drop}}
use Rattle.lists.{specs.Kit.{length-append, take-append-drop, drop_of_length-le, drop-cons, get_or-drop, take_at, take_all, take-suc, leb-true, leb-false}}
use Rattle.lists.{specs.Kit.{le-leb, lt-leb, eqb-true, eqb-false, ltb-true, ltb-false, lt-ltb, le-ltb, not-true}, specs.Lists.{range, count, filter, member}}
use Rattle.lists.{specs.Lists.{In}, specs.Facts.{Distinct, Rising}, proofs.Tests.{bool_cases, never, and_left, and_right, and_both, bit_true, bit_false}}
use Rattle.lists.{proofs.Member.{in_left, in_right, in_cases, in_drop, split_in, member_in, in_member, not_member, get_d_of_in, in_get_d}}
use Rattle.lists.{proofs.Count.{count_append, count_mid, count_none, count_all}, proofs.Filter.{filter_all, filter_none, filter_ext, filter_append}}
use Rattle.lists.{proofs.Distinct.{count_sub, distinct_left, distinct_mid, distinct_right, distinct_apart, permutation_in, permutation_distinct}}
use Rattle.lists.{proofs.Range.{in_range, range_in, distinct_range}, proofs.Ascending.{rising_filter, rising_before}}
use Rattle.mesh.{specs.Peel.{Takes, none, Peels}, proofs.Links.Peel.{takes_permutation, takes_now_in, takes_now_filter}}
use Rattle.walks.specs.Walk.{Part, left_of, Walking, FewFront}
use Rattle.walks.proofs.Front.{walk_back, walk_take, walk_hold, walk_stop, walk_end}

-- is v an entry of xs
in_or_not : (v : ℕ) (xs : List ℕ) → In v xs ⊎ (In v xs → ⊥)
in_or_not v xs = go (bool_cases (member v xs))
  where
    go : (member v xs ≡ true) ⊎ (member v xs ≡ false) → In v xs ⊎ (In v xs → ⊥)
    go (inl e) = inl (member_in v xs e)
    go (inr e) = inr (λ m. never (member v xs) (in_member v xs m) e)

module _ (f : ℕ → ℕ → Bool) (most : ℕ) (above part : List ℕ) (pos : ℕ → ℕ) where
  abbrev left : (held : List ℕ) → (front v : ℕ) → ℕ
  left held front v = left_of f most above part pos held front v

  abbrev Walks : (taken : List ℕ) (front : ℕ) (mark : ℕ → Bool) (counter : ℕ → ℕ) (due : ℕ → Bool) → Type 0
  Walks taken front mark counter due = Walking f most above part pos taken front mark counter due

  -- `mark` tells the candidates after x is gone
  pub record Released (x p : ℕ) (mark : ℕ → Bool) (counter new : ℕ → ℕ) (due next : ℕ → Bool) : Type 0 where
    pub less : (w : ℕ) → mark w ≡ true → f x w ≡ true → suc (new w) ≡ counter w
    pub same : (w : ℕ) → (mark w ≡ false) ⊎ (f x w ≡ false) → new w ≡ counter w
    pub falls : (w : ℕ) → mark w ≡ true → f x w ≡ true → new w ≡ most → next (pos w) ≡ true
    pub kept : (q : ℕ) → (q ≡ p → ⊥) → due q ≡ true → next q ≡ true
    pub only :
        (q : ℕ) → next q ≡ true →
        ((q ≡ p → ⊥) × (due q ≡ true)) ⊎ ((w : ℕ) × (mark w ≡ true) × (f x w ≡ true) × (new w ≡ most) × (pos w ≡ q))

  pub record Held (x p : ℕ) (c : ℕ) (later : List ℕ) (counter new : ℕ → ℕ) (due next : ℕ → Bool) : Type 0 where
    pub own : new x ≡ c
    pub other : (w : ℕ) → (w ≡ x → ⊥) → new w ≡ counter w
    pub cleared : next p ≡ false
    pub kept : (q : ℕ) → (q ≡ p → ⊥) → due q ≡ true → next q ≡ true
    pub touches : (w : ℕ) → In w later → f x w ≡ true → next (pos w) ≡ true
    pub only : (q : ℕ) → next q ≡ true → ((q ≡ p → ⊥) × (due q ≡ true)) ⊎ ((w : ℕ) × In w later × (pos w ≡ q))

  module _ (P : Part f part pos) where
    pub in_part : (v : ℕ) → In v part → (pos v < length part) × (get_or part (pos v) 0 ≡ v)
    in_part v m =
        let r = get_d_of_in v part m in
        let e : pos v ≡ r.0 = ap pos (sym r.2) ∙ P.placed r.0 r.1 in
        (omega (arith, r.1), ap (λ (i : ℕ). get_or part i 0) e ∙ r.2)

    pub same_place : (v w : ℕ) → In v part → In w part → pos v ≡ pos w → v ≡ w
    same_place v w m q e = sym (in_part v m).1 ∙ ap (λ (i : ℕ). get_or part i 0) e ∙ (in_part w q).1

    pub in_rest : (k v : ℕ) → In v (drop k part) → (k ≤ pos v) × (pos v < length part)
    in_rest k v m =
        let r = get_d_of_in v (drop k part) m in
        let l : k + r.0 < length part = omega (arith, r.1, length-drop k part) in
        let e : pos v ≡ k + r.0 = ap pos (sym r.2 ∙ get_or-drop k part r.0 0) ∙ P.placed (k + r.0) l in
        (omega arith, omega arith)

    module _ {taken : List ℕ} {front : ℕ} {mark : ℕ → Bool} {counter : ℕ → ℕ} {due : ℕ → Bool} (h : Walks taken front mark counter due) where
      abbrev rest : List ℕ
      rest = drop front part

      left_distinct : Distinct (h.held ++ rest)
      left_distinct =
          distinct_right taken (h.held ++ rest)
          (permutation_distinct (taken ++ (h.held ++ rest)) part (λ g. sym (takes_permutation f most above h.takes g)) P.distinct)

      left_rises : Rising pos (h.held ++ rest)
      left_rises =
          rw (takes_now_filter f most above P.distinct h.takes) (rising_filter pos (λ v. member v (h.held ++ rest)) part P.rises)

      pub held_part : (v : ℕ) → In v h.held → In v part
      held_part v m = takes_now_in f most above h.takes v (in_left v h.held rest m)

      not_due_full : (v : ℕ) → In v h.held → due (pos v) ≡ false → most < left h.held front v
      not_due_full v m e = omega (arith, h.exact v m, leb-false (counter v) most (sym (h.fits v m) ∙ e))

      due_short : (v : ℕ) → In v h.held → due (pos v) ≡ true → counter v ≤ most
      due_short v m e = leb-true (counter v) most (sym (h.fits v m) ∙ e)

      -- ---- x is taken: back, or where it stands

      module _ (x : ℕ) {mark1 : ℕ → Bool} {new : ℕ → ℕ} {next : ℕ → Bool} (r : Released x (pos x) mark1 counter new due next) (held1 : List ℕ) (front1 : ℕ)
          (takes1 : Takes f most above part (taken ++ (x ∷ [])) (held1 ++ drop front1 part)) (room1 : front1 ≤ length part)
          (forward : (front ≤ front1) × (pos x < front1)) (passes : (p : ℕ) → p < front1 → (p ≡ pos x) ⊎ (p < front))
          (loses : (g : ℕ → Bool) → count g (h.held ++ rest) ≡ cond (g x) 1 0 + count g (held1 ++ drop front1 part))
          (stays : (v : ℕ) → In v held1 → In v h.held × (v ≡ x → ⊥)) (goes : (v : ℕ) → In v h.held → (v ≡ x) ⊎ In v held1)
          (later : (w : ℕ) → In w (drop front1 part) → In w rest) (x_part : In x part) (x_spent : counter x ≤ most)
          (marks1 : (v : ℕ) → mark1 v ≡ member v held1) where
        left_less : (v : ℕ) → left h.held front v ≡ cond (f v x) 1 0 + left held1 front1 v
        left_less v = omega (arith, loses (f v))

        marked_held : (v : ℕ) → mark1 v ≡ true → In v held1
        marked_held v e = member_in v held1 (sym (marks1 v) ∙ e)

        held_marked : (v : ℕ) → In v held1 → mark1 v ≡ true
        held_marked v m = marks1 v ∙ in_member v held1 m

        exact1 : (v : ℕ) → In v held1 → new v ≡ left held1 front1 v
        exact1 v m = go (bool_cases (f x v))
          where
            was : counter v ≡ left h.held front v
            was = h.exact v (stays v m).0

            go : (f x v ≡ true) ⊎ (f x v ≡ false) → new v ≡ left held1 front1 v
            go (inl a) = omega (arith, was, r.less v (held_marked v m) a, left_less v, bit_true (f v x) (P.symmetric v x ∙ a))
            go (inr a) = omega (arith, was, r.same v (inr a), left_less v, bit_false (f v x) (P.symmetric v x ∙ a))

        new_less : (v : ℕ) → In v held1 → new v ≤ counter v
        new_less v m = omega (arith, exact1 v m, h.exact v (stays v m).0, left_less v)

        not_x : (v : ℕ) → In v held1 → pos v ≡ pos x → ⊥
        not_x v m e = (stays v m).1 (same_place v x (held_part v (stays v m).0) x_part e)

        fits1 : (v : ℕ) → In v held1 → next (pos v) ≡ leb (new v) most
        fits1 v m = go (bool_cases (next (pos v)))
          where
            i : In v h.held
            i = (stays v m).0

            yes : ((pos v ≡ pos x → ⊥) × (due (pos v) ≡ true)) ⊎ ((w : ℕ) × (mark1 w ≡ true) × (f x w ≡ true) × (new w ≡ most) × (pos w ≡ pos v)) → new v ≤ most
            yes (inl q) = omega (arith, new_less v m, due_short v i q.1)
            yes (inr (w, a, b, c, d)) =
                let same : w ≡ v = same_place w v (held_part w (stays w (marked_held w a)).0) (held_part v i) d in omega (arith, ap new same)

            full : next (pos v) ≡ false → (due (pos v) ≡ true) ⊎ (due (pos v) ≡ false) → (f x v ≡ true) ⊎ (f x v ≡ false)
                → (eqb (new v) most ≡ true) ⊎ (eqb (new v) most ≡ false) → most < new v
            full e (inl q) a b = never (next (pos v)) (r.kept (pos v) (not_x v m) q) e
            full e (inr q) (inl a) (inl b) = never (next (pos v)) (r.falls v (held_marked v m) a (eqb-true (new v) most b)) e
            full e (inr q) (inl a) (inr b) =
                omega (arith, not_due_full v i q, h.exact v i, r.less v (held_marked v m) a, eqb-false (new v) most b)
            full e (inr q) (inr a) b = omega (arith, not_due_full v i q, h.exact v i, r.same v (inr a))

            go : (next (pos v) ≡ true) ⊎ (next (pos v) ≡ false) → next (pos v) ≡ leb (new v) most
            go (inl e) = e ∙ sym (le-leb (new v) most (yes (r.only (pos v) e)))
            go (inr e) = e ∙ sym (lt-leb (new v) most (full e (bool_cases (due (pos v))) (bool_cases (f x v)) (bool_cases (eqb (new v) most))))

        spent1 : (v : ℕ) → (In v held1 → ⊥) → new v ≤ most
        spent1 v out = omega (arith, r.same v (inl (marks1 v ∙ not_member v held1 out)), go (in_or_not v h.held))
          where
            at : (v ≡ x) ⊎ In v held1 → counter v ≤ most
            at (inl e) = omega (arith, ap counter e, x_spent)
            at (inr m) = absurd (out m)

            go : In v h.held ⊎ (In v h.held → ⊥) → counter v ≤ most
            go (inl m) = at (goes v m)
            go (inr m) = h.spent v m

        fallen1 : (p : ℕ) → p < front1 → next p ≡ true → In (get_or part p 0) held1
        fallen1 p l e = go (r.only p e)
          where
            old : (p ≡ pos x → ⊥) → due p ≡ true → (p ≡ pos x) ⊎ (p < front) → In (get_or part p 0) held1
            old ne d (inl q) = absurd (ne q)
            old ne d (inr q) = at (goes (get_or part p 0) (h.fallen p q d))
              where
                at : (get_or part p 0 ≡ x) ⊎ In (get_or part p 0) held1 → In (get_or part p 0) held1
                at (inl z) = absurd (ne (sym (P.placed p (h.inside p d)) ∙ ap pos z))
                at (inr z) = z

            go : ((p ≡ pos x → ⊥) × (due p ≡ true)) ⊎ ((w : ℕ) × (mark1 w ≡ true) × (f x w ≡ true) × (new w ≡ most) × (pos w ≡ p)) → In (get_or part p 0) held1
            go (inl q) = old q.0 q.1 (passes p l)
            go (inr (w, a, b, c, d)) =
                let i = marked_held w a in
                let is : get_or part p 0 ≡ w = ap (λ (z : ℕ). get_or part z 0) (sym d) ∙ (in_part w (held_part w (stays w i).0)).1 in rw is i

        inside1 : (p : ℕ) → next p ≡ true → p < length part
        inside1 p e = go (r.only p e)
          where
            go : ((p ≡ pos x → ⊥) × (due p ≡ true)) ⊎ ((w : ℕ) × (mark1 w ≡ true) × (f x w ≡ true) × (new w ≡ most) × (pos w ≡ p)) → p < length part
            go (inl q) = h.inside p q.1
            go (inr (w, a, b, c, d)) = omega (arith, (in_part w (held_part w (stays w (marked_held w a)).0)).0)

        pub turn_leave : Walks (taken ++ (x ∷ [])) front1 mark1 new next
        turn_leave = record {
          held = held1;
          takes = takes1;
          room = room1;
          behind = λ v m. omega (arith, h.behind v (stays v m).0, forward.0);
          marks = marks1;
          exact = exact1;
          fits = fits1;
          spent = spent1;
          fallen = fallen1;
          inside = inside1;
          touched = λ v w m i e. r.kept (pos w) (λ q. omega (arith, (in_rest front1 w i).0, forward.1)) (h.touched v w (stays v m).0 (later w i) e);
        }

      -- ---- what stands at the front, when no place before it is due

      module _ (front_below : front < length part) (none : (p : ℕ) → p < front → due p ≡ false) where
        abbrev x : ℕ
        x = get_or part front 0

        abbrev after : List ℕ
        after = drop (suc front) part

        x_place : pos x ≡ front
        x_place = P.placed front front_below

        cut : rest ≡ x ∷ after
        cut = drop-cons part front 0 front_below

        front_in : (w : ℕ) → In w after → In w rest
        front_in w m = rw cut (inr m)

        not_front : (v : ℕ) → In v h.held → v ≡ x → ⊥
        not_front v m e = omega (arith, h.behind v m, ap pos e, x_place)

        not_due : (v : ℕ) → In v h.held → due (pos v) ≡ false
        not_due v m = none (pos v) (h.behind v m)

        takes_now : Takes f most above part taken (h.held ++ x ∷ after)
        takes_now = rw cut at h.takes

        all_full : (w : ℕ) → In w h.held → most < count (f w) (h.held ++ x ∷ after) + count (f w) above
        all_full w m = rw (← cut) (not_due_full w m (not_due w m))

        -- what x has left, counted among the radios below n: entries of the part or above that are not taken
        module _ (once : Distinct (part ++ above)) (n : ℕ) (below : (w : ℕ) → In w (part ++ above) → w < n) (left_in : ℕ → Bool)
            (left_is : (w : ℕ) → w < n → left_in w ≡ (member w (part ++ above) && not (member w taken))) where
          abbrev zs : List ℕ
          zs = h.held ++ (after ++ above)

          abbrev arranged : List ℕ
          arranged = taken ++ (h.held ++ x ∷ (after ++ above))

          same : (g : ℕ → Bool) → count g arranged ≡ count g (part ++ above)
          same g =
              omega (
                arith,
                count_append g taken (h.held ++ x ∷ (after ++ above)),
                count_mid g x h.held (after ++ above),
                count_append g h.held (after ++ above),
                count_append g after above,
                takes_permutation f most above takes_now g,
                count_append g taken (h.held ++ x ∷ after),
                count_mid g x h.held after,
                count_append g h.held after,
                count_append g part above,
              )

          arranged_once : Distinct arranged
          arranged_once = permutation_distinct arranged (part ++ above) same once

          zs_once : Distinct zs
          zs_once = (distinct_mid x h.held (after ++ above) (distinct_right taken (h.held ++ x ∷ (after ++ above)) arranged_once)).1

          to : (w : ℕ) → In w (range 0 n) → (f x w && left_in w) ≡ true → In w zs × (f x w ≡ true)
          to w m e = (mid (in_cases w taken (h.held ++ x ∷ (after ++ above)) there), linked)
            where
              linked : f x w ≡ true
              linked = and_left (f x w) (left_in w) e

              kept : (member w (part ++ above) && not (member w taken)) ≡ true
              kept = sym (left_is w (omega (arith, range_in 0 n w m))) ∙ and_right (f x w) (left_in w) e

              there : In w arranged
              there =
                  permutation_in (part ++ above) arranged (λ g. sym (same g)) w
                  (member_in w (part ++ above) (and_left (member w (part ++ above)) (not (member w taken)) kept))

              mid : In w taken ⊎ In w (h.held ++ x ∷ (after ++ above)) → In w zs
              mid (inl i) =
                  never (member w taken) (in_member w taken i) (not-true (member w taken) (and_right (member w (part ++ above)) (not (member w taken)) kept))
              mid (inr i) = in_drop w x h.held (after ++ above) (λ q. never (f x w) linked (ap (f x) (sym q) ∙ P.irreflexive x)) i

          from : (w : ℕ) → In w zs → f x w ≡ true → In w (range 0 n) × ((f x w && left_in w) ≡ true)
          from w m e = (
            in_range 0 n w (omega arith) (omega (arith, l)),
            and_both (f x w) (left_in w) e (left_is w l ∙ and_both _ _ (in_member w (part ++ above) i) (ap not (not_member w taken out))),
          )
            where
              late : In w (h.held ++ x ∷ (after ++ above))
              late = go (in_cases w h.held (after ++ above) m)
                where
                  go : In w h.held ⊎ In w (after ++ above) → In w (h.held ++ x ∷ (after ++ above))
                  go (inl j) = in_left w h.held (x ∷ (after ++ above)) j
                  go (inr j) = in_right w h.held (x ∷ (after ++ above)) (inr j)

              i : In w (part ++ above)
              i = permutation_in arranged (part ++ above) same w (in_right w taken (h.held ++ x ∷ (after ++ above)) late)

              l : w < n
              l = below w i

              out : In w taken → ⊥
              out j = distinct_apart taken (h.held ++ x ∷ (after ++ above)) arranged_once w j late

          pub left_count : count (λ w. f x w && left_in w) (range 0 n) ≡ count (f x) (h.held ++ after) + count (f x) above
          left_count =
              le_antisymm (count_sub (λ w. f x w && left_in w) (f x) (range 0 n) zs (distinct_range 0 n) to)
              (count_sub (f x) (λ w. f x w && left_in w) zs (range 0 n) zs_once from)
              ∙ omega (arith, count_append (f x) h.held (after ++ above), count_append (f x) after above, count_append (f x) h.held after)

        -- x is taken where it stands
        pub turn_take : {new : ℕ → ℕ} {next : ℕ → Bool} → Released x front mark counter new due next
            → count (f x) (h.held ++ after) + count (f x) above ≤ most → Walks (taken ++ (x ∷ [])) (suc front) mark new next
        turn_take {new} {next} r fit =
            turn_leave x (rw x_place r) h.held (suc front) (walk_take f most above h.held after x takes_now fit all_full) (omega (arith, front_below))
            (omega arith, omega (arith, x_place)) (λ p l. passes p (bool_cases (eqb p front)) l)
            (λ g. ap (λ (z : List ℕ). count g (h.held ++ z)) cut ∙ count_mid g x h.held after) (λ v m. (m, not_front v m)) (λ v m. inr m) front_in
            (in_get_d part front front_below) (h.spent x (λ m. not_front x m refl)) h.marks
          where
            passes : (p : ℕ) → (eqb p front ≡ true) ⊎ (eqb p front ≡ false) → p < suc front → (p ≡ pos x) ⊎ (p < front)
            passes p (inl e) l = inl (eqb-true p front e ∙ sym x_place)
            passes p (inr e) l = inr (omega (arith, eqb-false p front e))

        -- no candidate is its neighbour: it is passed, and nothing is written
        pub turn_pass : due front ≡ false → count (f x) after + count (f x) above ≤ most → Walks (taken ++ (x ∷ [])) (suc front) mark counter due
        turn_pass undue few = turn_take released (omega (arith, few, count_append (f x) h.held after, count_none (f x) h.held apart))
          where
            apart : (w : ℕ) → In w h.held → f x w ≡ false
            apart w m = go (bool_cases (f x w))
              where
                go : (f x w ≡ true) ⊎ (f x w ≡ false) → f x w ≡ false
                go (inl e) =
                    never (due front) (ap due (sym x_place) ∙ h.touched w x m (rw cut (inl refl)) (P.symmetric w x ∙ e)) undue
                go (inr e) = e

            no_neighbour : (w : ℕ) → mark w ≡ true → f x w ≡ true → ⊥
            no_neighbour w a e = absurd (never (f x w) e (apart w (member_in w h.held (sym (h.marks w) ∙ a))))

            released : Released x front mark counter counter due due
            released = record {
              less = λ w a e. absurd (no_neighbour w a e);
              same = λ w e. refl;
              falls = λ w a e q. absurd (no_neighbour w a e);
              kept = λ q ne e. e;
              only = λ q e. inl (λ z. never (due q) e (ap due z ∙ undue), e);
            }

        -- x is held
        module _ {mark1 : ℕ → Bool} {new : ℕ → ℕ} {next : ℕ → Bool} (c : ℕ) (r : Held x front c after counter new due next)
            (c_is : c ≡ count (f x) (h.held ++ after) + count (f x) above) (big : most < c)
            (own : mark1 x ≡ true) (others : (w : ℕ) → (w ≡ x → ⊥) → mark1 w ≡ mark w) where
          abbrev held1 : List ℕ
          held1 = h.held ++ (x ∷ [])

          marks1 : (v : ℕ) → mark1 v ≡ member v held1
          marks1 v = go (bool_cases (eqb v x))
            where
              one : (v ≡ x → ⊥) → In v h.held ⊎ In v (x ∷ []) → In v h.held
              one ne (inl m) = m
              one ne (inr (inl e)) = absurd (ne (sym e))
              one ne (inr (inr e)) = absurd e

              same : (v ≡ x → ⊥) → In v h.held ⊎ (In v h.held → ⊥) → member v h.held ≡ member v held1
              same ne (inl m) = in_member v h.held m ∙ sym (in_member v held1 (in_left v h.held (x ∷ []) m))
              same ne (inr m) =
                  not_member v h.held m ∙ sym (not_member v held1 (λ q. m (one ne (in_cases v h.held (x ∷ []) q))))

              go : (eqb v x ≡ true) ⊎ (eqb v x ≡ false) → mark1 v ≡ member v held1
              go (inl e) =
                  let is = eqb-true v x e in rw is (own ∙ sym (in_member x held1 (in_right x h.held (x ∷ []) (inl refl))))
              go (inr e) = let ne = eqb-false v x e in others v ne ∙ h.marks v ∙ same ne (in_or_not v h.held)

          held_cases : (v : ℕ) → In v held1 → In v h.held ⊎ (v ≡ x)
          held_cases v m = go (in_cases v h.held (x ∷ []) m)
            where
              go : In v h.held ⊎ In v (x ∷ []) → In v h.held ⊎ (v ≡ x)
              go (inl i) = inl i
              go (inr (inl e)) = inr (sym e)
              go (inr (inr e)) = absurd e

          left_same : (v : ℕ) → left held1 (suc front) v ≡ left h.held front v
          left_same v = ap (λ (z : List ℕ). count (f v) z + count (f v) above)
              (append_assoc h.held (x ∷ []) after ∙ ap (λ (z : List ℕ). h.held ++ z) (sym cut))

          next_late : (p : ℕ) → next p ≡ true → suc front ≤ p
          next_late p e = go (r.only p e)
            where
              old : (p ≡ front → ⊥) → due p ≡ true → (ltb p front ≡ true) ⊎ (ltb p front ≡ false) → suc front ≤ p
              old ne d (inl q) = never (due p) d (none p (ltb-true p front q))
              old ne d (inr q) = omega (arith, ltb-false p front q, ne)

              go : ((p ≡ front → ⊥) × (due p ≡ true)) ⊎ ((w : ℕ) × In w after × (pos w ≡ p)) → suc front ≤ p
              go (inl q) = old q.0 q.1 (bool_cases (ltb p front))
              go (inr (w, a, b)) = omega (arith, (in_rest (suc front) w a).0)

          behind1 : (v : ℕ) → In v held1 → pos v < suc front
          behind1 v m = go (held_cases v m)
            where
              go : In v h.held ⊎ (v ≡ x) → pos v < suc front
              go (inl i) = omega (arith, h.behind v i)
              go (inr e) = omega (arith, ap pos e, x_place)

          pub turn_hold : Walks taken (suc front) mark1 new next
          turn_hold = record {
            held = held1;
            takes = walk_hold f most above h.held after x takes_now;
            room = omega (arith, front_below);
            behind = behind1;
            marks = marks1;
            exact = λ v m. (full1 v (held_cases v m)).1;
            fits = λ v m. next_false v m (bool_cases (next (pos v))) ∙ sym (lt-leb (new v) most (full1 v (held_cases v m)).0);
            spent = λ v out. rw (r.other v (λ e. out (in_right v h.held (x ∷ []) (inl (sym e))))) (h.spent v (λ m. out (in_left v h.held (x ∷ []) m)));
            fallen = λ p l e. absurd (omega (arith, next_late p e));
            inside = λ p e. inside1 p (r.only p e);
            touched = λ v w m i e. touched1 v w i e (held_cases v m);
          }
            where
              next_false : (v : ℕ) → In v held1 → (next (pos v) ≡ true) ⊎ (next (pos v) ≡ false) → next (pos v) ≡ false
              next_false v m (inl e) = absurd (omega (arith, next_late (pos v) e, behind1 v m))
              next_false v m (inr e) = e

              full1 : (v : ℕ) → In v h.held ⊎ (v ≡ x) → (most < new v) × (new v ≡ left held1 (suc front) v)
              full1 v (inl i) =
                  let o = r.other v (not_front v i) in
                  (omega (arith, not_due_full v i (not_due v i), h.exact v i), o ∙ h.exact v i ∙ sym (left_same v))
              full1 v (inr e) =
                  let own : new v ≡ c = ap new e ∙ r.own in (
                    omega arith,
                    own ∙ c_is ∙ omega (
                      arith,
                      left_same v,
                      ap (λ (z : ℕ). left h.held front z) e,
                      ap
                          (λ (z : List ℕ). count (f x) (h.held ++ z)) cut,
                      count_mid (f x) x h.held after,
                      bit_false (f x x) (P.irreflexive x),
                    ),
                  )

              inside1 : (p : ℕ) → ((p ≡ front → ⊥) × (due p ≡ true)) ⊎ ((w : ℕ) × In w after × (pos w ≡ p)) → p < length part
              inside1 p (inl q) = h.inside p q.1
              inside1 p (inr (w, a, b)) = omega (arith, (in_rest (suc front) w a).1)

              touched1 : (v w : ℕ) → In w after → f v w ≡ true → In v h.held ⊎ (v ≡ x) → next (pos w) ≡ true
              touched1 v w i e (inl m) = r.kept (pos w) (λ q. omega (arith, (in_rest (suc front) w i).0)) (h.touched v w m (front_in w i) e)
              touched1 v w i e (inr q) = r.touches w i (rw q at e)

      -- ---- a candidate falls short and is taken back: the first place that is due

      module _ (p : ℕ) (low : p < front) (is_due : due p ≡ true) (first : (q : ℕ) → q < p → due q ≡ false) where
        abbrev y : ℕ
        y = get_or part p 0

        y_place : pos y ≡ p
        y_place = P.placed p (h.inside p is_due)

        y_held : In y h.held
        y_held = h.fallen p low is_due

        y_short : counter y ≤ most
        y_short = due_short y y_held (ap due y_place ∙ is_due)

        module _ {mark1 : ℕ → Bool} {new : ℕ → ℕ} {next : ℕ → Bool} (r : Released y p mark1 counter new due next) (own : mark1 y ≡ false)
            (others : (w : ℕ) → (w ≡ y → ⊥) → mark1 w ≡ mark w) (us vs : List ℕ) (cut : h.held ≡ us ++ y ∷ vs) where
          whole : h.held ++ rest ≡ us ++ y ∷ (vs ++ rest)
          whole = ap (λ (z : List ℕ). z ++ rest) cut ∙ append_assoc us (y ∷ vs) rest

          once : Distinct (y ∷ (us ++ vs))
          once = distinct_mid y us vs (rw cut at (distinct_left h.held rest left_distinct))

          fit : count (f y) (us ++ (vs ++ rest)) + count (f y) above ≤ most
          fit = omega (arith, y_short, h.exact y y_held, ap (count (f y)) whole, count_mid (f y) y us (vs ++ rest))

          before : (w : ℕ) → In w us → most < count (f w) (h.held ++ rest) + count (f w) above
          before w m =
              let i : In w h.held = rw cut (in_left w us (y ∷ vs) m) in
              let l : pos w < p = omega (arith, rising_before pos y us (vs ++ rest) (rw whole at left_rises) w m, y_place, ne i) in
              not_due_full w i (first (pos w) l)
            where
              ne : In w h.held → pos w ≡ p → ⊥
              ne i e = once.0 (rw (same_place y w (held_part y y_held) (held_part w i) (y_place ∙ sym e)) (in_left w us vs m))

          stays : (v : ℕ) → In v (us ++ vs) → In v h.held × (v ≡ y → ⊥)
          stays v m = (rw cut (go (in_cases v us vs m)), λ e. once.0 (rw (← e) m))
            where
              go : In v us ⊎ In v vs → In v (us ++ y ∷ vs)
              go (inl i) = in_left v us (y ∷ vs) i
              go (inr i) = in_right v us (y ∷ vs) (inr i)

          goes : (v : ℕ) → In v h.held → (v ≡ y) ⊎ In v (us ++ vs)
          goes v m = go (bool_cases (eqb y v))
            where
              go : (eqb y v ≡ true) ⊎ (eqb y v ≡ false) → (v ≡ y) ⊎ In v (us ++ vs)
              go (inl e) = inl (sym (eqb-true y v e))
              go (inr e) = inr (in_drop v y us vs (eqb-false y v e) (rw cut at m))

          marks_back : (v : ℕ) → mark1 v ≡ member v (us ++ vs)
          marks_back v = go (bool_cases (eqb v y))
            where
              same : (v ≡ y → ⊥) → In v (us ++ vs) ⊎ (In v (us ++ vs) → ⊥) → member v h.held ≡ member v (us ++ vs)
              same ne (inl m) = in_member v h.held (stays v m).0 ∙ sym (in_member v (us ++ vs) m)
              same ne (inr m) = not_member v h.held (λ q. m (at (goes v q))) ∙ sym (not_member v (us ++ vs) m)
                where
                  at : (v ≡ y) ⊎ In v (us ++ vs) → In v (us ++ vs)
                  at (inl e) = absurd (ne e)
                  at (inr i) = i

              go : (eqb v y ≡ true) ⊎ (eqb v y ≡ false) → mark1 v ≡ member v (us ++ vs)
              go (inl e) = let is = eqb-true v y e in rw is (own ∙ sym (not_member y (us ++ vs) once.0))
              go (inr e) = let ne = eqb-false v y e in others v ne ∙ h.marks v ∙ same ne (in_or_not v (us ++ vs))

          turn_back_at : Walks (taken ++ (y ∷ [])) front mark1 new next
          turn_back_at =
              turn_leave y (rw y_place r) (us ++ vs) front (walk_back f most above h.held rest y us vs h.takes cut fit before) h.room
              (omega arith, omega (arith, y_place)) (λ q l. inr l)
              (λ g. ap (count g) whole ∙ count_mid g y us (vs ++ rest) ∙ ap (λ (z : List ℕ). cond (g y) 1 0 + count g z) (sym (append_assoc us vs rest)))
              stays goes (λ w m. m) (held_part y y_held) y_short marks_back

        pub turn_back : {mark1 : ℕ → Bool} {new : ℕ → ℕ} {next : ℕ → Bool} → Released y p mark1 counter new due next → mark1 y ≡ false
            → ((w : ℕ) → (w ≡ y → ⊥) → mark1 w ≡ mark w) → Walks (taken ++ (y ∷ [])) front mark1 new next
        turn_back {mark1} {new} {next} r own others = go (split_in y h.held y_held)
          where
            go : (us : List ℕ) × (vs : List ℕ) × (h.held ≡ us ++ y ∷ vs) → Walks (taken ++ (y ∷ [])) front mark1 new next
            go (us, vs, e) = turn_back_at r own others us vs e

      -- ---- the end

      pub length_held : length taken + length h.held ≡ front
      length_held =
          omega (
            arith,
            takes_permutation f most above h.takes (λ z. true),
            count_all part,
            count_all (taken ++ (h.held ++ rest)),
            length-append taken (h.held ++ rest),
            length-append h.held rest,
            length-drop front part,
            h.room,
          )

      -- what is left of the walked radios, in their order
      held_front : h.held ≡ filter (λ v. member v (h.held ++ rest)) (take front part)
      held_front =
          let t : ℕ → Bool = λ v. member v (h.held ++ rest) in
          let parts : h.held ++ rest ≡ filter t (take front part) ++ rest =
          takes_now_filter f most above P.distinct h.takes
          ∙ ap (filter t) (sym (take-append-drop front part))
          ∙ filter_append t (take front part) rest
          ∙ ap (λ (z : List ℕ). filter t (take front part) ++ z) (filter_all t rest (λ v m. in_member v (h.held ++ rest) (in_right v h.held rest m))) in
          cancel h.held (filter t (take front part)) rest parts
        where
          cancel : (us vs zs : List ℕ) → us ++ zs ≡ vs ++ zs → us ≡ vs
          cancel us vs zs e =
              let l : length us ≡ length vs = omega (arith, ap length e, length-append us zs, length-append vs zs) in
              sym (take_at us zs (length us) refl) ∙ ap (take (length us)) e ∙ take_at vs zs (length us) (sym l)

      walked_not_rest : (v : ℕ) → In v (take front part) → In v rest → ⊥
      walked_not_rest = distinct_apart (take front part) rest (rw (take-append-drop front part) P.distinct)

      -- a walked radio is left where it is held
      left_walked : (v : ℕ) → In v (take front part) → member v (h.held ++ rest) ≡ member v h.held
      left_walked v m = go (in_or_not v h.held)
        where
          out : (In v h.held → ⊥) → In v h.held ⊎ In v rest → ⊥
          out k (inl i) = k i
          out k (inr i) = walked_not_rest v m i

          go : In v h.held ⊎ (In v h.held → ⊥) → member v (h.held ++ rest) ≡ member v h.held
          go (inl i) = in_member v (h.held ++ rest) (in_left v h.held rest i) ∙ sym (in_member v h.held i)
          go (inr i) =
              not_member v (h.held ++ rest) (λ q. out i (in_cases v h.held rest q)) ∙ sym (not_member v h.held i)

      -- the candidates are the marked radios of the part, in their order
      pub held_listed : h.held ≡ filter mark part
      held_listed =
          held_front
          ∙ filter_ext (λ v. member v (h.held ++ rest)) mark (take front part) (λ v m. left_walked v m ∙ sym (h.marks v))
          ∙ sym (append-nil (filter mark (take front part)))
          ∙ ap (λ (z : List ℕ). filter mark (take front part) ++ z) (sym (filter_none mark rest unmarked))
          ∙ sym (filter_append mark (take front part) rest)
          ∙ ap (filter mark) (take-append-drop front part)
        where
          unmarked : (v : ℕ) → In v rest → mark v ≡ false
          unmarked v m = h.marks v ∙ not_member v h.held (λ i. omega (arith, h.behind v i, (in_rest front v m).0))

      module _ (none : (p : ℕ) → p < front → due p ≡ false) where
        held_test : (v : ℕ) → In v (take front part) → member v (h.held ++ rest) ≡ ltb most (counter v)
        held_test v m = left_walked v m ∙ go (in_or_not v h.held)
          where
            go : In v h.held ⊎ (In v h.held → ⊥) → member v h.held ≡ ltb most (counter v)
            go (inl i) =
                in_member v h.held i ∙ sym (lt-ltb most (counter v) (omega (arith, h.exact v i, not_due_full v i (none (pos v) (h.behind v i)))))
            go (inr i) = not_member v h.held i ∙ sym (le-ltb most (counter v) (h.spent v i))

        -- the candidates are the walked radios whose counter is above the bound, in their order
        pub held_is : h.held ≡ filter (λ v. ltb most (counter v)) (take front part)
        held_is = held_front ∙ filter_ext (λ v. member v (h.held ++ rest)) (λ v. ltb most (counter v)) (take front part) held_test

        -- the part is at its end: the candidates are stuck
        pub turns_stuck : front ≡ length part → Peels f most above part taken h.held
        turns_stuck e =
            walk_end f most above h.held (rw gone at h.takes) (λ v m.
            omega (
              arith,
              not_due_full v m (none (pos v) (h.behind v m)),
              ap (λ (z : List ℕ). count (f v) (h.held ++ z)) gone,
              ap (count (f v))
                  (append-nil h.held),
            ))
          where
            gone : rest ≡ []
            gone = drop_of_length-le part {i = front} (omega arith)

        pub turns_end : front ≡ length part → Peels f most above part taken (filter (λ v. ltb most (counter v)) part)
        turns_end e = rw (← (held_is ∙ ap (filter (λ v. ltb most (counter v))) (take_all front part (omega arith)))) (turns_stuck e)

      -- no candidate is left: what was not looked at stays
      pub turns_stop : length taken ≡ front → FewFront f most above rest [] → Peels f most above part (taken ++ rest) []
      turns_stop e few = walk_stop f most above (rw empty at h.takes) few
        where
          nil : (zs : List ℕ) → length zs ≡ 0 → zs ≡ []
          nil [] q = refl
          nil (z ∷ zs) q = absurd (omega arith)

          empty : h.held ≡ []
          empty = nil h.held (omega (arith, length_held))

    -- ---- radios before the next place due are passed as they stand

    module _ (mark : ℕ → Bool) (counter : ℕ → ℕ) (due : ℕ → Bool) (front : ℕ) (taken : List ℕ) where
      abbrev Passed : ℕ → Type 0
      Passed m = Walks (taken ++ take m (drop front part)) (front + m) mark counter due

      longer : (m : ℕ) → front + suc m ≤ length part
          → (taken ++ take m (drop front part)) ++ (get_or part (front + m) 0 ∷ []) ≡ taken ++ take (suc m) (drop front part)
      longer m room =
          append_assoc taken (take m (drop front part)) (get_or part (front + m) 0 ∷ [])
          ∙ ap (λ (z : List ℕ). taken ++ z)
          (ap (λ (x : ℕ). take m (drop front part) ++ (x ∷ [])) (sym (get_or-drop front part m 0))
          ∙ sym (take-suc (drop front part) m 0 (omega (arith, length-drop front part))))

      pass_one : (m : ℕ) → Passed m → front + suc m ≤ length part → ((q : ℕ) → q < front + suc m → due q ≡ false)
          → count (f (get_or part (front + m) 0)) (drop (suc (front + m)) part) + count (f (get_or part (front + m) 0)) above ≤ most → Passed (suc m)
      pass_one m h room undue few =
          let one : Walks ((taken ++ take m (drop front part)) ++ (get_or part (front + m) 0 ∷ [])) (suc (front + m)) mark counter due =
          turn_pass h (omega arith) (λ q l. undue q (omega arith)) (undue (front + m) (omega arith)) few in
          rw (← longer m room, add-suc front m) one

      pass_all : (m : ℕ) → Passed 0 → front + m ≤ length part → ((q : ℕ) → q < front + m → due q ≡ false)
          → ((i : ℕ) → front ≤ i → i < length part → count (f (get_or part i 0)) (drop (suc i) part) + count (f (get_or part i 0)) above ≤ most) → Passed m
      pass_all zero h room undue few = h
      pass_all (suc m) h room undue few =
          pass_one m (pass_all m h (omega arith) (λ q l. undue q (omega arith)) few) room undue (few (front + m) (omega arith) (omega arith))

      pub turns_pass : (m : ℕ) → Walks taken front mark counter due → front + m ≤ length part → ((q : ℕ) → q < front + m → due q ≡ false)
          → ((i : ℕ) → front ≤ i → i < length part → count (f (get_or part i 0)) (drop (suc i) part) + count (f (get_or part i 0)) above ≤ most)
          → Walks (taken ++ take m (drop front part)) (front + m) mark counter due
      turns_pass m h room undue few = pass_all m (rw (append-nil taken, add-zero front) h) room undue few

    -- the places due told otherwise
    pub turns_due : {taken : List ℕ} {front : ℕ} {mark : ℕ → Bool} {counter : ℕ → ℕ} {due : ℕ → Bool} → Walks taken front mark counter due
        → (next : ℕ → Bool) → ((q : ℕ) → due q ≡ next q) → Walks taken front mark counter next
    turns_due h next same = record {
      held = h.held;
      takes = h.takes;
      room = h.room;
      behind = h.behind;
      marks = h.marks;
      exact = h.exact;
      fits = λ v m. sym (same _) ∙ h.fits v m;
      spent = h.spent;
      fallen = λ p l e. h.fallen p l (same p ∙ e);
      inside = λ p e. h.inside p (same p ∙ e);
      touched = λ v w m i e. sym (same _) ∙ h.touched v w m i e;
    }

    -- before the first turn
    pub turns_none : (mark : ℕ → Bool) (counter : ℕ → ℕ) (due : ℕ → Bool) → ((v : ℕ) → mark v ≡ false) → ((v : ℕ) → counter v ≤ most)
        → ((p : ℕ) → due p ≡ false) → Walks [] 0 mark counter due
    unfolding member
    turns_none mark counter due unmarked low none_due = record {
      held = [];
      takes = none;
      room = omega arith;
      behind = λ v m. absurd m;
      marks = unmarked;
      exact = λ v m. absurd m;
      fits = λ v m. absurd m;
      spent = λ v out. low v;
      fallen = λ p l e. absurd (omega arith);
      inside = λ p e. absurd (never (due p) e (none_due p));
      touched = λ v w m i e. absurd m;
    }
