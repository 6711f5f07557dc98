-- The turns of the walk by words: each leaves a `WordsState` as a turn of crate walks does.
--   look_count    what is counted for the radio at the front is what it has left
--   look_held, look_taken   the front is looked at
--   back_done     a candidate is taken back
--   pass_done     the radio at the front is passed
--   words_end     what the loop and the listing of the candidates leave
use Rattle.std.specs.Prelude.{None, Some, ◌≡◌, ◌⊎◌, ◌&&◌, ◌||◌, ◌∷◌, ◌++◌, ◌+◌, ◌-◌, ◌≤◌, ◌<◌}
use Rattle.lists.{specs.Kit.{refl, sym, ap, ◌∙◌, inl, inr, Bool, true, false, not, cond, List, [], ℕ, suc}}
use Rattle.lists.{specs.Kit.{arith, add-one, ltb, eqb, length, get_or, set, take, drop, replicate, length-set, length-replicate, take-append-drop}}
use Rattle.lists.{specs.Kit.{length-take-le, get_or-set_same, get_or-set_other, take-suc-set, drop-cons, sets, eqb-true, eqb-false, eq-eqb, ne_eqb, lt-ltb, le-ltb}}
use Rattle.lists.{specs.Kit.{ltb-true, ltb-false}, specs.Facts.{Distinct}, specs.Lists.{range, count, member, head_or, In}, proofs.Count.{count_ext}}
use Rattle.lists.{proofs.Count.{count_mono, count_pos}, proofs.Distinct.{distinct_one}, proofs.Filter.{in_filter, filter_in, distinct_filter, length_filter}}
use Rattle.lists.{proofs.Member.{in_left, in_right, member_in, in_get_d, member_append}, proofs.Parts.{get_d_zeros}, proofs.Range.{in_range, range_in}}
use Rattle.lists.{proofs.Range.{distinct_range}, proofs.Tests.{bool_cases, never, and_left, and_right, and_both, or_cases, or_left, or_right}}
use Rattle.mesh.specs.{Limits.{max_radios, max_neighbours}, Tables.{marked, put_link}}
use Rattle.rows.{specs.Rows.{neighbours_of}, specs.Sets.{in_set, put_in, take_out, common}, proofs.SetLaws.{in_set_zeros, in_put_in, in_take_out}}
use Rattle.rows.{proofs.SetLaws.{length_put_in, length_take_out, common_filter}}
use Rattle.walks.{specs.Walk.{Walking}, proofs.Front.{few_front_head, few_from_one}}
use Rattle.plan.specs.{Places.{next_turn, set_places, entries_at, Stands}, WideSteps.{EndsKnown, JoinedAfter, Lowerable, Lowered}}
use Rattle.plan.specs.{Walks.{radios_of, joined, WalkSite, WalkDone}, WideWalk.{words_due, work, WordsState}, declared.walk.Rise.{Rise}}
use Rattle.plan.specs.{declared.walk.Part.{Part}}
use Rattle.plan.proofs.{WordLaws.{no_count}, LevelLaws.{first_marked_in, first_marked_least}, PlaceLaws.{lowest_least, lowest_some, Turning, turn_is}, WalkSteps.{walk_over}}
use Rattle.plan.specs.declared.places.Turn.{Turn, TheVariants.{Back, Ahead}}
use Rattle.walks.proofs.Turns as turns
use Rattle.plan.proofs.EntryLists as entries
use Rattle.plan.proofs.WalkTurns as turned

-- ---- the places due

module _ (first size front : ℕ) (tail ts ds : List ℕ) (q : ℕ) where
  pub due_before : q < front → words_due first size front tail ts ds q ≡ in_set ds (first + q)
  unfolding words_due
  due_before l = rw (lt-ltb q front l)

  pub due_from : front ≤ q → q < size → words_due first size front tail ts ds q ≡ in_set ts (get_or tail q 0)
  unfolding words_due
  due_from l h = rw (le-ltb q front l, lt-ltb q size h)

  pub due_past : front ≤ q → size ≤ q → words_due first size front tail ts ds q ≡ false
  unfolding words_due
  due_past l h = rw (le-ltb q front l, le-ltb q size h)

-- from the front on only touched radios of the part
due_inside : (first size front : ℕ) (tail ts ds : List ℕ) (q : ℕ) → front ≤ q → words_due first size front tail ts ds q ≡ true
    → (q < size) × (in_set ts (get_or tail q 0) ≡ true)
due_inside first size front tail ts ds q l t = go (bool_cases (ltb q size))
  where
    go : (ltb q size ≡ true) ⊎ (ltb q size ≡ false) → (q < size) × (in_set ts (get_or tail q 0) ≡ true)
    go (inl e) = let h = ltb-true q size e in (h, sym (due_from first size front tail ts ds q l h) ∙ t)
    go (inr e) = never (words_due first size front tail ts ds q) t (due_past first size front tail ts ds q l (ltb-false q size e))

-- a place before the front, or from it on
sides : (q front : ℕ) → (q < front) ⊎ (front ≤ q)
sides q front = go (bool_cases (ltb q front))
  where
    go : (ltb q front ≡ true) ⊎ (ltb q front ≡ false) → (q < front) ⊎ (front ≤ q)
    go (inl e) = inl (ltb-true q front e)
    go (inr e) = inr (ltb-false q front e)

-- a set without v
out_own : (v : ℕ) (ws : List ℕ) → length ws ≡ 8 → v < max_radios → in_set (take_out v ws) v ≡ false
out_own v ws long l = in_take_out v v ws (omega arith) ∙ rw (eq-eqb v v refl)

out_other : (v w : ℕ) (ws : List ℕ) → length ws ≡ 8 → v < max_radios → (w ≡ v → ⊥) → in_set (take_out v ws) w ≡ in_set ws w
out_other v w ws long l ne = in_take_out v w ws (omega arith) ∙ rw (ne_eqb v w (λ e. ne (sym e)))

put_own : (v : ℕ) (ws : List ℕ) → length ws ≡ 8 → v < max_radios → in_set (put_in v ws) v ≡ true
put_own v ws long l = in_put_in v v ws (omega arith) ∙ rw (eq-eqb v v refl)

put_other : (v w : ℕ) (ws : List ℕ) → length ws ≡ 8 → v < max_radios → (w ≡ v → ⊥) → in_set (put_in v ws) w ≡ in_set ws w
put_other v w ws long l ne = in_put_in v w ws (omega arith) ∙ rw (ne_eqb v w (λ e. ne (sym e)))

module _ {rise : Rise} {span : Part} {ts ns tail ps : List ℕ}
    (s : WalkSite rise span ts ns tail ps) where
  abbrev a : ℕ
  a = rise.a

  abbrev b : ℕ
  b = rise.b

  abbrev k : ℕ
  k = rise.most

  abbrev first : ℕ
  first = span.first

  abbrev size : ℕ
  size = span.size

  abbrev n : ℕ
  n = radios_of first tail

  abbrev f : ℕ → ℕ → Bool
  f = joined a b first ts tail

  abbrev part : List ℕ
  part = take size tail

  abbrev above : List ℕ
  above = drop size tail

  abbrev pos : ℕ → ℕ
  pos v = get_or ps v 0 - first

  pub ends_ready : (v : ℕ) → v < n → EndsKnown a b v n ts
  ends_ready v l = record { differ = s.differ; small = s.small; whole = s.links_length; first = s.ends.0; second = s.ends.1; radio = l }

  -- the neighbours after the call as a set
  near_bits : (v : ℕ) → v < n → (ws us : List ℕ) → JoinedAfter a b v ts ws us → (w : ℕ) → w < max_radios → in_set us w ≡ (in_set ws w || f v w)
  near_bits v l ws us h w lw = h.bits w lw ∙ ap (λ (z : Bool). in_set ws w || z) (s.row_is v w l lw)

  near_only : (v : ℕ) → v < n → (us : List ℕ) → JoinedAfter a b v ts (replicate 8 0) us → (w : ℕ) → w < max_radios → in_set us w ≡ f v w
  near_only v l us h w lw = near_bits v l (replicate 8 0) us h w lw ∙ rw (in_set_zeros 8 w)

  small_of : (v w : ℕ) → f v w ≡ true → w < max_radios
  small_of v w e = omega (arith, s.within v w e, s.small)

  whole : part ++ above ≡ tail
  whole = take-append-drop size tail

  module _ {front taken : ℕ} {left held touched due stay counters list : List ℕ}
      (st : WordsState rise span ts tail ps front taken (work left held touched due stay counters) list) where
    abbrev due_at : ℕ → Bool
    due_at = words_due first size front tail touched due

    abbrev cands : List ℕ
    cands = st.walking.held

    held_part : (v : ℕ) → In v cands → In v part
    held_part = turns.held_part f k above part pos (turned.is_part s) st.walking

    in_held : (v : ℕ) → in_set held v ≡ true → In v cands
    in_held v e = member_in v cands (sym (st.walking.marks v) ∙ e)

    pub front_fits : (front ≤ size) × (first + front ≤ max_radios)
    front_fits = (
      omega (arith, st.walking.room, turned.part_length s),
      omega (arith, st.walking.room, turned.part_length s, s.fits, s.small),
    )

    -- ---- v is taken: what its candidates lose

    -- the candidates among the neighbours of v, by the sets near and cand
    module _ (v : ℕ) (lv : v < n) (near cand : List ℕ) (near_long : length near ≡ 8) (cand_long : length cand ≡ 8)
        (near_is : (w : ℕ) → w < max_radios → in_set near w ≡ f v w) (fewer : (w : ℕ) → in_set cand w ≡ true → In w cands)
        (v_left : In v (cands ++ drop front part)) where
      abbrev both : List ℕ
      both = common near cand

      both_in : (w : ℕ) → In w both → (f v w ≡ true) × (in_set cand w ≡ true)
      both_in w m =
          let i = in_filter (λ x. in_set near x && in_set cand x) (range 0 max_radios) w (rw (common_filter near cand) at m) in
          let l : w < max_radios = omega (arith, range_in 0 max_radios w i.0) in
          (sym (near_is w l) ∙ and_left (in_set near w) (in_set cand w) i.1, and_right (in_set near w) (in_set cand w) i.1)

      in_both : (w : ℕ) → f v w ≡ true → in_set cand w ≡ true → In w both
      in_both w e c =
          let l = small_of v w e in
          rw (common_filter near cand)
          (filter_in (λ x. in_set near x && in_set cand x) (range 0 max_radios) w (in_range 0 max_radios w (omega arith) (omega (arith, l)))
          (and_both (in_set near w) (in_set cand w) (near_is w l ∙ e) c))

      both_once : Distinct both
      both_once = rw (common_filter near cand) (distinct_filter _ (range 0 max_radios) (distinct_range 0 max_radios))

      pub lowerable : Lowerable ps both counters
      lowerable = record {
        once = both_once;
        known = λ w m. (let i = both_in w m in
            let h = fewer w i.1 in
            let t = turned.part_stands s w (held_part w h) in (
              omega (arith, t.below, s.places_length),
              omega (arith, t.below, s.small),
              omega (arith, t.below, st.counters_long),
              turned.place_small s w (held_part w h),
              omega (
                arith,
                st.walking.exact w h,
                count_pos (f w) v (cands ++ drop front part) v_left (s.symmetric w v ∙ i.0),
              ),
            ));
      }

      -- from the places due ds0 on
      module _ (ds0 cs1 ds1 : List ℕ) (low : Lowered k ps both counters ds0 cs1 ds1) where
        counted : (w : ℕ) → In w both → count (λ x. eqb x w) both ≡ 1
        counted w m = omega (arith, distinct_one w both both_once, count_pos (λ x. eqb x w) w both m (eq-eqb w w refl))

        not_counted : (w : ℕ) → (In w both → ⊥) → get_or cs1 w 0 ≡ get_or counters w 0
        not_counted w out = omega (arith, low.less w, none)
          where
            none : count (λ x. eqb x w) both ≡ 0
            none = no_count w both out

        place_is : (w : ℕ) → In w both → first + pos w ≡ get_or ps w 0
        place_is w m = omega (arith, (turned.part_stands s w (held_part w (fewer w (both_in w m).1))).low)

        -- what is due after: before the front where ds1 is, from `front1` on as it was
        module _ (p front1 : ℕ) (next : ℕ → Bool) (on : (front ≤ front1) × (front1 ≤ suc front))
            (next_before : (q : ℕ) → q < front1 → next q ≡ in_set ds1 (first + q)) (next_from : (q : ℕ) → front1 ≤ q → next q ≡ due_at q)
            (old : (q : ℕ) → in_set ds0 (first + q) ≡ true → (q < front) × (q ≡ p → ⊥) × (in_set due (first + q) ≡ true))
            (keeps : (q : ℕ) → (q ≡ p → ⊥) → in_set due (first + q) ≡ true → in_set ds0 (first + q) ≡ true)
            (at : (q : ℕ) → q < front1 → front ≤ q → q ≡ p) (p_low : p < front1) where
          pub released : turns.Released f k above part pos v p (in_set cand) (λ w. get_or counters w 0) (λ w. get_or cs1 w 0) due_at next
          released = record {
            less = λ w c e. omega (arith, low.less w, counted w (in_both w e c));
            same = λ w way. not_counted w (λ m. apart w (both_in w m) way);
            falls = λ w c e z. (let m = in_both w e c in
                next_before (pos w) (omega (arith, st.walking.behind w (fewer w c), on.0)) ∙ rw (place_is w m) (low.falls w m z));
            kept = λ q ne t. kept q ne t (sides q front1);
            only = λ q t. only q t (sides q front1);
          }
            where
              apart : (w : ℕ) → (f v w ≡ true) × (in_set cand w ≡ true) → (in_set cand w ≡ false) ⊎ (f v w ≡ false) → ⊥
              apart w i (inl e) = never (in_set cand w) i.1 e
              apart w i (inr e) = never (f v w) i.0 e

              early : (q : ℕ) → q < front1 → (q ≡ p → ⊥) → (q < front) ⊎ (front ≤ q) → q < front
              early q l ne (inl h) = h
              early q l ne (inr h) = absurd (ne (at q l h))

              kept : (q : ℕ) → (q ≡ p → ⊥) → due_at q ≡ true → (q < front1) ⊎ (front1 ≤ q) → next q ≡ true
              kept q ne t (inl l) =
                  let h = early q l ne (sides q front) in
                  next_before q l ∙ low.kept (first + q) (keeps q ne (sym (due_before first size front tail touched due q h) ∙ t))
              kept q ne t (inr l) = next_from q l ∙ t

              new : (q : ℕ) → q < front1 → (in_set ds0 (first + q) ≡ true) ⊎ ((w : ℕ) × In w both × (get_or cs1 w 0 ≡ k) × (get_or ps w 0 ≡ first + q))
                  → ((q ≡ p → ⊥) × (due_at q ≡ true))
                  ⊎ ((w : ℕ) × (in_set cand w ≡ true) × (f v w ≡ true) × (get_or cs1 w 0 ≡ k) × (pos w ≡ q))
              new q l (inl t) = let o = old q t in inl (o.1, due_before first size front tail touched due q o.0 ∙ o.2)
              new q l (inr (w, m, e, z)) = let i = both_in w m in inr (w, i.1, i.0, e, omega (arith, z))

              only : (q : ℕ) → next q ≡ true → (q < front1) ⊎ (front1 ≤ q)
                  → ((q ≡ p → ⊥) × (due_at q ≡ true))
                  ⊎ ((w : ℕ) × (in_set cand w ≡ true) × (f v w ≡ true) × (get_or cs1 w 0 ≡ k) × (pos w ≡ q))
              only q t (inl l) = new q l (low.only (first + q) (sym (next_before q l) ∙ t))
              only q t (inr l) = inl (λ e. omega (arith, p_low), sym (next_from q l) ∙ t)

          -- the places due stay behind the front
          pub behind_after : (q : ℕ) → in_set ds1 q ≡ true → ((x : ℕ) → in_set ds0 x ≡ true → (first ≤ x) × (x < first + front)) → (first ≤ q) ×
              (q < first + front)
          behind_after q t before = go (low.only q t)
            where
              go : (in_set ds0 q ≡ true) ⊎ ((w : ℕ) × In w both × (get_or cs1 w 0 ≡ k) × (get_or ps w 0 ≡ q)) → (first ≤ q) × (q < first + front)
              go (inl e) = before q e
              go (inr (w, m, e, z)) =
                  let h = fewer w (both_in w m).1 in
                  let low = (turned.part_stands s w (held_part w h)).low in
                  (omega (arith, z, low), omega (arith, z, low, st.walking.behind w h))

    -- what is left without v, once v is listed
    left_out : (v : ℕ) → v < max_radios → taken < length list → (w : ℕ) → w < max_radios
        → in_set (take_out v left) w ≡ (member w tail && not (member w (take (taken + 1) (set list taken v))))
    unfolding member
    left_out v lv room w lw = go (bool_cases (eqb v w))
      where
        more : member w (take (taken + 1) (set list taken v)) ≡ (member w (take taken list) || (eqb v w || false))
        more =
            ap (λ (x : ℕ). member w (take x (set list taken v))) (add-one taken) ∙ ap (member w) (take-suc-set list taken v room)
            ∙ member_append w (take taken list) (v ∷ [])

        gone : (p q : Bool) → false ≡ (p && not (q || true))
        gone true true = refl
        gone true false = refl
        gone false q = refl

        stays : (p q : Bool) → (p && not q) ≡ (p && not (q || false))
        stays true true = refl
        stays true false = refl
        stays false q = refl

        go : (eqb v w ≡ true) ⊎ (eqb v w ≡ false) → in_set (take_out v left) w ≡ (member w tail && not (member w (take (taken + 1) (set list taken v))))
        go (inl e) =
            in_take_out v w left (omega (arith, st.left_long)) ∙ rw (more, e) (gone (member w tail) (member w (take taken list)))
        go (inr e) =
            in_take_out v w left (omega (arith, st.left_long)) ∙ rw (more, e) (st.left_is w lw ∙ stays (member w tail) (member w (take taken list)))

    -- ---- the radio at the front

    module _ (v : ℕ) (v_is : v ≡ get_or tail front 0) (inside : front < size) (free : (p : ℕ) → in_set due p ≡ false) where
      abbrev later : List ℕ
      later = drop (suc front) part

      in_part : front < length part
      in_part = omega (arith, turned.part_length s)

      v_at : v ≡ get_or part front 0
      v_at = v_is ∙ sym (turned.part_at s front inside)

      v_part : In v part
      v_part = rw v_at (in_get_d part front in_part)

      pub front_below : v < n
      front_below = (turned.part_stands s v v_part).below

      front_small : v < max_radios
      front_small = omega (arith, front_below, s.small)

      place_low : first + front < max_radios
      place_low = omega (arith, s.fits, s.small)

      none : (q : ℕ) → q < front → due_at q ≡ false
      none q l = due_before first size front tail touched due q l ∙ free (first + q)

      v_left : In v (cands ++ drop front part)
      v_left = in_right v cands (drop front part) (rw (drop-cons part front 0 in_part, ← v_at) (inl refl))

      apart : (i : ℕ) → i < size → get_or tail i 0 ≡ v → i ≡ front
      apart i l e = turned.tail_apart s i front l inside (e ∙ v_is)

      pub front_room : taken < length list
      front_room = omega (arith, st.passed, st.room, s.fits, s.small)

      -- what is counted

      module _ (near : List ℕ) (near_long : length near ≡ 8) (h : JoinedAfter a b v ts (replicate 8 0) near) where
        near_is : (w : ℕ) → w < max_radios → in_set near w ≡ f v w
        near_is w l = near_only v front_below near h w l

        counted_as : length (common near left) ≡ count (λ w. f v w && in_set left w) (range 0 max_radios)
        counted_as =
            ap length (common_filter near left)
            ∙ length_filter (λ w. in_set near w && in_set left w) (range 0 max_radios)
            ∙ count_ext (λ w. in_set near w && in_set left w) (λ w. f v w && in_set left w) (range 0 max_radios)
            (λ w m. ap (λ (z : Bool). z && in_set left w) (near_is w (omega (arith, range_in 0 max_radios w m))))

        pub look_count : length (common near left) ≡ count (f v) (cands ++ later) + count (f v) above
        look_count = counted_as ∙ rw v_at (turns.left_count f k above part pos (turned.is_part s) st.walking in_part none (rw whole s.distinct) max_radios
            (λ w m. omega (arith, s.radios w (rw whole at m), s.small)) (in_set left) (λ w l. rw whole (st.left_is w l)))

        pub look_few : length (common near left) ≤ max_neighbours
        unfolding neighbours_of
        look_few =
            omega (
              arith,
              counted_as,
              count_mono (λ w. f v w && in_set left w) (λ w. marked (put_link true a b ts) v w) (range 0 max_radios) (λ w m e.
                  s.row_is v w front_below (omega (arith, range_in 0 max_radios w m)) ∙ and_left (f v w) (in_set left w) e),
              length_filter (λ w. marked (put_link true a b ts) v w) (range 0 max_radios),
              s.row_few v front_below,
            )

        -- ---- v is held

        module _ (c : ℕ) (c_is : c ≡ length (common near left)) (touched1 : List ℕ) (more : JoinedAfter a b v ts touched touched1) where
          abbrev next : ℕ → Bool
          next = words_due first size (suc front) tail touched1 due

          touched_bits : (w : ℕ) → w < max_radios → in_set touched1 w ≡ (in_set touched w || f v w)
          touched_bits w l = near_bits v front_below touched touched1 more w l

          tail_small : (q : ℕ) → q < size → (get_or tail q 0 < max_radios) × (In (get_or tail q 0) part) × (pos (get_or tail q 0) ≡ q)
          tail_small q l =
              let m : In (get_or tail q 0) part = rw (← turned.part_at s q l) (in_get_d part q (omega (arith, turned.part_length s))) in
              (omega (arith, (turned.part_stands s (get_or tail q 0) m).below, s.small), m, omega (arith, s.placed q l))

          no_due : (q : ℕ) → q < suc front → next q ≡ true → ⊥
          no_due q l t = never (next q) t (due_before first size (suc front) tail touched1 due q l ∙ free (first + q))

          written : turns.Held f k above part pos v front c later (λ w. get_or counters w 0) (λ w. get_or (set counters v c) w 0) due_at next
          written = record {
            own = get_or-set_same counters v c 0 (omega (arith, front_below, st.counters_long));
            other = λ w ne. get_or-set_other counters v w c 0 ne;
            cleared = due_before first size (suc front) tail touched1 due front (omega arith) ∙ free (first + front);
            kept = λ q ne t. kept q ne t (sides q front);
            touches = touches;
            only = λ q t. only q t (sides q (suc front));
          }
            where
              kept : (q : ℕ) → (q ≡ front → ⊥) → due_at q ≡ true → (q < front) ⊎ (front ≤ q) → next q ≡ true
              kept q ne t (inl l) = never (due_at q) t (none q l)
              kept q ne t (inr l) =
                  let i = due_inside first size front tail touched due q l t in
                  due_from first size (suc front) tail touched1 due q (omega (arith, ne)) i.0
                  ∙ touched_bits (get_or tail q 0) (tail_small q i.0).0 ∙ or_left (in_set touched (get_or tail q 0)) (f v (get_or tail q 0)) i.1

              touches : (w : ℕ) → In w later → f v w ≡ true → next (pos w) ≡ true
              touches w m e =
                  let i = turns.in_rest f k above part pos (turned.is_part s) (suc front) w m in
                  let l : pos w < size = omega (arith, i.1, turned.part_length s) in
                  let is : get_or tail (pos w) 0 ≡ w =
                  sym (turned.part_at s (pos w) l)
                  ∙ (turns.in_part f k above part pos (turned.is_part s) w
                  (rw (← take-append-drop (suc front) part) (in_right w (take (suc front) part) later m))).1 in
                  due_from first size (suc front) tail touched1 due (pos w) i.0 l
                  ∙ ap (in_set touched1) is ∙ touched_bits w (small_of v w e) ∙ or_right (in_set touched w) (f v w) e

              only : (q : ℕ) → next q ≡ true → (q < suc front) ⊎ (suc front ≤ q)
                  → ((q ≡ front → ⊥) × (due_at q ≡ true)) ⊎ ((w : ℕ) × In w later × (pos w ≡ q))
              only q t (inl l) = absurd (no_due q l t)
              only q t (inr l) = go (due_inside first size (suc front) tail touched1 due q l t)
                where
                  go : (q < size) × (in_set touched1 (get_or tail q 0) ≡ true) → ((q ≡ front → ⊥) × (due_at q ≡ true)) ⊎ ((w : ℕ) × In w later × (pos w ≡ q))
                  go (h, e) = one (or_cases (in_set touched (get_or tail q 0)) (f v (get_or tail q 0)) (sym (touched_bits (get_or tail q 0) (tail_small q h).0) ∙ e))
                    where
                      one : (in_set touched (get_or tail q 0) ≡ true) ⊎ (f v (get_or tail q 0) ≡ true)
                          → ((q ≡ front → ⊥) × (due_at q ≡ true)) ⊎ ((w : ℕ) × In w later × (pos w ≡ q))
                      one (inl u) = inl (λ z. omega arith, due_from first size front tail touched due q (omega arith) h ∙ u)
                      one (inr u) =
                          let r = tail_small q h in
                          inr (get_or tail q 0, turned.late_in s (suc front) (get_or tail q 0) r.1 (omega (arith, r.2)), r.2)

          pub look_held : k < c → WordsState rise span ts tail ps (front + 1) taken
              (work left (put_in v held) touched1 due (put_in (first + front) stay) (set counters v c)) list
          look_held big = record {
            left_long = st.left_long;
            held_long = length_put_in v held ∙ st.held_long;
            touched_long = more.long;
            due_long = st.due_long;
            counters_long = omega (arith, st.counters_long, length-set counters v c);
            room = st.room;
            passed = omega (arith, st.passed);
            left_is = st.left_is;
            behind = λ p e. never (in_set due p) e (free p);
            stays = entries.marked_put first size tail st.stays front v inside place_low (sym v_is) apart (in_set (put_in v held))
                (λ w ne. put_other v w held st.held_long front_small ne) (put_own v held st.held_long front_small);
            walking = rw (add-one front) turned_on;
          }
            where
              others : (w : ℕ) → (w ≡ v → ⊥) → in_set (put_in v held) w ≡ in_set held w
              others w ne = put_other v w held st.held_long front_small ne

              turned_on : Walking f k above part pos (take taken list) (suc front) (in_set (put_in v held)) (λ w. get_or (set counters v c) w 0) next
              turned_on =
                  rw v_at (turns.turn_hold f k above part pos (turned.is_part s) st.walking in_part none c (rw v_at at written)
                  (rw v_at at (c_is ∙ look_count)) big
                  (rw v_at at (put_own v held st.held_long front_small)) (rw v_at at others))

        -- ---- v is taken where it stands

        pub look_lowerable : Lowerable ps (common near held) counters
        look_lowerable = lowerable v front_below near held near_long st.held_long near_is in_held v_left

        module _ (cs1 ds1 : List ℕ) (low : Lowered k ps (common near held) counters due cs1 ds1) where
          abbrev then : ℕ → Bool
          then = words_due first size (suc front) tail touched ds1

          then_from : (q : ℕ) → suc front ≤ q → then q ≡ due_at q
          then_from q l = go (sides q size)
            where
              go : (q < size) ⊎ (size ≤ q) → then q ≡ due_at q
              go (inl h) = due_from first size (suc front) tail touched ds1 q l h ∙ sym (due_from first size front tail touched due q (omega arith) h)
              go (inr h) = due_past first size (suc front) tail touched ds1 q l h ∙ sym (due_past first size front tail touched due q (omega arith) h)

          module _ (fit : length (common near left) ≤ k) where
            freed : turns.Released f k above part pos v front (in_set held) (λ w. get_or counters w 0) (λ w. get_or cs1 w 0) due_at then
            freed =
                released v front_below near held near_long st.held_long near_is in_held v_left due cs1 ds1 low front (suc front) then
                (omega arith, omega arith)
                (λ q l. due_before first size (suc front) tail touched ds1 q l) then_from (λ q e. never (in_set due (first + q)) e (free (first + q)))
                (λ q ne e. e) (λ q l h. omega arith) (omega arith)

            pub look_taken : WordsState rise span ts tail ps (front + 1) (taken + 1) (work (take_out v left) held touched ds1 stay cs1) (set list taken v)
            look_taken = record {
              left_long = length_take_out v left ∙ st.left_long;
              held_long = st.held_long;
              touched_long = st.touched_long;
              due_long = low.due_long ∙ st.due_long;
              counters_long = omega (arith, st.counters_long, low.counters_long);
              room = length-set list taken v ∙ st.room;
              passed = omega (arith, st.passed);
              left_is = left_out v front_small front_room;
              behind = λ p e. (let i = behind_after v front_below near held near_long st.held_long near_is in_held v_left due cs1 ds1 low front (suc front)
                  then
                  (omega arith, omega arith) (λ q l. due_before first size (suc front) tail touched ds1 q l) then_from
                  (λ q e. never (in_set due (first + q)) e (free (first + q))) (λ q ne e. e) (λ q l h. omega arith) (omega arith) p e
                  (λ x u. never (in_set due x) u (free x)) in (i.0, omega (arith, i.1)));
              stays = st.stays;
              walking = rw (add-one front, listed) turned_on;
            }
              where
                listed : take (taken + 1) (set list taken v) ≡ take taken list ++ (v ∷ [])
                listed = ap (λ (x : ℕ). take x (set list taken v)) (add-one taken) ∙ take-suc-set list taken v front_room

                turned_on : Walking f k above part pos (take taken list ++ (v ∷ [])) (suc front) (in_set held) (λ w. get_or cs1 w 0) then
                turned_on =
                    let few : count (f v) (cands ++ later) + count (f v) above ≤ k = omega (arith, fit, look_count) in
                    rw v_at (turns.turn_take f k above part pos (turned.is_part s) st.walking in_part none (rw v_at at freed) (rw v_at at few))

      -- ---- v is passed: no candidate is its neighbour

      pub pass_done : 1 ≤ front → in_set touched v ≡ false
          → WordsState rise span ts tail ps (front + 1) (taken + 1) (work (take_out v left) held touched due stay counters) (set list taken v)
      pass_done some out = record {
        left_long = length_take_out v left ∙ st.left_long;
        held_long = st.held_long;
        touched_long = st.touched_long;
        due_long = st.due_long;
        counters_long = st.counters_long;
        room = length-set list taken v ∙ st.room;
        passed = omega (arith, st.passed);
        left_is = left_out v front_small front_room;
        behind = λ p e. never (in_set due p) e (free p);
        stays = st.stays;
        walking = rw (add-one front, listed) (turns.turns_due f k above part pos (turned.is_part s) turned_on
            (words_due first size (suc front) tail touched due) same);
      }
        where
          listed : take (taken + 1) (set list taken v) ≡ take taken list ++ (v ∷ [])
          listed = ap (λ (x : ℕ). take x (set list taken v)) (add-one taken) ∙ take-suc-set list taken v front_room

          undue : due_at front ≡ false
          undue = due_from first size front tail touched due front (omega arith) inside ∙ ap (in_set touched) (sym v_is) ∙ out

          few : count (f (get_or part front 0)) (drop (suc front) part) + count (f (get_or part front 0)) above ≤ k
          few = few_front_head f k above part front in_part (few_from_one f k above part front some s.few)

          turned_on : Walking f k above part pos (take taken list ++ (v ∷ [])) (suc front) (in_set held) (λ w. get_or counters w 0) due_at
          turned_on = rw v_at (turns.turn_pass f k above part pos (turned.is_part s) st.walking in_part none undue few)

          same : (q : ℕ) → due_at q ≡ words_due first size (suc front) tail touched due q
          same q = go (sides q (suc front)) (sides q front) (sides q size)
            where
              at_front : q < suc front → front ≤ q → due_at q ≡ false
              at_front l h = let is : q ≡ front = omega arith in ap due_at is ∙ undue

              go : (q < suc front) ⊎ (suc front ≤ q) → (q < front) ⊎ (front ≤ q) → (q < size) ⊎ (size ≤ q)
                  → due_at q ≡ words_due first size (suc front) tail touched due q
              go (inl l) (inl h) z = none q h ∙ sym (due_before first size (suc front) tail touched due q l ∙ free (first + q))
              go (inl l) (inr h) z = at_front l h ∙ sym (due_before first size (suc front) tail touched due q l ∙ free (first + q))
              go (inr l) h (inl z) = due_from first size front tail touched due q (omega arith) z ∙ sym (due_from first size (suc front) tail touched due q l z)
              go (inr l) h (inr z) = due_past first size front tail touched due q (omega arith) z ∙ sym (due_past first size (suc front) tail touched due q l z)

    -- ---- a candidate is taken back

    module _ (p : ℕ) (p_is : p ≡ head_or max_radios (common due due)) (p_small : p < max_radios) where
      p_due : in_set due p ≡ true
      p_due = first_marked_in due p p_is p_small

      abbrev j : ℕ
      j = p - first

      pub back_place : (first ≤ p) × (p - first < front) × (p - first < size)
      back_place =
          let b = st.behind p p_due in
          let l : p - first < front = omega (arith, b.0, b.1) in (b.0, l, omega (arith, l, front_fits.0))

      j_is : first + j ≡ p
      j_is = omega (arith, back_place.0)

      j_due : due_at j ≡ true
      j_due = due_before first size front tail touched due j back_place.1 ∙ ap (in_set due) j_is ∙ p_due

      undue : (q : ℕ) → q < j → due_at q ≡ false
      undue q l =
          due_before first size front tail touched due q (omega (arith, back_place.1))
          ∙ first_marked_least due p p_is (first + q) (omega (arith, j_is)) (omega (arith, j_is, p_small))

      module _ (v : ℕ) (v_is : v ≡ get_or tail j 0) where
        back_at : v ≡ get_or part j 0
        back_at = v_is ∙ sym (turned.part_at s j back_place.2)

        back_held : In v cands
        back_held = rw back_at (st.walking.fallen j back_place.1 j_due)

        pub back_below : v < n
        back_below = (turned.part_stands s v (held_part v back_held)).below

        back_small : v < max_radios
        back_small = omega (arith, back_below, s.small)

        taken_length : length (take taken list) ≡ taken
        taken_length = length-take-le taken list (omega (arith, st.passed, front_fits.1, st.room))

        -- some candidate is left, so there is room
        pub back_room : taken < front
        back_room = omega (arith, turns.length_held f k above part pos (turned.is_part s) st.walking, taken_length, in_length v cands back_held)
          where
            in_length : (x : ℕ) (xs : List ℕ) → In x xs → 1 ≤ length xs
            in_length x [] m = elim m [ ]
            in_length x (y ∷ ys) m = omega arith

        pub back_fits : taken < length list
        back_fits = omega (arith, back_room, front_fits.1, st.room)

        abbrev cand : List ℕ
        cand = take_out v held

        cand_long : length cand ≡ 8
        cand_long = length_take_out v held ∙ st.held_long

        own : in_set cand v ≡ false
        own = out_own v held st.held_long back_small

        other : (w : ℕ) → (w ≡ v → ⊥) → in_set cand w ≡ in_set held w
        other w ne = out_other v w held st.held_long back_small ne

        fewer : (w : ℕ) → in_set cand w ≡ true → In w cands
        fewer w e = go (bool_cases (eqb w v))
          where
            go : (eqb w v ≡ true) ⊎ (eqb w v ≡ false) → In w cands
            go (inl q) = rw (eqb-true w v q) back_held
            go (inr q) = in_held w (sym (other w (eqb-false w v q)) ∙ e)

        back_left : In v (cands ++ drop front part)
        back_left = in_left v cands (drop front part) back_held

        back_apart : (i : ℕ) → i < size → get_or tail i 0 ≡ v → i ≡ j
        back_apart i l e = turned.tail_apart s i j l back_place.2 (e ∙ v_is)

        -- the places due without p
        out_bits : (q : ℕ) → in_set (take_out p due) q ≡ true → (q ≡ p → ⊥) × (in_set due q ≡ true)
        out_bits q t = go (bool_cases (eqb q p))
          where
            go : (eqb q p ≡ true) ⊎ (eqb q p ≡ false) → (q ≡ p → ⊥) × (in_set due q ≡ true)
            go (inl e) = never (in_set (take_out p due) q) t (ap (in_set (take_out p due)) (eqb-true q p e) ∙ out_own p due st.due_long p_small)
            go (inr e) = let ne = eqb-false q p e in (ne, sym (out_other p q due st.due_long p_small ne) ∙ t)

        module _ (near : List ℕ) (near_long : length near ≡ 8) (h : JoinedAfter a b v ts (replicate 8 0) near) where
          back_near : (w : ℕ) → w < max_radios → in_set near w ≡ f v w
          back_near w l = near_only v back_below near h w l

          pub back_lowerable : Lowerable ps (common near cand) counters
          back_lowerable = lowerable v back_below near cand near_long cand_long back_near fewer back_left

          module _ (cs1 ds1 : List ℕ) (low : Lowered k ps (common near cand) counters (take_out p due) cs1 ds1) where
            abbrev back_due : ℕ → Bool
            back_due = words_due first size front tail touched ds1

            back_from : (q : ℕ) → front ≤ q → back_due q ≡ due_at q
            back_from q l = go (sides q size)
              where
                go : (q < size) ⊎ (size ≤ q) → back_due q ≡ due_at q
                go (inl z) = due_from first size front tail touched ds1 q l z ∙ sym (due_from first size front tail touched due q l z)
                go (inr z) = due_past first size front tail touched ds1 q l z ∙ sym (due_past first size front tail touched due q l z)

            old : (q : ℕ) → in_set (take_out p due) (first + q) ≡ true → (q < front) × (q ≡ j → ⊥) × (in_set due (first + q) ≡ true)
            old q t =
                let o = out_bits (first + q) t in
                (omega (arith, st.behind (first + q) o.1), λ e. o.0 (ap (λ (x : ℕ). first + x) e ∙ j_is), o.1)

            keeps : (q : ℕ) → (q ≡ j → ⊥) → in_set due (first + q) ≡ true → in_set (take_out p due) (first + q) ≡ true
            keeps q ne t = out_other p (first + q) due st.due_long p_small (λ e. ne (omega (arith, j_is))) ∙ t

            pub back_done : WordsState rise span ts tail ps front (taken + 1)
                (work (take_out v left) cand touched ds1 (take_out p stay) cs1) (set list taken v)
            back_done = record {
              left_long = length_take_out v left ∙ st.left_long;
              held_long = cand_long;
              touched_long = st.touched_long;
              due_long = low.due_long ∙ length_take_out p due ∙ st.due_long;
              counters_long = omega (arith, st.counters_long, low.counters_long);
              room = length-set list taken v ∙ st.room;
              passed = omega (arith, back_room);
              left_is = left_out v back_small back_fits;
              behind = λ q e. behind_after v back_below near cand near_long cand_long back_near fewer back_left (take_out p due) cs1 ds1 low j front back_due
                  (omega arith, omega arith) (λ q l. due_before first size front tail touched ds1 q l) back_from old keeps (λ q l h. absurd (omega arith))
                  back_place.1
                  q e (λ x u. st.behind x (out_bits x u).1);
              stays = rw j_is at (entries.marked_taken first size tail st.stays j v back_place.2 (omega (arith, j_is, p_small)) (sym v_is) back_apart
                  (in_set cand) other own);
              walking = rw listed turned_on;
            }
              where
                listed : take (taken + 1) (set list taken v) ≡ take taken list ++ (v ∷ [])
                listed = ap (λ (x : ℕ). take x (set list taken v)) (add-one taken) ∙ take-suc-set list taken v back_fits

                freed : turns.Released f k above part pos v j (in_set cand) (λ w. get_or counters w 0) (λ w. get_or cs1 w 0) due_at back_due
                freed =
                    released v back_below near cand near_long cand_long back_near fewer back_left (take_out p due) cs1 ds1 low j front back_due
                    (omega arith, omega arith)
                    (λ q l. due_before first size front tail touched ds1 q l) back_from old keeps (λ q l h. absurd (omega arith)) back_place.1

                turned_on : Walking f k above part pos (take taken list ++ (v ∷ [])) front (in_set cand) (λ w. get_or cs1 w 0) back_due
                turned_on =
                    rw back_at (turns.turn_back f k above part pos (turned.is_part s) st.walking j back_place.1 j_due undue (rw back_at at freed)
                    (rw back_at at own)
                    (rw back_at at other))

    -- ---- which turn it is

    -- what `next` asks
    pub next_fits : (first + size ≤ max_radios) × (front ≤ size)
    next_fits = (omega (arith, s.fits, s.small), front_fits.0)

    step_back : (p : ℕ) → Some (Back p) ≡ next_turn first size front taken due → (p ≡ head_or max_radios (common due due)) × (p < max_radios)
    step_back p e =
        let t = turn_is first size front taken due (Some (Back p)) e in
        (lowest_some due (first + size) p t.1 (omega (arith, t.2, next_fits)), omega (arith, t.2, next_fits))

    -- where no place before the front is due, none is
    none_due : first + front ≤ head_or (first + size) (common due due) → (q : ℕ) → in_set due q ≡ false
    none_due h q = go (bool_cases (in_set due q))
      where
        go : (in_set due q ≡ true) ⊎ (in_set due q ≡ false) → in_set due q ≡ false
        go (inl t) = let b = st.behind q t in lowest_least due (first + size) q (omega (arith, b.1)) (omega (arith, b.1, next_fits))
        go (inr t) = t

    step_free : (until : ℕ) → Some (Ahead until) ≡ next_turn first size front taken due → (front < size) × ((q : ℕ) → in_set due q ≡ false)
    step_free until e = let t = turn_is first size front taken due (Some (Ahead until)) e in (t.1, none_due t.2)

    module _ (turn : Turn) (e : Some turn ≡ next_turn first size front taken due) where
      pub step_some : taken < front
      step_some = go turn (turn_is first size front taken due (Some turn) e)
        where
          go : (t : Turn) → Turning first size front taken due (Some t) → taken < front
          go (Back p) h = h.0
          go (Ahead until) h = h.0

      pub back_turn : (p : ℕ) → turn ≡ Back p → (p ≡ head_or max_radios (common due due)) × (p < max_radios)
      back_turn p is = step_back p (rw is at e)

      pub front_turn : (until : ℕ) → turn ≡ Ahead until → (front < size) × ((q : ℕ) → in_set due q ≡ false)
      front_turn until is = step_free until (rw is at e)

    -- ---- the end

    -- what `list_entries` asks
    pub words_entries : (taken ≤ max_radios) × Stands first (length tail) (set_places stay)
    words_entries = (omega (arith, st.passed, front_fits.1), entries.marked_stand first size tail st.stays s.fits)

    pub words_end : 1 ≤ front → None ≡ next_turn first size front taken due → (list1 : List ℕ)
        → list1 ≡ sets list taken (entries_at first tail (set_places stay)) → WalkDone rise span ts tail front taken list1
    words_end some stop list1 made =
        walk_over s front taken list st.walking st.room st.passed some st.stays (go (turn_is first size front taken due None stop)) list1 made
      where
        go : Turning first size front taken due None → (front ≤ taken) ⊎ (((q : ℕ) → q < front → due_at q ≡ false) × (size ≤ front))
        go (inl l) = inl l
        go (inr h) = inr (λ q l. due_before first size front tail touched due q l ∙ none_due h.0 (first + q), h.1)

  -- ---- before the first turn

  pub words_start : (left list : List ℕ) → length left ≡ 8 → ((w : ℕ) → w < max_radios → in_set left w ≡ member w tail) → length list ≡ max_radios
      → WordsState rise span ts tail ps 0 0 (work left (replicate 8 0) (replicate 8 0) (replicate 8 0) (replicate 8 0) (replicate max_radios 0)) list
  unfolding member words_due
  words_start left list long is room = record {
    left_long = long;
    held_long = length-replicate {A = ℕ} 8 0;
    touched_long = length-replicate {A = ℕ} 8 0;
    due_long = length-replicate {A = ℕ} 8 0;
    counters_long = omega (arith, s.small, length-replicate {A = ℕ} max_radios 0);
    room = room;
    passed = omega arith;
    left_is = λ v l. is v l ∙ whole_true (member v tail);
    behind = λ p e. never (in_set (replicate 8 0) p) e (in_set_zeros 8 p);
    stays = entries.marked_none first size tail (in_set (replicate 8 0)) (λ v. in_set_zeros 8 v);
    walking = turns.turns_none f k above part pos (turned.is_part s) (in_set (replicate 8 0)) (λ v. get_or (replicate max_radios 0) v 0)
        (words_due first size 0 tail (replicate 8 0) (replicate 8 0)) (λ v. in_set_zeros 8 v) (λ v. omega (arith, get_d_zeros max_radios v))
        (λ q. rw (in_set_zeros 8 (first + q), in_set_zeros 8 (get_or tail q 0)) (nothing (ltb q 0) (ltb q size)));
  }
    where
      whole_true : (b : Bool) → b ≡ (b && true)
      whole_true true = refl
      whole_true false = refl

      nothing : (x y : Bool) → cond x false (y && false) ≡ false
      nothing true y = refl
      nothing false true = refl
      nothing false false = refl

-- as the code names its values
pub lowerable_as : (near : List ℕ) {ps cand cand1 counters : List ℕ} → cand1 ≡ cand → Lowerable ps (common near cand) counters → Lowerable ps
    (common near cand1) counters
lowerable_as near e h = rw e h

pub lowered_as : (near : List ℕ) {k : ℕ} {ps cand cand1 counters ds ds0 cs1 ds1 : List ℕ} → cand1 ≡ cand → ds ≡ ds0 → Lowered k ps (common near cand1) counters
    ds cs1 ds1
    → Lowered k ps (common near cand) counters ds0 cs1 ds1
lowered_as near e d h = rw (e, d) at h

pub state_as : {rise : Rise} {span : Part} {ts tail ps : List ℕ} {front taken : ℕ} {left held touched due stay counters list : List ℕ}
    {left1 held1 touched1 due1 stay1 : List ℕ} → left1 ≡ left → held1 ≡ held → touched1 ≡ touched → due1 ≡ due → stay1 ≡ stay
    → WordsState rise span ts tail ps front taken (work left held touched due stay counters) list
    → WordsState rise span ts tail ps front taken (work left1 held1 touched1 due1 stay1 counters) list
state_as e0 e1 e2 e3 e4 st = rw (e0, e1, e2, e3, e4) st
