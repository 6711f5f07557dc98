-- A turn of the peel, on plain values: the lowest fitting place is that of the radio that the peel takes next, and after its
-- neighbours are released counters and fitting places tell of what is left then. At the end the radios whose counter is above
-- the bound are the stuck ones.
use Rattle.std.specs.Prelude.{◌≡◌, ◌⊎◌, ◌&&◌, ◌||◌, ◌∷◌, ◌++◌, ◌+◌, ◌≤◌, ◌<◌}
use Rattle.lists.{specs.Kit.{refl, sym, ap, ◌∙◌, inl, inr, Bool, true, false, not, cond, List, [], ℕ, arith}}
use Rattle.lists.{specs.Kit.{ltb, leb, eqb, length, get_or, length-append, eqb-true, eqb-false, ne_eqb, leb-true, leb-false, lt-ltb, le-ltb}, specs.Lists.{count}}
use Rattle.lists.{specs.Lists.{filter, member, head_or, In}, specs.Facts.{Distinct, Rising}, proofs.Tests.{bool_cases, never, and_left, and_right, bit_false}}
use Rattle.lists.{proofs.Member.{in_left, in_right, in_cases, in_drop, member_in, in_member, not_member, split_in}, proofs.Count.{count_mid}}
use Rattle.lists.{proofs.Count.{count_pos, count_all}, proofs.Distinct.{permutation_in, distinct_mid, distinct_right, distinct_apart, permutation_distinct}}
use Rattle.lists.{proofs.Filter.{filter_ext, in_filter, filter_in, distinct_filter}, proofs.Ascending.{rising_filter, rising_before}}
use Rattle.mesh.{specs.Limits.{max_radios}, specs.Tables.{marked}, specs.Peel.{Peels}}
use Rattle.mesh.{proofs.Links.Peel.{takes_more, takes_permutation, takes_now_in, takes_taken_in, takes_now_filter}}
use Rattle.rows.{specs.Rows.{neighbours_of}, proofs.RowListLaws.{distinct_neighbours_of, in_neighbours_of, member_neighbours_of}, specs.Sets.{in_set}}
use Rattle.plan.specs.{Turns.{released, places_released, near_left, Releasable}, Peels.{stretch, above, Level, Turning, LeftSet, stretch_at}}
use Rattle.plan.proofs.{TurnLaws.{get_d_released_level, fits_released, marked_released, marked_released_place}, TurnLoops.{length_released}}
use Rattle.plan.proofs.{TurnLoops.{length_places_released}, StretchLoops.{length_stretch}, LevelLaws.{first_marked_in, first_marked_least, place_level}}
use Rattle.plan.proofs.{LevelLaws.{level_stretch, Stands, stretch_stands, place_apart, place_small, rising_stretch, distinct_stretch}}
use Rattle.plan.proofs.TurnLaws.{place_out}
use Rattle.rows.proofs.SetLaws.{length_take_out}
use Rattle.rows.specs.Sets.{take_out, common}

module _ {f : ℕ → ℕ → Bool} {ns os ps : List ℕ} {k start size : ℕ} (lv : Level f ns os ps k start size) (m : ℕ) where
  abbrev level : List ℕ
  level = stretch os start size

  abbrev high : List ℕ
  high = above os start size

  abbrev place : ℕ → ℕ
  place v = get_or ps v 0

  module _ {taken cs fs : List ℕ} (h : Turning f m os ps (stretch_at start size) taken cs fs) where
    abbrev left : List ℕ
    left = h.rest

    all_distinct : Distinct (taken ++ left)
    all_distinct = permutation_distinct (taken ++ left) level (λ g. sym (takes_permutation f m high h.takes g)) (distinct_stretch lv)

    left_distinct : Distinct left
    left_distinct = distinct_right taken left all_distinct

    level_cases : (v : ℕ) → In v level → In v taken ⊎ In v left
    level_cases v i = in_cases v taken left (permutation_in level (taken ++ left) (takes_permutation f m high h.takes) v i)

    left_in : (v : ℕ) → In v left → In v level
    left_in = takes_now_in f m high h.takes

    left_rising : Rising place left
    left_rising =
        rw (takes_now_filter f m high (distinct_stretch lv) h.takes) (rising_filter place (λ v. member v left) level (rising_stretch lv))

    pub length_left : length taken + length left ≡ size
    length_left =
        omega (
          arith,
          takes_permutation f m high h.takes (λ x. true),
          count_all level,
          count_all (taken ++ left),
          length-append taken left,
          length_stretch os start size lv.fits,
        )

    -- ---- the end: no place fits

    module _ (none : (p : ℕ) → p < max_radios → in_set fs p ≡ false) where
      left_full : (v : ℕ) → In v left → m < get_or cs v 0
      left_full v i =
          let at = left_in v i in
          let s = stretch_stands lv v at in
          leb-false (get_or cs v 0) m
          (sym (ap (λ (b : Bool). b && leb (get_or cs v 0) m) (in_member v left i)) ∙ sym (h.fitting v at) ∙ none (place v)
          (omega (arith, s.high, lv.fits, lv.small)))

      left_is : left ≡ filter (λ v. ltb m (get_or cs v 0)) level
      left_is =
          takes_now_filter f m high (distinct_stretch lv) h.takes
          ∙ filter_ext (λ v. member v left) (λ v. ltb m (get_or cs v 0)) level (λ v i. go v (level_cases v i) (bool_cases (member v left)))
        where
          go : (v : ℕ) → In v taken ⊎ In v left → (member v left ≡ true) ⊎ (member v left ≡ false) → member v left ≡ ltb m (get_or cs v 0)
          go v c (inl e) = e ∙ sym (lt-ltb m (get_or cs v 0) (left_full v (member_in v left e)))
          go v (inl t) (inr e) = e ∙ sym (le-ltb m (get_or cs v 0) (h.spent v t))
          go v (inr i) (inr e) = never (member v left) (in_member v left i) e

      pub turns_end : Peels f m high level taken (filter (λ v. ltb m (get_or cs v 0)) level)
      turns_end = rw (← left_is) (record { takes = h.takes; full = λ v i. omega (arith, left_full v i, h.counted v i) })

    -- ---- a turn: the place p is the lowest that fits

    module _ (p : ℕ) (first : p ≡ head_or max_radios (common fs fs)) (some : p < max_radios) where
      abbrev v : ℕ
      v = get_or os p 0

      there : (start ≤ p) × (p < start + size)
      there = h.standing p some (first_marked_in fs p first some)

      pub taken_below : p < length os
      taken_below = omega (arith, there.1, lv.fits)

      pub taken_level : In v level
      taken_level = place_level lv p there.0 there.1

      taken_place : place v ≡ p
      taken_place = lv.placed p there.0 there.1

      taken_fits : (member v left && leb (get_or cs v 0) m) ≡ true
      taken_fits = sym (h.fitting v taken_level) ∙ ap (in_set fs) taken_place ∙ first_marked_in fs p first some

      pub taken_left : In v left
      taken_left = member_in v left (and_left (member v left) (leb (get_or cs v 0) m) taken_fits)

      taken_few : get_or cs v 0 ≤ m
      taken_few = leb-true (get_or cs v 0) m (and_right (member v left) (leb (get_or cs v 0) m) taken_fits)

      pub taken_room : length taken < size
      taken_room = omega (arith, length_left, count_all left, count_pos (λ x. true) v left taken_left refl)

      -- the radios that v releases: of what is left its neighbours after the call, of the taken any or none
      module _ (near : List ℕ) (may : Releasable ns ps k near cs) (releases : (w : ℕ) → In w left → member w near ≡ f v w) where
        abbrev cs1 : List ℕ
        cs1 = released ns k near cs

        abbrev fs0 : List ℕ
        fs0 = take_out p fs

        abbrev fs1 : List ℕ
        fs1 = places_released ns ps k m near cs fs0

        -- one less where v releases w
        counter_after : (w : ℕ) → In w level → get_or cs1 w 0 + cond (member w near) 1 0 ≡ get_or cs w 0
        counter_after w i = get_d_released_level ns k ps near cs may w (stretch_stands lv w i).level

        counter_less_or_same : (w : ℕ) → In w level → get_or cs1 w 0 ≤ get_or cs w 0
        counter_less_or_same w i = omega (arith, counter_after w i)

        long_fs0 : length fs0 ≡ 8
        long_fs0 = length_take_out p fs ∙ h.fits_long

        place_marked_after : (w : ℕ) → In w level → in_set fs1 (place w) ≡
            (cond (eqb p (place w)) false (in_set fs (place w)) || (member w near && eqb (get_or cs1 w 0) m))
        place_marked_after w i =
            let s = stretch_stands lv w i in
            marked_released_place ns ps k m (place_small lv) (place_apart lv) near cs fs0 long_fs0 may w (omega (arith, s.below, lv.numbers_length))
            s.level
            ∙ rw (place_out p (place w) fs h.fits_long some)

        -- what is left, cut at v
        module _ (xs ys : List ℕ) (cut : left ≡ xs ++ v ∷ ys) where
          apart : Distinct (v ∷ (xs ++ ys))
          apart = distinct_mid v xs ys (rw cut at left_distinct)

          fits_now : count (f v) (xs ++ ys) + count (f v) high ≤ m
          fits_now =
              omega (arith, taken_few, h.counted v taken_left, ap (count (f v)) cut, count_mid (f v) v xs ys, bit_false (f v v) (lv.irreflexive v))

          before : (w : ℕ) → In w xs → m < count (f w) left + count (f w) high
          before w i = go (bool_cases (eqb (place w) p))
            where
              in_left_now : In w left
              in_left_now = rw cut (in_left w xs (v ∷ ys) i)

              at : In w level
              at = left_in w in_left_now

              s : Stands lv w
              s = stretch_stands lv w at

              low : place w ≤ p
              low = omega (arith, rising_before place v xs ys (rw cut at left_rising) w i, taken_place)

              go : (eqb (place w) p ≡ true) ⊎ (eqb (place w) p ≡ false) → m < count (f w) left + count (f w) high
              go (inl e) =
                  let same : v ≡ w = sym (ap (λ (x : ℕ). get_or os x 0) (eqb-true (place w) p e)) ∙ s.entry in
                  absurd (apart.0 (rw same (in_left w xs ys i)))
              go (inr e) =
                  let unmarked = first_marked_least fs p first (place w) (omega (arith, low, eqb-false (place w) p e)) (omega (arith, low)) in
                  omega (
                    arith,
                    h.counted w in_left_now,
                    leb-false (get_or cs w 0) m (sym (ap (λ (b : Bool). b && leb (get_or cs w 0) m) (in_member w left in_left_now)) ∙ sym (h.fitting w at) ∙
                        unmarked),
                  )

          still_left : (w : ℕ) → In w (xs ++ ys) → In w left
          still_left w i = rw cut (back (in_cases w xs ys i))
            where
              back : In w xs ⊎ In w ys → In w (xs ++ v ∷ ys)
              back (inl a) = in_left w xs (v ∷ ys) a
              back (inr b) = in_right w xs (v ∷ ys) (inr b)

          counted_after : (w : ℕ) → In w (xs ++ ys) → get_or cs1 w 0 ≡ count (f w) (xs ++ ys) + count (f w) high
          counted_after w i =
              let at = still_left w i in
              omega (
                arith,
                counter_after w (left_in w at),
                h.counted w at,
                ap (count (f w)) cut,
                count_mid (f w) v xs ys,
                ap (λ (b : Bool). cond {A = ℕ} b 1 0) (releases w at ∙ lv.symmetric v w),
              )

          member_after : (w : ℕ) → (v ≡ w → ⊥) → member w (xs ++ ys) ≡ member w left
          member_after w ne = go (bool_cases (member w left))
            where
              go : (member w left ≡ true) ⊎ (member w left ≡ false) → member w (xs ++ ys) ≡ member w left
              go (inl e) = in_member w (xs ++ ys) (in_drop w v xs ys ne (rw cut at (member_in w left e))) ∙ sym e
              go (inr e) = not_member w (xs ++ ys) (λ i. never (member w left) (in_member w left (still_left w i)) e) ∙ sym e

          taken_unfit : (t : Bool) (x y : ℕ) → y + cond t 1 0 ≡ x → x ≤ m → (t && eqb y m) ≡ false
          taken_unfit false x y e l = refl
          taken_unfit true x y e l = ne_eqb y m (λ q. omega arith)

          fitting_after : (w : ℕ) → In w level → in_set fs1 (place w) ≡ (member w (xs ++ ys) && leb (get_or cs1 w 0) m)
          fitting_after w i = place_marked_after w i ∙ go (bool_cases (eqb p (place w)))
            where
              s : Stands lv w
              s = stretch_stands lv w i

              others : (v ≡ w → ⊥) → (t : Bool) → member w left ≡ t → ((t && leb (get_or cs w 0) m) || (member w near && eqb (get_or cs1 w 0) m)) ≡
                  (t && leb (get_or cs1 w 0) m)
              others ne true e = fits_released m (member w near) (get_or cs w 0) (get_or cs1 w 0) (counter_after w i)
              others ne false e = used (level_cases w i)
                where
                  used : In w taken ⊎ In w left → (member w near && eqb (get_or cs1 w 0) m) ≡ false
                  used (inl t) = taken_unfit (member w near) (get_or cs w 0) (get_or cs1 w 0) (counter_after w i) (h.spent w t)
                  used (inr l) = never (member w left) (in_member w left l) e

              go : (eqb p (place w) ≡ true) ⊎ (eqb p (place w) ≡ false)
                  → (cond (eqb p (place w)) false (in_set fs (place w)) || (member w near && eqb (get_or cs1 w 0) m)) ≡
                  (member w (xs ++ ys) && leb (get_or cs1 w 0) m)
              go (inl e) =
                  let same : v ≡ w = ap (λ (x : ℕ). get_or os x 0) (eqb-true p (place w) e) ∙ s.entry in
                  let self : member w near ≡ false = releases w (rw same at taken_left) ∙ ap (f v) (sym same) ∙ lv.irreflexive v in
                  let out : member w (xs ++ ys) ≡ false = not_member w (xs ++ ys) (rw same at apart.0) in
                  rw (e, self, out)
              go (inr e) =
                  let ne : v ≡ w → ⊥ = λ q. eqb-false p (place w) e (sym taken_place ∙ ap place q) in
                  rw (e, h.fitting w i, member_after w ne) (others ne (member w left) refl)

          standing_after : (q : ℕ) → q < max_radios → in_set fs1 q ≡ true → (start ≤ q) × (q < start + size)
          standing_after q l t = go (marked_released ns ps k m (place_small lv) near cs fs0 long_fs0 may q l t)
            where
              old : (b : Bool) → eqb p q ≡ b → cond b false (in_set fs q) ≡ true → in_set fs q ≡ true
              old true e u = never false u refl
              old false e u = u

              go : (in_set fs0 q ≡ true) ⊎ ((w : ℕ) × (w < length ns) × (get_or ns w 0 ≡ k) × (get_or ps w 0 ≡ q)) → (start ≤ q) × (q < start + size)
              go (inl u) = h.standing q l (old (eqb p q) refl (sym (place_out p q fs h.fits_long some) ∙ u))
              go (inr r) =
                  let s = lv.stands r.0 (omega (arith, r.1, lv.numbers_length)) r.2 in
                  (omega (arith, s.0, r.3), omega (arith, s.1, r.3))

          spent_after : (w : ℕ) → In w (taken ++ (v ∷ [])) → get_or cs1 w 0 ≤ m
          spent_after w i = go (in_cases w taken (v ∷ []) i)
            where
              go : In w taken ⊎ In w (v ∷ []) → get_or cs1 w 0 ≤ m
              go (inl t) = omega (arith, h.spent w t, counter_less_or_same w (takes_taken_in f m high h.takes w t))
              go (inr (inl e)) = rw (← e) (omega (arith, taken_few, counter_less_or_same v taken_level))
              go (inr (inr e)) = absurd e

          turned : Turning f m os ps (stretch_at start size) (taken ++ (v ∷ [])) cs1 fs1
          turned = record {
            rest = xs ++ ys;
            takes = takes_more f m high v xs ys h.takes cut fits_now before;
            counted = counted_after;
            fitting = fitting_after;
            standing = standing_after;
            spent = spent_after;
            counters_long = omega (arith, h.counters_long, length_released ns k near cs);
            fits_long = length_places_released ns ps k m near cs fs0 ∙ long_fs0;
          }

        pub turns_more : Turning f m os ps (stretch_at start size) (taken ++ (v ∷ [])) cs1 fs1
        turns_more = let r = split_in v left taken_left in turned r.0 r.1 r.2

      -- the neighbours of v after the call, as a row lists them
      module _ (us : List ℕ) (row_is : (w : ℕ) → w < max_radios → marked us v w ≡ f v w) where
        below_radios : (w : ℕ) → In w level → w < max_radios
        below_radios w i = omega (arith, (stretch_stands lv w i).below, lv.small)

        row_linked : (w : ℕ) → In w (neighbours_of us v) → f v w ≡ true
        row_linked w i = let r = in_neighbours_of us v w i in sym (row_is w r.0) ∙ r.1

        row_member : (w : ℕ) → In w level → member w (neighbours_of us v) ≡ f v w
        row_member w i = member_neighbours_of us v w (below_radios w i) ∙ row_is w (below_radios w i)

        row_releasable : (near : List ℕ) → Distinct near → ((w : ℕ) → In w near → f v w ≡ true)
            → ((w : ℕ) → In w near → In w level → 1 ≤ get_or cs w 0) → Releasable ns ps k near cs
        row_releasable near once linked some_left = record {
          once = once;
          known = λ w i. (let l = lv.within v w (linked w i) in
              (omega (arith, lv.numbers_length), omega (arith, lv.places_length), omega (arith, h.counters_long), omega (arith, lv.small)));
          above_zero = λ w i e. some_left w i (level_stretch lv w (lv.within v w (linked w i)) e);
        }

        -- the ones that are left
        module _ (set : List ℕ) (is : LeftSet taken set) where
          abbrev near_set : List ℕ
          near_set = near_left us v set

          in_near : (w : ℕ) → In w near_set → In w (neighbours_of us v) × (in_set set w ≡ true)
          unfolding near_left
          in_near w i = in_filter (in_set set) (neighbours_of us v) w i

          near_in : (w : ℕ) → In w (neighbours_of us v) → in_set set w ≡ true → In w near_set
          unfolding near_left
          near_in w i e = filter_in (in_set set) (neighbours_of us v) w i e

          still : (w : ℕ) → In w near_set → In w level → In w left
          still w i at = go (level_cases w at)
            where
              r : In w (neighbours_of us v) × (in_set set w ≡ true)
              r = in_near w i

              go : In w taken ⊎ In w left → In w left
              go (inl t) =
                  let gone : in_set set w ≡ false = is.has w (below_radios w at) ∙ ap not (in_member w taken t) in
                  never (in_set set w) r.1 gone
              go (inr l) = l

          pub left_releasable : Releasable ns ps k near_set cs
          unfolding near_left
          left_releasable = row_releasable near_set (distinct_filter (in_set set) (neighbours_of us v) (distinct_neighbours_of us v))
              (λ w i. row_linked w (in_near w i).0)
              (λ w i at. omega (arith, h.counted w (still w i at), count_pos (f w) v left taken_left (lv.symmetric w v ∙ row_linked w (in_near w i).0)))

          left_member : (w : ℕ) → In w left → member w near_set ≡ f v w
          left_member w i = go (bool_cases (f v w))
            where
              at : In w level
              at = left_in w i

              go : (f v w ≡ true) ⊎ (f v w ≡ false) → member w near_set ≡ f v w
              go (inl e) =
                  let out : member w taken ≡ false = not_member w taken (λ t. distinct_apart taken left all_distinct w t i) in
                  in_member w near_set (near_in w (member_in w (neighbours_of us v) (row_member w at ∙ e)) (is.has w (below_radios w at) ∙ ap not out)) ∙ sym e
              go (inr e) = not_member w near_set (λ t. never (f v w) (row_linked w (in_near w t).0) e) ∙ sym e

          pub left_turns : Turning f m os ps (stretch_at start size) (taken ++ (v ∷ [])) (released ns k near_set cs)
              (places_released ns ps k m near_set cs (take_out p fs))
          left_turns = turns_more near_set left_releasable left_member
