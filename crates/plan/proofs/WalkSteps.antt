-- The walk's loop: its turns, and what it comes to.
--   start_state   before the first turn nothing is held, counted or due
--   settled_is    the quick path's count
--   walk_end      what the loop and the listing of the candidates leave
use Rattle.std.specs.Prelude.{None, Some, ◌≡◌, ◌⊎◌, ◌∷◌, ◌++◌, ◌+◌, ◌-◌, ◌≤◌, ◌<◌}
use Rattle.lists.{specs.Kit.{refl, sym, ap, ◌∙◌, inl, inr, Bool, true, false, List, [], append-nil, ℕ, arith}}
use Rattle.lists.{specs.Kit.{add-zero, leb, eqb, length, get_or, take, drop, replicate, length-replicate, length-append, drop_of_length-le}}
use Rattle.lists.{specs.Kit.{take-append-drop, length-take-le, sets, sets-eq, length-sets, take-take, take_at, drop_at, drop-cons, paste}}
use Rattle.lists.{specs.Lists.{count, head_or}, proofs.Tests.{never}, proofs.Parts.{get_d_zeros}}
use Rattle.lists.{proofs.Count.{count_append}}
use Rattle.mesh.{specs.Limits.{max_radios}, specs.Tables.{put_link}, specs.Peel.{Peels}}
use Rattle.rows.{specs.Rows.{neighbours_of}}
use Rattle.walks.{specs.Walk.{Walking}, proofs.Front.{few_from_one}}
use Rattle.plan.specs.{Turns.{ListsNeighbours}, Places.{next_turn, set_places, entries_at, Stands, MarkedPlaces}, Walks.{is_left}}
use Rattle.plan.specs.{Walks.{radios_of, joined, WalkSite, WalkState, WalkDone, rise_of, part_of, candidates}}
use Rattle.plan.proofs.{EntryLists.{marked_none, marked_stand, marked_listed}, PlaceLaws.{lowest_least, lowest_some, Turning, turn_is}}
use Rattle.plan.specs.declared.places.Turn.{Turn, TheVariants.{Back, Ahead}}
use Rattle.rows.proofs.SetLaws.{in_set_zeros}
use Rattle.rows.specs.Sets.{in_set, common}
use Rattle.walks.proofs.Turns as turns
use Rattle.plan.proofs.WalkTurns as turned

module _ {a b k first size : ℕ} {ts ns tail ps : List ℕ} (s : WalkSite (rise_of a b k) (part_of first size) ts ns tail ps) where
  abbrev f : ℕ → ℕ → Bool
  f = joined a b first ts tail

  abbrev part : List ℕ
  part = take size tail

  abbrev above : List ℕ
  above = drop size tail

  abbrev us : List ℕ
  us = put_link true a b ts

  abbrev pos : ℕ → ℕ
  pos v = get_or ps v 0 - first

  -- ---- before the first turn

  pub start_state : (list : List ℕ) → length list ≡ max_radios
      → WalkState (rise_of a b k) (part_of first size) ts tail ps 0 0
      (candidates (replicate max_radios 0) (replicate max_radios 0) (replicate 8 0) (replicate 8 0)) list
  start_state list room = record {
    held_long = omega (arith, s.small, length-replicate {A = ℕ} max_radios 0);
    counters_long = omega (arith, s.small, length-replicate {A = ℕ} max_radios 0);
    due_long = length-replicate {A = ℕ} 8 0;
    room = room;
    passed = omega arith;
    low = λ p t. absurd (never (in_set (replicate 8 0) p) t (in_set_zeros 8 p));
    stays = marked_none first size tail (λ v. eqb (get_or (replicate max_radios 0) v 0) 1) (λ v. ap (λ (x : ℕ). eqb x 1) (get_d_zeros max_radios v));
    walking = turns.turns_none f k above part pos (turned.is_part s) (λ v. eqb (get_or (replicate max_radios 0) v 0) 1) (λ v. get_or (replicate max_radios 0) v 0)
        (λ q. in_set (replicate 8 0) (first + q)) (λ v. ap (λ (x : ℕ). eqb x 1) (get_d_zeros max_radios v))
        (λ v. omega (arith, get_d_zeros max_radios v))
        (λ p. in_set_zeros 8 (first + p));
  }

  pub start_free : (0 < size) × ((q : ℕ) → q < 0 → in_set (replicate 8 0) (first + q) ≡ false)
  start_free = (s.some, λ q l. absurd (omega arith))

  -- ---- the quick path

  abbrev e : ℕ
  e = get_or tail 0 0

  first_is : e ≡ get_or part 0 0
  first_is = sym (turned.part_at s 0 s.some)

  pub first_below : e < radios_of first tail
  first_below = turned.front_below s (start_state (replicate max_radios 0) (length-replicate {A = ℕ} max_radios 0)) e first_is s.some start_free.1

  tail_cut : drop 1 tail ≡ drop 1 part ++ above
  tail_cut =
      ap (drop 1)
      (sym (take-append-drop size tail) ∙ ap (λ (z : List ℕ). z ++ above) (drop-cons part 0 0 (omega (arith, s.some, turned.part_length s))))

  pub settled_is : (r c : ℕ) (near : List ℕ) → ListsNeighbours us e r near → c ≡ count (is_left k first ns ps (replicate max_radios 0)) (take r near)
      → leb c k ≡ leb (count (f e) (drop 1 tail)) k
  settled_is r c near listed counted = ap (λ (x : ℕ). leb x k) is
    where
      none : List ℕ
      none = (start_state (replicate max_radios 0) (length-replicate {A = ℕ} max_radios 0)).walking.held

      empty : (zs : List ℕ) → length zs ≡ 0 → zs ≡ []
      empty [] q = refl
      empty (z ∷ zs) q = absurd (omega arith)

      none_held : none ≡ []
      none_held = empty none (omega (
        arith,
        turns.length_held f k above part pos (turned.is_part s)
            (start_state (replicate max_radios 0) (length-replicate {A = ℕ} max_radios 0)).walking,
      ))

      left : count (is_left k (first + 0) ns ps (replicate max_radios 0)) (neighbours_of us e) ≡ count (f e) (drop 1 part) + count (f e) above
      left =
          turned.look_count s (start_state (replicate max_radios 0) (length-replicate {A = ℕ} max_radios 0)) e first_is s.some start_free.1
          ∙ ap (λ (z : List ℕ). count (f e) (z ++ drop 1 part) + count (f e) above) none_held

      is : c ≡ count (f e) (drop 1 tail)
      is =
          counted ∙ ap (count (is_left k first ns ps (replicate max_radios 0))) listed.listed
          ∙ ap (λ (x : ℕ). count (is_left k x ns ps (replicate max_radios 0)) (neighbours_of us e)) (sym (add-zero first))
          ∙ left ∙ sym (ap (count (f e)) tail_cut ∙ count_append (f e) (drop 1 part) above)

  module _ {front taken : ℕ} {hs cs ds ss list : List ℕ} (st : WalkState (rise_of a b k) (part_of first size) ts tail ps front taken
      (candidates hs cs ds ss) list) where
    pub front_fits : (front ≤ size) × (first + front ≤ max_radios)
    front_fits = (omega (arith, st.walking.room, turned.part_length s), omega (arith, st.walking.room, turned.part_length s, s.fits, s.small))

    -- what `list_entries` asks
    pub walk_entries : (taken ≤ max_radios) × Stands first (length tail) (set_places ss)
    walk_entries = (omega (arith, st.passed, front_fits.1), marked_stand first size tail st.stays s.fits)

    -- what `next` asks
    pub next_fits : (first + size ≤ max_radios) × (front ≤ size)
    next_fits = (omega (arith, s.fits, s.small), front_fits.0)

    step_back : (p : ℕ) → Some (Back p) ≡ next_turn first size front taken ds → (p ≡ head_or max_radios (common ds ds)) × (p < first + front)
    step_back p e =
        let t = turn_is first size front taken ds (Some (Back p)) e in
        (lowest_some ds (first + size) p t.1 (omega (arith, t.2, next_fits)), t.2)

    module _ (turn : Turn) (e : Some turn ≡ next_turn first size front taken ds) where
      pub step_some : taken < front
      step_some = go turn (turn_is first size front taken ds (Some turn) e)
        where
          go : (t : Turn) → Turning first size front taken ds (Some t) → taken < front
          go (Back p) h = h.0
          go (Ahead until) h = h.0

      pub back_turn : (p : ℕ) → turn ≡ Back p → (p ≡ head_or max_radios (common ds ds)) × (p < first + front)
      back_turn p is = step_back p (rw is at e)

      module _ (until : ℕ) (is : turn ≡ Ahead until) where
        ahead : Turning first size front taken ds (Some (Ahead until))
        ahead = turn_is first size front taken ds (Some (Ahead until)) (rw is at e)

        undue : (q : ℕ) → q < until → in_set ds (first + q) ≡ false
        undue q l = lowest_least ds (first + size) (first + q) (omega (arith, ahead.2, ahead.3)) (omega (arith, ahead.3, s.fits, s.small))

        pub look_turn : until ≡ front → (front < size) × ((q : ℕ) → q < front → in_set ds (first + q) ≡ false)
        look_turn u = (ahead.1, λ q l. undue q (omega (arith, u)))

        pub pass_place : (front ≤ until) × (until ≤ size) × (until ≤ length tail) × (taken + (until - front) ≤ length list)
        pass_place = (
          omega (arith, ahead.1, ahead.2, ahead.3),
          omega (arith, ahead.3),
          omega (arith, ahead.3, s.fits),
          omega (arith, ahead.1, ahead.2, ahead.3, st.passed, st.room, s.fits, s.small),
        )

        pub pass_turn : (list1 : List ℕ) → list1 ≡ paste list taken (drop front tail) (until - front)
            → WalkState (rise_of a b k) (part_of first size) ts tail ps until (taken + (until - front)) (candidates hs cs ds ss) list1
        pass_turn list1 made =
            turned.pass_done s st until (until - front) (omega (arith, pass_place.0)) pass_place.1 (omega (arith, step_some))
            undue list1 made

  -- ---- the end of a walk: no candidate is left, or the part is at its end and nothing is due

  module _ (front taken : ℕ) (list : List ℕ) {ss : List ℕ} {mark : ℕ → Bool} {counter : ℕ → ℕ} {due : ℕ → Bool}
      (w : Walking f k above part pos (take taken list) front mark counter due) (room : length list ≡ max_radios) (passed : taken ≤ front)
      (some : 1 ≤ front) (stays : MarkedPlaces first size tail mark ss) where
    abbrev held : List ℕ
    held = w.held

    fits : (front ≤ size) × (first + front ≤ max_radios)
    fits = (omega (arith, w.room, turned.part_length s), omega (arith, w.room, turned.part_length s, s.fits, s.small))

    taken_length : length (take taken list) ≡ taken
    taken_length = length-take-le taken list (omega (arith, passed, fits.1, room))

    many : taken + length held ≡ front
    many = omega (arith, turns.length_held f k above part pos (turned.is_part s) w, taken_length)

    -- the marked places have the candidates
    held_entries : entries_at first tail (set_places ss) ≡ held
    held_entries =
        marked_listed first size tail stays s.fits (omega (arith, s.fits, s.small))
        ∙ sym (turns.held_listed f k above part pos (turned.is_part s) w)

    module _ (list1 : List ℕ) (made : list1 ≡ sets list taken held) where
      listed : take front list1 ≡ take taken list ++ held
      listed =
          ap (take front) (made ∙ sets-eq held list taken (omega (arith, many, fits.1, room)))
          ∙ take_at (take taken list ++ held) (drop (taken + length held) list) front (length-append (take taken list) held ∙ omega (arith, taken_length, many))

      listed_taken : take taken list1 ≡ take taken list
      listed_taken = sym (take-take taken front list1 (omega (arith, many))) ∙ ap (take taken) listed ∙ take_at (take taken list) held taken taken_length

      listed_held : drop taken (take front list1) ≡ held
      listed_held = ap (drop taken) listed ∙ drop_at (take taken list) held taken taken_length

      done : (taken ≡ front) ⊎ (front ≡ size) → Peels f k above part (take taken list ++ drop front part) held
          → WalkDone (rise_of a b k) (part_of first size) ts tail front taken list1
      done way peels = record {
        room = omega (arith, room, ap length made, length-sets list taken held);
        passed = passed;
        fits = fits.0;
        either = way;
        peels = rw (listed_taken, listed_held) peels;
      }

      none_left : front ≤ taken → WalkDone (rise_of a b k) (part_of first size) ts tail front taken list1
      none_left l =
          let same : taken ≡ front = omega (arith, passed) in
          done (inl same)
          (rw (none held (omega (arith, many)))
          (turns.turns_stop f k above part pos (turned.is_part s) w (taken_length ∙ same) (few_from_one f k above part front some s.few)))
        where
          none : (zs : List ℕ) → length zs ≡ 0 → zs ≡ []
          none [] q = refl
          none (z ∷ zs) q = absurd (omega arith)

      all_walked : ((q : ℕ) → q < front → due q ≡ false) × (size ≤ front) → WalkDone (rise_of a b k) (part_of first size) ts tail front taken list1
      all_walked h =
          let same : front ≡ size = omega (arith, h.1, fits.0) in
          done (inr same)
          (rw (gone, append-nil (take taken list))
          (turns.turns_stuck f k above part pos (turned.is_part s) w h.0 (omega (arith, same, turned.part_length s))))
        where
          gone : drop front part ≡ []
          gone = drop_of_length-le part {i = front} (omega (arith, h.1, turned.part_length s))

    pub walk_over : (front ≤ taken) ⊎ (((q : ℕ) → q < front → due q ≡ false) × (size ≤ front)) → (list1 : List ℕ)
        → list1 ≡ sets list taken (entries_at first tail (set_places ss)) → WalkDone (rise_of a b k) (part_of first size) ts tail front taken list1
    walk_over (inl l) list1 made = none_left list1 (made ∙ ap (sets list taken) held_entries) l
    walk_over (inr h) list1 made = all_walked list1 (made ∙ ap (sets list taken) held_entries) h

  pub walk_end : {front taken : ℕ} {hs cs ds ss list : List ℕ}
      → WalkState (rise_of a b k) (part_of first size) ts tail ps front taken (candidates hs cs ds ss) list → 1 ≤ front
      → None ≡ next_turn first size front taken ds → (list1 : List ℕ)
      → list1 ≡ sets list taken (entries_at first tail (set_places ss)) → WalkDone (rise_of a b k) (part_of first size) ts tail front taken list1
  walk_end {front} {taken} {hs} {cs} {ds} {ss} {list} st some stop list1 made =
      walk_over front taken list st.walking st.room st.passed some st.stays (go (turn_is first size front taken ds None stop)) list1 made
    where
      go : Turning first size front taken ds None → (front ≤ taken) ⊎ (((q : ℕ) → q < front → in_set ds (first + q) ≡ false) × (size ≤ front))
      go (inl l) = inl l
      go (inr h) = inr (λ q l. lowest_least ds (first + size) (first + q) (omega (arith, h.0)) (omega (arith, (front_fits st).1)), h.1)

-- as the code names its values
pub done_as : {a b k first size front taken at many : ℕ} {ts tail list : List ℕ} → at ≡ front → many ≡ taken
    → WalkDone (rise_of a b k) (part_of first size) ts tail front taken
    list
    → WalkDone (rise_of a b k) (part_of first size) ts tail at many list
done_as e f d = rw (e, f) d
