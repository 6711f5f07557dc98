-- The turns of the walk on its tables: each leaves a `WalkState` as a turn of crate walks does.
--   look_count    what `count_left` counts for the radio at the front is what it has left
--   look_held, look_taken   the front is looked at
--   back_done     a candidate is taken back
--   pass_done     radios are passed
use Rattle.std.specs.Prelude.{◌≡◌, ◌⊎◌, ◌∷◌, ◌++◌, ◌+◌, ◌-◌, ◌≤◌, ◌<◌}
use Rattle.lists.{specs.Kit.{refl, sym, ap, ◌∙◌, inl, inr, Bool, true, false, cond, or-true, List, [], append_assoc, ℕ, suc}}
use Rattle.lists.{specs.Kit.{arith, add-one, le_antisymm, ltb, eqb, length, get_or, set, take, drop, length-set, length-drop, take-append-drop}}
use Rattle.lists.{specs.Kit.{length-take-le, get_or-take, get_or-drop, get_or-set_same, get_or-set_other, take-suc-set, drop-cons, paste, take-paste, length-paste}}
use Rattle.lists.{specs.Kit.{eqb-true, eqb-false, eq-eqb, ne_eqb, lt-ltb, ltb-true}, specs.Lists.{count, head_or, In}, specs.Facts.{Distinct}}
use Rattle.lists.{proofs.Tests.{bool_cases, never, and_left, and_right, or_cases}, proofs.Member.{in_left, in_right, in_cases, in_member, member_in, in_get_d}}
use Rattle.lists.{proofs.Member.{get_d_of_in}, proofs.Count.{count_append, count_pos}, proofs.Distinct.{count_sub, distinct_left, distinct_right, distinct_mid}}
use Rattle.lists.{proofs.Distinct.{permutation_distinct}, proofs.Ascending.{rising_index}, proofs.Parts.{take_drop_take}}
use Rattle.mesh.{specs.Limits.{max_radios, max_neighbours}, specs.Tables.{marked, put_link}}
use Rattle.mesh.{proofs.Links.Peel.{takes_permutation}}
use Rattle.rows.{specs.Rows.{neighbours_of}, proofs.RowListLaws.{in_neighbours_of, member_neighbours_of, distinct_neighbours_of}, specs.Sets.{put_in, take_out}}
use Rattle.walks.{specs.Walk.{Part, Walking}, proofs.Front.{few_front_head, few_from_one}}
use Rattle.plan.specs.{Turns.{released, places_released, Releasable, RowReady, NearReady}, Walks.{is_left, is_later, places_touched, radios_of, joined}}
use Rattle.plan.specs.{Walks.{Known, WalkSite, WalkState, rise_of, part_of, candidates}}
use Rattle.plan.proofs.{TurnLoops.{length_released, length_places_released}, TurnLaws.{marked_released}, LevelLaws.{first_marked_in}}
use Rattle.plan.proofs.{LevelLaws.{first_marked_least}, WalkLoops.{length_touched, touched_only}, WalkReleased.{released_is}}
use Rattle.plan.proofs.{WalkHeld.{held_is}}
use Rattle.plan.proofs.TurnLaws.{place_out}
use Rattle.rows.proofs.SetLaws.{length_take_out, in_set_radio}
use Rattle.rows.specs.Sets.{in_set, common}
use Rattle.plan.proofs.EntryLists as entries
use Rattle.walks.proofs.Turns as turns

-- ---- what counts

module _ (k p : ℕ) (ns ps hs : List ℕ) (w : ℕ) where
  left_level : get_or ns w 0 ≡ k → (p < get_or ps w 0) ⊎ (eqb (get_or hs w 0) 1 ≡ true) → is_left k p ns ps hs w ≡ true
  unfolding is_left
  left_level e (inl l) = rw (eq-eqb (get_or ns w 0) k e, lt-ltb p (get_or ps w 0) l)
  left_level e (inr h) = rw (eq-eqb (get_or ns w 0) k e, h) (or-true (ltb p (get_or ps w 0)))

  left_high : k < get_or ns w 0 → is_left k p ns ps hs w ≡ true
  unfolding is_left
  left_high l = rw (ne_eqb (get_or ns w 0) k (λ e. omega arith), lt-ltb k (get_or ns w 0) l)

  left_cases : is_left k p ns ps hs w ≡ true → ((get_or ns w 0 ≡ k) × ((p < get_or ps w 0) ⊎ (eqb (get_or hs w 0) 1 ≡ true))) ⊎ (k < get_or ns w 0)
  unfolding is_left
  left_cases t = go (bool_cases (eqb (get_or ns w 0) k))
    where
      later : (ltb p (get_or ps w 0) ≡ true) ⊎ (eqb (get_or hs w 0) 1 ≡ true) → (p < get_or ps w 0) ⊎ (eqb (get_or hs w 0) 1 ≡ true)
      later (inl l) = inl (ltb-true p (get_or ps w 0) l)
      later (inr h) = inr h

      go : (eqb (get_or ns w 0) k ≡ true) ⊎ (eqb (get_or ns w 0) k ≡ false)
          → ((get_or ns w 0 ≡ k) × ((p < get_or ps w 0) ⊎ (eqb (get_or hs w 0) 1 ≡ true))) ⊎ (k < get_or ns w 0)
      go (inl e) = inl (eqb-true (get_or ns w 0) k e, later (or_cases (ltb p (get_or ps w 0)) (eqb (get_or hs w 0) 1) (rw e at t)))
      go (inr e) = inr (ltb-true k (get_or ns w 0) (rw e at t))

  later_cases : is_later k p ns ps w ≡ true → (get_or ns w 0 ≡ k) × (p < get_or ps w 0)
  unfolding is_later
  later_cases t = (
    eqb-true (get_or ns w 0) k (and_left (eqb (get_or ns w 0) k) (ltb p (get_or ps w 0)) t),
    ltb-true p (get_or ps w 0) (and_right (eqb (get_or ns w 0) k) (ltb p (get_or ps w 0)) t),
  )

  later_of : get_or ns w 0 ≡ k → p < get_or ps w 0 → is_later k p ns ps w ≡ true
  unfolding is_later
  later_of e l = rw (eq-eqb (get_or ns w 0) k e, lt-ltb p (get_or ps w 0) l)

module _ {a b k first size : ℕ} {ts ns tail ps : List ℕ} (s : WalkSite (rise_of a b k) (part_of first size) ts ns tail ps) where
  abbrev n : ℕ
  n = radios_of first tail

  abbrev f : ℕ → ℕ → Bool
  f = joined a b first ts tail

  abbrev part : List ℕ
  part = take size tail

  abbrev above : List ℕ
  above = drop size tail

  abbrev us : List ℕ
  us = put_link true a b ts

  abbrev pos : ℕ → ℕ
  pos v = get_or ps v 0 - first

  -- ---- the part

  pub part_length : length part ≡ size
  part_length = length-take-le size tail s.fits

  pub part_at : (i : ℕ) → i < size → get_or part i 0 ≡ get_or tail i 0
  part_at i l = get_or-take size tail i 0 l

  -- no two places have the same radio
  pub tail_apart : (i j : ℕ) → i < size → j < size → get_or tail i 0 ≡ get_or tail j 0 → i ≡ j
  tail_apart i j l m e = omega (arith, s.placed i l, s.placed j m, ap (λ (x : ℕ). get_or ps x 0) e)

  placed_at : (i : ℕ) → i < length part → pos (get_or part i 0) ≡ i
  placed_at i l =
      let h : i < size = omega (arith, part_length) in
      let is : get_or ps (get_or part i 0) 0 ≡ first + i = ap (λ (v : ℕ). get_or ps v 0) (part_at i h) ∙ s.placed i h in omega (arith, is)

  whole : part ++ above ≡ tail
  whole = take-append-drop size tail

  pub is_part : Part f part pos
  is_part = record {
    irreflexive = s.irreflexive;
    symmetric = s.symmetric;
    distinct = distinct_left part above (rw whole s.distinct);
    rises = rising_index pos 0 part (λ j l. placed_at j l ∙ omega arith);
    placed = placed_at;
  }

  pub record Stands (v : ℕ) : Type 0 where
    pub below : v < n
    pub low : first ≤ get_or ps v 0
    pub high : get_or ps v 0 < first + size
    pub level : get_or ns v 0 ≡ k

  stands_at : (v i : ℕ) → In v part → i < length part → get_or part i 0 ≡ v → Stands v
  stands_at v i m l e =
      let h : i < size = omega (arith, part_length) in
      let at : get_or ps v 0 ≡ first + i = ap (λ (x : ℕ). get_or ps x 0) (sym e ∙ part_at i h) ∙ s.placed i h in
      record { below = s.radios v (rw (← whole) (in_left v part above m)); low = omega (arith, at); high = omega (arith, at); level = s.numbered v m }

  pub part_stands : (v : ℕ) → In v part → Stands v
  part_stands v m = let r = get_d_of_in v part m in stands_at v r.0 m r.1 r.2

  pub place_small : (v : ℕ) → In v part → get_or ps v 0 < max_radios
  place_small v m = omega (arith, (part_stands v m).high, s.fits, s.small)

  -- a radio of the part that stands late enough
  pub late_in : (i v : ℕ) → In v part → i ≤ pos v → In v (drop i part)
  late_in i v m l =
      let r = turns.in_part f k above part pos is_part v m in
      let at : get_or (drop i part) (pos v - i) 0 ≡ v = get_or-drop i part (pos v - i) 0 ∙ ap (λ (x : ℕ). get_or part x 0) (sum i (pos v) l) ∙ r.1 in
      rw at at (in_get_d (drop i part) (pos v - i) (omega (arith, r.0, length-drop i part)))
    where
      sum : (i j : ℕ) → i ≤ j → i + (j - i) ≡ j
      sum i j l = omega arith

  -- ---- the neighbours of a radio after the call

  module _ (x : ℕ) (lx : x < n) where
    row_marks : (w : ℕ) → w < max_radios → marked us x w ≡ f x w
    row_marks w l = s.row_is x w lx l

    joined_small : (w : ℕ) → f x w ≡ true → w < max_radios
    joined_small w e = omega (arith, s.within x w e, s.small)

    near_joined : (w : ℕ) → In w (neighbours_of us x) → f x w ≡ true
    near_joined w m = let r = in_neighbours_of us x w m in sym (row_marks w r.0) ∙ r.1

    joined_near : (w : ℕ) → f x w ≡ true → In w (neighbours_of us x)
    joined_near w e = member_in w (neighbours_of us x) (member_neighbours_of us x w (joined_small w e) ∙ row_marks w (joined_small w e) ∙ e)

    pub near_radios : (h : ℕ) → n ≤ h → Known (length ns) (length ps) h (neighbours_of us x)
    near_radios h l w m =
        let e = s.within x w (near_joined w m) in (omega (arith, s.numbers_length), omega (arith, s.places_length), omega arith)

    pub row_ready : RowReady a b x ts
    row_ready = record {
      differ = s.differ;
      radios = (omega (arith, s.ends.0, s.small), omega (arith, s.ends.1, s.small));
      rows = (omega (arith, s.ends.0, s.links_length), omega (arith, s.ends.1, s.links_length));
      row = omega (arith, lx, s.links_length);
    }

    pub near_ready : (nears : ℕ) → nears ≡ max_neighbours → NearReady true a b x ts nears
    near_ready nears en = record { ready = row_ready; near_long = omega (arith, s.row_few x lx) }

  module _ {front taken : ℕ} {hs cs ds ss list : List ℕ} (st : WalkState (rise_of a b k) (part_of first size) ts tail ps front taken
      (candidates hs cs ds ss) list) where
    abbrev held : List ℕ
    held = st.walking.held

    abbrev rest : List ℕ
    rest = drop front part

    held_part : (v : ℕ) → In v held → In v part
    held_part = turns.held_part f k above part pos is_part st.walking

    candidate_held : (v : ℕ) → get_or hs v 0 ≡ 1 → In v held
    candidate_held v e = member_in v held (sym (st.walking.marks v) ∙ eq-eqb (get_or hs v 0) 1 e)

    held_candidate : (v : ℕ) → In v held → eqb (get_or hs v 0) 1 ≡ true
    held_candidate v m = st.walking.marks v ∙ in_member v held m

    -- a table of candidates among the present ones
    module _ (hs1 : List ℕ) (fewer : (v : ℕ) → get_or hs1 v 0 ≡ 1 → In v held) where
      candidate_stands : (v : ℕ) → v < length hs1 → get_or hs1 v 0 ≡ 1 → (first ≤ get_or ps v 0) × (get_or ps v 0 < max_radios)
      candidate_stands v l e = let m = held_part v (fewer v e) in ((part_stands v m).low, place_small v m)

      candidate_apart : (v w : ℕ) → v < length hs1 → w < length hs1 → get_or hs1 v 0 ≡ 1 → get_or hs1 w 0 ≡ 1 → get_or ps v 0 ≡ get_or ps w 0 → v ≡ w
      candidate_apart v w l m e d q =
          turns.same_place f k above part pos is_part v w (held_part v (fewer v e)) (held_part w (fewer w d)) (ap (λ (x : ℕ). x - first) q)

      module _ (long1 : n ≤ length hs1) (x : ℕ) (lx : x < n) (x_left : In x (held ++ rest)) where
        releasable : Releasable hs1 ps 1 (neighbours_of us x) cs
        releasable = record {
          once = distinct_neighbours_of us x;
          known = λ w m. (let h = s.within x w (near_joined x lx w m) in
              (omega arith, omega (arith, s.places_length), omega (arith, st.counters_long), omega (arith, s.small)));
          above_zero = λ w m e. omega (
            arith,
            st.walking.exact w (fewer w e),
            count_pos (f w) x (held ++ rest) x_left (s.symmetric w x ∙ near_joined x lx w m),
          );
        }

        -- the places due after x at place p was taken
        module _ (p : ℕ) (lp : p < max_radios) where
          low_released : (q : ℕ) → in_set (places_released hs1 ps 1 k (neighbours_of us x) cs (take_out p ds)) q ≡ true → first ≤ q
          low_released q t =
              go (marked_released hs1 ps 1 k (λ v l e. (candidate_stands v l e).1) (neighbours_of us x) cs (take_out p ds) long0 releasable q lq t)
            where
              long0 : length (take_out p ds) ≡ 8
              long0 = length_take_out p ds ∙ st.due_long

              lq : q < max_radios
              lq = in_set_radio (places_released hs1 ps 1 k (neighbours_of us x) cs (take_out p ds)) q
                  (length_places_released hs1 ps 1 k (neighbours_of us x) cs (take_out p ds) ∙ long0) t

              old : (eqb p q ≡ true) ⊎ (eqb p q ≡ false) → in_set (take_out p ds) q ≡ true → in_set ds q ≡ true
              old (inl e) u = never (in_set (take_out p ds) q) u
                  (place_out p q ds st.due_long lp ∙ ap (λ (b : Bool). cond b false (in_set ds q)) e)
              old (inr e) u = sym (place_out p q ds st.due_long lp ∙ ap (λ (b : Bool). cond b false (in_set ds q)) e) ∙ u

              go : (in_set (take_out p ds) q ≡ true) ⊎ ((w : ℕ) × (w < length hs1) × (get_or hs1 w 0 ≡ 1) × (get_or ps w 0 ≡ q)) → first ≤ q
              go (inl u) = st.low q (old (bool_cases (eqb p q)) u)
              go (inr (w, lw, e, is)) = omega (arith, (candidate_stands w lw e).0, is)

    -- ---- the radio at the front

    module _ (v : ℕ) (v_is : v ≡ get_or part front 0) (front_inside : front < size) (undue : (q : ℕ) → q < front → in_set ds (first + q) ≡ false) where
      abbrev later : List ℕ
      later = drop (suc front) part

      in_part : front < length part
      in_part = omega (arith, part_length)

      v_part : In v part
      v_part = rw v_is (in_get_d part front in_part)

      pub front_below : v < n
      front_below = (part_stands v v_part).below

      cut : rest ≡ v ∷ later
      cut = drop-cons part front 0 in_part ∙ ap (λ (x : ℕ). x ∷ later) (sym v_is)

      v_left : In v (held ++ rest)
      v_left = in_right v held rest (rw cut (inl refl))

      tail_v : get_or tail front 0 ≡ v
      tail_v = sym (part_at front front_inside) ∙ sym v_is

      place_low : first + front < max_radios
      place_low = omega (arith, s.fits, s.small)

      later_stands : (w : ℕ) → In w later → In w part × (first + front < get_or ps w 0)
      later_stands w m =
          let i : In w part = rw (← take-append-drop (suc front) part) (in_right w (take (suc front) part) later m) in
          let r = turns.in_rest f k above part pos is_part (suc front) w m in
          let t = part_stands w i in (i, omega (arith, r.0, t.low))

      later_back : (w : ℕ) → f v w ≡ true → is_later k (first + front) ns ps w ≡ true → In w later
      later_back w e t =
          let c = later_cases k (first + front) ns ps hs w t in
          late_in (suc front) w (s.stands w (s.within v w e) c.0 (omega (arith, c.1))) (omega (arith, c.1))

      -- what has v as a neighbour left: the candidates, what stands later, what is above
      abbrev zs : List ℕ
      zs = held ++ (later ++ above)

      zs_distinct : Distinct zs
      zs_distinct =
          (distinct_mid v held (later ++ above)
          (rw (← shape) (distinct_right (take taken list) ((held ++ rest) ++ above)
          (permutation_distinct (take taken list ++ ((held ++ rest) ++ above)) tail same s.distinct)))).1
        where
          shape : (held ++ rest) ++ above ≡ held ++ v ∷ (later ++ above)
          shape = append_assoc held rest above ∙ ap (λ (z : List ℕ). held ++ (z ++ above)) cut

          same : (g : ℕ → Bool) → count g (take taken list ++ ((held ++ rest) ++ above)) ≡ count g tail
          same g =
              omega (
                arith,
                count_append g (take taken list) ((held ++ rest) ++ above),
                count_append g (held ++ rest) above,
                count_append g (take taken list) (held ++ rest),
                takes_permutation f k above st.walking.takes g,
                count_append g part above,
                ap (count g) whole,
              )

      counts_in : (w : ℕ) → In w (neighbours_of us v) → is_left k (first + front) ns ps hs w ≡ true → In w zs × (f v w ≡ true)
      counts_in w m t = (go (left_cases k (first + front) ns ps hs w t), e)
        where
          e : f v w ≡ true
          e = near_joined v front_below w m

          go : ((get_or ns w 0 ≡ k) × ((first + front < get_or ps w 0) ⊎ (eqb (get_or hs w 0) 1 ≡ true))) ⊎ (k < get_or ns w 0) → In w zs
          go (inl (c, inl l)) = in_right w held (later ++ above) (in_left w later above (later_back w e (later_of k (first + front) ns ps hs w c l)))
          go (inl (c, inr h)) = in_left w held (later ++ above) (candidate_held w (eqb-true (get_or hs w 0) 1 h))
          go (inr h) = in_right w held (later ++ above) (in_right w later above (s.above_all w (s.within v w e) h))

      in_counts : (w : ℕ) → In w zs → f v w ≡ true → In w (neighbours_of us v) × (is_left k (first + front) ns ps hs w ≡ true)
      in_counts w m e = (joined_near v front_below w e, go (in_cases w held (later ++ above) m))
        where
          last : In w later ⊎ In w above → is_left k (first + front) ns ps hs w ≡ true
          last (inl i) =
              let t = later_stands w i in left_level k (first + front) ns ps hs w (part_stands w t.0).level (inl t.1)
          last (inr i) = left_high k (first + front) ns ps hs w (s.higher w i)

          go : In w held ⊎ In w (later ++ above) → is_left k (first + front) ns ps hs w ≡ true
          go (inl i) = left_level k (first + front) ns ps hs w (part_stands w (held_part w i)).level (inr (held_candidate w i))
          go (inr i) = last (in_cases w later above i)

      pub look_count : count (is_left k (first + front) ns ps hs) (neighbours_of us v) ≡ count (f v) (held ++ later) + count (f v) above
      look_count =
          le_antisymm (count_sub (is_left k (first + front) ns ps hs) (f v) (neighbours_of us v) zs (distinct_neighbours_of us v) counts_in)
          (count_sub (f v) (is_left k (first + front) ns ps hs) zs (neighbours_of us v) zs_distinct in_counts)
          ∙ count_append (f v) held (later ++ above)
          ∙ omega (arith, count_append (f v) later above, count_append (f v) held later)

      -- ---- v is held

      module _ (c : ℕ) (c_is : c ≡ count (is_left k (first + front) ns ps hs) (neighbours_of us v)) where
        abbrev touched : List ℕ
        touched = places_touched k (first + front) ns ps (neighbours_of us v) (take_out (first + front) ds)

        marks_own : eqb (get_or (set hs v 1) v 0) 1 ≡ true
        marks_own = ap (λ (x : ℕ). eqb x 1) (get_or-set_same hs v 1 0 (omega (arith, front_below, st.held_long)))

        marks_other : (w : ℕ) → (w ≡ v → ⊥) → eqb (get_or (set hs v 1) w 0) 1 ≡ eqb (get_or hs w 0) 1
        marks_other w ne = ap (λ (x : ℕ). eqb x 1) (get_or-set_other hs v w 1 0 ne)

        low_touched : (q : ℕ) → in_set touched q ≡ true → first ≤ q
        low_touched q t = go (touched_only k (first + front) ns ps (neighbours_of us v) (take_out (first + front) ds) small long0 q lq t)
          where
            small : (w : ℕ) → In w (neighbours_of us v) → is_later k (first + front) ns ps w ≡ true → get_or ps w 0 < max_radios
            small w m t = place_small w (later_stands w (later_back w (near_joined v front_below w m) t)).0

            long0 : length (take_out (first + front) ds) ≡ 8
            long0 = length_take_out (first + front) ds ∙ st.due_long

            lq : q < max_radios
            lq = in_set_radio touched q (length_touched k (first + front) ns ps (neighbours_of us v) (take_out (first + front) ds) ∙ long0) t

            old : (eqb (first + front) q ≡ true) ⊎ (eqb (first + front) q ≡ false) → in_set (take_out (first + front) ds) q ≡ true → in_set ds q ≡
                true
            old (inl e) u =
                never (in_set (take_out (first + front) ds) q) u
                (place_out (first + front) q ds st.due_long place_low ∙ ap (λ (b : Bool). cond b false (in_set ds q)) e)
            old (inr e) u = sym (place_out (first + front) q ds st.due_long place_low ∙ ap (λ (b : Bool). cond b false (in_set ds q)) e) ∙ u

            go : (in_set (take_out (first + front) ds) q ≡ true) ⊎
                ((w : ℕ) × In w (neighbours_of us v) × (is_later k (first + front) ns ps w ≡ true) × (get_or ps w 0 ≡ q))
                → first ≤ q
            go (inl u) = st.low q (old (bool_cases (eqb (first + front) q)) u)
            go (inr (w, m, u, e)) = omega (arith, (later_cases k (first + front) ns ps hs w u).1, e)

        pub look_held : k < c → WalkState (rise_of a b k) (part_of first size) ts tail ps (front + 1) taken
            (candidates (set hs v 1) (set cs v c) touched (put_in (first + front) ss)) list
        look_held big = record {
          held_long = omega (arith, st.held_long, length-set hs v 1);
          counters_long = omega (arith, st.counters_long, length-set cs v c);
          due_long = length_touched k (first + front) ns ps (neighbours_of us v) (take_out (first + front) ds) ∙ length_take_out
              (first + front) ds ∙ st.due_long;
          room = st.room;
          passed = omega (arith, st.passed);
          low = low_touched;
          stays = entries.marked_put first size tail st.stays front v front_inside place_low tail_v
              (λ i l e. tail_apart i front l front_inside (e ∙ sym tail_v))
              (λ w. eqb (get_or (set hs v 1) w 0) 1) marks_other marks_own;
          walking = rw (add-one front) turned;
        }
          where
            written : turns.Held f k above part pos v front c later (λ w. get_or cs w 0) (λ w. get_or (set cs v c) w 0) (λ q. in_set ds (first + q))
                (λ q. in_set touched (first + q))
            written =
                held_is f k first above part ns ps v front c us (row_marks v front_below) (joined_small v front_below) cs ds
                (omega (arith, front_below, st.counters_long)) st.due_long place_low later
                (λ w m. let t = later_stands w m in (t.1, later_of k (first + front) ns ps hs w (part_stands w t.0).level t.1))
                later_back (λ w m. place_small w (later_stands w m).0)

            turned : Walking f k above part pos (take taken list) (suc front) (λ w. eqb (get_or (set hs v 1) w 0) 1) (λ w. get_or (set cs v c) w 0)
                (λ q. in_set touched (first + q))
            turned =
                rw v_is (turns.turn_hold f k above part pos is_part st.walking in_part undue c (rw v_is at written) (rw v_is at (c_is ∙ look_count)) big
                (rw v_is at marks_own) (rw v_is at marks_other))

      -- ---- v is taken where it stands

      abbrev freed : List ℕ
      freed = places_released hs ps 1 k (neighbours_of us v) cs (take_out (first + front) ds)

      pub look_releasable : Releasable hs ps 1 (neighbours_of us v) cs
      look_releasable = releasable hs candidate_held st.held_long v front_below v_left

      pub look_taken : count (is_left k (first + front) ns ps hs) (neighbours_of us v) ≤ k
          → WalkState (rise_of a b k) (part_of first size) ts tail ps (front + 1) (taken + 1)
          (candidates hs (released hs 1 (neighbours_of us v) cs) freed ss) (set list taken v)
      look_taken fit = record {
        held_long = st.held_long;
        counters_long = omega (arith, st.counters_long, length_released hs 1 (neighbours_of us v) cs);
        due_long = length_places_released hs ps 1 k (neighbours_of us v) cs (take_out (first + front) ds) ∙ length_take_out (first + front) ds ∙ st.due_long;
        room = omega (arith, st.room, length-set list taken v);
        passed = omega (arith, st.passed);
        low = low_released hs candidate_held st.held_long v front_below v_left (first + front) place_low;
        stays = st.stays;
        walking = rw (add-one front, listed) turned;
      }
        where
          listed : take (taken + 1) (set list taken v) ≡ take taken list ++ (v ∷ [])
          listed = ap (λ (x : ℕ). take x (set list taken v)) (add-one taken) ∙ take-suc-set list taken v
              (omega (arith, st.passed, st.room, s.fits, s.small))

          written : turns.Released f k above part pos v front (λ w. eqb (get_or hs w 0) 1) (λ w. get_or cs w 0)
              (λ w. get_or (released hs 1 (neighbours_of us v) cs) w 0)
              (λ q. in_set ds (first + q)) (λ q. in_set freed (first + q))
          written =
              released_is f k first above part hs ps (candidate_stands hs candidate_held) (candidate_apart hs candidate_held) v us (row_marks v front_below)
              (joined_small v front_below) cs ds st.due_long look_releasable front place_low

          turned : Walking f k above part pos (take taken list ++ (v ∷ [])) (suc front) (λ w. eqb (get_or hs w 0) 1)
              (λ w. get_or (released hs 1 (neighbours_of us v) cs) w 0) (λ q. in_set freed (first + q))
          turned =
              let few : count (f v) (held ++ later) + count (f v) above ≤ k = omega (arith, fit, look_count) in
              rw v_is (turns.turn_take f k above part pos is_part st.walking in_part undue (rw v_is at written) (rw v_is at few))

    -- ---- a candidate is taken back

    module _ (p : ℕ) (p_first : p ≡ head_or max_radios (common ds ds)) (p_low : p < first + front) where
      p_small : p < max_radios
      p_small = omega (arith, st.walking.room, part_length, s.fits, s.small)

      p_due : in_set ds p ≡ true
      p_due = first_marked_in ds p p_first p_small

      pub back_low : first ≤ p
      back_low = st.low p p_due

      abbrev j : ℕ
      j = p - first

      j_is : first + j ≡ p
      j_is = omega (arith, back_low)

      j_front : j < front
      j_front = omega (arith, back_low)

      j_due : in_set ds (first + j) ≡ true
      j_due = ap (in_set ds) j_is ∙ p_due

      pub back_part : j < size
      back_part = omega (arith, j_front, st.walking.room, part_length)

      module _ (v : ℕ) (v_is : v ≡ get_or part j 0) where
        back_v : get_or tail j 0 ≡ v
        back_v = sym (part_at j back_part) ∙ sym v_is

        v_held : In v held
        v_held = rw v_is (st.walking.fallen j j_front j_due)

        pub back_below : v < n
        back_below = (part_stands v (held_part v v_held)).below

        abbrev hs1 : List ℕ
        hs1 = set hs v 0

        own : eqb (get_or hs1 v 0) 1 ≡ false
        own = ap (λ (x : ℕ). eqb x 1) (get_or-set_same hs v 0 0 (omega (arith, back_below, st.held_long)))

        other : (w : ℕ) → (w ≡ v → ⊥) → eqb (get_or hs1 w 0) 1 ≡ eqb (get_or hs w 0) 1
        other w ne = ap (λ (x : ℕ). eqb x 1) (get_or-set_other hs v w 0 0 ne)

        fewer : (w : ℕ) → get_or hs1 w 0 ≡ 1 → In w held
        fewer w e = go (bool_cases (eqb w v))
          where
            go : (eqb w v ≡ true) ⊎ (eqb w v ≡ false) → In w held
            go (inl q) = rw (eqb-true w v q) v_held
            go (inr q) = candidate_held w (sym (get_or-set_other hs v w 0 0 (eqb-false w v q)) ∙ e)

        long1 : n ≤ length hs1
        long1 = omega (arith, st.held_long, length-set hs v 0)

        back_left : In v (held ++ rest)
        back_left = in_left v held rest v_held

        pub back_releasable : Releasable hs1 ps 1 (neighbours_of us v) cs
        back_releasable = releasable hs1 fewer long1 v back_below back_left

        -- some candidate is left, so there is room
        pub back_room : taken < front
        back_room =
            omega (
              arith,
              turns.length_held f k above part pos is_part st.walking,
              length-take-le taken list (omega (arith, st.passed, st.walking.room, part_length, st.room, s.fits, s.small)),
              in_length v held v_held,
            )
          where
            in_length : (x : ℕ) (xs : List ℕ) → In x xs → 1 ≤ length xs
            in_length x [] m = elim m [ ]
            in_length x (y ∷ ys) m = omega arith

        abbrev freed_back : List ℕ
        freed_back = places_released hs1 ps 1 k (neighbours_of us v) cs (take_out p ds)

        pub back_done : WalkState (rise_of a b k) (part_of first size) ts tail ps front (taken + 1)
            (candidates hs1 (released hs1 1 (neighbours_of us v) cs) freed_back (take_out p ss)) (set list taken v)
        back_done = record {
          held_long = long1;
          counters_long = omega (arith, st.counters_long, length_released hs1 1 (neighbours_of us v) cs);
          due_long = length_places_released hs1 ps 1 k (neighbours_of us v) cs (take_out p ds) ∙ length_take_out p ds ∙ st.due_long;
          room = omega (arith, st.room, length-set list taken v);
          passed = omega (arith, back_room);
          low = low_released hs1 fewer long1 v back_below back_left p p_small;
          stays = rw j_is at (entries.marked_taken first size tail st.stays j v back_part (omega (arith, j_is, p_small)) back_v
              (λ i l e. tail_apart i j l back_part (e ∙ sym back_v))
              (λ w. eqb (get_or hs1 w 0) 1) other own);
          walking = rw listed turned;
        }
          where
            listed : take (taken + 1) (set list taken v) ≡ take taken list ++ (v ∷ [])
            listed =
                ap (λ (x : ℕ). take x (set list taken v)) (add-one taken)
                ∙ take-suc-set list taken v (omega (arith, back_room, st.walking.room, part_length, st.room, s.fits, s.small))

            written : turns.Released f k above part pos v j (λ w. eqb (get_or hs1 w 0) 1) (λ w. get_or cs w 0)
                (λ w. get_or (released hs1 1 (neighbours_of us v) cs) w 0)
                (λ q. in_set ds (first + q)) (λ q. in_set freed_back (first + q))
            written =
                rw j_is at (released_is f k first above part hs1 ps (candidate_stands hs1 fewer) (candidate_apart hs1 fewer) v us (row_marks v back_below)
                (joined_small v back_below) cs ds st.due_long back_releasable j (omega (arith, j_is, p_small)))

            undue : (q : ℕ) → q < j → in_set ds (first + q) ≡ false
            undue q l = first_marked_least ds p p_first (first + q) (omega (arith, j_is)) (omega (arith, j_is, p_small))

            turned : Walking f k above part pos (take taken list ++ (v ∷ [])) front (λ w. eqb (get_or hs1 w 0) 1)
                (λ w. get_or (released hs1 1 (neighbours_of us v) cs) w 0) (λ q. in_set freed_back (first + q))
            turned =
                rw v_is (turns.turn_back f k above part pos is_part st.walking j j_front j_due undue (rw v_is at written) (rw v_is at own)
                (rw v_is at other))

    -- ---- radios are passed

    module _ (until m : ℕ) (ends : until ≡ front + m) (inside : until ≤ size) (some : 1 ≤ front) (undue : (q : ℕ) → q < until → in_set ds (first + q) ≡ false)
      where
        few_from : (i : ℕ) → front ≤ i → i < length part → count (f (get_or part i 0)) (drop (suc i) part) + count (f (get_or part i 0)) above ≤ k
        few_from i l h = few_front_head f k above part i h (few_from_one f k above part i (omega arith) s.few)

        pub pass_room : taken + m ≤ length list
        pass_room = omega (arith, st.passed, st.room, ends, s.fits, s.small)

        pub pass_done : (list1 : List ℕ) → list1 ≡ paste list taken (drop front tail) m
            → WalkState (rise_of a b k) (part_of first size) ts tail ps until (taken + m) (candidates hs cs ds ss) list1
        pass_done list1 e = record {
          held_long = st.held_long;
          counters_long = st.counters_long;
          due_long = st.due_long;
          room = omega (arith, st.room, ap length e, length-paste list taken (drop front tail) m pass_room longs);
          passed = omega (arith, st.passed, ends);
          low = st.low;
          stays = st.stays;
          walking = rw (listed, ends) turned;
        }
          where
            longs : m ≤ length (drop front tail)
            longs = omega (arith, length-drop front tail, s.fits, ends)

            listed : take (taken + m) list1 ≡ take taken list ++ take m (drop front part)
            listed =
                ap (take (taken + m)) e ∙ take-paste list taken (drop front tail) m (omega (arith, pass_room)) longs
                ∙ ap (λ (z : List ℕ). take taken list ++ z) (sym (take_drop_take front m size tail (omega (arith, ends))))

            turned : Walking f k above part pos (take taken list ++ take m (drop front part)) (front + m) (λ w. eqb (get_or hs w 0) 1) (λ w. get_or cs w 0)
                (λ q. in_set ds (first + q))
            turned =
                turns.turns_pass f k above part pos is_part (λ w. eqb (get_or hs w 0) 1) (λ w. get_or cs w 0) (λ q. in_set ds (first + q)) front (take taken list) m
                st.walking
                (omega (arith, ends, part_length)) (λ q l. undue q (omega (arith, ends))) few_from
