-- The facts that the walk's code hands from call to call, as the code names its values.
use Rattle.std.specs.Prelude.{◌≡◌, ◌+◌, ◌-◌, ◌≤◌, ◌<◌}
use Rattle.lists.specs.{Kit.{sym, ap, ◌∙◌, true, false, List, ℕ, arith, length, length-take-le, get_or, set, take}, Lists.{count, head_or}}
use Rattle.mesh.specs.{Limits.{max_radios, max_neighbours}, Tables.{put_link}}
use Rattle.rows.specs.{Rows.{neighbours_of}, Sets.{put_in, take_out}}
use Rattle.plan.specs.{Turns.{released, places_released, Releasable, RowReady, ListsNeighbours}, Walks.{is_left, places_touched, radios_of, Known}}
use Rattle.plan.specs.{Walks.{WalkSite, WalkState, rise_of, part_of, candidates}}
use Rattle.rows.specs.Sets.{in_set, common}
use Rattle.plan.proofs.WalkTurns as turned

module _ {a b k first size : ℕ} {ts ns tail ps : List ℕ} (s : WalkSite (rise_of a b k) (part_of first size) ts ns tail ps) where
  abbrev us : List ℕ
  us = put_link true a b ts

  -- listed neighbours of a radio are known
  pub listed_known : (v r : ℕ) (near : List ℕ) (h : ℕ) → v < radios_of first tail → radios_of first tail ≤ h → ListsNeighbours us v r near
      → length near ≡ max_neighbours → (length (take r near) ≤ max_neighbours) × Known (length ns) (length ps) h (take r near)
  listed_known v r near h l long e room =
      let few : r ≤ max_neighbours = omega (arith, e.counted, s.row_few v l) in
      (omega (arith, few, length-take-le r near (omega (arith, few))), rw e.listed (turned.near_radios s v l h long))

  module _ {front taken : ℕ} {hs cs ds ss list : List ℕ} (st : WalkState (rise_of a b k) (part_of first size) ts tail ps front taken
      (candidates hs cs ds ss) list) where
    -- ---- the front is looked at

    module _ (free : (front < size) × ((q : ℕ) → q < front → in_set ds (first + q) ≡ false)) where
      abbrev v : ℕ
      v = get_or tail front 0

      v_is : v ≡ get_or (take size tail) front 0
      v_is = sym (turned.part_at s front free.0)

      pub look_below : v < radios_of first tail
      look_below = turned.front_below s st v v_is free.0 free.1

      module _ (r : ℕ) (near : List ℕ) (listed : ListsNeighbours us v r near) (ds0 : List ℕ) (cleared : ds0 ≡ take_out (first + front) ds) where
        pub look_release : Releasable hs ps 1 (take r near) cs
        look_release = rw listed.listed (turned.look_releasable s st v v_is free.0 free.1)

        pub look_holds : (c : ℕ) (ds1 ss1 : List ℕ) → c ≡ count (is_left k (first + front) ns ps hs) (take r near) → k < c
            → ds1 ≡ places_touched k (first + front) ns ps (take r near) ds0 → ss1 ≡ put_in (first + front) ss
            → WalkState (rise_of a b k) (part_of first size) ts tail ps (front + 1) taken (candidates (set hs v 1) (set cs v c) ds1 ss1) list
        look_holds c ds1 ss1 e big e1 e2 =
            let counted : c ≡ count (is_left k (first + front) ns ps hs) (neighbours_of us v) =
            e ∙ ap (count (is_left k (first + front) ns ps hs)) listed.listed in
            let due : ds1 ≡ places_touched k (first + front) ns ps (neighbours_of us v) (take_out (first + front) ds) = e1 ∙ rw (listed.listed, cleared)
            in
            rw (due, e2) (turned.look_held s st v v_is free.0 free.1 c counted big)

        pub look_takes : (c : ℕ) (cs1 ds1 : List ℕ) → c ≡ count (is_left k (first + front) ns ps hs) (take r near) → c ≤ k
            → cs1 ≡ released hs 1 (take r near) cs → ds1 ≡ places_released hs ps 1 k (take r near) cs ds0
            → WalkState (rise_of a b k) (part_of first size) ts tail ps (front + 1) (taken + 1) (candidates hs cs1 ds1 ss) (set list taken v)
        look_takes c cs1 ds1 e small e0 e1 =
            let counters : cs1 ≡ released hs 1 (neighbours_of us v) cs = e0 ∙ rw listed.listed in
            let due : ds1 ≡ places_released hs ps 1 k (neighbours_of us v) cs (take_out (first + front) ds) = e1 ∙ rw (listed.listed, cleared) in
            let fit : count (is_left k (first + front) ns ps hs) (neighbours_of us v) ≤ k =
            omega (arith, small, e, ap (count (is_left k (first + front) ns ps hs)) listed.listed) in
            rw (counters, due) (turned.look_taken s st v v_is free.0 free.1 fit)

    -- ---- a candidate is taken back

    module _ (p : ℕ) (fallen : (p ≡ head_or max_radios (common ds ds)) × (p < first + front)) where
      abbrev y : ℕ
      y = get_or tail (p - first) 0

      y_is : y ≡ get_or (take size tail) (p - first) 0
      y_is = sym (turned.part_at s (p - first) (turned.back_part s st p fallen.0 fallen.1))

      pub back_place : (first ≤ p) × (p - first < size) × (p < max_radios)
      back_place = (
        turned.back_low s st p fallen.0 fallen.1,
        turned.back_part s st p fallen.0 fallen.1,
        omega (arith, fallen.1, st.walking.room, turned.part_length s, s.fits, s.small),
      )

      pub back_below : y < radios_of first tail
      back_below = turned.back_below s st p fallen.0 fallen.1 y y_is

      pub back_fits : taken < max_radios
      back_fits =
          omega (arith, turned.back_room s st p fallen.0 fallen.1 y y_is, st.walking.room, turned.part_length s, s.fits, s.small)

      pub back_takes : RowReady a b y ts × Releasable (set hs y 0) ps 1 (neighbours_of us y) cs
      back_takes = (turned.row_ready s y back_below, turned.back_releasable s st p fallen.0 fallen.1 y y_is)

      pub back_made : (cs1 ds1 ss1 : List ℕ) → cs1 ≡ released (set hs y 0) 1 (neighbours_of us y) cs
          → ds1 ≡ places_released (set hs y 0) ps 1 k (neighbours_of us y) cs (take_out p ds) → ss1 ≡ take_out p ss
          → WalkState (rise_of a b k) (part_of first size) ts tail ps front (taken + 1) (candidates (set hs y 0) cs1 ds1 ss1) (set list taken y)
      back_made cs1 ds1 ss1 e0 e1 e2 = rw (e0, e1, e2) (turned.back_done s st p fallen.0 fallen.1 y y_is)
