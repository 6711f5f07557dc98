-- Each call on marks by its questions: what the code decides is what its contract says.
--   set_refused, remove_refused, return_refused   1, 2, 3 or 17 got no: the contract's number is that one
--   markable           else the tables' image fits a place, and the name is one
--   set_again, set_full, set_new   setting: the name is there; it is new and there are 8 marks; it is new
--   removed, remove_absent      removing; 18
--   returned, return_absent     coming back; 18
use Rattle.std.specs.Prelude.{◌≡◌, ◌⊎◌, ◌&&◌, ◌||◌, ◌∷◌, ◌++◌, ◌+◌, ◌*◌, ◌-◌, ◌≤◌, ◌<◌}
use Rattle.lists.{specs.Kit.{refl, sym, ap, ap₂, subst, ◌∙◌, inl, inr, Bool, true, false, List, [], ℕ, suc}}
use Rattle.lists.{specs.Kit.{arith, ltb, leb, length, take, drop, replicate, length-drop, drop-drop, take_all, length-take-le}}
use Rattle.lists.{specs.Kit.{leb-true, leb-false, lt-ltb, le-ltb}, proofs.Parts.{take_drop_take}, proofs.Tests.{bool_cases}}
use Rattle.mesh.{specs.Limits.{size_good}, specs.Tables.{Tables, graph_in}, specs.Sound.{sound}, specs.Image.{image_of, is_image}, specs.Marks.{name_bytes}}
use Rattle.mesh.{specs.Marks.{place_bytes, places, image_size, image_in, place_of, marks_in, store_of, has_mark, found, with_mark, place_at}}
use Rattle.mesh.{specs.MarkPlaces.{rank, moved_up, moved_down}, proofs.Images.Of.{length_image_of}, proofs.Images.Tables.{is_image_sound}}
use Rattle.mesh.{proofs.Marks.Laws.{Sized, rising_sized, PlaceMark, place_mark, image_fits, length_is_image}, proofs.Marks.Ranks.{rank_most, ranked, found_at}}
use Rattle.mesh.{proofs.Marks.Ranks.{with_at, with_new, without_at}, proofs.Marks.Rules.{mark_at}, proofs.Marks.Bytes.{replaced, inserted, taken_out}}
use Rattle.calls.{specs.Questions.{ask, Lengths, lengths_of, site_lengths, site_refusal, lent_refusal, image_length}, specs.Outcomes.{read_outcome}}
use Rattle.calls.{specs.MarkOutcomes.{store_outcome, set_outcome, remove_outcome, return_outcome}, specs.Marks.{store_length, marks_good, is_marked}}
use Rattle.calls.{specs.Marks.{has_place, mark_refusal, set_refusal, named_refusal, mark_image}, specs.CallContracts.{ReadContract}}
use Rattle.calls.{specs.CallContracts.{SetContract, RemoveContract, ReturnContract}, proofs.QuestionLaws.{ask_yes, ask_no, ask_zero}}
use Rattle.calls.{proofs.ChainLaws.{site_zero, site_yes, write_yes}, proofs.ContractLaws.{by_accepted, by_refused, by_zero}, proofs.MarkCalls.{MarkAsked}}
use Rattle.calls.{proofs.MarkCalls.{mark_zero, mark_is_image, mark_read}}
use Rattle.marks.specs.{Store.{Located}, Placing.{Markable, mark_place, put_place}}
use Rattle.calls.specs.{Outcomes.{listing}, Chains.{set_store}}

-- ---- 1, 2, 3 or 17 got no

stopped : (n : ℕ) (l : Lengths) (sound : Bool) (x bs : List ℕ) (later : ℕ) → (mark_refusal n l sound x bs 0 ≡ 0 → ⊥) → mark_refusal n l sound x bs later ≡
    mark_refusal n l sound x bs 0
unfolding mark_refusal site_refusal lent_refusal ask
stopped n l sound x bs later h = go (size_good n) (site_lengths n l && store_length bs) sound (marks_good n x bs) h
  where
    go : (a b c d : Bool) → (ask 1 a (ask 2 b (ask 3 c (ask 17 d 0))) ≡ 0 → ⊥) → ask 1 a (ask 2 b (ask 3 c (ask 17 d later))) ≡ ask 1 a
        (ask 2 b (ask 3 c (ask 17 d 0)))
    go true true true true k = absurd (k refl)
    go true true true false k = refl
    go true true false d k = refl
    go true false c d k = refl
    go false b c d k = refl

module _ (n : ℕ) (x : List ℕ) (t : Tables) (bs : List ℕ) (q : ℕ) (e : q ≡ mark_refusal n (lengths_of t) (sound n t) x bs 0) (h : q ≡ 0 → ⊥) where
  same_number : (later : ℕ) → q ≡ mark_refusal n (lengths_of t) (sound n t) x bs later
  same_number later = e ∙ sym (stopped n (lengths_of t) (sound n t) x bs later (λ z. h (e ∙ z)))

  pub set_refused : SetContract n x t bs q bs
  unfolding SetContract set_outcome store_outcome set_refusal
  set_refused = let f = same_number (ask 19 (has_place x bs) 0) in by_refused _ _ _ (λ z. h (f ∙ z)) (rw f)

  pub remove_refused : RemoveContract n x t bs q bs
  unfolding RemoveContract remove_outcome store_outcome named_refusal
  remove_refused = let f = same_number (ask 18 (is_marked x bs) 0) in by_refused _ _ _ (λ z. h (f ∙ z)) (rw f)

  pub return_refused : ReturnContract n x bs t q t
  unfolding ReturnContract return_outcome named_refusal
  return_refused = let f = same_number (ask 18 (is_marked x bs) 0) in by_refused _ _ _ (λ z. h (f ∙ z)) (rw f)

-- ---- all four got yes

asked_good : (n : ℕ) (l : Lengths) (sound : Bool) (x bs : List ℕ) → mark_refusal n l sound x bs 0 ≡ 0 → marks_good n x bs ≡ true
unfolding mark_refusal
asked_good n l sound x bs p = (ask_zero 16 (marks_good n x bs) 0 (site_zero n l (store_length bs) sound (ask 17 (marks_good n x bs) 0) p).1).0

module _ (n : ℕ) (x : List ℕ) (t : Tables) (bs : List ℕ) (e : 0 ≡ mark_refusal n (lengths_of t) (sound n t) x bs 0) where
  asked : MarkAsked n (lengths_of t) (sound n t) x bs
  asked = (mark_zero n (lengths_of t) (sound n t) x bs 0 (sym e)).0

  abbrev image : List ℕ
  image = image_of (graph_in n t.links) t.order

  abbrev marks : List (List ℕ)
  marks = marks_in bs

  further : (later : ℕ) → mark_refusal n (lengths_of t) (sound n t) x bs later ≡ later
  unfolding mark_refusal
  further later =
      site_yes n (lengths_of t) (store_length bs) (sound n t) (ask 17 (marks_good n x bs) later) asked.site
      ∙ ask_yes 17 (marks_good n x bs) later (asked_good n (lengths_of t) (sound n t) x bs (sym e))

  image_good : is_image n image ≡ true
  image_good = is_image_sound n t asked.site.lent.most asked.site.is_sound

  pub markable : Markable n t x
  unfolding image_length
  markable =
      let g = asked.site.lent in
      let fit = (image_fits n image g.most image_good).1 in
      record {
        writable =
            write_yes n (lengths_of t) (place_bytes - name_bytes) (sound n t) (graph_in n t.links)
            (record { lent = record { least = g.least; most = g.most; lengths = g.lengths; further = refl }; is_sound = asked.site.is_sound })
            (omega (arith, fit, length_image_of (graph_in n t.links) t.order));
        name = asked.name;
      }

  -- the place that is put
  mark_kept : PlaceMark n x image
  mark_kept = place_mark n x image asked.site.lent.most asked.name image_good

  -- ---- the spot of the name

  module _ (used first : ℕ) (there : Bool) (spot : Located bs x used first there) where
    there_is : there ≡ has_mark x marks
    there_is = spot.found ∙ sym (ranked n x [] marks asked.store.marks.rising)

    are_sized : Sized marks
    are_sized = rising_sized n [] marks asked.store.marks.rising

    -- ---- setting

    set_by : has_place x bs ≡ true → (cs : List ℕ) → cs ≡ set_store n x t bs → SetContract n x t bs 0 cs
    unfolding SetContract set_outcome store_outcome set_refusal
    set_by h cs f = by_accepted _ _ (further (ask 19 (has_place x bs) 0) ∙ ask_yes 19 (has_place x bs) 0 h) (rw f)

    pub set_again : there ≡ true → (cs : List ℕ) → cs ≡ put_place bs first (mark_place n t x) → SetContract n x t bs 0 cs
    unfolding put_place mark_place has_place is_marked
    set_again h cs f =
        let p = place_of x image in
        let there' : has_mark x marks ≡ true = sym there_is ∙ h in
        let l : rank x marks < length marks = omega (arith, spot.less h, spot.counted, spot.ranked) in
        set_by (ap (λ (b : Bool). b || ltb (length marks) places) there') cs
        (f ∙ ap (λ (j : ℕ). take (place_bytes * j) bs ++ (p ++ drop (place_bytes * j + place_bytes) bs)) spot.ranked
        ∙ ap (λ (os : List ℕ). take (place_bytes * rank x marks) os ++ (p ++ drop (place_bytes * rank x marks + place_bytes) os)) asked.store.whole
        ∙ replaced marks are_sized asked.store.marks.few (rank x marks) p l
        ∙ ap store_of (sym (at_name p there')))
      where
        at_name : (p : List ℕ) → has_mark x marks ≡ true → with_mark (place_of x image) marks ≡ take (rank x marks) marks ++
            (place_of x image ∷ drop (suc (rank x marks)) marks)
        at_name p h =
            subst (λ (y : List ℕ). has_mark y marks ≡ true → with_mark (place_of x image) marks ≡ take (rank y marks) marks ++
            (place_of x image ∷ drop (suc (rank y marks)) marks))
            mark_kept.name (with_at n (place_of x image) [] marks asked.store.marks.rising) h

    pub set_full : there ≡ false → used ≡ places → SetContract n x t bs 19 bs
    unfolding SetContract set_outcome store_outcome set_refusal has_place is_marked
    set_full h f =
        let none : has_place x bs ≡ false =
        ap₂ {C = Bool} (λ a b. a || b) (sym there_is ∙ h) (le-ltb (length marks) places (omega (arith, spot.counted))) in
        let r = further (ask 19 (has_place x bs) 0) ∙ ask_no 19 (has_place x bs) 0 none in
        by_refused _ _ _ (λ z. omega (arith, r)) (rw r)

    pub set_new : there ≡ false → (used ≡ places → ⊥) → (cs : List ℕ) →
        cs ≡ put_place (moved_up bs (place_bytes * first) (place_bytes * used)) first (mark_place n t x) → SetContract n x t bs 0 cs
    unfolding put_place mark_place has_place is_marked
    set_new h m cs f =
        let p = place_of x image in
        let none : has_mark x marks ≡ false = sym there_is ∙ h in
        let less : length marks < places = omega (arith, m, spot.few, spot.counted) in
        set_by (ap₂ {C = Bool} (λ a b. a || b) none (lt-ltb (length marks) places less)) cs
        (f ∙ ap₂ {C = List ℕ} (λ j k. take (place_bytes * j) (moved_up bs (place_bytes * j) (place_bytes * k)) ++
        (p ++ drop (place_bytes * j + place_bytes) (moved_up bs (place_bytes * j) (place_bytes * k)))) spot.ranked spot.counted
        ∙ ap (λ (os : List ℕ). take (place_bytes * rank x marks) (moved_up os (place_bytes * rank x marks) (place_bytes * length marks))
        ++ (p ++ drop (place_bytes * rank x marks + place_bytes) (moved_up os (place_bytes * rank x marks) (place_bytes * length marks)))) asked.store.whole
        ∙ inserted marks are_sized asked.store.marks.few (rank x marks) p (rank_most n x marks) less
        ∙ ap store_of (sym (at_name none)))
      where
        at_name : has_mark x marks ≡ false → with_mark (place_of x image) marks ≡ take (rank x marks) marks ++ (place_of x image ∷ drop (rank x marks) marks)
        at_name h =
            subst (λ (y : List ℕ). has_mark y marks ≡ false → with_mark (place_of x image) marks ≡ take (rank y marks) marks ++
            (place_of x image ∷ drop (rank y marks) marks))
            mark_kept.name (with_new n (place_of x image) [] marks asked.store.marks.rising) h

    -- ---- 18

    no_mark : there ≡ false → named_refusal n (lengths_of t) (sound n t) x bs ≡ 18
    unfolding named_refusal is_marked
    no_mark h = further (ask 18 (has_mark x marks) 0) ∙ ask_no 18 (has_mark x marks) 0 (sym there_is ∙ h)

    a_mark : there ≡ true → named_refusal n (lengths_of t) (sound n t) x bs ≡ 0
    unfolding named_refusal is_marked
    a_mark h = further (ask 18 (has_mark x marks) 0) ∙ ask_yes 18 (has_mark x marks) 0 (sym there_is ∙ h)

    pub remove_absent : there ≡ false → RemoveContract n x t bs 18 bs
    unfolding RemoveContract remove_outcome store_outcome
    remove_absent h = let r = no_mark h in by_refused _ _ _ (λ z. omega (arith, r)) (rw r)

    pub return_absent : there ≡ false → ReturnContract n x bs t 18 t
    unfolding ReturnContract return_outcome
    return_absent h = let r = no_mark h in by_refused _ _ _ (λ z. omega (arith, r)) (rw r)

    -- ---- removing: w is the length of the place zeroed

    pub removed : there ≡ true → (w : ℕ) (cs : List ℕ) → w ≡ place_bytes →
        cs ≡ put_place (moved_down bs (place_bytes * (first + 1)) (place_bytes * used)) (used - 1) (replicate w 0) → RemoveContract n x t bs 0 cs
    unfolding RemoveContract remove_outcome store_outcome put_place
    removed h w cs g f =
        let l : rank x marks < length marks = omega (arith, spot.less h, spot.counted, spot.ranked) in
        let k : length marks ≡ suc (used - 1) = omega (arith, spot.less h, spot.counted) in
        let i : first + 1 ≡ suc (rank x marks) = omega (arith, spot.ranked) in
        by_accepted _ _ (a_mark h) (ap (listing 0)
        (f
        ∙ ap₂ {C = List ℕ} (λ j u. take (place_bytes * (used - 1)) (moved_down bs (place_bytes * j) (place_bytes * u))
        ++ (replicate w 0 ++ drop (place_bytes * (used - 1) + place_bytes) (moved_down bs (place_bytes * j) (place_bytes * u)))) i spot.counted
        ∙ ap (λ (os : List ℕ). take (place_bytes * (used - 1)) (moved_down os (place_bytes * suc (rank x marks)) (place_bytes * length marks))
        ++ (replicate w 0 ++ drop (place_bytes * (used - 1) + place_bytes) (moved_down os (place_bytes * suc (rank x marks)) (place_bytes * length marks))))
        asked.store.whole
        ∙ taken_out marks are_sized asked.store.marks.few (rank x marks) (used - 1) w l k g
        ∙ ap store_of (sym (without_at n x [] marks asked.store.marks.rising (sym there_is ∙ h)))))

    -- ---- coming back

    mark_found : there ≡ true → found x marks ≡ place_at bs first
    mark_found h =
        found_at n x [] marks asked.store.marks.rising (sym there_is ∙ h)
        ∙ mark_at bs (rank x marks) (omega (arith, spot.less h, spot.counted, spot.ranked)) ∙ ap (place_at bs) (sym spot.ranked)

    module _ (h : there ≡ true) (s : ℕ) (size : s ≡ image_size n
        (drop name_bytes (take (place_bytes * first + place_bytes - place_bytes * first) (drop (place_bytes * first) bs)))) where
      whole_place : take (place_bytes * first + place_bytes - place_bytes * first) (drop (place_bytes * first) bs) ≡ place_at bs first
      unfolding place_at
      whole_place =
          let e : place_bytes * first + place_bytes - place_bytes * first ≡ place_bytes = omega arith in
          ap (λ (k : ℕ). take k (drop (place_bytes * first) bs)) e

      size_is : s ≡ image_size n (drop name_bytes (place_at bs first))
      size_is = size ∙ ap (λ (p : List ℕ). image_size n (drop name_bytes p)) whole_place

      image_is : mark_image n x bs ≡ take s (drop name_bytes (place_at bs first))
      unfolding mark_image image_in
      image_is =
          ap (image_in n) (mark_found h) ∙ ap (λ (k : ℕ). take k (drop name_bytes (place_at bs first))) (sym size_is)

      place_long : length (place_at bs first) ≡ place_bytes
      unfolding place_at
      place_long =
          length-take-le place_bytes (drop (place_bytes * first) bs)
          (omega (arith, length-drop (place_bytes * first) bs, spot.long, spot.less h, spot.few))

      is_good : is_image n (take s (drop name_bytes (place_at bs first))) ≡ true
      unfolding is_marked
      is_good = ap (is_image n) (sym image_is) ∙ mark_is_image n x bs asked.store.marks (sym there_is ∙ h)

      -- the image fits its place
      pub fits : name_bytes + s ≤ place_bytes
      fits = go (bool_cases (leb (name_bytes + s) place_bytes))
        where
          go : (leb (name_bytes + s) place_bytes ≡ true) ⊎ (leb (name_bytes + s) place_bytes ≡ false) → name_bytes + s ≤ place_bytes
          go (inl e) = leb-true (name_bytes + s) place_bytes e
          go (inr e) =
              let rest = drop name_bytes (place_at bs first) in
              let long = leb-false (name_bytes + s) place_bytes e in
              let all : take s rest ≡ rest = take_all s rest (omega (arith, length-drop name_bytes (place_at bs first), place_long)) in
              let own = length_is_image n rest (ap (is_image n) (sym all) ∙ is_good) in
              absurd (omega (arith, own, size_is, length-drop name_bytes (place_at bs first), place_long))

      -- the part that is read
      part_is : take (place_bytes * first + name_bytes + s - (place_bytes * first + name_bytes)) (drop (place_bytes * first + name_bytes) bs) ≡ mark_image n x
          bs
      unfolding place_at
      part_is =
          let e : place_bytes * first + name_bytes + s - (place_bytes * first + name_bytes) ≡ s = omega arith in
          ap₂ {C = List ℕ} (λ k xs. take k xs) e (sym (drop-drop name_bytes (place_bytes * first) bs))
          ∙ sym (take_drop_take name_bytes s place_bytes (drop (place_bytes * first) bs) fits) ∙ sym image_is

      pub returned : (r : ℕ) (v : Tables) →
          ReadContract n (take (place_bytes * first + name_bytes + s - (place_bytes * first + name_bytes)) (drop (place_bytes * first + name_bytes) bs)) t r v
          →
          ReturnContract n x bs t r v
      unfolding ReturnContract return_outcome ReadContract read_outcome is_marked
      returned r v d =
          let c = subst (λ (image : List ℕ). ReadContract n image t r v) part_is d in
          let z = mark_read n (lengths_of t) (sound n t) x bs asked (sym there_is ∙ h) in by_accepted _ _ (a_mark h) (by_zero _ _ _ z c)
