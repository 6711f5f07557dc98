-- A plan by the walk, from sound tables and a call that is allowed: what the walk is made from, and what it comes to.
--   Chosen         the beginning end: it is of the lower level, and the other end does not stand before it
--   site           what the walk is made from
--   walked_plan    the plan of a walk
--   settled_plan   the plan of the quick path
use Rattle.std.specs.Prelude.{◌≡◌, ◌⊎◌, ◌∷◌, ◌++◌, ◌+◌, ◌*◌, ◌-◌, ◌≤◌, ◌<◌}
use Rattle.lists.{specs.Kit.{refl, sym, ap, subst, ◌∙◌, inl, inr, Bool, true, false, cond, List, [], append-nil, append_assoc, ℕ, suc}}
use Rattle.lists.{specs.Kit.{min, arith, ltb, leb, eqb, length, get_or, take, drop, length-drop, take-append-drop, drop_of_length-le}}
use Rattle.lists.{specs.Kit.{length-take-le, get_or-take, get_or-drop, drop-cons, drop-drop, drop-append-le, take-take, take_all, paste, paste-zero, ltb-true}}
use Rattle.lists.{specs.Kit.{ltb-false, lt-ltb, eq-eqb, ne_eqb, leb-true}, specs.Lists.{count, filter, member, In}, proofs.Tests.{bool_cases}}
use Rattle.lists.{proofs.Member.{in_left, in_right, in_cases, in_get_d, get_d_of_in}, proofs.Count.{count_append}, proofs.Filter.{in_filter, filter_in}}
use Rattle.lists.{proofs.Filter.{filter_all, filter_none, filter_append}, proofs.Range.{once_in, once_below, once_distinct}, proofs.Distinct.{distinct_right}}
use Rattle.lists.{proofs.Distinct.{distinct_apart, permutation_in}}
use Rattle.mesh.{specs.Limits.{max_radios, max_neighbours, row_bytes}, specs.Graph.{Graph, linked, relinked}, specs.Cores.{number}, specs.Levels.{lower_level}}
use Rattle.mesh.{specs.Levels.{new_order}, specs.Tables.{tables, graph_in}, specs.Peel.{Peels}, proofs.Links.LevelCut.{mids, highs}}
use Rattle.mesh.{proofs.Links.Peel.{takes_permutation}}
use Rattle.walks.specs.Walk.{FewFront}
use Rattle.plan.specs.{Planned.{changed_part}, Plans.{Ready, Planned}, Places.{level_start, level_size, beginning_end}, Peels.{linked_after, Level}}
use Rattle.plan.specs.{Walks.{radios_of, joined, WalkSite, WalkDone, rise_of, part_of}}
use Rattle.plan.proofs.PlanLevel.{a_below, b_below, is_valid, is_once, number_is, level_is, above_is, stretch_fits, is_level, row_is, row_few}
use Rattle.plan.specs.Plans.{plan_of}
use Rattle.walks.proofs.Beginning as beginning

-- ---- the beginning end

pub record Chosen (a b k : ℕ) (ns ps : List ℕ) (e : ℕ) : Type 0 where
  pub end : (e ≡ a) ⊎ (e ≡ b)
  pub level : get_or ns e 0 ≡ k
  pub least : (v : ℕ) → (v ≡ a) ⊎ (v ≡ b) → (k < get_or ns v 0) ⊎ ((get_or ns v 0 ≡ k) × (get_or ps e 0 ≤ get_or ps v 0))

pub chosen : (a b k : ℕ) (ns ps : List ℕ) → k ≡ min (get_or ns a 0) (get_or ns b 0) → Chosen a b k ns ps (beginning_end a b ns ps)
unfolding beginning_end
chosen a b k ns ps ek =
    go (bool_cases (ltb (get_or ns a 0) (get_or ns b 0))) (bool_cases (ltb (get_or ns b 0) (get_or ns a 0))) (bool_cases (ltb (get_or ps a 0) (get_or ps b 0)))
  where
    of_a : get_or ns a 0 ≡ k → (k < get_or ns b 0) ⊎ ((get_or ns b 0 ≡ k) × (get_or ps a 0 ≤ get_or ps b 0)) → Chosen a b k ns ps a
    of_a l other = record { end = inl refl; level = l; least = least }
      where
        least : (v : ℕ) → (v ≡ a) ⊎ (v ≡ b) → (k < get_or ns v 0) ⊎ ((get_or ns v 0 ≡ k) × (get_or ps a 0 ≤ get_or ps v 0))
        least v (inl q) = rw q (inr (l, omega arith))
        least v (inr q) = rw q other

    of_b : get_or ns b 0 ≡ k → (k < get_or ns a 0) ⊎ ((get_or ns a 0 ≡ k) × (get_or ps b 0 ≤ get_or ps a 0)) → Chosen a b k ns ps b
    of_b l other = record { end = inr refl; level = l; least = least }
      where
        least : (v : ℕ) → (v ≡ a) ⊎ (v ≡ b) → (k < get_or ns v 0) ⊎ ((get_or ns v 0 ≡ k) × (get_or ps b 0 ≤ get_or ps v 0))
        least v (inl q) = rw q other
        least v (inr q) = rw q (inr (l, omega arith))

    go : (ltb (get_or ns a 0) (get_or ns b 0) ≡ true) ⊎ (ltb (get_or ns a 0) (get_or ns b 0) ≡ false)
        → (ltb (get_or ns b 0) (get_or ns a 0) ≡ true) ⊎ (ltb (get_or ns b 0) (get_or ns a 0) ≡ false)
        → (ltb (get_or ps a 0) (get_or ps b 0) ≡ true) ⊎ (ltb (get_or ps a 0) (get_or ps b 0) ≡ false)
        → Chosen a b k ns ps (cond (ltb (get_or ns a 0) (get_or ns b 0)) a (cond (ltb (get_or ns b 0) (get_or ns a 0)) b (cond (ltb (get_or ps a 0) (get_or ps b 0)) a b)))
    go (inl x) y z = let l = ltb-true (get_or ns a 0) (get_or ns b 0) x in rw x (of_a (omega arith) (inl (omega arith)))
    go (inr x) (inl y) z = let l = ltb-true (get_or ns b 0) (get_or ns a 0) y in rw (x, y) (of_b (omega arith) (inl (omega arith)))
    go (inr x) (inr y) (inl z) =
        let l = ltb-false (get_or ns a 0) (get_or ns b 0) x in
        let m = ltb-false (get_or ns b 0) (get_or ns a 0) y in
        let p = ltb-true (get_or ps a 0) (get_or ps b 0) z in rw (x, y, z) (of_a (omega arith) (inr (omega arith, omega arith)))
    go (inr x) (inr y) (inr z) =
        let l = ltb-false (get_or ns a 0) (get_or ns b 0) x in
        let m = ltb-false (get_or ns b 0) (get_or ns a 0) y in
        let p = ltb-false (get_or ps a 0) (get_or ps b 0) z in rw (x, y, z) (of_b (omega arith) (inr (omega arith, omega arith)))

module _ {a b : ℕ} {ts ns os ps cs : List ℕ} (r : Ready true (length os) a b (tables ts ns os) ps cs) (k : ℕ) (ek : k ≡ min (get_or ns a 0) (get_or ns b 0))
    (e : ℕ) (ee : e ≡ beginning_end a b ns ps) where
  abbrev n : ℕ
  n = length os

  abbrev g : Graph
  g = graph_in n ts

  abbrev after : Graph
  after = relinked true a b g

  abbrev num : ℕ → ℕ
  num = number g

  abbrev start : ℕ
  start = level_start ns k

  abbrev many : ℕ
  many = level_size ns k

  abbrev first : ℕ
  first = get_or ps e 0

  abbrev tail : List ℕ
  tail = drop first os

  e_k : k ≡ lower_level g a b
  e_k = ek ∙ level_is r

  lv : Level (linked_after true a b n ts) ns os ps k start many
  lv = is_level r k ek

  pick : Chosen a b k ns ps e
  pick = rw ee (chosen a b k ns ps ek)

  pub begins_below : e < n
  begins_below = go pick.end
    where
      go : (e ≡ a) ⊎ (e ≡ b) → e < n
      go (inl q) = omega (arith, a_below r)
      go (inr q) = omega (arith, b_below r)

  -- where it stands
  place : (start ≤ first) × (first < start + many) × (get_or os first 0 ≡ e)
  place = lv.stands e begins_below pick.level

  pub begins_inside : (start ≤ first) × (first < start + many) × (start + many ≤ n)
  begins_inside = (place.0, place.1, stretch_fits r k)

  inside : first < n
  inside = omega (arith, place.1, stretch_fits r k)

  tail_length : length tail ≡ n - first
  tail_length = length-drop first os

  all_radios : radios_of first tail ≡ n
  all_radios = omega (arith, tail_length, inside)

  tail_is : tail ≡ e ∷ drop (suc first) os
  tail_is = drop-cons os first 0 inside ∙ ap (λ (x : ℕ). x ∷ drop (suc first) os) place.2

  cut : os ≡ take first os ++ e ∷ drop (suc first) os
  cut = sym (take-append-drop first os) ∙ ap (λ (z : List ℕ). take first os ++ z) tail_is

  tail_at : (i : ℕ) → get_or tail i 0 ≡ get_or os (first + i) 0
  tail_at i = get_or-drop first os i 0

  tail_below : (v : ℕ) → In v tail → v < n
  tail_below v m = once_below n os (is_once r) v (rw (← take-append-drop first os) (in_right v (take first os) tail m))

  -- above the level
  high_in : (v : ℕ) → v < n → k < get_or ns v 0 → In v (drop (start + many) os)
  high_in v l h =
      rw (above_is r k) (filter_in (λ v. ltb k (num v)) os v (once_in n os (is_once r) v l) (lt-ltb k (num v) (omega (arith, number_is r v l))))

  in_high : (v : ℕ) → In v (drop (start + many) os) → (v < n) × (k < get_or ns v 0)
  in_high v m =
      let i = in_filter (λ v. ltb k (num v)) os v (rw (above_is r k) at m) in
      let l = once_below n os (is_once r) v i.0 in (l, omega (arith, number_is r v l, ltb-true k (num v) i.1))

  -- ---- the part

  module _ (size : ℕ) (es : size ≡ start + many - first) where
    abbrev part : List ℕ
    part = take size tail

    abbrev high : List ℕ
    high = drop size tail

    sizes : first + size ≡ start + many
    sizes = omega (arith, place.1)

    pub part_fits : size ≤ length tail
    part_fits = omega (arith, sizes, tail_length, stretch_fits r k, inside)

    pub part_room : size ≤ n
    part_room = omega (arith, sizes, stretch_fits r k)

    high_is : high ≡ drop (start + many) os
    high_is = drop-drop size first os ∙ ap (λ (x : ℕ). drop x os) sizes

    part_length : length part ≡ size
    part_length = length-take-le size tail part_fits

    part_at : (i : ℕ) → i < size → get_or part i 0 ≡ get_or os (first + i) 0
    part_at i l = get_or-take size tail i 0 l ∙ tail_at i

    numbered_at : (v i : ℕ) → i < size → get_or part i 0 ≡ v → get_or ns v 0 ≡ k
    numbered_at v i l q =
        ap (λ (x : ℕ). get_or ns x 0) (sym q ∙ part_at i l) ∙ lv.numbered (first + i) (omega (arith, place.0)) (omega (arith, sizes))

    numbered : (v : ℕ) → In v part → get_or ns v 0 ≡ k
    numbered v m = let i = get_d_of_in v part m in numbered_at v i.0 (omega (arith, i.1, part_length)) i.2

    part_below : (v : ℕ) → In v part → v < n
    part_below v m = tail_below v (rw (← take-append-drop size tail) (in_left v part high m))

    stands : (v : ℕ) → v < n → get_or ns v 0 ≡ k → first ≤ get_or ps v 0 → In v part
    stands v l q h =
        let t = lv.stands v l q in
        let j : first + (get_or ps v 0 - first) ≡ get_or ps v 0 = omega arith in
        let low : get_or ps v 0 - first < size = omega (arith, sizes, t.1) in
        let is : get_or part (get_or ps v 0 - first) 0 ≡ v = part_at (get_or ps v 0 - first) low ∙ ap (λ (x : ℕ). get_or os x 0) j ∙ t.2 in
        rw is at (in_get_d part (get_or ps v 0 - first) (omega (arith, part_length)))

    -- ---- the call, from the beginning end on

    ends_in : (v : ℕ) → (v ≡ a) ⊎ (v ≡ b) → v < n → In v tail
    ends_in v q l = go (pick.least v q)
      where
        go : (k < get_or ns v 0) ⊎ ((get_or ns v 0 ≡ k) × (first ≤ get_or ps v 0)) → In v tail
        go (inl h) = rw (← take-append-drop size tail) (in_right v part high (rw high_is (high_in v l h)))
        go (inr h) = rw (← take-append-drop size tail) (in_left v part high (stands v l h.0 h.1))

    no_end : (x : ℕ) → In x (take first os) → (x ≡ a → ⊥) × (x ≡ b → ⊥)
    no_end x m = (
      λ q. apart x m (rw q (ends_in a (inl refl) (a_below r))),
      λ q. apart x m (rw q (ends_in b (inr refl) (b_below r))),
    )
      where
        apart : (v : ℕ) → In v (take first os) → In v tail → ⊥
        apart = distinct_apart (take first os) tail (rw (take-append-drop first os) (once_distinct n os (is_once r)))

    abbrev rest : List ℕ
    rest = drop (suc first) os

    mids_part : mids num k (e ∷ rest) ≡ part
    mids_part =
        ap (mids num k) (sym tail_is ∙ sym (take-append-drop size tail))
        ∙ filter_append (λ v. eqb (num v) k) part high
        ∙ ap (λ (z : List ℕ). z ++ filter (λ v. eqb (num v) k) high)
        (filter_all (λ v. eqb (num v) k) part (λ v m. eq-eqb (num v) k (sym (number_is r v (part_below v m)) ∙ numbered v m)))
        ∙ ap (λ (z : List ℕ). part ++ z)
        (filter_none (λ v. eqb (num v) k) high (λ v m. ne_eqb (num v) k (λ q.
        let h = in_high v (rw high_is at m) in omega (arith, h.1, number_is r v h.0))))
        ∙ append-nil part

    highs_high : highs num k os ≡ high
    highs_high = sym (above_is r k) ∙ sym high_is

    part_rest : mids num k rest ≡ drop 1 part
    part_rest =
        ap (drop 1)
        (sym (rw (← e_k) at (beginning.part_is max_neighbours a b g os (is_valid r) r.allowed (take first os) e rest cut pick.end no_end)) ∙ mids_part)

    few : FewFront (linked after) k high (drop 1 part) []
    few =
        rw (← part_rest, ← highs_high, e_k)
        (beginning.tail_few max_neighbours a b g os (is_valid r) r.allowed (take first os) e rest cut pick.end no_end)

    pub site : WalkSite (rise_of a b k) (part_of first size) ts ns tail ps
    site = record {
      small = omega (arith, all_radios, r.small);
      numbers_length = r.numbers_length ∙ sym all_radios;
      places_length = omega (arith, all_radios, r.places_length);
      links_length = r.links_length ∙ ap (λ (x : ℕ). row_bytes * x) (sym all_radios);
      some = omega (arith, sizes, place.1);
      fits = part_fits;
      distinct = distinct_right (take first os) tail (rw (take-append-drop first os) (once_distinct n os (is_once r)));
      radios = λ v m. omega (arith, all_radios, tail_below v m);
      placed = λ i l. ap (λ (x : ℕ). get_or ps x 0) (tail_at i) ∙ lv.placed (first + i) (omega (arith, place.0)) (omega (arith, sizes));
      numbered = numbered;
      stands = λ v l. stands v (omega (arith, all_radios));
      higher = λ v m. (in_high v (rw high_is at m)).1;
      above_all = λ v l h. rw high_is (high_in v (omega (arith, all_radios)) h);
      differ = r.allowed.differ;
      ends = (omega (arith, all_radios, a_below r), omega (arith, all_radios, b_below r));
      within = rw all_radios lv.within;
      irreflexive = rw all_radios lv.irreflexive;
      symmetric = rw all_radios lv.symmetric;
      row_is = rw all_radios (row_is r k);
      row_few = rw all_radios (row_few r k);
      few = subst (λ (x : ℕ). FewFront (linked_after true a b x ts) k high (drop 1 part) []) (sym all_radios) few;
    }

    -- ---- what a walk comes to

    module _ (front taken : ℕ) (list : List ℕ) (done : WalkDone (rise_of a b k) (part_of first size) ts tail front taken list) where
      abbrev old : List ℕ
      old = drop front part

      abbrev new : List ℕ
      new = take taken list

      abbrev stuck : List ℕ
      stuck = drop taken (take front list)

      peels : Peels (linked after) k high part (new ++ old) stuck
      peels = subst (λ (x : ℕ). Peels (linked_after true a b x ts) k high part (new ++ old) stuck) all_radios done.peels

      peels_level : Peels (linked after) (lower_level g a b) (highs num (lower_level g a b) os) (mids num (lower_level g a b) (e ∷ rest)) (new ++ old) stuck
      peels_level = rw (← e_k, mids_part, highs_high) peels

      order_is : new_order true a b g os ≡ take first os ++ ((new ++ old) ++ (stuck ++ high))
      order_is =
          beginning.order_walked max_neighbours a b g os (is_valid r) r.allowed (take first os) e rest cut pick.end no_end (new ++ old) stuck peels_level
          ∙ ap (λ (z : List ℕ). take first os ++ ((new ++ old) ++ (stuck ++ z))) (rw (← e_k) highs_high)

      listed : take front list ≡ new ++ stuck
      listed = sym (take-append-drop taken (take front list)) ∙ ap (λ (z : List ℕ). z ++ stuck) (take-take taken front list done.passed)

      front_long : length (take front list) ≡ front
      front_long = length-take-le front list (omega (arith, done.fits, done.room, part_room, r.small))

      behind : drop (first + front) os ≡ old ++ high
      behind =
          sym (drop-drop front first os) ∙ ap (drop front) (sym (take-append-drop size tail))
          ∙ drop-append-le front part high (omega (arith, done.fits, part_length))

      either : (stuck ≡ []) ⊎ (old ≡ [])
      either = go done.either
        where
          go : (taken ≡ front) ⊎ (front ≡ size) → (stuck ≡ []) ⊎ (old ≡ [])
          go (inl q) = inl (drop_of_length-le (take front list) {i = taken} (omega (arith, front_long)))
          go (inr q) = inr (drop_of_length-le part {i = front} (omega (arith, part_length)))

      laid : paste os first list front ≡ new_order true a b g os
      laid =
          ap (λ (z : List ℕ). take first os ++ z ++ drop (first + front) os) listed
          ∙ ap (λ (z : List ℕ). take first os ++ (new ++ stuck) ++ z) behind
          ∙ moved either ∙ sym order_is
        where
          moved : (stuck ≡ []) ⊎ (old ≡ []) → take first os ++ (new ++ stuck) ++ (old ++ high) ≡ take first os ++ ((new ++ old) ++ (stuck ++ high))
          moved (inl q) =
              rw (q, append-nil new) (append_assoc (take first os) new (old ++ high) ∙ ap (λ (z : List ℕ). take first os ++ z)
              (sym (append_assoc new old high)))
          moved (inr q) =
              rw (q, append-nil new)
              (append_assoc (take first os) (new ++ stuck) high ∙ ap (λ (z : List ℕ). take first os ++ z) (append_assoc new stuck high))

      walked_in : (v : ℕ) → In v (new ++ stuck) → v < n
      walked_in v m = part_below v (permutation_in ((new ++ old) ++ stuck) part (λ h. sym (takes_permutation (linked after) k high peels.takes h)) v
          (go (in_cases v new stuck m)))
        where
          go : In v new ⊎ In v stuck → In v ((new ++ old) ++ stuck)
          go (inl i) = in_left v (new ++ old) stuck (in_left v new old i)
          go (inr i) = in_right v (new ++ old) stuck i

      entry_below : (i : ℕ) → i < front → get_or list i 0 < n
      entry_below i l =
          let is : get_or (new ++ stuck) i 0 ≡ get_or list i 0 = ap (λ (z : List ℕ). get_or z i 0) (sym listed) ∙ get_or-take front list i 0 l in
          rw is at (walked_in (get_or (new ++ stuck) i 0) (in_get_d (new ++ stuck) i (omega (arith, ap length listed, front_long))))

      pub walked_plan : Planned true a b g os (plan_of first front taken) list
      unfolding changed_part graph_in
      walked_plan = record {
        fits = omega (arith, done.fits, sizes, stretch_fits r k);
        room = done.room;
        long = omega (arith, done.fits, done.room, part_room, r.small);
        taken_fits = done.passed;
        laid = laid;
        changed_is = λ v l.
            beginning.changed_walked max_neighbours a b g os (is_valid r) r.allowed (take first os) e rest cut pick.end no_end (new ++ old) stuck
            peels_level v l;
        radios = entry_below;
      }

    -- ---- the quick path

    -- few neighbours stand later with the link
    abbrev FewLater : Type 0
    FewLater = count (linked after e) (drop 1 part) + count (linked after e) high ≤ k

    unmoved_plan : FewLater → (list : List ℕ) → length list ≡ max_radios → Planned true a b g os (plan_of first 0 0) list
    unfolding changed_part graph_in member
    unmoved_plan h list room = record {
      fits = omega (arith, inside);
      room = room;
      long = omega arith;
      taken_fits = omega arith;
      laid = sym (paste-zero os first list)
          ∙ sym (beginning.unmoved max_neighbours a b g os (is_valid r) r.allowed (take first os) e rest cut pick.end no_end small);
      changed_is = λ v l.
          beginning.unmoved_changed max_neighbours a b g os (is_valid r) r.allowed (take first os) e rest cut pick.end no_end small v l;
      radios = λ i l. absurd (omega arith);
    }
      where
        small : count (linked after e) (mids num (lower_level g a b) rest) + count (linked after e) (highs num (lower_level g a b) os) ≤ lower_level g a b
        small = rw (← e_k, part_rest, highs_high) h

    -- as a row tells it
    pub settled_plan : leb (count (joined a b first ts tail (get_or tail 0 0)) (drop 1 tail)) k ≡ true → (list : List ℕ) → length list ≡ max_radios
        → Planned true a b g os (plan_of first 0 0) list
    settled_plan h =
        unmoved_plan (omega (arith, few_later, ap (count (linked after e)) behind, count_append (linked after e) (drop 1 part) high))
      where
        begins : get_or tail 0 0 ≡ e
        begins = ap (λ (z : List ℕ). get_or z 0 0) tail_is

        behind : drop 1 tail ≡ drop 1 part ++ high
        behind =
            ap (drop 1) (sym (take-append-drop size tail)) ∙ drop-append-le 1 part high (omega (arith, part_length, sizes, place.1))

        few_later : count (linked after e) (drop 1 tail) ≤ k
        few_later =
            rw begins at (subst (λ (x : ℕ). count (linked_after true a b x ts (get_or tail 0 0)) (drop 1 tail) ≤ k) all_radios
            (leb-true (count (joined a b first ts tail (get_or tail 0 0)) (drop 1 tail)) k h))

    -- ---- as the code names its values: where the call begins, and what is lent of the order

    module _ (from : ℕ) (ef : from ≡ first) (lent : List ℕ) (el : lent ≡ take (length os - from) (drop from os)) where
      lent_is : lent ≡ tail
      lent_is = el ∙ take_all (length os - from) (drop from os) (omega (arith, length-drop from os)) ∙ ap (λ (x : ℕ). drop x os) ef

      pub site_lent : WalkSite (rise_of a b k) (part_of from size) ts ns lent ps
      site_lent = rw (lent_is, ef) site

      pub settled_lent : (t : Bool) (list : List ℕ) → t ≡ leb (count (joined a b from ts lent (get_or lent 0 0)) (drop 1 lent)) k → t ≡ true
          → length list ≡ max_radios → Planned true a b g os (plan_of from 0 0) list
      settled_lent t list e h room = rw ef (settled_plan (rw (lent_is, ef) at (sym e ∙ h)) list room)

      pub walked_lent : (at front taken : ℕ) (list : List ℕ) → at ≡ from → WalkDone (rise_of a b k) (part_of from size) ts lent front taken list
          → Planned true a b g os (plan_of at front taken) list
      walked_lent at front taken list e done = rw (e, ef) (walked_plan front taken list (rw (lent_is, ef) at done))

-- a plan that moves nothing, as the code names its values
pub planned_as : {up : Bool} {a b from at front taken : ℕ} {g : Graph} {os list : List ℕ} → (at ≡ from) × (front ≡ 0) × (taken ≡ 0)
    → Planned up a b g os (plan_of from 0 0) list → Planned up a b g os (plan_of at front taken) list
planned_as e p = rw (e.0, e.1, e.2) p

-- ends that have an entry in both tables
pub ends_known : {a b : ℕ} {ts ns os ps cs : List ℕ} → Ready true (length os) a b (tables ts ns os) ps cs
    → (a < length ns) × (b < length ns) × (a < length ps) × (b < length ps)
ends_known r = (
  omega (arith, a_below r, r.numbers_length),
  omega (arith, b_below r, r.numbers_length),
  omega (arith, a_below r, r.places_length),
  omega (arith, b_below r, r.places_length),
)
