-- An accepted link call on a site: its peel, the numbers after it, the changed radios, and document 01's new order, which is
-- the peel's. Up and down alike.
use Rattle.std.specs.Prelude.{◌≡◌, ◌⊎◌, ◌&&◌, ◌||◌, ◌++◌, ◌-◌, ◌≤◌, ◌<◌}
use Rattle.lists.specs.Kit.{refl, sym, ap, subst, ◌∙◌, inl, inr, Bool, true, false, not, cond, Bool·not-not, List, append_assoc}
use Rattle.lists.specs.Kit.{ℕ, suc, arith, ltb, eqb, length, ltb-true, eqb-true, eqb-false, eq-eqb, ne_eqb, not-true, not-false, ⊎_elim}
use Rattle.lists.{specs.Lists.{range, filter, member, In}, specs.Facts.{Distinct}, proofs.Tests.{bool_cases, never, and_both, or_cases, or_left, or_right}}
use Rattle.lists.{proofs.Member.{in_cases, member_in, in_member, not_member}, proofs.Count.{count_pos}, proofs.Range.{in_range, range_in, once_in, once_below}}
use Rattle.lists.{proofs.Range.{once_distinct}, proofs.Distinct.{permutation_in}, proofs.Filter.{in_filter, filter_in, member_filter, filter_ext}}
use Rattle.lists.proofs.Filter.{distinct_filter}
use Rattle.mesh.specs.{Graph.{Graph, radios, linked, neighbours_in, relinked, proper, new_links, Allowed}, Cores.{Group, number}, Orders.{is_k_order}}
use Rattle.mesh.specs.Levels.{changed, lower_level, stretch_start, stretch_length, laid_out, stretch_up, stretch_down, new_stretch, with_stretch}
use Rattle.mesh.specs.{Levels.{new_order}, Peel.{Takes, bound}, Valid.{Valid, smaller, larger}}
use Rattle.mesh.proofs.GraphLaws.{linked_sym, proper_of, of_proper, proper_new_links, linked_self, relinked_adds, Adds}
use Rattle.mesh.proofs.{Cores.Certificate.{Certificate}, Cores.Peeling.{number_core}, Cores.KOrders.{k_order_certificate, certificate_number}}
use Rattle.mesh.proofs.{Cores.KOrders.{certificate_k_order}, Links.Peel.{Peeling, takes_permutation, takes_now_filter, laid_out_is, length_taken}}
use Rattle.mesh.proofs.Links.PeelSound.{Moves, PeeledLevel, new_list, new_number, new_stuck, new_taken, new_else, taken_level, stuck_level, apart}
use Rattle.mesh.proofs.{Links.PeelSound.{peel_certificate}, Links.Moves.{link_moves}, Links.LevelCut.{lows, mids, highs, level_cut, stretch_start_is}}
use Rattle.mesh.proofs.Links.LevelCut.{stretch_length_is, take_below, take_level, drop_above}

-- ---- both ends of a link have a number above 0

pub linked_positive : (g : Graph) (a b : ℕ) → a < g.n → b < g.n → linked g a b ≡ true → 1 ≤ number g a
unfolding Group neighbours_in radios
linked_positive g a b la lb h = (number_core g a la).largest 1 pair (λ v l q. one v (or_cases (eqb v a) (eqb v b) q))
    (or_left (eqb a a) (eqb a b) (eq-eqb a a refl))
  where
    pair : ℕ → Bool
    pair v = eqb v a || eqb v b

    has : (v w : ℕ) → w < g.n → linked g v w ≡ true → pair w ≡ true → 1 ≤ neighbours_in g v pair
    has v w l k q = count_pos (λ x. linked g v x && pair x) w (range 0 g.n) (in_range 0 g.n w (omega arith) (omega arith))
        (and_both (linked g v w) (pair w) k q)

    one : (v : ℕ) → (eqb v a ≡ true) ⊎ (eqb v b ≡ true) → 1 ≤ neighbours_in g v pair
    one v (inl e) = has v b lb (rw (eqb-true v a e) h) (or_right (eqb b a) (eqb b b) (eq-eqb b b refl))
    one v (inr e) = has v a la (rw (eqb-true v b e) (linked_sym g b a ∙ h)) (or_left (eqb a a) (eqb a b) (eq-eqb a a refl))

-- ---- the changed radios, by their numbers

module _ (u : Bool) (a b : ℕ) (g : Graph) (v : ℕ) where
  changed_member : v < g.n → member v (changed u a b g) ≡ not (eqb (number g v) (number (relinked u a b g) v))
  unfolding changed radios
  changed_member l =
      member_filter (λ v. not (eqb (number g v) (number (relinked u a b g) v))) (range 0 g.n) v (in_range 0 g.n v (omega arith) (omega arith))

  pub changed_below : member v (changed u a b g) ≡ true → v < g.n
  unfolding changed radios
  changed_below m =
      omega (
        arith,
        range_in 0 g.n v (in_filter (λ v. not (eqb (number g v) (number (relinked u a b g) v))) (range 0 g.n) v
            (member_in v (changed u a b g) m)).0,
      )

  pub changed_differs : member v (changed u a b g) ≡ true → number g v ≡ number (relinked u a b g) v → ⊥
  changed_differs m =
      eqb-false (number g v) (number (relinked u a b g) v)
      (not-true (eqb (number g v) (number (relinked u a b g) v)) (sym (changed_member (changed_below m)) ∙ m))

  pub unchanged_number : v < g.n → member v (changed u a b g) ≡ false → number g v ≡ number (relinked u a b g) v
  unchanged_number l m =
      eqb-true (number g v) (number (relinked u a b g) v) (not-false (eqb (number g v) (number (relinked u a b g) v)) (sym (changed_member l) ∙ m))

-- ---- a stretch laid out is the peel

-- `front` and `back` tell what is laid out anew and what keeps its order behind it
module _ (f : ℕ → ℕ → Bool) (most : ℕ) (above level taken stuck : List ℕ) (irr : (w : ℕ) → f w w ≡ false) (d : Distinct level)
    (takes : Takes f most above level taken stuck) (front back : ℕ → Bool)
    (is_front : (v : ℕ) → In v level → front v ≡ not (member v stuck)) (is_back : (v : ℕ) → In v level → back v ≡ member v stuck) where
  laid_stretch : laid_out (length (filter front level)) f most (filter front level) (filter back level ++ above) ++ filter back level ≡ taken ++ stuck
  laid_stretch =
      let e = filter_ext front (λ v. not (member v stuck)) level is_front in
      let k : filter back level ≡ stuck = filter_ext back (λ v. member v stuck) level is_back ∙ sym (takes_now_filter f most above d takes) in
      rw (e, k, length_taken f most above d takes, laid_out_is f most above irr d takes)

module _ (most : ℕ) (u : Bool) (a b : ℕ) (g : Graph) (xs : List ℕ) (valid : Valid most g xs) (ok : Allowed most u a b g) where
  abbrev K : ℕ
  K = lower_level g a b

  abbrev after : Graph
  after = relinked u a b g

  abbrev low_part : List ℕ
  low_part = lows (number g) K xs

  abbrev level_part : List ℕ
  level_part = mids (number g) K xs

  abbrev high_part : List ℕ
  high_part = highs (number g) K xs

  certified : Certificate g (number g) xs
  certified = k_order_certificate g xs valid.k_order

  pub link_adds : Adds (smaller u a b g) (larger u a b g) a b
  link_adds = relinked_adds u a b g ok.differ ok.state

  pub cut : xs ≡ low_part ++ (level_part ++ high_part)
  cut = level_cut (number g) K xs certified.rising

  positive : u ≡ false → 1 ≤ K
  unfolding lower_level
  positive e =
      let h : linked g a b ≡ true = rw e at ok.state in
      omega (arith, linked_positive g a b ok.a_radio ok.b_radio h, linked_positive g b a ok.b_radio ok.a_radio (linked_sym g b a ∙ h))

  pub relinked_proper : proper after.n after.links ≡ true
  unfolding relinked
  relinked_proper =
      of_proper g.n (new_links u a b g.links)
      (proper_new_links u a b g.n g.links ok.a_radio ok.b_radio ok.differ (proper_of g.n g.links valid.links_proper))

  irreflexive_after : (w : ℕ) → linked after w w ≡ false
  irreflexive_after = linked_self after relinked_proper

  -- ---- any peel of the lower end's level

  moves_after : Moves g after (number g) K (bound u K)
  unfolding lower_level
  moves_after = link_moves u a b g (number g) link_adds positive

  module _ (peel : Peeling (linked after) (bound u K) high_part level_part) where
    abbrev peeled_level : PeeledLevel
    peeled_level = record {
      s = g;
      t = after;
      num = number g;
      K = K;
      most = bound u K;
      below = low_part;
      level = level_part;
      above = high_part;
      taken = peel.taken;
      stuck = peel.stuck;
      certified = subst (λ (z : List ℕ). Certificate g (number g) z) cut certified;
      lower = λ v m. ltb-true (number g v) K (in_filter (λ v. ltb (number g v) K) xs v m).1;
      equal = λ v m. eqb-true (number g v) K (in_filter (λ v. eqb (number g v) K) xs v m).1;
      higher = λ v m. ltb-true K (number g v) (in_filter (λ v. ltb K (number g v)) xs v m).1;
      moves = moves_after;
      peels = peel.peels;
    }

    abbrev stuck : List ℕ
    stuck = peel.stuck

    abbrev taken : List ℕ
    taken = peel.taken

    -- ---- the numbers after the call

    number_after : (v : ℕ) → v < g.n → number after v ≡ new_number peeled_level v
    unfolding relinked
    number_after v l =
        certificate_number after (new_number peeled_level) (new_list peeled_level) irreflexive_after (peel_certificate peeled_level) v l

    number_else : (v : ℕ) → v < g.n → (number g v ≡ K → ⊥) → number after v ≡ number g v
    number_else v l h = number_after v l ∙ sym (new_else peeled_level v h)

    level_cases : (v : ℕ) → v < g.n → number g v ≡ K → In v taken ⊎ In v stuck
    level_cases v l e =
        in_cases v taken stuck
        (permutation_in level_part (taken ++ stuck) (takes_permutation (linked after) (bound u K) high_part peel.peels.takes) v
        (filter_in (λ v. eqb (number g v) K) xs v (once_in g.n xs certified.once v l) (eq-eqb (number g v) K e)))

    -- ---- the changed radios

    -- changed radios stood at the lower end's level
    pub changed_level : (v : ℕ) → member v (changed u a b g) ≡ true → number g v ≡ K
    changed_level v m =
        ⊎_elim (λ e. eqb-true (number g v) K e)
        (λ e. absurd (changed_differs u a b g v m (sym (number_else v (changed_below u a b g v m) (eqb-false (number g v) K e)))))
        (bool_cases (eqb (number g v) K))

    changed_taken : (v : ℕ) → v < g.n → In v taken → member v (changed u a b g) ≡ not u
    changed_taken v l m = changed_member u a b g v l ∙ go u refl
      where
        new : number after v ≡ bound u K
        new = number_after v l ∙ new_taken peeled_level v m

        go : (w : Bool) → u ≡ w → not (eqb (number g v) (number after v)) ≡ not w
        go true e = ap not (eq-eqb (number g v) (number after v) (omega (arith, taken_level peeled_level v m, new, ap (λ (x : Bool). bound x K) e)))
        go false e = ap not (ne_eqb (number g v) (number after v)
            (λ q. omega (arith, taken_level peeled_level v m, new, ap (λ (x : Bool). bound x K) e, positive e)))

    changed_stuck : (v : ℕ) → v < g.n → In v stuck → member v (changed u a b g) ≡ u
    changed_stuck v l m = changed_member u a b g v l ∙ go u refl
      where
        new : number after v ≡ suc (bound u K)
        new = number_after v l ∙ new_stuck peeled_level v m

        go : (w : Bool) → u ≡ w → not (eqb (number g v) (number after v)) ≡ w
        go true e = ap not (ne_eqb (number g v) (number after v) (λ q. omega (arith, stuck_level peeled_level v m, new, ap (λ (x : Bool). bound x K) e)))
        go false e = ap not (eq-eqb (number g v) (number after v)
            (omega (arith, stuck_level peeled_level v m, new, ap (λ (x : Bool). bound x K) e, positive e)))

    -- ---- the new order

    in_level : (v : ℕ) → In v level_part → (v < g.n) × (number g v ≡ K)
    in_level v m =
        let r = in_filter (λ v. eqb (number g v) K) xs v m in (once_below g.n xs certified.once v r.0, eqb-true (number g v) K r.1)

    -- going up the stuck change, going down the others of the level
    changed_is : (v : ℕ) → In v level_part → member v (changed u a b g) ≡ cond u (member v stuck) (not (member v stuck))
    changed_is v m = let r = in_level v m in go r.0 (level_cases v r.0 r.1)
      where
        other : (w : Bool) → not w ≡ cond w false (not false)
        other true = refl
        other false = refl

        same : (w : Bool) → w ≡ cond w true (not true)
        same true = refl
        same false = refl

        go : v < g.n → In v taken ⊎ In v stuck → member v (changed u a b g) ≡ cond u (member v stuck) (not (member v stuck))
        go l (inl p) = rw (not_member v stuck (λ q. apart peeled_level v p q)) (changed_taken v l p ∙ other u)
        go l (inr p) = rw (in_member v stuck p) (changed_stuck v l p ∙ same u)

    distinct_level : Distinct level_part
    distinct_level = distinct_filter (λ v. eqb (number g v) K) xs (once_distinct g.n xs certified.once)

    -- document 01's layout of the stretch is the peel
    pub new_stretch_is : new_stretch u after K (changed u a b g) level_part high_part ≡ taken ++ stuck
    unfolding new_stretch stretch_up stretch_down
    new_stretch_is = go u refl changed_is
      where
        go : (w : Bool) → u ≡ w → ((v : ℕ) → In v level_part → member v (changed u a b g) ≡ cond w (member v stuck) (not (member v stuck)))
            → new_stretch w after K (changed u a b g) level_part high_part ≡ taken ++ stuck
        go true e h =
            laid_stretch (linked after) K high_part level_part taken stuck irreflexive_after distinct_level
            (subst (λ (w : Bool). Takes (linked after) (bound w K) high_part level_part taken stuck) e peel.peels.takes)
            (λ v. not (member v (changed u a b g))) (λ v. member v (changed u a b g)) (λ v m. ap not (h v m)) h
        go false e h =
            laid_stretch (linked after) (K - 1) high_part level_part taken stuck irreflexive_after distinct_level
            (subst (λ (w : Bool). Takes (linked after) (bound w K) high_part level_part taken stuck) e peel.peels.takes)
            (λ v. member v (changed u a b g)) (λ v. not (member v (changed u a b g))) h (λ v m. ap not (h v m) ∙ Bool·not-not (member v stuck))

    pub start_is : stretch_start g K ≡ length low_part
    start_is = stretch_start_is g K xs certified.once

    pub length_is : stretch_length g K ≡ length level_part
    length_is = stretch_length_is g K xs certified.once

    pub new_order_is : new_order u a b g xs ≡ low_part ++ (taken ++ (stuck ++ high_part))
    unfolding new_order with_stretch
    new_order_is =
        let i = stretch_start g K in
        let m = stretch_length g K in
        rw (
          take_below low_part level_part high_part xs i m cut start_is length_is,
          take_level low_part level_part high_part xs i m cut start_is length_is,
          drop_above low_part level_part high_part xs i m cut start_is length_is,
          new_stretch_is,
        ) (ap (λ (z : List ℕ). low_part ++ z) (append_assoc taken stuck high_part))

    pub new_order_k_order : is_k_order after (new_order u a b g xs) ≡ true
    unfolding relinked
    new_order_k_order =
        rw new_order_is (certificate_k_order after (new_number peeled_level) (new_list peeled_level) irreflexive_after (peel_certificate peeled_level))

    -- ---- by one

    -- a changed radio has the peel's bound in the graph without the link, and one more in the graph with it
    pub changed_numbers : (v : ℕ) → member v (changed u a b g) ≡ true
        → (number (smaller u a b g) v ≡ bound u K) × (number (larger u a b g) v ≡ suc (bound u K))
    unfolding smaller larger
    changed_numbers v m = go u refl (level_cases v (changed_below u a b g v m) (changed_level v m))
      where
        l : v < g.n
        l = changed_below u a b g v m

        go : (w : Bool) → u ≡ w → In v taken ⊎ In v stuck → (number (smaller w a b g) v ≡ bound w K) × (number (larger w a b g) v ≡ suc (bound w K))
        go true e (inl p) = never (member v (changed u a b g)) m (changed_taken v l p ∙ ap not e)
        go true e (inr p) = (
          changed_level v m,
          sym (ap (λ (x : Bool). number (relinked x a b g) v) e) ∙ number_after v l ∙ new_stuck peeled_level v p ∙ ap (λ (x : Bool). suc (bound x K)) e,
        )
        go false e (inl p) = (
          sym (ap (λ (x : Bool). number (relinked x a b g) v) e) ∙ number_after v l ∙ new_taken peeled_level v p ∙ ap (λ (x : Bool). bound x K) e,
          omega (arith, changed_level v m, positive e),
        )
        go false e (inr p) = never (member v (changed u a b g)) m (changed_stuck v l p ∙ e)

    pub unchanged_numbers : (v : ℕ) → v < g.n → member v (changed u a b g) ≡ false → number (smaller u a b g) v ≡ number (larger u a b g) v
    unfolding smaller larger
    unchanged_numbers v l m = go u refl
      where
        go : (w : Bool) → u ≡ w → number (smaller w a b g) v ≡ number (larger w a b g) v
        go true e = unchanged_number u a b g v l m ∙ ap (λ (x : Bool). number (relinked x a b g) v) e
        go false e = sym (unchanged_number u a b g v l m ∙ ap (λ (x : Bool). number (relinked x a b g) v) e)

    -- the changed radios are the stuck ones going up, the taken ones going down
    pub changed_part : (v : ℕ) → v < g.n → member v (changed u a b g) ≡ member v (cond u stuck taken)
    changed_part v l = go (bool_cases (eqb (number g v) K))
      where
        outside : (w : Bool) → (In v taken → ⊥) → (In v stuck → ⊥) → member v (cond w stuck taken) ≡ false
        outside true p q = not_member v stuck q
        outside false p q = not_member v taken p

        in_taken : (w : Bool) → In v taken → not w ≡ member v (cond w stuck taken)
        in_taken true p = sym (not_member v stuck (λ q. apart peeled_level v p q))
        in_taken false p = sym (in_member v taken p)

        in_stuck : (w : Bool) → In v stuck → w ≡ member v (cond w stuck taken)
        in_stuck true p = sym (in_member v stuck p)
        in_stuck false p = sym (not_member v taken (λ q. apart peeled_level v q p))

        at_level : In v taken ⊎ In v stuck → member v (changed u a b g) ≡ member v (cond u stuck taken)
        at_level (inl p) = changed_taken v l p ∙ in_taken u p
        at_level (inr p) = changed_stuck v l p ∙ in_stuck u p

        go : (eqb (number g v) K ≡ true) ⊎ (eqb (number g v) K ≡ false) → member v (changed u a b g) ≡ member v (cond u stuck taken)
        go (inl e) = at_level (level_cases v l (eqb-true (number g v) K e))
        go (inr e) =
            let ne = eqb-false (number g v) K e in
            changed_member u a b g v l
            ∙ ap not (eq-eqb (number g v) (number after v) (sym (number_else v l ne)))
            ∙ sym (outside u (λ p. ne (taken_level peeled_level v p)) (λ p. ne (stuck_level peeled_level v p)))
