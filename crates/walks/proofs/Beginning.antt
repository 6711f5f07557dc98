-- A link that goes up, from the beginning end on: what stands before that end in the order stays where it is, and the rest is any
-- peel of the rest of the level.
--   order_from    the new order is what stood before, and a peel of the rest
--   before_kept   entries before the beginning end's place never move
--   order_walked, changed_walked   the new order and the changed radios by any peel of the level from that end on
--   unmoved       the quick path: that end has at most K later neighbours after the call, and nothing moves or rises
use Rattle.std.specs.Prelude.{◌≡◌, ◌⊎◌, ◌∷◌, ◌++◌, ◌+◌, ◌≤◌, ◌<◌}
use Rattle.lists.{specs.Kit.{refl, sym, ap, ◌∙◌, inl, inr, true, false, List, [], append-nil, append_assoc, ℕ, min, arith}}
use Rattle.lists.{specs.Kit.{ltb, eqb, length, take, take_at, eqb-true, eq-eqb, ltb-true, le-ltb}, specs.Lists.{count, filter, member, In}}
use Rattle.lists.{specs.Facts.{Rising}, proofs.Member.{in_left, in_cases}, proofs.Filter.{in_filter, filter_append, filter_none}}
use Rattle.lists.{proofs.Distinct.{distinct_right}, proofs.Range.{once_in, once_distinct}, proofs.Ascending.{rising_left, rising_right, rising_before}}
use Rattle.mesh.{specs.Graph.{Graph, linked, relinked, Allowed}, specs.Cores.{number}, specs.Levels.{changed, lower_level, new_order}, proofs.GraphLaws.{Ends}}
use Rattle.mesh.{proofs.Cores.Orders.{FewLater, few_later_right}, proofs.Cores.Certificate.{Certificate}, proofs.Cores.KOrders.{k_order_certificate}}
use Rattle.mesh.{specs.Peel.{Takes, Peels}, proofs.Links.Peel.{Peeling, peeling}, proofs.Links.Moves.{adds_elsewhere}, proofs.Links.LevelCut.{lows, mids}}
use Rattle.mesh.{proofs.Links.LevelCut.{highs, level_cut}, specs.Valid.{Valid, smaller, larger}}
use Rattle.walks.specs.Walk.{FewFront}
use Rattle.walks.proofs.Front.{few_front_of, takes_front, peels_from}
use Rattle.mesh.proofs.Links.Call as link_call

module _ (most : ℕ) (a b : ℕ) (g : Graph) (xs : List ℕ) (valid : Valid most g xs) (ok : Allowed most true a b g) where
  abbrev K : ℕ
  K = lower_level g a b

  abbrev after : Graph
  after = relinked true a b g

  abbrev low : List ℕ
  low = lows (number g) K xs

  abbrev level : List ℕ
  level = mids (number g) K xs

  abbrev high : List ℕ
  high = highs (number g) K xs

  certified : Certificate g (number g) xs
  certified = k_order_certificate g xs valid.k_order

  -- nothing differs but between the ends
  apart : (x w : ℕ) → (Ends a b x w → ⊥) → linked after x w ≡ linked g x w
  unfolding smaller larger
  apart x w out = sym (adds_elsewhere (link_call.link_adds most true a b g xs valid ok) x w out)

  -- a radio that is no end keeps its neighbours
  elsewhere : (x w : ℕ) → (x ≡ a → ⊥) → (x ≡ b → ⊥) → linked after x w ≡ linked g x w
  elsewhere x w na nb = apart x w out
    where
      out : Ends a b x w → ⊥
      out (inl e) = na e.0
      out (inr e) = nb e.0

  level_few : FewLater (linked g) (number g) (level ++ high)
  level_few = few_later_right (linked g) (number g) low (level ++ high) (rw (link_call.cut most true a b g xs valid ok) at certified.few)

  -- the level is cut before an end of the link: none stands in the front
  module _ (front part : List ℕ) (cut : level ≡ front ++ part) (no_end : (x : ℕ) → In x front → (x ≡ a → ⊥) × (x ≡ b → ⊥)) where
    front_few : FewFront (linked after) K high front part
    front_few =
        few_front_of (linked after) K high (linked g) (number g) front part
        (rw (cut, append_assoc) at level_few)
        (λ x m. omega (arith, eqb-true (number g x) K (in_filter (λ v. eqb (number g v) K) xs x (rw cut (in_left x front part m))).1))
        (λ x w m q. elsewhere x w (no_end x m).0 (no_end x m).1)

    -- what a peel of the rest comes to
    module _ (taken stuck : List ℕ) (peels : Peels (linked after) K high part taken stuck) where
      peel : Peeling (linked after) K high level
      peel = record { taken = front ++ taken; stuck = stuck; peels = rw cut (peels_from (linked after) K high front part front_few peels) }

      pub order_from : new_order true a b g xs ≡ (low ++ front) ++ (taken ++ (stuck ++ high))
      unfolding peel
      order_from =
          link_call.new_order_is most true a b g xs valid ok peel
          ∙ ap (λ (z : List ℕ). low ++ z) (append_assoc front taken (stuck ++ high))
          ∙ sym (append_assoc low front (taken ++ (stuck ++ high)))

      pub changed_from : (v : ℕ) → v < g.n → member v (changed true a b g) ≡ member v stuck
      unfolding peel
      changed_from v l = link_call.changed_part most true a b g xs valid ok peel v l

    order_was : xs ≡ (low ++ front) ++ (part ++ high)
    order_was =
        link_call.cut most true a b g xs valid ok
        ∙ ap (λ (z : List ℕ). low ++ z) (ap (λ (z : List ℕ). z ++ high) cut ∙ append_assoc front part high)
        ∙ sym (append_assoc low front (part ++ high))

    pub front_kept : take (length (low ++ front)) (new_order true a b g xs) ≡ take (length (low ++ front)) xs
    front_kept =
        let p = peeling (linked after) K high part in
        ap (take (length (low ++ front))) (order_from p.taken p.stuck p.peels)
        ∙ take_at (low ++ front) (p.taken ++ (p.stuck ++ high)) (length (low ++ front)) refl
        ∙ sym (ap (take (length (low ++ front))) order_was ∙ take_at (low ++ front) (part ++ high) (length (low ++ front)) refl)

  -- ---- the beginning end: the first end of the link in the order

  module _ (ps : List ℕ) (e : ℕ) (qs : List ℕ) (at : xs ≡ ps ++ e ∷ qs) (is_end : (e ≡ a) ⊎ (e ≡ b))
      (no_end : (x : ℕ) → In x ps → (x ≡ a → ⊥) × (x ≡ b → ⊥)) where
    abbrev num : ℕ → ℕ
    num = number g

    rises : Rising num (ps ++ e ∷ qs)
    rises = rw at at certified.rising

    not_above : (l : ℕ) → In l xs → (In l ps → ⊥) → num e ≤ num l
    not_above l m out = go (in_cases l ps (e ∷ qs) (rw at at m))
      where
        go : In l ps ⊎ In l (e ∷ qs) → num e ≤ num l
        go (inl p) = absurd (out p)
        go (inr (inl p)) = omega (arith, ap num p)
        go (inr (inr p)) = (rising_right num ps (e ∷ qs) rises).0 l p

    -- it is the lower end
    pub begins_low : num e ≡ K
    unfolding lower_level
    begins_low =
        omega (
          arith,
          not_above a (once_in g.n xs certified.once a ok.a_radio) (λ m. (no_end a m).0 refl),
          not_above b (once_in g.n xs certified.once b ok.b_radio) (λ m. (no_end b m).1 refl),
          least is_end,
        )
      where
        least : (e ≡ a) ⊎ (e ≡ b) → min (num a) (num b) ≤ num e
        least (inl p) = omega (arith, ap num p)
        least (inr p) = omega (arith, ap num p)

    behind_high : (w : ℕ) → In w (e ∷ qs) → K ≤ num w
    behind_high w (inl p) = omega (arith, begins_low, ap num p)
    behind_high w (inr p) = omega (arith, begins_low, (rising_right num ps (e ∷ qs) rises).0 w p)

    before_low : (w : ℕ) → In w ps → num w ≤ K
    before_low w m = omega (arith, begins_low, rising_before num e ps qs rises w m)

    low_is : low ≡ lows num K ps
    low_is =
        ap (lows num K) at ∙ filter_append (λ v. ltb (num v) K) ps (e ∷ qs)
        ∙ ap (λ (z : List ℕ). lows num K ps ++ z) (filter_none (λ v. ltb (num v) K) (e ∷ qs) (λ w m. le-ltb (num w) K (behind_high w m)))
        ∙ append-nil (lows num K ps)

    level_is : level ≡ mids num K ps ++ mids num K (e ∷ qs)
    level_is = ap (mids num K) at ∙ filter_append (λ v. eqb (num v) K) ps (e ∷ qs)

    before_is : low ++ mids num K ps ≡ ps
    before_is =
        ap (λ (z : List ℕ). z ++ mids num K ps) low_is
        ∙ sym (level_cut num K ps (rising_left num ps (e ∷ qs) rises)
        ∙ ap (λ (z : List ℕ). lows num K ps ++ z)
        (ap (λ (z : List ℕ). mids num K ps ++ z) (filter_none (λ v. ltb K (num v)) ps (λ w m. le-ltb K (num w) (before_low w m))) ∙ append-nil (mids num K ps)))

    before_no_end : (x : ℕ) → In x (mids num K ps) → (x ≡ a → ⊥) × (x ≡ b → ⊥)
    before_no_end x m = no_end x (in_filter (λ v. eqb (num v) K) ps x m).0

    -- entries before the beginning end's place never move
    pub before_kept : take (length ps) (new_order true a b g xs) ≡ take (length ps) xs
    before_kept =
        let k = front_kept (mids num K ps) (mids num K (e ∷ qs)) level_is before_no_end in rw before_is at k

    -- the rest of the level, from the beginning end on, and any peel of it
    pub order_walked : (taken stuck : List ℕ) → Peels (linked after) K high (mids num K (e ∷ qs)) taken stuck
        → new_order true a b g xs ≡ ps ++ (taken ++ (stuck ++ high))
    order_walked taken stuck p =
        order_from (mids num K ps) (mids num K (e ∷ qs)) level_is before_no_end taken stuck p
        ∙ ap (λ (z : List ℕ). z ++ (taken ++ (stuck ++ high))) before_is

    pub changed_walked : (taken stuck : List ℕ) → Peels (linked after) K high (mids num K (e ∷ qs)) taken stuck
        → (v : ℕ) → v < g.n → member v (changed true a b g) ≡ member v stuck
    changed_walked taken stuck p = changed_from (mids num K ps) (mids num K (e ∷ qs)) level_is before_no_end taken stuck p

    -- the rest of the level is the beginning end and what stands after it
    pub part_is : mids num K (e ∷ qs) ≡ e ∷ mids num K qs
    unfolding filter
    part_is = rw (eq-eqb (num e) K begins_low)

    -- without that end the rest has few later neighbours, after the call too
    pub tail_few : FewFront (linked after) K high (mids num K qs) []
    tail_few =
        few_front_of (linked after) K high (linked g) (number g) (mids num K qs) []
        (few_later_right (linked g) num (mids num K ps ++ (e ∷ [])) (mids num K qs ++ high) (rw whole at level_few))
        (λ x m. omega (arith, eqb-true (num x) K (in_filter (λ v. eqb (num v) K) qs x m).1))
        (λ x w m q. apart x w (out x w m (in_cases w (mids num K qs) high q)))
      where
        whole : level ++ high ≡ (mids num K ps ++ (e ∷ [])) ++ (mids num K qs ++ high)
        whole =
            ap (λ (z : List ℕ). z ++ high) (level_is ∙ ap (λ (z : List ℕ). mids num K ps ++ z) part_is)
            ∙ append_assoc (mids num K ps) (e ∷ mids num K qs) high ∙ sym (append_assoc (mids num K ps) (e ∷ []) (mids num K qs ++ high))

        once : (w : ℕ) → In w qs → e ≡ w → ⊥
        once w m p = (distinct_right ps (e ∷ qs) (rw at at (once_distinct g.n xs certified.once))).0 (rw p m)

        not_e : (w : ℕ) → In w (mids num K qs) → e ≡ w → ⊥
        not_e w m = once w (in_filter (λ v. eqb (num v) K) qs w m).0

        high_not : (w : ℕ) → In w high → e ≡ w → ⊥
        high_not w m p = omega (arith, begins_low, ap num p, ltb-true K (num w) (in_filter (λ v. ltb K (num v)) xs w m).1)

        not_both : (x w : ℕ) → (e ≡ x → ⊥) → (e ≡ w → ⊥) → (e ≡ a) ⊎ (e ≡ b) → Ends a b x w → ⊥
        not_both x w nx nw (inl p) (inl q) = nx (p ∙ sym q.0)
        not_both x w nx nw (inl p) (inr q) = nw (p ∙ sym q.1)
        not_both x w nx nw (inr p) (inl q) = nw (p ∙ sym q.1)
        not_both x w nx nw (inr p) (inr q) = nx (p ∙ sym q.0)

        out : (x w : ℕ) → In x (mids num K qs) → In w (mids num K qs) ⊎ In w high → Ends a b x w → ⊥
        out x w m (inl q) = not_both x w (not_e x m) (not_e w q) is_end
        out x w m (inr q) = not_both x w (not_e x m) (high_not w q) is_end

    -- with at most K later neighbours after the call the whole part is taken as it stands
    settled : count (linked after e) (mids num K qs) + count (linked after e) high ≤ K
        → Peels (linked after) K high (mids num K (e ∷ qs)) (mids num K (e ∷ qs)) []
    settled h = record { takes = all; full = λ v m. absurd m }
      where
        few : FewFront (linked after) K high (e ∷ mids num K qs) []
        few = (omega (arith, h, ap (count (linked after e)) (append-nil (mids num K qs))), tail_few)

        all : Takes (linked after) K high (mids num K (e ∷ qs)) (mids num K (e ∷ qs)) []
        all = rw part_is (rw (append-nil (e ∷ mids num K qs)) at (takes_front (linked after) K high (e ∷ mids num K qs) [] few))

    -- the quick path: nothing moves
    pub unmoved : count (linked after e) (mids num K qs) + count (linked after e) high ≤ K → new_order true a b g xs ≡ xs
    unmoved h =
        order_walked (mids num K (e ∷ qs)) [] (settled h)
        ∙ ap (λ (z : List ℕ). z ++ (mids num K (e ∷ qs) ++ high)) (sym before_is)
        ∙ sym (order_was (mids num K ps) (mids num K (e ∷ qs)) level_is before_no_end)

    -- and nothing rises
    pub unmoved_changed : count (linked after e) (mids num K qs) + count (linked after e) high ≤ K
        → (v : ℕ) → v < g.n → member v (changed true a b g) ≡ false
    unfolding member
    unmoved_changed h v l = changed_walked (mids num K (e ∷ qs)) [] (settled h) v l
