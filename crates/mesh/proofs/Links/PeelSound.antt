-- One level peeled anew, after a link went up or down, gives a certificate of the new numbers: one proof for both directions.
-- K is the level, `most` the bound of the peel: K going up, K - 1 going down. Taken radios get `most`, stuck ones one more.
use Rattle.std.specs.Prelude.{◌≡◌, ◌⊎◌, ◌&&◌, ◌++◌, ◌+◌, ◌≤◌, ◌<◌}
use Rattle.lists.specs.Kit.{refl, sym, ap, ◌∙◌, inl, inr, Bool, true, false, cond, List, ℕ, suc, arith, le_trans, ⊎_elim}
use Rattle.lists.{specs.Kit.{le_of_eq, leb, leb-true, le-leb}, specs.Lists.{range, count, filter, member, In}, specs.Facts.{Distinct, Permutation, EachOnce}}
use Rattle.lists.{specs.Facts.{Rising}, proofs.Tests.{bool_cases, and_both}, proofs.Member.{in_left, in_cases, member_in, in_member, not_member}}
use Rattle.lists.{proofs.Count.{count_append, count_mono}, proofs.Distinct.{distinct_right, distinct_apart}, proofs.Range.{distinct_range, once_in}}
use Rattle.lists.{proofs.Range.{once_distinct}, proofs.Filter.{distinct_filter}, proofs.Ascending.{rising_append, rising_left, rising_right, rising_level}}
use Rattle.lists.proofs.Ascending.{rising_cong}
use Rattle.mesh.specs.{Graph.{Graph, radios, linked, neighbours_in}, Peel.{Peels}}
use Rattle.mesh.proofs.{GraphLaws.{neighbours_in_list, neighbours_in_mono, neighbours_in_filter}, Cores.Orders.{FewLater, few_later_right}}
use Rattle.mesh.proofs.{Cores.Orders.{few_later_front, few_later_cong, Enough}, Cores.Certificate.{Certificate}, Links.Peel.{takes_permutation}}
use Rattle.mesh.proofs.Links.Peel.{takes_now_in, takes_taken_in, takes_now_few, takes_taken_few}

-- s before and t after a link call: nothing differs at radios below the level and between radios above it; a radio gains at
-- most as many neighbours as the bound allows, and loses at most as many
pub record Moves (s t : Graph) (num : ℕ → ℕ) (K most : ℕ) : Type 0 where
  pub same_n : s.n ≡ t.n
  pub low : (v w : ℕ) → num v < K → linked s v w ≡ linked t v w
  pub high : (v w : ℕ) → K < num v → K < num w → linked s v w ≡ linked t v w
  pub gain : (v : ℕ) (zs : List ℕ) → Distinct zs → count (linked t v) zs + K ≤ suc most + count (linked s v) zs
  pub loss : (v : ℕ) (zs : List ℕ) → Distinct zs → count (linked s v) zs + most ≤ K + count (linked t v) zs
  pub most_low : most ≤ K
  pub most_high : K ≤ suc most

-- the order cut into the radios below the level, at it and above it, and the level peeled in t
pub record PeeledLevel : Type 0 where
  pub s : Graph
  pub t : Graph
  pub num : ℕ → ℕ
  pub K : ℕ
  pub most : ℕ
  pub below : List ℕ
  pub level : List ℕ
  pub above : List ℕ
  pub taken : List ℕ
  pub stuck : List ℕ
  pub certified : Certificate s num (below ++ (level ++ above))
  pub lower : (v : ℕ) → In v below → num v < K
  pub equal : (v : ℕ) → In v level → num v ≡ K
  pub higher : (v : ℕ) → In v above → K < num v
  pub moves : Moves s t num K most
  pub peels : Peels (linked t) most above level taken stuck

module _ (p : PeeledLevel) where
  abbrev pub new_list : List ℕ
  new_list = p.below ++ (p.taken ++ (p.stuck ++ p.above))

  abbrev pub new_number : ℕ → ℕ
  new_number v = cond (member v p.stuck) (suc p.most) (cond (member v p.taken) p.most (p.num v))

  -- ---- where radios stand

  of_level : Permutation p.level (p.taken ++ p.stuck)
  of_level = takes_permutation (linked p.t) p.most p.above p.peels.takes

  behind : Permutation (p.level ++ p.above) (p.taken ++ (p.stuck ++ p.above))
  behind f = omega (
    arith,
    of_level f,
    count_append f p.level p.above,
    count_append f p.taken (p.stuck ++ p.above),
    count_append f p.stuck p.above,
    count_append f p.taken p.stuck,
  )

  pub new_once : EachOnce p.t.n new_list
  new_once f = rw (← p.moves.same_n) (omega (
    arith,
    p.certified.once f,
    behind f,
    count_append f p.below (p.level ++ p.above),
    count_append f p.below (p.taken ++ (p.stuck ++ p.above)),
  ))

  distinct_new : Distinct new_list
  distinct_new = once_distinct p.t.n new_list new_once

  distinct_behind : Distinct (p.taken ++ (p.stuck ++ p.above))
  distinct_behind = distinct_right p.below (p.taken ++ (p.stuck ++ p.above)) distinct_new

  distinct_end : Distinct (p.stuck ++ p.above)
  distinct_end = distinct_right p.taken (p.stuck ++ p.above) distinct_behind

  pub taken_level : (v : ℕ) → In v p.taken → p.num v ≡ p.K
  taken_level v m = p.equal v (takes_taken_in (linked p.t) p.most p.above p.peels.takes v m)

  pub stuck_level : (v : ℕ) → In v p.stuck → p.num v ≡ p.K
  stuck_level v m = p.equal v (takes_now_in (linked p.t) p.most p.above p.peels.takes v m)

  pub apart : (v : ℕ) → In v p.taken → In v p.stuck → ⊥
  apart v m q = distinct_apart p.taken (p.stuck ++ p.above) distinct_behind v m (in_left v p.stuck p.above q)

  -- below, taken, stuck or above
  abbrev Where : ℕ → Type 0
  Where v = In v p.below ⊎ (In v p.taken ⊎ (In v p.stuck ⊎ In v p.above))

  where_is : (v : ℕ) → v < p.t.n → Where v
  where_is v l = first (in_cases v p.below (p.taken ++ (p.stuck ++ p.above)) (once_in p.t.n new_list new_once v l))
    where
      third : In v p.stuck ⊎ In v p.above → Where v
      third (inl m) = inr (inr (inl m))
      third (inr m) = inr (inr (inr m))

      second : In v p.taken ⊎ In v (p.stuck ++ p.above) → Where v
      second (inl m) = inr (inl m)
      second (inr m) = third (in_cases v p.stuck p.above m)

      first : In v p.below ⊎ In v (p.taken ++ (p.stuck ++ p.above)) → Where v
      first (inl m) = inl m
      first (inr m) = second (in_cases v p.taken (p.stuck ++ p.above) m)

  -- ---- the new numbers

  pub new_stuck : (v : ℕ) → In v p.stuck → new_number v ≡ suc p.most
  new_stuck v m = rw (in_member v p.stuck m)

  pub new_taken : (v : ℕ) → In v p.taken → new_number v ≡ p.most
  new_taken v m = rw (not_member v p.stuck (λ q. apart v m q), in_member v p.taken m)

  pub new_else : (v : ℕ) → (p.num v ≡ p.K → ⊥) → p.num v ≡ new_number v
  new_else v h = rw (not_member v p.stuck (λ m. h (stuck_level v m)), not_member v p.taken (λ m. h (taken_level v m)))

  new_below : (v : ℕ) → In v p.below → p.num v ≡ new_number v
  new_below v m = new_else v (λ e. omega (arith, p.lower v m))

  new_above : (v : ℕ) → In v p.above → p.num v ≡ new_number v
  new_above v m = new_else v (λ e. omega (arith, p.higher v m))

  -- what was at least j still is, for a j at most the bound or above the level
  new_least : (j w : ℕ) → (j ≤ p.most) ⊎ (p.K < j) → j ≤ p.num w → j ≤ new_number w
  new_least j w h a = go h (bool_cases (member w p.stuck)) (bool_cases (member w p.taken))
    where
      go : (j ≤ p.most) ⊎ (p.K < j) → (member w p.stuck ≡ true) ⊎ (member w p.stuck ≡ false)
          → (member w p.taken ≡ true) ⊎ (member w p.taken ≡ false) → j ≤ new_number w
      go (inl q) (inl e) r = omega (arith, new_stuck w (member_in w p.stuck e))
      go (inr q) (inl e) r = absurd (omega (arith, stuck_level w (member_in w p.stuck e)))
      go (inl q) (inr e) (inl r) = omega (arith, new_taken w (member_in w p.taken r))
      go (inr q) (inr e) (inl r) = absurd (omega (arith, taken_level w (member_in w p.taken r)))
      go q (inr e) (inr r) = rw (e, r) a

  -- ---- the conditions

  end_least : (y : ℕ) → In y (p.stuck ++ p.above) → suc p.most ≤ new_number y
  end_least y m =
      ⊎_elim (λ q. omega (arith, new_stuck y q)) (λ q. omega (arith, new_above y q, p.higher y q, p.moves.most_low)) (in_cases y p.stuck p.above m)

  behind_least : (y : ℕ) → In y (p.taken ++ (p.stuck ++ p.above)) → p.most ≤ new_number y
  behind_least y m = ⊎_elim (λ q. omega (arith, new_taken y q)) (λ q. omega (arith, end_least y q)) (in_cases y p.taken (p.stuck ++ p.above) m)

  new_rising : Rising new_number new_list
  new_rising =
      let above_rises = rising_right p.num p.level p.above (rising_right p.num p.below (p.level ++ p.above) p.certified.rising) in
      rising_append new_number p.below (p.taken ++ (p.stuck ++ p.above))
      (rising_cong p.num new_number p.below new_below (rising_left p.num p.below (p.level ++ p.above) p.certified.rising))
      (rising_append new_number p.taken (p.stuck ++ p.above) (rising_level new_number p.most p.taken new_taken)
      (rising_append new_number p.stuck p.above (rising_level new_number (suc p.most) p.stuck new_stuck)
      (rising_cong p.num new_number p.above new_above above_rises)
      (λ x y m q. omega (arith, new_stuck x m, new_above y q, p.higher y q, p.moves.most_low)))
      (λ x y m q. omega (arith, new_taken x m, end_least y q)))
      (λ x y m q. omega (arith, new_below x m, p.lower x m, p.moves.most_high, behind_least y q))

  new_few : FewLater (linked p.t) new_number new_list
  new_few =
      let old_behind = few_later_right (linked p.s) p.num p.below (p.level ++ p.above) p.certified.few in
      few_later_front (linked p.s) (linked p.t) p.num new_number p.below (p.level ++ p.above) (p.taken ++ (p.stuck ++ p.above)) behind
      distinct_new
      (λ v ws m d q. omega (
        arith,
        q,
        new_below v m,
        count_mono (linked p.t v) (linked p.s v) ws (λ w i h. p.moves.low v w (p.lower v m) ∙ h),
      )) p.certified.few
      (takes_taken_few (linked p.t) p.most p.above new_number p.peels.takes (λ v m. omega (arith, new_taken v m))
      (few_later_front (linked p.s) (linked p.t) p.num new_number p.stuck p.above p.above (λ f. refl) distinct_end
      (λ v ws m d q. omega (arith, q, p.moves.gain v ws d, stuck_level v m, new_stuck v m))
      (takes_now_few (linked p.t) p.most p.above (linked p.s) p.num p.peels.takes old_behind)
      (few_later_cong (linked p.s) (linked p.t) p.num new_number p.above
      (λ v w m q h. p.moves.high v w (p.higher v m) (p.higher w q) ∙ h) (λ v m. le_of_eq (new_above v m))
      (few_later_right (linked p.s) p.num p.level p.above old_behind))))

  -- a stuck radio has more than the bound among radios that are above it now
  stuck_full : (v : ℕ) → In v p.stuck → p.most < neighbours_in p.t v (λ w. leb (suc p.most) (new_number w))
  stuck_full v m =
      let f : ℕ → Bool = λ w. linked p.t v w && leb (suc p.most) (new_number w) in
      let inside : (zs : List ℕ) → ((w : ℕ) → In w zs → suc p.most ≤ new_number w) → count (linked p.t v) zs ≤ count f zs =
      λ zs h. count_mono (linked p.t v) f zs
      (λ w q i. and_both (linked p.t v w) (leb (suc p.most) (new_number w)) i (le-leb (suc p.most) (new_number w) (h w q))) in
      omega (
        arith,
        p.peels.full v m,
        neighbours_in_list p.t v (λ w. leb (suc p.most) (new_number w)) new_list new_once,
        inside (p.stuck ++ p.above) end_least,
        count_append (linked p.t v) p.stuck p.above,
        count_append f p.below (p.taken ++ (p.stuck ++ p.above)),
        count_append f p.taken (p.stuck ++ p.above),
      )

  -- a set's neighbours before the call and after it
  loss_in : (v : ℕ) (g : ℕ → Bool) → neighbours_in p.s v g + p.most ≤ p.K + neighbours_in p.t v g
  unfolding radios
  loss_in v g =
      let zs = filter g (range 0 p.s.n) in
      let same : filter g (radios p.t) ≡ zs = rw p.moves.same_n in
      omega (
        arith,
        p.moves.loss v zs (distinct_filter g (range 0 p.s.n) (distinct_range 0 p.s.n)),
        neighbours_in_filter p.s v g,
        neighbours_in_filter p.t v g,
        ap (count (linked p.t v)) same,
      )

  -- a radio whose links stay, below the level or to radios above it, keeps enough
  kept_enough : (v : ℕ) → v < p.s.n → p.num v ≡ new_number v → (p.num v ≤ p.most) ⊎ (p.K < p.num v)
      → ((w : ℕ) → p.num v ≤ p.num w → linked p.s v w ≡ linked p.t v w)
      → new_number v ≤ neighbours_in p.t v (λ w. leb (new_number v) (new_number w))
  kept_enough v l e h same =
      rw (← e) (le_trans (p.certified.enough v l)
      (neighbours_in_mono p.s p.t v (λ w. leb (p.num v) (p.num w)) (λ w. leb (p.num v) (new_number w)) p.moves.same_n
      (λ w lw a b. let q = leb-true (p.num v) (p.num w) b in (sym (same w q) ∙ a, le-leb (p.num v) (new_number w) (new_least (p.num v) w h q)))))

  new_enough : Enough p.t new_number
  new_enough v l = go (where_is v l)
    where
      old : v < p.s.n
      old = rw p.moves.same_n l

      go : Where v → new_number v ≤ neighbours_in p.t v (λ w. leb (new_number v) (new_number w))
      go (inl m) =
          kept_enough v old (new_below v m) (inl (omega (arith, p.lower v m, p.moves.most_high))) (λ w q. p.moves.low v w (p.lower v m))
      go (inr (inl m)) = rw (new_taken v m) (omega (
        arith,
        loss_in v (λ w. leb (p.num v) (p.num w)),
        p.certified.enough v old,
        taken_level v m,
        neighbours_in_mono p.t p.t v (λ w. leb (p.num v) (p.num w)) (λ w. leb p.most (new_number w)) refl
            (λ w lw a b. (
              a,
              le-leb p.most (new_number w) (new_least p.most w (inl (omega arith))
                  (omega (arith, leb-true (p.num v) (p.num w) b, taken_level v m, p.moves.most_low))),
            )),
      ))
      go (inr (inr (inl m))) = rw (new_stuck v m) (stuck_full v m)
      go (inr (inr (inr m))) =
          kept_enough v old (new_above v m) (inr (p.higher v m)) (λ w q. p.moves.high v w (p.higher v m) (omega (arith, p.higher v m)))

  -- the new order certifies the new numbers
  pub peel_certificate : Certificate p.t new_number new_list
  peel_certificate = record { once = new_once; rising = new_rising; few = new_few; enough = new_enough }
