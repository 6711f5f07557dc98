-- What the counts over an image's links decide: degrees within the limit, and whether its order is a k-order.
use Rattle.std.specs.Prelude.{◌≡◌, ◌↔◌, ◌&&◌, ◌+◌, ◌≤◌, ◌<◌}
use Rattle.lists.{specs.Kit.{refl, sym, ap, ◌∙◌, Bool, true, false, List, [], map, ℕ, suc, min, arith, add-zero, ltb, leb}}
use Rattle.lists.{specs.Kit.{length, get_or, drop, leb-true, le-leb}, specs.Lists.{range, count, all}, specs.Facts.{EachOnce}, proofs.Tests.{never, iff_eq}}
use Rattle.lists.{proofs.Tests.{ltb_next}, proofs.Member.{in_get_d}, proofs.Count.{count_all, count_cong}, proofs.All.{all_below, below_all, all_range_ext}}
use Rattle.lists.{proofs.Range.{once_below, once_length}}
use Rattle.mesh.{specs.Limits.{max_radios, max_neighbours}, specs.Graph.{Link, Graph, graph, radios, other_ends, linked, neighbours_in, degree, proper}}
use Rattle.mesh.{specs.Graph.{ascending}, specs.Orders.{each_once, is_k_order}, proofs.Cores.RunningMaximum.{running_maxima}, proofs.GraphLaws.{linked_self}}
use Rattle.mesh.{proofs.GraphLaws.{degree_in}, proofs.Cores.Orders.{each_once_of, Enough}, proofs.Tables.OtherEnds.{ends_neighbours_in}}
use Rattle.mesh.{proofs.Cores.RunningCertificate.{is_k_order_running, running_number}}
use Rattle.conditions.{specs.Conditions.{Placed}, proofs.RowByRow.{count_later}}
use Rattle.soundness.specs.Checks.{PlacesFound}
use Rattle.image_reader.specs.Site.{tallied, Tallied, few_ends, running_maxima_of, OrderCounted, KOrderDecided, SoundDecided}
use Rattle.image_reader.proofs.MaximaLaws.{running_maxima_of_counts}

-- ---- entries compared

abbrev pub at_most : (entries most : List ℕ) → (v : ℕ) → Bool
at_most xs ys v = leb (get_or xs v 0) (get_or ys v 0)

-- ---- degrees

-- with no ranks and a slack of 1, every link counts
tallied_all : (ls : List Link) (v : ℕ) → tallied [] 1 ls v ≡ length (other_ends v ls)
unfolding tallied
tallied_all ls v = count_all (other_ends v ls)

pub few_tallied : (n : ℕ) (ls : List Link) (counts : List ℕ) → length counts ≡ n → Tallied n [] 1 ls counts
    → all (λ v. leb (get_or counts v 0) max_neighbours) (range 0 (length counts)) ≡ few_ends max_neighbours n ls
unfolding few_ends
few_tallied n ls counts lc t =
    rw lc (all_range_ext (λ v. leb (get_or counts v 0) max_neighbours) (λ v. leb (length (other_ends v ls)) max_neighbours) n
    (λ v l. rw (t.at v l ∙ tallied_all ls v)))

module _ (n : ℕ) (ls : List Link) (p : proper n ls ≡ true) (a : ascending ls ≡ true) where
  abbrev g : Graph
  g = graph n ls

  ends_degree : (v : ℕ) → length (other_ends v ls) ≡ degree g v
  ends_degree v = sym (count_all (other_ends v ls)) ∙ ends_neighbours_in g p a v (λ w. true) ∙ sym (degree_in g v)

  pub few_degrees : (most : ℕ) → (few_ends most n ls ≡ true) ↔ ((v : ℕ) → v < n → degree g v ≤ most)
  unfolding few_ends
  few_degrees most = (
    λ h v l. omega (arith, ends_degree v, leb-true (length (other_ends v ls)) most (all_below (λ w. leb (length (other_ends w ls)) most) n h v l)),
    λ h. below_all (λ w. leb (length (other_ends w ls)) most) n (λ v l. le-leb (length (other_ends v ls)) most (omega (arith, ends_degree v, h v l))),
  )

  -- ---- the k-order

  -- what looking for places tells, where there is room
  placed_once : (xs ps qs : List ℕ) (r : Bool) → n ≤ max_radios → length xs ≡ n → length ps ≡ n → PlacesFound xs ps qs r → r ≡ each_once n xs
  placed_once xs ps qs r small lx lp d =
      d.answer ∙ ap (λ (b : Bool). b && each_once (length xs) xs) (le-leb (length xs) (min max_radios (length ps)) (omega arith))
      ∙ ap (λ (k : ℕ). each_once k xs) lx

  -- an order that does not hold each radio once is none
  pub not_placed : (xs ps qs ns : List ℕ) (r : Bool) → n ≤ max_radios → length xs ≡ n → length ps ≡ n → PlacesFound xs ps qs r → r ≡ false
      → SoundDecided n ls xs ns false
  unfolding is_k_order
  not_placed xs ps qs ns r small lx lp d e =
      let none : each_once n xs ≡ false = sym (placed_once xs ps qs r small lx lp d) ∙ e in
      record { answer = sym (rw none (and-false (few_ends max_neighbours n ls))); numbers = λ f. never false f refl }
    where
      and-false : (t : Bool) → (t && false) ≡ false
      and-false true = refl
      and-false false = refl

  module _ (xs : List ℕ) (is_once : each_once n xs ≡ true) where
    once : EachOnce n xs
    once = each_once_of n xs is_once

    tallied_in : (rs : List ℕ) (s v : ℕ) → tallied rs s ls v ≡ neighbours_in g v (λ w. ltb (get_or rs v 0) (get_or rs w 0 + s))
    unfolding tallied
    tallied_in rs s v = ends_neighbours_in g p a v (λ w. ltb (get_or rs v 0) (get_or rs w 0 + s))

    -- over places, the later neighbours are counted
    later_at : (ps counts : List ℕ) → Placed n xs ps → Tallied n ps 0 ls counts → (q : ℕ) → q < length xs
        → get_or counts (get_or xs q 0) 0 ≡ count (linked g (get_or xs q 0)) (drop (suc q) xs)
    unfolding neighbours_in radios
    later_at ps counts placed t q l =
        let v : ℕ = get_or xs q 0 in
        let here : get_or ps v 0 ≡ q = placed.at q (omega (arith, once_length n xs once)) in
        t.at v (once_below n xs once v (in_get_d xs q l)) ∙ tallied_in ps 0 v
        ∙ count_cong (λ b. linked g v b && ltb (get_or ps v 0) (get_or ps b 0 + 0)) (λ b. linked g v b && leb (suc q) (get_or ps b 0)) (range 0 n)
        (λ b. rw (here, add-zero (get_or ps b 0)))
        ∙ sym (count_later n xs ps once placed (linked g v) (suc q))

    module _ (counts ranks not_lower : List ℕ)
        (later : (q : ℕ) → q < length xs → get_or counts (get_or xs q 0) 0 ≡ count (linked g (get_or xs q 0)) (drop (suc q) xs))
        (maxima : map (λ v. get_or ranks v 0) xs ≡ running_maxima_of (λ v. get_or counts v 0) 0 xs) (high : Tallied n ranks 1 ls not_lower) where
      abbrev num : ℕ → ℕ
      num v = get_or ranks v 0

      runs : map num xs ≡ running_maxima (linked g) 0 xs
      runs = maxima ∙ running_maxima_of_counts (linked g) (λ v. get_or counts v 0) 0 xs later

      high_at : (v : ℕ) → v < n → get_or not_lower v 0 ≡ neighbours_in g v (λ w. leb (num v) (num w))
      unfolding neighbours_in radios
      high_at v l =
          high.at v l ∙ tallied_in ranks 1 v
          ∙ count_cong (λ b. linked g v b && ltb (num v) (num b + 1)) (λ b. linked g v b && leb (num v) (num b)) (range 0 n)
          (λ b. ap (λ (t : Bool). linked g v b && t) (ltb_next (num v) (num b)))

      abbrev enough : Bool
      enough = all (at_most ranks not_lower) (range 0 n)

      enough_of : enough ≡ true → Enough g num
      enough_of h v l = omega (arith, leb-true (num v) (get_or not_lower v 0) (all_below (at_most ranks not_lower) n h v l), high_at v l)

      of_enough : Enough g num → enough ≡ true
      of_enough h = below_all (at_most ranks not_lower) n (λ v l. le-leb (num v) (get_or not_lower v 0) (omega (arith, h v l, high_at v l)))

      by_counts : (r : Bool) → length ranks ≡ n → r ≡ all (at_most ranks not_lower) (range 0 (length ranks)) → KOrderDecided g xs ranks r
      by_counts r long e =
          let apart = linked_self g p in
          let d = is_k_order_running g apart num xs once runs in
          let is : r ≡ is_k_order g xs =
          e ∙ rw long (iff_eq enough (is_k_order g xs) (λ h. d.1 (enough_of h)) (λ h. of_enough (d.0 h))) in
          record { answer = is; numbers = λ f v l. running_number g apart num xs once runs (sym is ∙ f) v l }

  -- an order that holds each radio once, with the counts over its places
  pub order_counted : (xs ps qs later : List ℕ) (r : Bool) → n ≤ max_radios → length xs ≡ n → length ps ≡ n → PlacesFound xs ps qs r → r ≡ true
      → Tallied n qs 0 ls later → OrderCounted n ls xs later
  order_counted xs ps qs later r small lx lp d e t =
      let once = sym (placed_once xs ps qs r small lx lp d) ∙ e in
      record { long = lx; once = once; counted = later_at xs once qs later (record { at = λ i l. (d.placed e).at i (omega arith) }) t }

  -- the parts of the test together
  pub k_order_decided : (xs later ranks not_lower : List ℕ) (r : Bool) → OrderCounted n ls xs later
      → map (λ v. get_or ranks v 0) xs ≡ running_maxima_of (λ v. get_or later v 0) 0 xs → Tallied n ranks 1 ls not_lower → length ranks ≡ n
      → r ≡ all (at_most ranks not_lower) (range 0 (length ranks)) → KOrderDecided g xs ranks r
  k_order_decided xs later ranks not_lower r o maxima high lr e =
      by_counts xs o.once later ranks not_lower o.counted maxima high r lr e
