-- Reachable radios: laws of reachability, the rounds of `reached` take in exactly the reachable radios, and so connected cores
-- as lists. More on connected cores is in CoreLevels.antt.
use Rattle.std.specs.Prelude.{◌≡◌, ◌⊎◌, ◌↔◌, ◌&&◌, ◌||◌, ◌∷◌, ◌+◌, ◌≤◌, ◌<◌}
use Rattle.lists.specs.Kit.{refl, sym, ap, ◌∙◌, inl, inr, Bool, true, false, not, List, [], ℕ, zero, suc}
use Rattle.lists.{specs.Kit.{arith, ltb, length, ltb-true, lt-ltb, not-true}, specs.Lists.{range, count, filter, member, In}, specs.Facts.{AscendingBelow}}
use Rattle.lists.specs.Kit.{⊎_elim}
use Rattle.lists.{proofs.Tests.{bool_cases, never, and_left, and_right, and_both, or_cases, or_left, or_right, iff_eq}, proofs.Member.{member_in, in_member}}
use Rattle.lists.{proofs.Count.{count_le_length, count_pos, count_some}, proofs.Distinct.{length_sub}, proofs.Range.{in_range, range_in, length_range}}
use Rattle.lists.{proofs.Filter.{in_filter, filter_in, length_filter, filter_ext}, proofs.Ascending.{ascending_below_filter, ascending_below_one}}
use Rattle.lists.proofs.Ascending.{ascending_below_distinct, ascending_below_lt}
use Rattle.mesh.specs.{Graph.{Graph, radios, linked, neighbours_among}, Connected.{Reachable, here, onward, at_least, InCore, reached, core_of}}
use Rattle.mesh.proofs.GraphLaws.{linked_sym}

-- ---- reachability

module _ {g : Graph} {over : ℕ → Bool} where
  pub reachable_below : {v w : ℕ} → v < g.n → Reachable g over v w → w < g.n
  reachable_below l here = l
  reachable_below l (onward r e lx o) = lx

  pub reachable_passes : {v w : ℕ} → over v ≡ true → Reachable g over v w → over w ≡ true
  reachable_passes p here = p
  reachable_passes p (onward r e lx o) = o

  pub reachable_trans : {v w x : ℕ} → Reachable g over v w → Reachable g over w x → Reachable g over v x
  reachable_trans r here = r
  reachable_trans r (onward s e lx o) = onward (reachable_trans r s) e lx o

  pub reachable_sym : {v w : ℕ} → v < g.n → over v ≡ true → Reachable g over v w → Reachable g over w v
  reachable_sym l p here = here
  reachable_sym l p (onward {w} {x} r e lx o) =
      reachable_trans (onward here (linked_sym g x w ∙ e) (reachable_below l r) (reachable_passes p r)) (reachable_sym l p r)

-- from one test to another that the reachable radios pass too
pub reachable_mono : {g : Graph} {over wider : ℕ → Bool} {v w : ℕ}
    → ((x : ℕ) → Reachable g over v x → over x ≡ true → wider x ≡ true) → Reachable g over v w → Reachable g wider v w
reachable_mono h here = here
reachable_mono h (onward {w} {x} r e lx o) = onward (reachable_mono h r) e lx (h x (onward r e lx o) o)

-- ---- rounds

-- the test of a round: in already, or passing and with a neighbour that is in
abbrev near : Graph → (over : ℕ → Bool) → List ℕ → ℕ → Bool
near g over xs w = member w xs || (over w && ltb 0 (neighbours_among (linked g) w xs))

abbrev round : Graph → (over : ℕ → Bool) → List ℕ → List ℕ
round g over xs = filter (near g over xs) (range 0 g.n)

-- whoever is near is in
abbrev Closed : Graph → (over : ℕ → Bool) → List ℕ → Type 0
Closed g over xs = (w : ℕ) → w < g.n → near g over xs w ≡ true → In w xs

module _ (g : Graph) (over : ℕ → Bool) where
  in_round : (xs : List ℕ) (w : ℕ) → w < g.n → near g over xs w ≡ true → In w (round g over xs)
  in_round xs w l p = filter_in (near g over xs) (range 0 g.n) w (in_range 0 g.n w (omega arith) (omega arith)) p

  -- nothing comes in that is not reachable
  round_reachable : (v : ℕ) (xs : List ℕ) → ((w : ℕ) → In w xs → Reachable g over v w) → (w : ℕ) → In w (round g over xs) → Reachable g over v w
  unfolding neighbours_among
  round_reachable v xs h w m =
      let p = in_filter (near g over xs) (range 0 g.n) w m in
      go (omega (arith, range_in 0 g.n w p.0)) (or_cases (member w xs) (over w && ltb 0 (neighbours_among (linked g) w xs)) p.1)
    where
      step : w < g.n → over w ≡ true → (x : ℕ) × In x xs × (linked g w x ≡ true) → Reachable g over v w
      step l o r = onward (h r.0 r.1) (linked_sym g r.0 w ∙ r.2) l o

      go : w < g.n → (member w xs ≡ true) ⊎ ((over w && ltb 0 (neighbours_among (linked g) w xs)) ≡ true) → Reachable g over v w
      go l (inl e) = h w (member_in w xs e)
      go l (inr e) = step l (and_left (over w) (ltb 0 (neighbours_among (linked g) w xs)) e)
          (count_some (linked g w) xs (ltb-true 0 (neighbours_among (linked g) w xs) (and_right (over w) (ltb 0 (neighbours_among (linked g) w xs)) e)))

  reached_reachable : (r v : ℕ) (xs : List ℕ) → ((w : ℕ) → In w xs → Reachable g over v w) → (w : ℕ) → In w (reached r g over xs) → Reachable g over v w
  unfolding reached radios
  reached_reachable zero v xs h w m = h w m
  reached_reachable (suc r) v xs h w m = reached_reachable r v (round g over xs) (round_reachable v xs h) w m

  round_keeps : (xs : List ℕ) → AscendingBelow g.n xs → (w : ℕ) → In w xs → In w (round g over xs)
  round_keeps xs a w m =
      in_round xs w (ascending_below_lt g.n xs a w m)
      (or_left (member w xs) (over w && ltb 0 (neighbours_among (linked g) w xs)) (in_member w xs m))

  -- either nobody new is near, or a round takes somebody in
  round_grows : (xs : List ℕ) → AscendingBelow g.n xs → Closed g over xs ⊎ (length xs < length (round g over xs))
  round_grows xs a = go (count new (range 0 g.n)) refl
    where
      new : ℕ → Bool
      new w = near g over xs w && not (member w xs)

      bigger : (x : ℕ) → In x (range 0 g.n) → new x ≡ true → length xs < length (round g over xs)
      bigger x m p = length_sub (x ∷ xs) (round g over xs) (
        λ i. never (member x xs) (in_member x xs i) (not-true (member x xs) (and_right (near g over xs x) (not (member x xs)) p)),
        ascending_below_distinct
            g.n xs a,
      ) sub
        where
          sub : (w : ℕ) → In w (x ∷ xs) → In w (round g over xs)
          sub w (inl q) = rw (← q) (filter_in (near g over xs) (range 0 g.n) x m (and_left (near g over xs x) (not (member x xs)) p))
          sub w (inr i) = round_keeps xs a w i

      go : (c : ℕ) → count new (range 0 g.n) ≡ c → Closed g over xs ⊎ (length xs < length (round g over xs))
      go zero e = inl (λ w l p. pick w l p (bool_cases (member w xs)))
        where
          pick : (w : ℕ) → w < g.n → near g over xs w ≡ true → (member w xs ≡ true) ⊎ (member w xs ≡ false) → In w xs
          pick w l p (inl m) = member_in w xs m
          pick w l p (inr m) = absurd (omega (
            arith,
            count_pos new w (range 0 g.n) (in_range 0 g.n w (omega arith) (omega arith)) (and_both (near g over xs w) (not (member w xs)) p (rw m)),
          ))
      go (suc c) e = let r = count_some new (range 0 g.n) (omega arith) in inr (bigger r.0 r.1 r.2)

  closed_round : (xs : List ℕ) → AscendingBelow g.n xs → Closed g over xs → round g over xs ≡ xs
  closed_round xs a c =
      filter_ext (near g over xs) (λ w. member w xs) (range 0 g.n) (λ w m. iff_eq (near g over xs w) (member w xs)
      (λ p. in_member w xs (c w (omega (arith, range_in 0 g.n w m)) p))
      (λ p. or_left (member w xs) (over w && ltb 0 (neighbours_among (linked g) w xs)) p)) ∙ sym a

  closed_reached : (r : ℕ) (xs : List ℕ) → AscendingBelow g.n xs → Closed g over xs → reached r g over xs ≡ xs
  unfolding reached radios
  closed_reached zero xs a c = refl
  closed_reached (suc r) xs a c = ap (reached r g over) (closed_round xs a c) ∙ closed_reached r xs a c

  -- as many rounds as there are radios are enough
  reached_closed : (r : ℕ) (xs : List ℕ) → AscendingBelow g.n xs → g.n ≤ r + length xs → Closed g over (reached r g over xs)
  unfolding reached radios
  reached_closed zero xs a h = go (round_grows xs a)
    where
      go : Closed g over xs ⊎ (length xs < length (round g over xs)) → Closed g over xs
      go (inl c) = c
      go (inr l) = absurd (omega (
        arith,
        length_filter (near g over xs) (range 0 g.n),
        count_le_length (near g over xs) (range 0 g.n),
        length_range 0 g.n,
      ))
  reached_closed (suc r) xs a h = let rec = reached_closed r (round g over xs) (ascending_below_filter g.n (near g over xs)) in
      ⊎_elim (λ c. rw (closed_reached (suc r) xs a c) c) (λ l. rec (omega arith)) (round_grows xs a)

  reached_keeps : (r : ℕ) (xs : List ℕ) → AscendingBelow g.n xs → (w : ℕ) → In w xs → In w (reached r g over xs)
  unfolding reached radios
  reached_keeps zero xs a w m = m
  reached_keeps (suc r) xs a w m = reached_keeps r (round g over xs) (ascending_below_filter g.n (near g over xs)) w (round_keeps xs a w m)

  pub ascending_reached : (r : ℕ) (xs : List ℕ) → AscendingBelow g.n xs → AscendingBelow g.n (reached r g over xs)
  unfolding reached radios
  ascending_reached zero xs a = a
  ascending_reached (suc r) xs a = ascending_reached r (round g over xs) (ascending_below_filter g.n (near g over xs))

  closed_reachable : (xs : List ℕ) → Closed g over xs → {v w : ℕ} → In v xs → Reachable g over v w → In w xs
  unfolding neighbours_among
  closed_reachable xs c m here = m
  closed_reachable xs c m (onward {w} {x} r e lx o) =
      c x lx (or_right (member x xs) (over x && ltb 0 (neighbours_among (linked g) x xs)) (and_both (over x) (ltb 0 (neighbours_among (linked g) x xs)) o
      (lt-ltb 0 (neighbours_among (linked g) x xs) (count_pos (linked g x) w xs (closed_reachable xs c m r) (linked_sym g x w ∙ e)))))

  -- the rounds take in exactly the reachable radios
  pub reached_iff : (v : ℕ) → v < g.n → (w : ℕ) → (member w (reached g.n g over (v ∷ [])) ≡ true) ↔ Reachable g over v w
  reached_iff v l w =
      let a = ascending_below_one g.n v l in
      let end = reached g.n g over (v ∷ []) in (
        λ m. reached_reachable g.n v (v ∷ []) start w (member_in w end m),
        λ r. in_member w end (closed_reachable end (reached_closed g.n (v ∷ []) a (omega arith)) (reached_keeps g.n (v ∷ []) a v (inl refl)) r),
      )
    where
      start : (x : ℕ) → In x (v ∷ []) → Reachable g over v x
      start x (inr x'') = elim x'' [ ]
      start x (inl e) = rw (← e) here

-- ---- connected cores

module _ (g : Graph) where
  pub core_of_iff : (v k : ℕ) → v < g.n → (w : ℕ) → (member w (core_of g v k) ≡ true) ↔ InCore g v k w
  unfolding core_of InCore
  core_of_iff v k l w = reached_iff g (at_least g k) v l w

  pub core_of_ascending : (v k : ℕ) → v < g.n → core_of g v k ≡ filter (λ w. member w (core_of g v k)) (radios g)
  unfolding core_of radios
  core_of_ascending v k l = ascending_reached g (at_least g k) g.n (v ∷ []) (ascending_below_one g.n v l)
