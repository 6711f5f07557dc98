-- Peeling computes core numbers: each list of `cores` is the largest group of its k, and `number` is the core number.
use Rattle.std.specs.Prelude.{◌≡◌, ◌⊎◌, ◌&&◌, ◌∷◌, ◌+◌, ◌≤◌, ◌<◌}
use Rattle.lists.specs.Kit.{refl, sym, ap, ◌∙◌, inl, inr, Bool, true, false, cond, List, [], ℕ, zero, suc, arith, ⊎_elim}
use Rattle.lists.{specs.Kit.{le_trans, le_refl, le_of_eq, leb, eqb, length, get_or, leb-true, leb-false, le-leb, eqb-true, eqb-false}, specs.Lists.{range, count}}
use Rattle.lists.{specs.Lists.{member, In}, specs.Facts.{Distinct}, proofs.Tests.{bool_cases, never, bit_true, bit_false}, proofs.Member.{member_in, in_member}}
use Rattle.lists.{proofs.Member.{not_member}, proofs.Count.{count_le_length, all_or_less}, proofs.Range.{distinct_range, in_range, range_in, length_range}}
use Rattle.lists.{proofs.Filter.{in_filter, filter_in, length_filter, distinct_filter}, proofs.Map.{length-map, get_d_map_range}}
use Rattle.mesh.specs.{Graph.{Graph, radios, linked, neighbours_among, neighbours_in}, Cores.{Group, Core, survivors, peeled, cores_from, cores, depth}}
use Rattle.mesh.specs.Cores.{number, numbers}
use Rattle.mesh.proofs.{GraphLaws.{neighbours_in_subset, neighbours_in_members}, Cores.Certificate.{core_unique}}

-- radios below n, without repeats
pub record Part (g : Graph) (xs : List ℕ) : Type 0 where
  pub distinct : Distinct xs
  pub below : (v : ℕ) → In v xs → v < g.n

-- every entry has k neighbours among the entries
abbrev Stable : Graph → ℕ → List ℕ → Type 0
Stable g k xs = (v : ℕ) → In v xs → k ≤ count (linked g v) xs

-- every group of k lies among the entries
abbrev HoldsGroups : Graph → ℕ → List ℕ → Type 0
HoldsGroups g k xs = (s : ℕ → Bool) → Group g k s → (v : ℕ) → v < g.n → s v ≡ true → In v xs

module _ (g : Graph) (k : ℕ) where
  survivors_part : (xs : List ℕ) → Part g xs → Part g (survivors g k xs)
  unfolding survivors neighbours_among
  survivors_part xs p = record {
    distinct = distinct_filter (λ v. leb k (count (linked g v) xs)) xs p.distinct;
    below = λ v m. p.below v (in_filter (λ v. leb k (count (linked g v) xs)) xs v m).0;
  }

  survivors_groups : (xs : List ℕ) → Part g xs → HoldsGroups g k xs → HoldsGroups g k (survivors g k xs)
  unfolding survivors neighbours_among Group
  survivors_groups xs p h s gr v l q =
      filter_in (λ v. leb k (count (linked g v) xs)) xs v (h s gr v l q) (le-leb k (count (linked g v) xs)
      (le_trans (gr v l q) (le_trans (neighbours_in_subset g v s (λ b. member b xs) (λ b lb qb. in_member b xs (h s gr b lb qb)))
      (le_of_eq (neighbours_in_members g v xs p.distinct p.below)))))

  -- what peeling leaves is stable and still holds every group
  record Peeled (xs ys : List ℕ) : Type 0 where
    part : Part g ys
    stable : Stable g k ys
    groups : HoldsGroups g k xs → HoldsGroups g k ys
    within : (v : ℕ) → In v ys → In v xs

  peeled_is : (f : ℕ) (xs : List ℕ) → Part g xs → length xs ≤ f → Peeled xs (peeled f g k xs)
  unfolding peeled survivors neighbours_among
  peeled_is zero [] p h = record { part = p; stable = λ v m. absurd m; groups = λ r. r; within = λ v m. m }
  peeled_is zero (x ∷ xs) p h = absurd (omega arith)
  peeled_is (suc f) xs p h =
      go (λ l. peeled_is f (survivors g k xs) (survivors_part xs p) l) (eqb (length (survivors g k xs)) (length xs)) refl
    where
      all_fit : length (survivors g k xs) ≡ length xs → Stable g k xs
      all_fit e v m =
          ⊎_elim (λ c. leb-true k (count (linked g v) xs) (c v m)) (λ c. absurd (omega (arith, c, e, length_filter (λ v. leb k (count (linked g v) xs)) xs)))
          (all_or_less (λ v. leb k (count (linked g v) xs)) xs)

      go : (length (survivors g k xs) ≤ f → Peeled (survivors g k xs) (peeled f g k (survivors g k xs))) → (t : Bool)
          → eqb (length (survivors g k xs)) (length xs) ≡ t → Peeled xs (cond t xs (peeled f g k (survivors g k xs)))
      go rec true e = record { part = p; stable = all_fit (eqb-true (length (survivors g k xs)) (length xs) e); groups = λ r. r; within = λ v m. m }
      go rec false e =
          let fewer = eqb-false (length (survivors g k xs)) (length xs) e in
          let r = rec (omega (arith, fewer, length_filter (λ v. leb k (count (linked g v) xs)) xs, count_le_length (λ v. leb k (count (linked g v) xs)) xs)) in
          record {
            part = r.part;
            stable = r.stable;
            groups = λ q. r.groups (survivors_groups xs p q);
            within = λ v m. (in_filter (λ v. leb k (count (linked g v) xs)) xs v (r.within v m)).0;
          }

-- ---- cores

group_less : (g : Graph) (j k : ℕ) (s : ℕ → Bool) → k ≤ j → Group g j s → Group g k s
unfolding Group
group_less g j k s h gr v l q = le_trans h (gr v l q)

stable_group : (g : Graph) (k : ℕ) (xs : List ℕ) → Part g xs → Stable g k xs → Group g k (λ v. member v xs)
unfolding Group
stable_group g k xs p st v l q =
    le_trans (st v (member_in v xs q)) (le_of_eq (sym (neighbours_in_members g v xs p.distinct p.below)))

-- a group gives no radio more neighbours than there are radios
group_most : (g : Graph) (k : ℕ) (s : ℕ → Bool) → Group g k s → (v : ℕ) → v < g.n → s v ≡ true → k ≤ g.n
unfolding Group neighbours_in radios
group_most g k s gr v l q =
    omega (arith, gr v l q, count_le_length (λ b. linked g v b && s b) (range 0 g.n), length_range 0 g.n)

-- the k-core, given as a list: it is a group of k and holds every such group
record IsCore (g : Graph) (k : ℕ) (xs : List ℕ) : Type 0 where
  part : Part g xs
  stable : Stable g k xs
  groups : HoldsGroups g k xs

next_core : (g : Graph) (k : ℕ) (xs : List ℕ) → IsCore g k xs → IsCore g (suc k) (peeled (length xs) g (suc k) xs)
next_core g k xs c =
    let r = peeled_is g (suc k) (length xs) xs c.part (le_refl (length xs)) in
    record { part = r.part; stable = r.stable; groups = r.groups (λ s gr. c.groups s (group_less g (suc k) k s (omega arith) gr)) }

-- a radio that is not in a list is in nothing peeled from it
depth_none : (f k : ℕ) (g : Graph) (xs : List ℕ) → Part g xs → (v : ℕ) → (In v xs → ⊥) → depth (cores_from f k g xs) v ≡ 0
unfolding cores_from depth
depth_none zero k g xs p v h = refl
depth_none (suc f) k g [] p v h = refl
depth_none (suc f) k g (x ∷ xs) p v h =
    let r = peeled_is g k (length (x ∷ xs)) (x ∷ xs) p (le_refl (length (x ∷ xs))) in
    let out : In v (peeled (length (x ∷ xs)) g k (x ∷ xs)) → ⊥ = λ m. h (r.within v m) in
    omega (
      arith,
      bit_false (member v (peeled (length (x ∷ xs)) g k (x ∷ xs))) (not_member v (peeled (length (x ∷ xs)) g k (x ∷ xs)) out),
      depth_none f (suc k) g (peeled (length (x ∷ xs)) g k (x ∷ xs)) r.part v out,
    )

core_here : (g : Graph) (k : ℕ) (xs : List ℕ) → IsCore g k xs → (v : ℕ) → In v xs
    → ((j : ℕ) (s : ℕ → Bool) → Group g j s → s v ≡ true → j ≤ k) → Core g v k
core_here g k xs c v m most = record {
  group = λ w. member w xs;
  is_group = stable_group g k xs c.part c.stable;
  has = in_member v xs m;
  largest = most;
}

-- of a radio in the k-core, k and as many as the later cores that have it
depth_core : (f k : ℕ) (g : Graph) (xs : List ℕ) → f + k ≡ g.n → IsCore g k xs → (v : ℕ) → In v xs
    → Core g v (k + depth (cores_from f (suc k) g xs) v)
unfolding cores_from depth
depth_core zero k g xs e c v m =
    let q : k + 0 ≡ k = omega arith in
    rw q (core_here g k xs c v m (λ j s gr sv. omega (arith, group_most g j s gr v (c.part.below v m) sv)))
depth_core (suc f) k g [] e c v m = absurd m
depth_core (suc f) k g (x ∷ xs) e c v m =
    go (λ i. depth_core f (suc k) g next (omega arith) (next_core g k (x ∷ xs) c) v i) (bool_cases (member v next))
  where
    next : List ℕ
    next = peeled (length (x ∷ xs)) g (suc k) (x ∷ xs)

    later : ℕ
    later = depth (cores_from f (suc (suc k)) g next) v

    most : member v next ≡ false → (j : ℕ) (s : ℕ → Bool) → Group g j s → s v ≡ true → j ≤ k
    most out j s gr sv =
        ⊎_elim (λ h. leb-true j k h)
        (λ h. never (member v next) (in_member v next ((next_core g k (x ∷ xs) c).groups s (group_less g j (suc k) s (leb-false j k h) gr) v (c.part.below v m)
        sv)) out)
        (bool_cases (leb j k))

    go : (In v next → Core g v (suc k + later)) → (member v next ≡ true) ⊎ (member v next ≡ false) → Core g v (k + (cond (member v next) 1 0 + later))
    go rec (inl i) =
        let q : k + (cond (member v next) 1 0 + later) ≡ suc k + later = omega (arith, bit_true (member v next) i) in
        rw q (rec (member_in v next i))
    go rec (inr o) =
        let none = depth_none f (suc (suc k)) g next (next_core g k (x ∷ xs) c).part v (λ i. never (member v next) (in_member v next i) o) in
        let q : k + (cond (member v next) 1 0 + later) ≡ k = omega (arith, bit_false (member v next) o, none) in
        rw q (core_here g k (x ∷ xs) c v m (most o))

all_core : (g : Graph) → IsCore g 0 (radios g)
unfolding radios
all_core g = record {
  part = record { distinct = distinct_range 0 g.n; below = λ v m. omega (arith, range_in 0 g.n v m) };
  stable = λ v m. omega arith;
  groups = λ s gr v l q. in_range 0 g.n v (omega arith) (omega arith);
}

-- `number` is the core number
pub number_core : (g : Graph) (v : ℕ) → v < g.n → Core g v (number g v)
unfolding number cores radios
number_core g v l =
    let e : number g v ≡ 0 + number g v = omega arith in
    rw e (depth_core g.n 0 g (radios g) (omega arith) (all_core g) v (in_range 0 g.n v (omega arith) (omega arith)))

pub number_unique : (g : Graph) (v k : ℕ) → v < g.n → Core g v k → number g v ≡ k
number_unique g v k l c = core_unique g v (number g v) k (number_core g v l) c

-- ---- the numbers table

pub length_numbers : (g : Graph) → length (numbers g) ≡ g.n
unfolding numbers radios
length_numbers g = length-map (number g) (range 0 g.n) ∙ length_range 0 g.n

pub get_d_numbers : (g : Graph) (v : ℕ) → v < g.n → get_or (numbers g) v 0 ≡ number g v
unfolding numbers radios
get_d_numbers g v l = get_d_map_range 0 (number g) 0 g.n v l ∙ ap (number g) (omega arith)
