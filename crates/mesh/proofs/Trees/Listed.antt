-- The lists of radios that calls answer: they are ascending, and which radios the backbone has; of a site in one part it is
-- document 01's.
use Rattle.std.specs.Prelude.{◌≡◌, ◌↔◌, ◌&&◌, ◌∷◌, ◌≤◌, ◌<◌}
use Rattle.lists.{specs.Kit.{refl, ap, inl, inr, Bool, true, List, [], map, ℕ, zero, suc, arith, ltb, eqb, length, get_or}}
use Rattle.lists.{specs.Kit.{ltb-true, eqb-true, lt-ltb, eq-eqb}, specs.Lists.{range, filter, member, In, Ascending}, proofs.Tests.{and_left, and_right}}
use Rattle.lists.{proofs.Tests.{and_both, iff_eq}, proofs.Member.{member_in, in_member}, proofs.Range.{in_range, range_in}, proofs.Filter.{in_filter}}
use Rattle.lists.{proofs.Filter.{filter_in, filter_ext}, proofs.Ascending.{ascending_range, ascending_filter}}
use Rattle.mesh.specs.{Graph.{Graph, radios}, Cores.{number, numbers}, Levels.{changed}, Connected.{InCore, core_of, greatest, InBackbone, backbone}}
use Rattle.mesh.specs.{Connected.{site_backbone}}
use Rattle.mesh.proofs.{Cores.Peeling.{length_numbers, get_d_numbers}, Trees.Reach.{core_of_iff, core_of_ascending}, Trees.CoreLevels.{in_core_here}}
use Rattle.mesh.proofs.{Trees.CoreLevels.{in_core_below}}

-- ---- ascending

listed_ascending : (f : ℕ → Bool) (g : Graph) → Ascending (filter f (radios g))
unfolding radios
listed_ascending f g = ascending_filter f (range 0 g.n) (ascending_range 0 g.n)

pub changed_ascending : (up : Bool) (a b : ℕ) (g : Graph) → Ascending (changed up a b g)
unfolding changed
changed_ascending up a b g = listed_ascending _ g

pub core_ascending : (g : Graph) (v k : ℕ) → v < g.n → Ascending (core_of g v k)
core_ascending g v k l = rw (core_of_ascending g v k l) (listed_ascending (λ w. member w (core_of g v k)) g)

pub backbone_ascending : (g : Graph) → Ascending (backbone g)
unfolding backbone
backbone_ascending g = listed_ascending _ g

-- ---- the backbone

-- the greatest entry: no entry is above it, and it is the least such
pub get_d_le_greatest : (ns : List ℕ) (v : ℕ) → v < length ns → get_or ns v 0 ≤ greatest ns
unfolding greatest
get_d_le_greatest [] v l = absurd (omega arith)
get_d_le_greatest (x ∷ xs) zero l = omega arith
get_d_le_greatest (x ∷ xs) (suc v) l = omega (arith, get_d_le_greatest xs v (omega arith))

pub greatest_le : (ns : List ℕ) (m : ℕ) → ((v : ℕ) → v < length ns → get_or ns v 0 ≤ m) → greatest ns ≤ m
unfolding greatest
greatest_le [] m h = omega arith
greatest_le (x ∷ xs) m h = omega (arith, h 0 (omega arith), greatest_le xs m (λ v l. h (suc v) (omega arith)))

-- the same of numbers by radio
pub number_le_greatest : (f : ℕ → ℕ) (xs : List ℕ) (w : ℕ) → In w xs → f w ≤ greatest (map f xs)
unfolding greatest
number_le_greatest f [] w x' = elim x' [ ]
number_le_greatest f (x ∷ xs) w (inl e) = omega (arith, ap f e)
number_le_greatest f (x ∷ xs) w (inr m) = omega (arith, number_le_greatest f xs w m)

pub greatest_map_le : (f : ℕ → ℕ) (xs : List ℕ) (m : ℕ) → ((w : ℕ) → In w xs → f w ≤ m) → greatest (map f xs) ≤ m
unfolding greatest
greatest_map_le f [] m h = omega arith
greatest_map_le f (x ∷ xs) m h = omega (arith, h x (inl refl), greatest_map_le f xs m (λ w k. h w (inr k)))

module _ (g : Graph) where
  -- the greatest number of v's connected part
  abbrev pub part_top : ℕ → ℕ
  part_top v = greatest (map (number g) (core_of g v 0))

  abbrev pub tops_part : ℕ → Bool
  tops_part v = ltb 0 (number g v) && eqb (number g v) (part_top v)

  module _ (v : ℕ) (radio : v < g.n) where
    pub number_le_part_top : (w : ℕ) → InCore g v 0 w → number g w ≤ part_top v
    number_le_part_top w r =
        number_le_greatest (number g) (core_of g v 0) w (member_in w (core_of g v 0) ((core_of_iff g v 0 radio w).1 r))

    pub part_top_le : (m : ℕ) → ((w : ℕ) → InCore g v 0 w → number g w ≤ m) → part_top v ≤ m
    part_top_le m h =
        greatest_map_le (number g) (core_of g v 0) m (λ w k. h w ((core_of_iff g v 0 radio w).0 (in_member w (core_of g v 0) k)))

  pub backbone_iff : (v : ℕ) → (member v (backbone g) ≡ true) ↔ InBackbone g v
  unfolding backbone radios
  backbone_iff v = (there, back)
    where
      there : member v (backbone g) ≡ true → InBackbone g v
      there m =
          let q = in_filter tops_part (range 0 g.n) v (member_in v (backbone g) m) in
          let l : v < g.n = omega (arith, range_in 0 g.n v q.0) in
          let some = ltb-true 0 (number g v) (and_left (ltb 0 (number g v)) (eqb (number g v) (part_top v)) q.1) in
          let same = eqb-true (number g v) (part_top v) (and_right (ltb 0 (number g v)) (eqb (number g v) (part_top v)) q.1) in
          record { is_radio = l; positive = omega arith; no_greater = λ w r. omega (arith, number_le_part_top v l w r) }

      back : InBackbone g v → member v (backbone g) ≡ true
      back h =
          let same : number g v ≡ part_top v =
          omega (arith, number_le_part_top v h.is_radio v (in_core_here g v 0), part_top_le v h.is_radio (number g v) h.no_greater) in
          in_member v (backbone g) (filter_in tops_part (range 0 g.n) v (in_range 0 g.n v (omega arith) (omega (arith, h.is_radio)))
          (and_both (ltb 0 (number g v)) (eqb (number g v) (part_top v)) (lt-ltb 0 (number g v) h.positive) (eq-eqb (number g v) (part_top v) same)))

  -- ---- a site in one connected part

  abbrev site_top : ℕ
  site_top = greatest (numbers g)

  number_le_site_top : (w : ℕ) → w < g.n → number g w ≤ site_top
  number_le_site_top w l = omega (arith, get_d_numbers g w l, get_d_le_greatest (numbers g) w (omega (arith, length_numbers g)))

  site_top_le : (m : ℕ) → ((w : ℕ) → w < g.n → number g w ≤ m) → site_top ≤ m
  site_top_le m h = greatest_le (numbers g) m (λ w l.
      let k : w < g.n = omega (arith, length_numbers g) in omega (arith, get_d_numbers g w k, h w k))

  -- it sees no difference: its backbone is document 01's
  pub backbone_one_part : ((v w : ℕ) → v < g.n → w < g.n → InCore g v 0 w) → backbone g ≡ site_backbone g
  unfolding backbone site_backbone radios
  backbone_one_part one =
      filter_ext tops_part (λ v. ltb 0 site_top && eqb (number g v) site_top) (range 0 g.n)
      (λ v m. rw (same_top v (omega (arith, range_in 0 g.n v m))) (not_zero (number g v) site_top))
    where
      same_top : (v : ℕ) → v < g.n → part_top v ≡ site_top
      same_top v l = omega (
        arith,
        part_top_le v l site_top (λ w r. number_le_site_top w (in_core_below g v 0 w l r)),
        site_top_le (part_top v) (λ w k. number_le_part_top v l w (one v w l k)),
      )

      -- of equal numbers neither is 0 or both are
      not_zero : (x y : ℕ) → (ltb 0 x && eqb x y) ≡ (ltb 0 y && eqb x y)
      not_zero x y =
          iff_eq (ltb 0 x && eqb x y) (ltb 0 y && eqb x y)
          (λ h. let q = and_right (ltb 0 x) (eqb x y) h in
          and_both (ltb 0 y) (eqb x y) (lt-ltb 0 y (omega (arith, ltb-true 0 x (and_left (ltb 0 x) (eqb x y) h), eqb-true x y q))) q)
          (λ h. let q = and_right (ltb 0 y) (eqb x y) h in
          and_both (ltb 0 x) (eqb x y) (lt-ltb 0 x (omega (arith, ltb-true 0 y (and_left (ltb 0 y) (eqb x y) h), eqb-true x y q))) q)
