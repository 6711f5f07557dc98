-- Leaves of the walk by words: sets of radios and of places, eight words each, and the counters of the candidates.
--   EndsKnown      the ends of the link a-b, and a radio v, of a whole table
--   JoinedAfter    the neighbours that v has after the link a-b went up put into a set
--   Lowerable       radios whose counters can be lowered: no repeats, an entry in each table, counters above 0
--   Lowered         their counters are one less, and the places due are with the place of each whose counter came down to the bound
-- Laws are in proofs/WordLaws.antt. Definitions only.
use Rattle.std.specs.Prelude.{◌≡◌, ◌⊎◌, ◌||◌, ◌+◌, ◌*◌, ◌≤◌, ◌<◌}
use Rattle.lists.specs.{Kit.{true, List, ℕ, eqb, length, get_or}, Facts.{Distinct}, Lists.{count}}
use Rattle.lists.specs.{Lists.{In}}
use Rattle.mesh.specs.{Limits.{max_radios, row_bytes}, Tables.{marked, put_link}}
use Rattle.rows.specs.Sets.{in_set}

-- n radios in the table, ends and v among them
pub record EndsKnown (a b v n : ℕ) (links : List ℕ) : Type 0 where
  pub differ : a ≡ b → ⊥
  pub small : n ≤ max_radios
  pub whole : length links ≡ row_bytes * n
  pub first : a < n
  pub second : b < n
  pub radio : v < n

-- ws before, us after
pub record JoinedAfter (a b v : ℕ) (links ws us : List ℕ) : Type 0 where
  pub long : length us ≡ 8
  pub bits : (w : ℕ) → w < max_radios → in_set us w ≡ (in_set ws w || marked (put_link true a b links) v w)

pub record Lowerable (places xs counters : List ℕ) : Type 0 where
  pub once : Distinct xs
  pub known :
      (w : ℕ) → In w xs →
      (w < length places) × (w < max_radios) × (w < length counters) × (get_or places w 0 < max_radios) × (1 ≤ get_or counters w 0)

-- cs and ds before, cs1 and ds1 after
pub record Lowered (most : ℕ) (places xs cs ds cs1 ds1 : List ℕ) : Type 0 where
  pub counters_long : length cs1 ≡ length cs
  pub due_long : length ds1 ≡ length ds
  pub less : (w : ℕ) → get_or cs1 w 0 + count (λ x. eqb x w) xs ≡ get_or cs w 0
  pub kept : (q : ℕ) → in_set ds q ≡ true → in_set ds1 q ≡ true
  pub falls : (w : ℕ) → In w xs → get_or cs1 w 0 ≡ most → in_set ds1 (get_or places w 0) ≡ true
  pub only : (q : ℕ) → in_set ds1 q ≡ true → (in_set ds q ≡ true) ⊎ ((w : ℕ) × In w xs × (get_or cs1 w 0 ≡ most) × (get_or places w 0 ≡ q))
