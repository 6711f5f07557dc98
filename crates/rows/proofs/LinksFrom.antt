-- Laws of the links from a row on.
-- In order: the links of a word, what is left, links counted.
use Rattle.std.specs.Prelude.{◌≡◌, ◌∷◌, ◌++◌, ◌+◌, ◌*◌, ◌-◌, ◌^◌, ◌≤◌, ◌<◌}
use Rattle.lists.{specs.Kit.{ap, ◌∙◌, List, [], flat_map, ℕ, suc, arith, bit_and, count_trailing_zeros, length, drop}}
use Rattle.lists.{specs.Kit.{length-append, drop-append-le}}
use Rattle.lists.{specs.Kit.{drop-nil}, specs.Lists.{range}, proofs.Map.{length-map, drop_map}}
use Rattle.mesh.specs.{Limits.{max_radios}, Graph.{Link, link_of}}
use Rattle.rows.specs.{Rows.{neighbours_above, set_bits}, Links.{links_to, links_above, links_from}}
use Rattle.rows.proofs.WordLaws.{word_lowest, word_none}

-- ---- the links of a radio to the set bits of a word: the lowest and the others, and none left

pub links_lowest : (a first rest : ℕ) → rest < 2 ^ 64 → (rest ≡ 0 → ⊥)
    → links_to a (set_bits 64 first rest) ≡ (link_of a (first + count_trailing_zeros 64 rest) ∷ []) ++ links_to a (set_bits 64 first (bit_and rest (rest - 1)))
links_lowest a first rest low some = ap (links_to a) (word_lowest first rest low some)

pub links_none : (a first rest : ℕ) → rest ≡ 0 → links_to a (set_bits 64 first rest) ≡ []
links_none a first rest z = ap (links_to a) (word_none first rest z)

-- ---- what is left

module _ (n : ℕ) (ts : List ℕ) where
  rows_next : (a : ℕ) → a < n → flat_map (links_above ts) (range a (n - a)) ≡ links_above ts a ++ flat_map (links_above ts) (range (a + 1) (n - (a + 1)))
  unfolding flat_map range
  rows_next a h =
      let e : n - a ≡ suc (n - (a + 1)) = omega arith in
      let f : suc a ≡ a + 1 = omega arith in rw (e, f)

  length_links_above : (a : ℕ) → length (links_above ts a) ≡ length (neighbours_above ts a)
  unfolding links_above
  length_links_above a = length-map (link_of a) (neighbours_above ts a)

  pub links_from_row : (a p : ℕ) → a < n → p ≤ length (neighbours_above ts a)
      → links_from n ts a p ≡ links_to a (drop p (neighbours_above ts a)) ++ links_from n ts (a + 1) 0
  unfolding links_from links_above
  links_from_row a p h l =
      ap (drop p) (rows_next a h)
      ∙ drop-append-le p (links_above ts a) (flat_map (links_above ts) (range (a + 1) (n - (a + 1)))) (omega (arith, length_links_above a))
      ∙ ap (λ (ls : List Link). ls ++ flat_map (links_above ts) (range (a + 1) (n - (a + 1)))) (drop_map (link_of a) p (neighbours_above ts a))

  pub links_from_end : (a p : ℕ) → n ≤ a → links_from n ts a p ≡ []
  unfolding links_from flat_map range
  links_from_end a p h = let e : n - a ≡ 0 = omega arith in rw e (drop-nil p)

-- ---- links counted: the links of the rows below a

pub record Counting (n : ℕ) (ts : List ℕ) (m a : ℕ) : Type 0 where
  pub low : a ≤ n
  pub small : m ≤ max_radios * a
  pub is : m + length (links_from n ts a 0) ≡ length (links_from n ts 0 0)

module _ (n : ℕ) (ts : List ℕ) where
  pub counting_none : Counting n ts 0 0
  counting_none = record { low = omega arith; small = omega arith; is = omega arith }

  pub counting_turn : (m a k : ℕ) → Counting n ts m a → a < n → k ≤ max_radios → k ≡ length (neighbours_above ts a) → Counting n ts (m + k) (a + 1)
  counting_turn m a k c h few e =
      record {
        low = omega arith;
        small = omega (arith, c.small);
        is =
            omega (
              arith,
              c.is,
              e,
              ap length (links_from_row n ts a 0 h (omega arith)),
              length-append (links_to a (neighbours_above ts a)) (links_from n ts (a + 1) 0),
              length-map (link_of a) (neighbours_above ts a),
            );
      }

  pub counting_end : (m a : ℕ) → Counting n ts m a → n ≤ a → m ≡ length (links_from n ts 0 0)
  counting_end m a c h = omega (arith, c.is, ap length (links_from_end n ts a 0 h))
