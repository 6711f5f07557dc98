-- Laws of the links table.
-- In order: parts of equal length joined, bytes, marks of a table, one bit and one link put, tables of bits, the table of a graph.
use Rattle.std.specs.Prelude.{◌≡◌, ◌⊎◌, ◌&&◌, ◌||◌, ◌++◌, ◌+◌, ◌*◌, ◌/◌, ◌%◌, ◌≤◌, ◌<◌}
use Rattle.lists.{specs.Kit.{refl, sym, ap, ap₂, ◌∙◌, inl, inr, Bool, true, false, cond, and_comm, List, [], flat_map, ℕ, zero, suc}}
use Rattle.lists.{specs.Kit.{arith, mod-lt, zero-lt-suc, mul-suc, eqb, length, get_or, set, replicate, length-set, length-append}}
use Rattle.lists.{specs.Kit.{length-replicate, get_or-replicate, List·getD-append, get_or-append-add, get_or-set_same, get_or-set_other, ext_get_or, eqb-true, eqb-false}}
use Rattle.lists.{specs.Kit.{eq-eqb, ne_eqb}, specs.Lists.{range, member}, specs.Facts.{Bytes}, proofs.Tests.{bool_cases}, proofs.Range.{length_range}}
use Rattle.lists.{proofs.Map.{length-map, get_d_map_range}, proofs.Parts.{bytes_replicate}}
use Rattle.mesh.specs.{Limits.{max_radios, row_bytes}, Graph.{Graph, graph, other_ends, linked}, Tables.{digit, byte_at, marked, put_digit, put_bit}}
use Rattle.mesh.specs.{Tables.{put_link, from_digits, bit_row, bit_table, links_table}}
use Rattle.mesh.proofs.{GraphLaws.{ends}, Tables.Digits.{from_digits_less, digit_from_digits, digit_nothing, digits_eq, digit_put_digit, put_digit_less}}

-- ---- laws of lists: parts of equal length, joined

module _ (f : ℕ → List ℕ) (size : ℕ) (sizes : (v : ℕ) → length (f v) ≡ size) where
  pub length_flat_map_range : (i k : ℕ) → length (flat_map f (range i k)) ≡ size * k
  unfolding range flat_map
  length_flat_map_range i zero = omega arith
  length_flat_map_range i (suc k) =
      omega (arith, length-append (f i) (flat_map f (range (suc i) k)), sizes i, length_flat_map_range (suc i) k, mul-suc size k)

  pub get_d_flat_map_range : (i k v j : ℕ) → v < k → j < size → get_or (flat_map f (range i k)) (size * v + j) 0 ≡ get_or (f (i + v)) j 0
  unfolding range flat_map
  get_d_flat_map_range i zero v j h l = absurd (omega arith)
  get_d_flat_map_range i (suc k) zero j h l =
      ap (λ (x : ℕ). get_or (f i ++ flat_map f (range (suc i) k)) x 0) (omega arith)
      ∙ List·getD-append (f i) (flat_map f (range (suc i) k)) 0 j (omega (arith, sizes i))
      ∙ ap (λ (x : ℕ). get_or (f x) j 0) (omega arith)
  get_d_flat_map_range i (suc k) (suc v) j h l =
      ap (λ (x : ℕ). get_or (f i ++ flat_map f (range (suc i) k)) x 0) (omega (arith, sizes i, mul-suc size v))
      ∙ get_or-append-add (f i) (flat_map f (range (suc i) k)) (size * v + j) 0
      ∙ get_d_flat_map_range (suc i) k v j (omega arith) l
      ∙ ap (λ (x : ℕ). get_or (f x) j 0) (omega arith)

-- ---- marks of a table

-- bit d of byte j of row a is the mark of radio 8 * j + d
marked_digit : (ts : List ℕ) (a j d : ℕ) → d < 8 → marked ts a (8 * j + d) ≡ digit (get_or ts (row_bytes * a + j) 0) d
unfolding marked byte_at
marked_digit ts a j d h =
    let e : row_bytes * a + (8 * j + d) / 8 ≡ row_bytes * a + j = omega arith in
    let m : (8 * j + d) % 8 ≡ d = omega arith in rw (e, m)

-- tables of bytes are told by their marks
pub table_eq : (n : ℕ) (ts us : List ℕ) → length ts ≡ row_bytes * n → length us ≡ row_bytes * n → Bytes ts → Bytes us
    → ((a b : ℕ) → a < n → b < max_radios → marked ts a b ≡ marked us a b) → ts ≡ us
table_eq n ts us lt lu bt bu h = ext_get_or 0 ts us (lt ∙ sym lu) (λ i l. at i l)
  where
    at : (i : ℕ) → i < length ts → get_or ts i 0 ≡ get_or us i 0
    at i l = digits_eq 8 (get_or ts i 0) (get_or us i 0) (bt i l) (bu i (omega arith)) bit
      where
        place : row_bytes * (i / row_bytes) + i % row_bytes ≡ i
        place = omega arith

        bit : (d : ℕ) → d < 8 → digit (get_or ts i 0) d ≡ digit (get_or us i 0) d
        bit d g =
            ap (λ (x : ℕ). digit (get_or ts x 0) d) (sym place) ∙ sym (marked_digit ts (i / row_bytes) (i % row_bytes) d g)
            ∙ h (i / row_bytes) (8 * (i % row_bytes) + d) (omega arith) (omega arith)
            ∙ marked_digit us (i / row_bytes) (i % row_bytes) d g ∙ ap (λ (x : ℕ). digit (get_or us x 0) d) place

pub marked_replicate : (k a b : ℕ) → byte_at a b < k → marked (replicate k 0) a b ≡ false
unfolding marked
marked_replicate k a b h = rw (get_or-replicate {A = ℕ} k (byte_at a b) 0 0 h) (digit_nothing (b % 8))

pub byte_at_less : (n a b : ℕ) → a < n → b < max_radios → byte_at a b < row_bytes * n
unfolding byte_at
byte_at_less n a b h l = omega arith

-- ---- one bit put

pub length_put_bit : (on : Bool) (a b : ℕ) (ts : List ℕ) → length (put_bit on a b ts) ≡ length ts
unfolding put_bit
length_put_bit on a b ts = length-set ts (byte_at a b) (put_digit on (get_or ts (byte_at a b) 0) (b % 8))

pub bytes_put_bit : (on : Bool) (a b : ℕ) (ts : List ℕ) → Bytes ts → Bytes (put_bit on a b ts)
unfolding put_bit
bytes_put_bit on a b ts h i l = go (bool_cases (eqb i (byte_at a b)))
  where
    new : ℕ
    new = put_digit on (get_or ts (byte_at a b) 0) (b % 8)

    small : i < length ts
    small = omega (arith, length_put_bit on a b ts)

    go : (eqb i (byte_at a b) ≡ true) ⊎ (eqb i (byte_at a b) ≡ false) → get_or (set ts (byte_at a b) new) i 0 < 256
    go (inl e) =
        let p : i ≡ byte_at a b = eqb-true i (byte_at a b) e in
        rw (p, get_or-set_same ts (byte_at a b) new 0 (omega (arith, small)))
        (put_digit_less on 8 (get_or ts (byte_at a b) 0) (b % 8) (mod-lt b (zero-lt-suc 7)) (h (byte_at a b) (omega (arith, small))))
    go (inr e) = rw (get_or-set_other ts (byte_at a b) i new 0 (eqb-false i (byte_at a b) e)) (h i small)

pub marked_put_bit : (on : Bool) (a b : ℕ) (ts : List ℕ) (v w : ℕ) → b < max_radios → w < max_radios → byte_at a b < length ts
    → marked (put_bit on a b ts) v w ≡ cond (eqb a v && eqb b w) on (marked ts v w)
unfolding marked put_bit byte_at
marked_put_bit on a b ts v w lb lw h = go (bool_cases (eqb (byte_at v w) (byte_at a b)))
  where
    new : ℕ
    new = put_digit on (get_or ts (byte_at a b) 0) (b % 8)

    here : byte_at v w ≡ byte_at a b → eqb (b % 8) (w % 8) ≡ (eqb a v && eqb b w)
    here e = by_test (eqb (b % 8) (w % 8)) refl
      where
        by_test : (t : Bool) → eqb (b % 8) (w % 8) ≡ t → t ≡ (eqb a v && eqb b w)
        by_test true q =
            let m : b % 8 ≡ w % 8 = eqb-true (b % 8) (w % 8) q in rw (eq-eqb a v (omega arith), eq-eqb b w (omega arith))
        by_test false q =
            rw (eq-eqb a v (omega arith), ne_eqb b w (λ s. eqb-false (b % 8) (w % 8) q (ap (λ (x : ℕ). x % 8) s)))

    elsewhere : (byte_at v w ≡ byte_at a b → ⊥) → (eqb a v && eqb b w) ≡ false
    elsewhere ne = by_test (eqb a v) (eqb b w) refl refl
      where
        by_test : (s t : Bool) → eqb a v ≡ s → eqb b w ≡ t → (s && t) ≡ false
        by_test true true p q = absurd (ne (sym (ap₂ byte_at (eqb-true a v p) (eqb-true b w q))))
        by_test true false p q = refl
        by_test false t p q = refl

    go : (eqb (byte_at v w) (byte_at a b) ≡ true) ⊎ (eqb (byte_at v w) (byte_at a b) ≡ false)
        → digit (get_or (set ts (byte_at a b) new) (byte_at v w) 0) (w % 8) ≡ cond (eqb a v && eqb b w) on (marked ts v w)
    go (inl q) =
        let e : byte_at v w ≡ byte_at a b = eqb-true (byte_at v w) (byte_at a b) q in
        rw (e, get_or-set_same ts (byte_at a b) new 0 h, ← (here e)) (digit_put_digit on (get_or ts (byte_at a b) 0) (b % 8) (w % 8))
    go (inr q) =
        let ne = eqb-false (byte_at v w) (byte_at a b) q in
        rw (get_or-set_other ts (byte_at a b) (byte_at v w) new 0 ne, elsewhere ne)

-- ---- one link put

pub length_put_link : (u : Bool) (a b : ℕ) (ts : List ℕ) → length (put_link u a b ts) ≡ length ts
unfolding put_link
length_put_link u a b ts = length_put_bit u b a (put_bit u a b ts) ∙ length_put_bit u a b ts

pub bytes_put_link : (u : Bool) (a b : ℕ) (ts : List ℕ) → Bytes ts → Bytes (put_link u a b ts)
unfolding put_link
bytes_put_link u a b ts h = bytes_put_bit u b a (put_bit u a b ts) (bytes_put_bit u a b ts h)

pub marked_put_link : (u : Bool) (n a b : ℕ) (ts : List ℕ) (v w : ℕ) → n ≤ max_radios → length ts ≡ row_bytes * n → a < n → b < n → w < max_radios
    → marked (put_link u a b ts) v w ≡ cond (ends a b v w) u (marked ts v w)
unfolding put_link ends
marked_put_link u n a b ts v w big len la lb lw =
    marked_put_bit u b a (put_bit u a b ts) v w (omega arith) lw (omega (arith, length_put_bit u a b ts, byte_at_less n b a lb (omega arith)))
    ∙ rw (marked_put_bit u a b ts v w (omega arith) lw (omega (arith, byte_at_less n a b la (omega arith))), and_comm (eqb b v) (eqb a w))
    (either (eqb a w && eqb b v) (eqb a v && eqb b w))
  where
    either : (s t : Bool) → cond s u (cond t u (marked ts v w)) ≡ cond (t || s) u (marked ts v w)
    either true true = refl
    either true false = refl
    either false true = refl
    either false false = refl

-- ---- tables of bits

module _ (n : ℕ) (f : ℕ → ℕ → Bool) where
  length_bit_row : (a : ℕ) → length (bit_row (f a)) ≡ row_bytes
  unfolding bit_row
  length_bit_row a = length-map (λ j. from_digits 8 (λ i. f a (8 * j + i))) (range 0 row_bytes) ∙ length_range 0 row_bytes

  pub length_bit_table : length (bit_table n f) ≡ row_bytes * n
  unfolding bit_table
  length_bit_table = length_flat_map_range (λ a. bit_row (f a)) row_bytes length_bit_row 0 n

  get_d_bit_table : (a j : ℕ) → a < n → j < row_bytes
      → get_or (bit_table n f) (row_bytes * a + j) 0 ≡ from_digits 8 (λ i. f a (8 * j + i))
  unfolding bit_table bit_row
  get_d_bit_table a j h l =
      get_d_flat_map_range (λ a. bit_row (f a)) row_bytes length_bit_row 0 n a j h l
      ∙ ap (λ (x : ℕ). get_or (bit_row (f x)) j 0) (omega arith)
      ∙ get_d_map_range 0 (λ j. from_digits 8 (λ i. f a (8 * j + i))) 0 row_bytes j l
      ∙ ap (λ (x : ℕ). from_digits 8 (λ i. f a (8 * x + i))) (omega arith)

  pub bytes_bit_table : Bytes (bit_table n f)
  bytes_bit_table i h =
      let len = length_bit_table in
      let place : row_bytes * (i / row_bytes) + i % row_bytes ≡ i = omega arith in
      rw (← place, get_d_bit_table (i / row_bytes) (i % row_bytes) (omega arith) (omega arith))
      (from_digits_less 8 (λ d. f (i / row_bytes) (8 * (i % row_bytes) + d)))

  -- bit b of row a is what the test says
  pub marked_bit_table : (a b : ℕ) → a < n → b < max_radios → marked (bit_table n f) a b ≡ f a b
  marked_bit_table a b h l =
      let place : 8 * (b / 8) + b % 8 ≡ b = omega arith in
      ap (marked (bit_table n f) a) (sym place)
      ∙ marked_digit (bit_table n f) a (b / 8) (b % 8) (omega arith)
      ∙ ap (λ (x : ℕ). digit x (b % 8)) (get_d_bit_table a (b / 8) h (omega arith))
      ∙ digit_from_digits 8 (λ i. f a (8 * (b / 8) + i)) (b % 8) (omega arith)
      ∙ ap (f a) place

-- ---- the table of a graph

pub length_links_table : (g : Graph) → length (links_table g) ≡ row_bytes * g.n
unfolding links_table
length_links_table g = length_bit_table g.n (linked g)

pub bytes_links_table : (g : Graph) → Bytes (links_table g)
unfolding links_table
bytes_links_table g = bytes_bit_table g.n (linked g)

-- the table marks exactly the links
pub marked_links_table : (g : Graph) (a b : ℕ) → a < g.n → b < max_radios → marked (links_table g) a b ≡ linked g a b
unfolding links_table
marked_links_table g = marked_bit_table g.n (linked g)

-- no links: zero bytes
pub links_table_cleared : (n : ℕ) → links_table (graph n []) ≡ replicate (row_bytes * n) 0
unfolding linked other_ends member
links_table_cleared n = table_eq n (links_table (graph n [])) (replicate (row_bytes * n) 0)
    (length_links_table (graph n [])) (length-replicate (row_bytes * n) 0) (bytes_links_table (graph n [])) (bytes_replicate (row_bytes * n))
    (λ a b h l. marked_links_table (graph n []) a b h l ∙ sym (marked_replicate (row_bytes * n) a b (byte_at_less n a b h l)))
