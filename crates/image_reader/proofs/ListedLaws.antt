-- Laws of the links and of the order that the reader goes through: a link after the last one, one more link, the end; entries.
use Rattle.std.specs.Prelude.{◌≡◌, ◌⊎◌, ◌&&◌, ◌||◌, ◌∷◌, ◌+◌, ◌*◌, ◌-◌, ◌/◌, ◌%◌, ◌<◌}
use Rattle.lists.{specs.Kit.{refl, sym, ap, subst, ◌∙◌, inl, inr, Bool, true, false, List, [], map, ℕ, suc}}
use Rattle.lists.{specs.Kit.{arith, ltb, eqb, length, get_or, set, ext_get_or, get_or-set_same, get_or-set_other, ltb-true, lt-ltb, le-ltb, eq-eqb, ne_eqb}}
use Rattle.lists.{specs.Lists.{range}, proofs.Tests.{bool_cases, trichotomy}, proofs.Map.{get_d_map_range}}
use Rattle.mesh.{specs.Graph.{Link, link_of, link_before, proper, ascending}, specs.Image.{block_bytes, block_entries, word_at, entry_at, image_link}}
use Rattle.mesh.{specs.Image.{image_order}, proofs.Tables.AscendingLinks.{link_eq}, proofs.Images.Canonical.{length_image_order}}
use Rattle.image.specs.Header.{header}
use Rattle.image_reader.specs.Site.{order_entry, LinkAt, links_up_to, key_of, key_link, next_key, listed_from, Listed, OrderRead}

-- ---- proper and ascending, link by link

listed_ascending : (n : ℕ) (p : Link) (ls : List Link) → listed_from n p ls ≡ (proper n ls && ascending (p ∷ ls))
unfolding listed_from proper ascending
listed_ascending n p [] = refl
listed_ascending n p (l ∷ ls) =
    ap (λ (x : Bool). ((ltb l.low l.high && ltb l.high n) && link_before p l) && x) (listed_ascending n l ls)
    ∙ swap (ltb l.low l.high && ltb l.high n) (link_before p l) (proper n ls) (ascending (l ∷ ls))
  where
    swap : (a b c d : Bool) → ((a && b) && (c && d)) ≡ ((a && c) && (b && d))
    swap true true c d = refl
    swap true false true d = refl
    swap true false false d = refl
    swap false b c d = refl

-- every proper link stands after the link of 0 and 0
after_zero : (l : Link) → ltb l.low l.high ≡ true → link_before (link_of 0 0) l ≡ true
unfolding link_before
after_zero l h = go (trichotomy 0 l.low)
  where
    go : (0 < l.low) ⊎ ((0 ≡ l.low) ⊎ (l.low < 0)) → (ltb 0 l.low || (eqb 0 l.low && ltb 0 l.high)) ≡ true
    go (inl e) = rw (lt-ltb 0 l.low e)
    go (inr (inl e)) =
        rw (le-ltb 0 l.low (omega arith), eq-eqb 0 l.low e, lt-ltb 0 l.high (omega (arith, ltb-true l.low l.high h)))
    go (inr (inr e)) = absurd (omega arith)

pub listed_zero : (n : ℕ) (ls : List Link) → listed_from n (link_of 0 0) ls ≡ (proper n ls && ascending ls)
unfolding proper ascending
listed_zero n [] = listed_ascending n (link_of 0 0) []
listed_zero n (l ∷ ls) = listed_ascending n (link_of 0 0) (l ∷ ls) ∙ go (bool_cases (ltb l.low l.high))
  where
    go : (ltb l.low l.high ≡ true) ⊎ (ltb l.low l.high ≡ false)
        → (proper n (l ∷ ls) && ascending (link_of 0 0 ∷ l ∷ ls)) ≡ (proper n (l ∷ ls) && ascending (l ∷ ls))
    go (inl e) = rw (after_zero l e)
    go (inr e) = rw e

-- ---- keys

-- keys stand as their links do
before_key : (p k : ℕ) → link_before (key_link p) (key_link k) ≡ ltb p k
unfolding link_before
before_key p k = go (trichotomy (p / 65536) (k / 65536)) (trichotomy (p % 65536) (k % 65536))
  where
    go : (p / 65536 < k / 65536) ⊎ ((p / 65536 ≡ k / 65536) ⊎ (k / 65536 < p / 65536))
        → (p % 65536 < k % 65536) ⊎ ((p % 65536 ≡ k % 65536) ⊎ (k % 65536 < p % 65536))
        → (ltb (p / 65536) (k / 65536) || (eqb (p / 65536) (k / 65536) && ltb (p % 65536) (k % 65536))) ≡ ltb p k
    go (inl e) f = rw (lt-ltb (p / 65536) (k / 65536) e, lt-ltb p k (omega arith))
    go (inr (inl e)) (inl f) =
        rw (le-ltb (p / 65536) (k / 65536) (omega arith), eq-eqb (p / 65536) (k / 65536) e, lt-ltb (p % 65536) (k % 65536) f, lt-ltb p k (omega arith))
    go (inr (inl e)) (inr (inl f)) =
        rw (
          le-ltb (p / 65536) (k / 65536) (omega arith),
          eq-eqb (p / 65536) (k / 65536) e,
          le-ltb (p % 65536) (k % 65536) (omega arith),
          le-ltb p k
              (omega arith),
        )
    go (inr (inl e)) (inr (inr f)) =
        rw (
          le-ltb (p / 65536) (k / 65536) (omega arith),
          eq-eqb (p / 65536) (k / 65536) e,
          le-ltb (p % 65536) (k % 65536) (omega arith),
          le-ltb p k
              (omega arith),
        )
    go (inr (inr e)) f =
        rw (le-ltb (p / 65536) (k / 65536) (omega arith), ne_eqb (p / 65536) (k / 65536) (λ z. omega arith), le-ltb p k (omega arith))

-- the key of bytes
module _ (x a b : ℕ) (is : x ≡ a + 65536 * b) (la : a < 65536) (lb : b < 65536) where
  key_is : key_of x ≡ 65536 * a + b
  unfolding key_of
  key_is =
      let low : x % 65536 ≡ a = omega arith in
      let high : x / 65536 ≡ b = omega arith in
      rw (low, high)

  pub key_low : key_of x / 65536 ≡ a
  key_low = ap (λ (y : ℕ). y / 65536) key_is ∙ omega arith

  pub key_high : key_of x % 65536 ≡ b
  key_high = ap (λ (y : ℕ). y % 65536) key_is ∙ omega arith

-- ---- j links passed

pub listed_none : (n m : ℕ) (bs : List ℕ) → Listed (header n m) bs (record { good = true; key = 0 }) 0
unfolding links_up_to
listed_none n m bs =
    let z : m - 0 ≡ m = omega arith in
    record { low = omega arith; is = rw z (sym (listed_zero n (map (image_link n bs) (range 0 m)))) }

and_assoc : (a b c : Bool) → (a && (b && c)) ≡ ((a && b) && c)
and_assoc true b c = refl
and_assoc false b c = refl

module _ (n m : ℕ) (bs : List ℕ) (good : Bool) (key j : ℕ)
    (l : Listed (header n m) bs (record { good = good; key = key }) j) (h : j < m) (x a b : ℕ) (pair : LinkAt n bs j a b)
    (x_is : x ≡ a + 65536 * b) (la : a < 65536) (lb : b < 65536) where
  abbrev k : ℕ
  k = key_of x

  abbrev rest : List Link
  rest = map (image_link n bs) (range (j + 1) (m - (j + 1)))

  link_here : image_link n bs j ≡ key_link k
  link_here = link_eq (image_link n bs j) (key_link k) (sym pair.low ∙ sym (key_low x a b x_is la lb)) (sym pair.high ∙ sym (key_high x a b x_is la lb))

  next_here : ((ltb (k / 65536) (k % 65536) && ltb (k % 65536) n) && link_before (key_link key) (key_link k)) ≡ next_key n key k
  unfolding next_key
  next_here = ap (λ (t : Bool). (ltb (k / 65536) (k % 65536) && ltb (k % 65536) n) && t) (before_key key k)

  -- what the next link decides
  next_link : listed_from n (key_link key) (map (image_link n bs) (range j (m - j))) ≡ (next_key n key k && listed_from n (key_link k) rest)
  unfolding range listed_from
  next_link =
      let e : m - j ≡ suc (m - (j + 1)) = omega arith in
      let f : suc j ≡ j + 1 = omega arith in
      rw (e, f, link_here) (ap (λ (t : Bool). t && listed_from n (key_link k) rest) next_here)

  pub listed_turn : Listed (header n m) bs (record { good = good && next_key n key k; key = k }) (j + 1)
  listed_turn = record {
    low = omega arith;
    is = l.is ∙ ap (λ (t : Bool). good && t) next_link ∙ and_assoc good (next_key n key k) (listed_from n (key_link k) rest);
  }

pub listed_end : (n m : ℕ) (bs : List ℕ) (good : Bool) (key j : ℕ) → Listed (header n m) bs (record { good = good; key = key }) j → j ≡ m
    → good ≡ (proper n (links_up_to n bs m) && ascending (links_up_to n bs m))
unfolding range listed_from
listed_end n m bs good key j l h = let e : m - j ≡ 0 = omega arith in sym (l.is ∙ rw e (and-true good))
  where
    and-true : (t : Bool) → (t && true) ≡ t
    and-true true = refl
    and-true false = refl

pub listed_at : (n m : ℕ) (bs : List ℕ) (good : Bool) (key i j : ℕ) → Listed (header n m) bs (record { good = good; key = key }) i → i ≡ j
    → Listed (header n m) bs (record { good = good; key = key }) j
listed_at n m bs good key i j l e = subst (λ (q : ℕ). Listed (header n m) bs (record { good = good; key = key }) q) e l

-- ---- the order

pub order_at : (bs xs : List ℕ) (i j : ℕ) → OrderRead bs i xs → i ≡ j → OrderRead bs j xs
order_at bs xs i j r e = subst (λ (k : ℕ). OrderRead bs k xs) e r

-- entry i of block q
pub order_in : (bs : List ℕ) (q i x : ℕ) → i < block_entries → x ≡ word_at bs (block_bytes * (1 + q) + 4 + 2 * i) → x ≡ order_entry bs (block_entries * q + i)
unfolding entry_at
order_in bs q i x l e =
    let block : (block_entries * q + i) / block_entries ≡ q = omega arith in
    let entry : (block_entries * q + i) % block_entries ≡ i = omega arith in
    e ∙ rw (block, entry)

pub order_turn : (bs xs : List ℕ) (j x : ℕ) → OrderRead bs j xs → j < length xs → x ≡ order_entry bs j → x < 65536 → OrderRead bs (j + 1)
    (set xs j (x % 65536))
order_turn bs xs j x r l e small k h = go (trichotomy k j)
  where
    go : (k < j) ⊎ ((k ≡ j) ⊎ (j < k)) → get_or (set xs j (x % 65536)) k 0 ≡ order_entry bs k
    go (inl d) = get_or-set_other xs j k (x % 65536) 0 (λ z. omega arith) ∙ r k d
    go (inr (inl d)) =
        let s : x % 65536 ≡ x = omega arith in
        rw d (get_or-set_same xs j (x % 65536) 0 l ∙ s ∙ e)
    go (inr (inr d)) = absurd (omega arith)

pub order_whole : (bs xs : List ℕ) (k : ℕ) → length xs ≡ k → OrderRead bs k xs → xs ≡ image_order k bs
unfolding image_order
order_whole bs xs k l r =
    ext_get_or 0 xs (image_order k bs) (l ∙ sym (length_image_order k bs))
    (λ j h. r j (omega arith) ∙ ap (order_entry bs) (omega arith) ∙ sym (get_d_map_range 0 (order_entry bs) 0 k j (omega arith)))
