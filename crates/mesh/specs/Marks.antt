-- Named marks (document 02, W-211): a lent store of 8 places, each a name, an image of sound tables and zeros to its end.
--   name_bytes, place_bytes, places, store_bytes   sizes
--   is_alphanumeric c        A to Z, 0 to 9
--   is_name x          8 bytes: A to Z and 0 to 9, at least one, then spaces
--   before x y         x stands before y, by bytes
--   name_in p          the name of the place p
--   image_size n bs    how many bytes the image at the front of bs has, by its own count of links
--   image_in n p       the image of the place p
--   is_zeros bs        every byte is zero
--   is_mark n p        the place p is a name, an image of sound tables with n radios, and zeros to its end
--   place_of x bs      the place of the name x and the image bs
--   places_of k bs     the first k places of the store bs
--   marks_in bs        the used places of the store bs: the ones before the first that is all zero
--   are_marks n x ps   the places ps are marks in rising order of name, the first after the name x
--   is_store n bs      the used places are marks in rising order of name, no name twice; all after them is zero
--   store_of ps        the store whose used places are ps
--   has_mark x ps, found x ps   is there a place with the name x, and which
--   with_mark p ps     the places with p at its name's place in the order, in place of a mark of that name
--   without_mark x ps  the places without the one of the name x
--   place_at bs i, name_at bs i   place i of the store bs, and its name
--   MarkRules, StoreRules   W-211's rules, place by place, as the request says them; `store_good_iff` has that `is_store` decides them
-- Laws are in proofs/Marks/. Definitions only.
use Rattle.std.specs.Prelude.{◌≡◌, ◌&&◌, ◌||◌, ◌∷◌, ◌++◌, ◌+◌, ◌*◌, ◌-◌, ◌≤◌, ◌<◌}
use Rattle.lists.specs.{Kit.{Bool, true, false, cond, List, [], flat_map, ℕ, zero, suc, ltb, leb, eqb}}
use Rattle.lists.specs.{Kit.{length, get_or, take, drop, replicate}, Lists.{all, same}}
use Rattle.mesh.specs.Image.{block_bytes, block_count, word_at, is_image}

-- "A name is 8 bytes"
abbrev pub name_bytes : ℕ
name_bytes = 8

-- a name and an image of 86 blocks
abbrev pub place_bytes : ℕ
place_bytes = 44040

-- "8 places, 44,040 bytes each"
abbrev pub places : ℕ
places = 8

-- 8 places
abbrev pub store_bytes : ℕ
store_bytes = 352320

-- ---- names

-- "A to Z and 0 to 9"
unfoldable pub is_alphanumeric : ℕ → Bool
is_alphanumeric c = (leb 65 c && leb c 90) || (leb 48 c && leb c 57)

unfoldable pub alphanumerics_then_spaces : List ℕ → Bool
alphanumerics_then_spaces [] = true
alphanumerics_then_spaces (c ∷ cs) =
    let rest = alphanumerics_then_spaces cs in cond (is_alphanumeric c) rest (all (λ d. eqb d 32) (c ∷ cs))

-- "8 bytes, A to Z and 0 to 9, at least one, then spaces"
unfoldable pub is_name : List ℕ → Bool
is_name x = eqb (length x) name_bytes && (is_alphanumeric (get_or x 0 0) && alphanumerics_then_spaces x)

-- "in rising order of name by bytes"
unfoldable pub before : (x y : List ℕ) → Bool
before x [] = false
before [] (b ∷ y) = true
before (a ∷ x) (b ∷ y) = ltb a b || (eqb a b && before x y)

-- ---- a place

-- every byte is zero
unfoldable pub is_zeros : List ℕ → Bool
is_zeros bs = all (λ x. eqb x 0) bs

-- the name of a place
unfoldable pub name_in : (place : List ℕ) → List ℕ
name_in p = take name_bytes p

-- how many bytes the image at the front of bs has, by its own count of links
unfoldable pub image_size : (n : ℕ) → List ℕ → ℕ
image_size n bs = block_bytes * block_count n (word_at bs 6)

-- the image of a place
unfoldable pub image_in : (n : ℕ) → (place : List ℕ) → List ℕ
image_in n p = let rest = drop name_bytes p in take (image_size n rest) rest

-- "A place is a name, an image of sound tables with the site's n, and zeros to its end", worked out
unfoldable pub is_mark : (n : ℕ) → (place : List ℕ) → Bool
is_mark n p =
    let rest = drop name_bytes p in
    is_name (name_in p) && (is_image n (image_in n p) && is_zeros (drop (image_size n rest) rest))

-- the place of a name and an image
unfoldable pub place_of : (name image : List ℕ) → List ℕ
place_of x bs = x ++ (bs ++ replicate (place_bytes - (name_bytes + length bs)) 0)

-- ---- the store

-- the first k places of a store
unfoldable pub places_of : (k : ℕ) → (store : List ℕ) → List (List ℕ)
places_of zero bs = []
places_of (suc k) bs = take place_bytes bs ∷ places_of k (drop place_bytes bs)

-- "used places first": the ones before the first that is all zero
unfoldable pub used : List (List ℕ) → List (List ℕ)
used [] = []
used (p ∷ ps) = let rest = used ps in cond (is_zeros p) [] (p ∷ rest)

-- the used places of a store
unfoldable pub marks_in : (store : List ℕ) → List (List ℕ)
marks_in bs = used (places_of places bs)

-- marks in rising order of name, the first after the name x
unfoldable pub are_marks : (n : ℕ) → (last : List ℕ) → List (List ℕ) → Bool
are_marks n x [] = true
are_marks n x (p ∷ ps) = is_mark n p && (before x (name_in p) && are_marks n (name_in p) ps)

-- question 17 of a store, worked out
unfoldable pub is_store : (n : ℕ) → (store : List ℕ) → Bool
is_store n bs = let ps = marks_in bs in are_marks n [] ps && is_zeros (drop (place_bytes * length ps) bs)

-- the store with these used places
unfoldable pub store_of : List (List ℕ) → List ℕ
store_of ps = flat_map (λ p. p) ps ++ replicate (place_bytes * (places - length ps)) 0

-- ---- marks by name

-- is there a mark of this name?
unfoldable pub has_mark : (name : List ℕ) → List (List ℕ) → Bool
has_mark x [] = false
has_mark x (p ∷ ps) = same (name_in p) x || has_mark x ps

-- the place of a name; nothing where there is none
unfoldable pub found : (name : List ℕ) → List (List ℕ) → List ℕ
found x [] = []
found x (p ∷ ps) = let rest = found x ps in cond (same (name_in p) x) p rest

-- "Setting a name again replaces its mark": the places with p at its name's place
unfoldable pub with_mark : (place : List ℕ) → List (List ℕ) → List (List ℕ)
with_mark p [] = p ∷ []
with_mark p (q ∷ qs) =
    let rest = with_mark p qs in
    cond (before (name_in p) (name_in q)) (p ∷ q ∷ qs) (cond (same (name_in q) (name_in p)) (p ∷ qs) (q ∷ rest))

-- the places without the one of this name
unfoldable pub without_mark : (name : List ℕ) → List (List ℕ) → List (List ℕ)
without_mark x [] = []
without_mark x (p ∷ ps) = let rest = without_mark x ps in cond (same (name_in p) x) ps (p ∷ rest)

-- ---- the rules, place by place

-- place i of a store
unfoldable pub place_at : (store : List ℕ) → (i : ℕ) → List ℕ
place_at bs i = take place_bytes (drop (place_bytes * i) bs)

-- its name
unfoldable pub name_at : (store : List ℕ) → (i : ℕ) → List ℕ
name_at bs i = take name_bytes (drop (place_bytes * i) bs)

-- "A place is a name, an image of sound tables with the site's n, and zeros to its end."
pub record MarkRules (n : ℕ) (place : List ℕ) : Type 0 where
  pub name : List ℕ
  pub image : List ℕ
  pub name_good : is_name name ≡ true
  pub image_good : is_image n image ≡ true
  pub is : place ≡ place_of name image

-- "keeps the marks in rising order of name by bytes, no name twice, used places first, unused ones all zero"
pub record StoreRules (n : ℕ) (store : List ℕ) : Type 0 where
  pub many : ℕ
  pub few : many ≤ places
  pub mark : (i : ℕ) → i < many → MarkRules n (place_at store i)
  pub rising : (i j : ℕ) → i < j → j < many → before (name_at store i) (name_at store j) ≡ true
  pub differ : (i j : ℕ) → i < j → j < many → same (name_at store i) (name_at store j) ≡ false
  pub unused : (i : ℕ) → many ≤ i → i < places → is_zeros (place_at store i) ≡ true
