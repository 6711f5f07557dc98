-- The store of marks: a good store is the store of its marks, and the marks of a store of marks are these.
--   Marks n ps       at most 8 marks in rising order of name
--   store_marks      a good store of full length is the store of its marks
--   marks_store_of, length_store_of, is_store_of   the store of marks has these marks and full length, and is good
--   place_mark       a name and an image make a mark, and are what it holds
--   mark_place       a mark is the place of its name and its image
-- In order: zeros, places, the store, one place.
use Rattle.std.specs.Prelude.{◌≡◌, ◌&&◌, ◌∷◌, ◌++◌, ◌+◌, ◌*◌, ◌-◌, ◌≤◌, ◌<◌}
use Rattle.lists.specs.Kit.{refl, sym, ap, ap₂, ◌∙◌, Bool, true, false, cond, List, [], flat_map, append_assoc, ℕ, zero}
use Rattle.lists.specs.Kit.{suc, arith, zero-add, suc-add, mul-suc, leb, eqb, length, take, drop, replicate, length-append, ⊎_elim}
use Rattle.lists.specs.Kit.{length-drop, length-replicate, take-append-drop, List·getD-append, take_at, drop_at, drop-drop, length-take-le, eqb-true, ne_eqb}
use Rattle.lists.{specs.Kit.{leb-true}, specs.Lists.{all}, proofs.Tests.{never, and_left, and_right, and_both, or_cases}}
use Rattle.mesh.specs.{Limits.{max_radios}, Image.{block_bytes, block_count, word_at, image_graph, image_order, is_image}, Marks.{name_bytes}}
use Rattle.mesh.specs.Marks.{place_bytes, places, store_bytes, is_alphanumeric, is_name, before, is_zeros, name_in, image_size, image_in, is_mark}
use Rattle.mesh.specs.Marks.{place_of, places_of, used, marks_in, are_marks, is_store, store_of}
use Rattle.mesh.proofs.{Tables.DegreeSum.{block_count_most}, Tables.Sites.{image_valid}, Images.Of.{length_image_of}, Images.Sites.{written_read}}
use Rattle.mesh.proofs.{Images.Canonical.{length_image_links}, Marks.Lists.{RisingMarks}}

abbrev pub joined : List (List ℕ) → List ℕ
joined ps = flat_map (λ p. p) ps

-- ---- zeros

pub zeros_replicate : (bs : List ℕ) → is_zeros bs ≡ true → bs ≡ replicate (length bs) 0
unfolding is_zeros all
zeros_replicate [] h = refl
zeros_replicate (b ∷ bs) h =
    ap₂ {C = List ℕ} (λ x xs. x ∷ xs) (eqb-true b 0 (and_left (eqb b 0) (is_zeros bs) h)) (zeros_replicate bs (and_right (eqb b 0) (is_zeros bs) h))

pub replicate_zeros : (k : ℕ) → is_zeros (replicate k 0) ≡ true
unfolding is_zeros all
replicate_zeros zero = refl
replicate_zeros (suc k) = replicate_zeros k

pub zeros_take : (k : ℕ) (bs : List ℕ) → is_zeros bs ≡ true → is_zeros (take k bs) ≡ true
unfolding is_zeros all
zeros_take zero bs h = refl
zeros_take (suc k) [] h = refl
zeros_take (suc k) (b ∷ bs) h =
    and_both (eqb b 0) (is_zeros (take k bs)) (and_left (eqb b 0) (is_zeros bs) h) (zeros_take k bs (and_right (eqb b 0) (is_zeros bs) h))

alphanumeric_more : (c : ℕ) → is_alphanumeric c ≡ true → 0 < c
unfolding is_alphanumeric
alphanumeric_more c h =
    ⊎_elim (λ e. omega (arith, leb-true 65 c (and_left (leb 65 c) (leb c 90) e))) (λ e. omega (arith, leb-true 48 c (and_left (leb 48 c) (leb c 57) e)))
    (or_cases (leb 65 c && leb c 90) (leb 48 c && leb c 57) h)

mark_name : (n : ℕ) (p : List ℕ) → is_mark n p ≡ true → is_name (name_in p) ≡ true
unfolding is_mark
mark_name n p h = and_left (is_name (name_in p)) _ h

-- a mark is no unused place
pub mark_nonzero : (n : ℕ) (p : List ℕ) → is_mark n p ≡ true → is_zeros p ≡ false
unfolding is_zeros all is_name name_in
mark_nonzero n [] h = never false (mark_name n [] h) refl
mark_nonzero n (c ∷ p) h =
    let k = mark_name n (c ∷ p) h in
    let l = and_left (is_alphanumeric c) _ (and_right (eqb (length (take 8 (c ∷ p))) 8) _ k) in
    rw (ne_eqb c 0 (λ e. omega (arith, alphanumeric_more c l)))

-- ---- places

pub length_joined : (n : ℕ) (x : List ℕ) (ps : List (List ℕ)) → RisingMarks n x ps → length (joined ps) ≡ place_bytes * length ps
unfolding flat_map
length_joined n x [] r = omega arith
length_joined n x (p ∷ ps) r = omega (arith, length-append p (joined ps), r.0, length_joined n (name_in p) ps r.3)

places_joined : (n : ℕ) (x : List ℕ) (ps : List (List ℕ)) (zs : List ℕ) (j : ℕ) → RisingMarks n x ps → places_of (length ps + j) (joined ps ++ zs) ≡ ps ++
    places_of j zs
unfolding flat_map places_of
places_joined n x [] zs j r = ap (λ (k : ℕ). places_of k zs) (zero-add j)
places_joined n x (p ∷ ps) zs j r =
    ap₂ places_of (suc-add (length ps) j) (append_assoc p (joined ps) zs)
    ∙ ap₂ {C = List (List ℕ)} (λ q qs. q ∷ places_of (length ps + j) qs) (take_at p (joined ps ++ zs) place_bytes r.0)
    (drop_at p (joined ps ++ zs) place_bytes r.0)
    ∙ ap {B = List (List ℕ)} (λ qs. p ∷ qs) (places_joined n (name_in p) ps zs j r.3)

used_append : (n : ℕ) (x : List ℕ) (ps qs : List (List ℕ)) → RisingMarks n x ps → used (ps ++ qs) ≡ ps ++ used qs
unfolding used
used_append n x [] qs r = refl
used_append n x (p ∷ ps) qs r = rw (mark_nonzero n p r.1) (ap {B = List (List ℕ)} (λ zs. p ∷ zs) (used_append n (name_in p) ps qs r.3))

used_zeros : (j : ℕ) (zs : List ℕ) → is_zeros zs ≡ true → used (places_of j zs) ≡ []
unfolding used places_of
used_zeros zero zs h = refl
used_zeros (suc j) zs h = rw (zeros_take place_bytes zs h)

-- ---- the store

pub record Marks (n : ℕ) (ps : List (List ℕ)) : Type 0 where
  pub rising : RisingMarks n [] ps
  pub few : length ps ≤ places

rising_are_marks : (n : ℕ) (x : List ℕ) (ps : List (List ℕ)) → RisingMarks n x ps → are_marks n x ps ≡ true
unfolding are_marks
rising_are_marks n x [] r = refl
rising_are_marks n x (p ∷ ps) r = rw (r.1, r.2) (rising_are_marks n (name_in p) ps r.3)

pub marks_store_of : (n : ℕ) (ps : List (List ℕ)) → Marks n ps → marks_in (store_of ps) ≡ ps
unfolding marks_in store_of
marks_store_of n ps m =
    let zs : List ℕ = replicate (place_bytes * (places - length ps)) 0 in
    let few = m.few in
    let e : places ≡ length ps + (places - length ps) = omega arith in
    ap (λ (k : ℕ). used (places_of k (joined ps ++ zs))) e
    ∙ ap used (places_joined n [] ps zs (places - length ps) m.rising)
    ∙ used_append n [] ps (places_of (places - length ps) zs) m.rising
    ∙ ap {B = List (List ℕ)} (λ qs. ps ++ qs) (used_zeros (places - length ps) zs (replicate_zeros (place_bytes * (places - length ps))))
    ∙ append-nil ps
  where
    append-nil : (qs : List (List ℕ)) → qs ++ [] ≡ qs
    append-nil [] = refl
    append-nil (q ∷ qs) = ap {B = List (List ℕ)} (λ rs. q ∷ rs) (append-nil qs)

pub length_store_of : (n : ℕ) (ps : List (List ℕ)) → Marks n ps → length (store_of ps) ≡ store_bytes
unfolding store_of
length_store_of n ps m =
    let few = m.few in
    let zs : List ℕ = replicate (place_bytes * (places - length ps)) 0 in
    omega (arith, length-append (joined ps) zs, length_joined n [] ps m.rising, length-replicate {A = ℕ} (place_bytes * (places - length ps)) 0)

unused_zeros : (xs : List ℕ) (k j : ℕ) → length xs ≡ k → is_zeros (drop k (xs ++ replicate j 0)) ≡ true
unused_zeros xs k j e = ap is_zeros (drop_at xs (replicate j 0) k e) ∙ replicate_zeros j

pub is_store_of : (n : ℕ) (ps : List (List ℕ)) → Marks n ps → is_store n (store_of ps) ≡ true
unfolding is_store store_of
is_store_of n ps m =
    ap (λ (qs : List (List ℕ)). are_marks n [] qs && is_zeros (drop (place_bytes * length qs) (store_of ps))) (marks_store_of n ps m)
    ∙ and_both (are_marks n [] ps) (is_zeros (drop (place_bytes * length ps) (store_of ps)))
    (rising_are_marks n [] ps m.rising)
    (unused_zeros (joined ps) (place_bytes * length ps) (place_bytes * (places - length ps)) (length_joined n [] ps m.rising))

-- ---- a good store

abbrev pub Sized : List (List ℕ) → Type 0
Sized [] = Unit {0}
Sized (p ∷ ps) = (length p ≡ place_bytes) × Sized ps

pub rising_sized : (n : ℕ) (x : List ℕ) (ps : List (List ℕ)) → RisingMarks n x ps → Sized ps
rising_sized n x [] r = tt
rising_sized n x (p ∷ ps) r = (r.0, rising_sized n (name_in p) ps r.3)

are_marks_rising : (n : ℕ) (x : List ℕ) (ps : List (List ℕ)) → Sized ps → are_marks n x ps ≡ true → RisingMarks n x ps
unfolding are_marks
are_marks_rising n x [] s h = tt
are_marks_rising n x (p ∷ ps) s h =
    let k = and_right (is_mark n p) (before x (name_in p) && are_marks n (name_in p) ps) h in (
      s.0,
      and_left (is_mark n p) (before x (name_in p) && are_marks n (name_in p) ps) h,
      and_left (before x (name_in p)) (are_marks n (name_in p) ps) k,
      are_marks_rising n (name_in p) ps s.1 (and_right (before x (name_in p)) (are_marks n (name_in p) ps) k),
    )

-- the used places stand at the front of the store; w is the length of a place, a variable here: with the number itself its steps are counted
record Front (w k : ℕ) (bs : List ℕ) (us : List (List ℕ)) : Type 0 where
  sized : Sized us
  few : length us ≤ k
  front : bs ≡ joined us ++ drop (w * length us) bs

front_none : (w k : ℕ) (bs : List ℕ) → Front w k bs []
unfolding flat_map
front_none w k bs =
    let e : 0 ≡ w * 0 = omega arith in record { sized = tt; few = omega arith; front = ap (λ (j : ℕ). drop j bs) e }

front_more : (w k : ℕ) (bs : List ℕ) (us : List (List ℕ)) → length (take w bs) ≡ place_bytes → Front w k (drop w bs) us → Front w (suc k) bs (take w bs ∷ us)
unfolding flat_map
front_more w k bs us l f =
    let e : w + w * length us ≡ w * suc (length us) = omega (arith, mul-suc w (length us)) in
    let rest = drop (w * length us) (drop w bs) in
    record {
      sized = (l, f.sized);
      few = omega (arith, f.few);
      front =
          sym (take-append-drop w bs)
          ∙ ap (λ (xs : List ℕ). take w bs ++ xs) f.front
          ∙ sym (append_assoc (take w bs) (joined us) rest)
          ∙ ap (λ (xs : List ℕ). (take w bs ++ joined us) ++ xs) (drop-drop (w * length us) w bs ∙ ap (λ (j : ℕ). drop j bs) e);
    }

used_front : (k : ℕ) (bs : List ℕ) → place_bytes * k ≤ length bs → Front place_bytes k bs (used (places_of k bs))
unfolding used places_of
used_front zero bs h = front_none place_bytes zero bs
used_front (suc k) bs h =
    go (is_zeros (take place_bytes bs)) (used_front k (drop place_bytes bs) (omega (arith, length-drop place_bytes bs)))
  where
    go : (t : Bool) → Front place_bytes k (drop place_bytes bs) (used (places_of k (drop place_bytes bs)))
        → Front place_bytes (suc k) bs (cond t [] (take place_bytes bs ∷ used (places_of k (drop place_bytes bs))))
    go true f = front_none place_bytes (suc k) bs
    go false f = front_more place_bytes k bs (used (places_of k (drop place_bytes bs))) (length-take-le place_bytes bs (omega arith)) f

pub record StoreMarks (n : ℕ) (bs : List ℕ) : Type 0 where
  pub marks : Marks n (marks_in bs)
  pub whole : bs ≡ store_of (marks_in bs)

-- a good store of full length is the store of its marks
pub store_marks : (n : ℕ) (bs : List ℕ) → length bs ≡ store_bytes → is_store n bs ≡ true → StoreMarks n bs
unfolding is_store store_of marks_in
store_marks n bs len h =
    let us = used (places_of places bs) in
    let f = used_front places bs (omega arith) in
    let few = f.few in
    let r = are_marks_rising n [] us f.sized (and_left (are_marks n [] us) (is_zeros (drop (place_bytes * length us) bs)) h) in
    let z = zeros_replicate (drop (place_bytes * length us) bs) (and_right (are_marks n [] us) (is_zeros (drop (place_bytes * length us) bs)) h) in
    let e : length (drop (place_bytes * length us) bs) ≡ place_bytes * (places - length us) = omega (arith, length-drop (place_bytes * length us) bs) in
    record {
      marks = record { rising = r; few = few };
      whole = f.front ∙ ap (λ (zs : List ℕ). joined us ++ zs) (z ∙ ap (λ (j : ℕ). replicate j 0) e);
    }

-- ---- one place

pub length_name : (x : List ℕ) → is_name x ≡ true → length x ≡ name_bytes
unfolding is_name
length_name x h = eqb-true (length x) name_bytes (and_left (eqb (length x) name_bytes) _ h)

pub length_is_image : (n : ℕ) (bs : List ℕ) → is_image n bs ≡ true → length bs ≡ image_size n bs
unfolding image_size image_graph
length_is_image n bs h =
    ap length (sym (written_read n bs h)) ∙ length_image_of (image_graph n bs) (image_order n bs)
    ∙ ap (λ (m : ℕ). block_bytes * block_count n m) (length_image_links n bs)

-- every image of sound tables fits a place: it has at most 86 blocks
pub image_fits : (n : ℕ) (bs : List ℕ) → n ≤ max_radios → is_image n bs ≡ true → (block_bytes ≤ length bs) × (name_bytes + length bs ≤ place_bytes)
unfolding image_graph block_count
image_fits n bs small h =
    let g = image_graph n bs in
    let xs = image_order n bs in
    let l = ap length (sym (written_read n bs h)) ∙ length_image_of g xs in
    let m = block_count_most g xs small (image_valid n bs small h) in
    (omega (arith, l), omega (arith, l, m))

-- an image's own count of links stands in its first block
image_size_append : (n : ℕ) (bs cs : List ℕ) → block_bytes ≤ length bs → image_size n (bs ++ cs) ≡ image_size n bs
unfolding image_size word_at
image_size_append n bs cs h =
    ap₂ {C = ℕ} (λ x y. block_bytes * block_count n (x + 256 * y))
    (List·getD-append bs cs 0 6 (omega arith))
    (List·getD-append bs cs 0 (6 + 1) (omega arith))

pub record PlaceMark (n : ℕ) (x bs : List ℕ) : Type 0 where
  pub long : length (place_of x bs) ≡ place_bytes
  pub good : is_mark n (place_of x bs) ≡ true
  pub name : name_in (place_of x bs) ≡ x
  pub image : image_in n (place_of x bs) ≡ bs

pub place_mark : (n : ℕ) (x bs : List ℕ) → n ≤ max_radios → is_name x ≡ true → is_image n bs ≡ true → PlaceMark n x bs
unfolding is_mark place_of name_in image_in
place_mark n x bs small a b =
    let k = place_bytes - (name_bytes + length bs) in
    let zs : List ℕ = replicate k 0 in
    let l = length_name x a in
    let fit = image_fits n bs small b in
    let name : take name_bytes (x ++ (bs ++ zs)) ≡ x = take_at x (bs ++ zs) name_bytes l in
    let rest : drop name_bytes (x ++ (bs ++ zs)) ≡ bs ++ zs = drop_at x (bs ++ zs) name_bytes l in
    let size : length bs ≡ image_size n (bs ++ zs) = length_is_image n bs b ∙ sym (image_size_append n bs zs fit.0) in
    let image : take (image_size n (bs ++ zs)) (bs ++ zs) ≡ bs = take_at bs zs (image_size n (bs ++ zs)) size in
    let tail : drop (image_size n (bs ++ zs)) (bs ++ zs) ≡ zs = drop_at bs zs (image_size n (bs ++ zs)) size in
    record {
      long = omega (arith, length-append x (bs ++ zs), length-append bs zs, l, fit.1, length-replicate {A = ℕ} k 0);
      good = rw (rest, name, image, tail, a, b) (replicate_zeros k);
      name = name;
      image = rw rest image;
    }

-- a mark is the place of its name and its image
pub mark_place : (n : ℕ) (p : List ℕ) → length p ≡ place_bytes → is_mark n p ≡ true
    → (is_name (name_in p) ≡ true) × (is_image n (image_in n p) ≡ true) × (p ≡ place_of (name_in p) (image_in n p))
unfolding is_mark place_of name_in image_in
mark_place n p l h =
    let rest = drop name_bytes p in
    let s = image_size n rest in
    let bs = take s rest in
    let zs = drop s rest in
    let i = is_image n bs in
    let k = and_right (is_name (take name_bytes p)) (i && is_zeros zs) h in
    let z = zeros_replicate zs (and_right i (is_zeros zs) k) in
    let parts : rest ≡ bs ++ zs = sym (take-append-drop s rest) in
    let e : length zs ≡ place_bytes - (name_bytes + length bs) = omega (arith, length-drop name_bytes p, length-append bs zs, ap length parts) in (
      and_left (is_name (take name_bytes p)) (i && is_zeros zs) h,
      and_left i (is_zeros zs) k,
      sym (take-append-drop name_bytes p) ∙ ap (λ (xs : List ℕ). take name_bytes p ++ xs)
          (parts ∙ ap (λ (xs : List ℕ). bs ++ xs) (z ∙ ap (λ (j : ℕ). replicate j 0) e)),
    )
