-- `is_store` decides W-211's rules place by place.
--   mark_at           mark i is place i
--   store_good_iff    a store of full length is good exactly if it keeps the rules
use Rattle.std.specs.Prelude.{◌≡◌, ◌∷◌, ◌++◌, ◌+◌, ◌*◌, ◌-◌, ◌≤◌, ◌<◌}
use Rattle.lists.{specs.Kit.{refl, sym, ap, ap₂, ◌∙◌, Bool, true, false, cond, List, [], ℕ, zero, suc, arith, eqb}}
use Rattle.lists.{specs.Kit.{length, get_or, take, drop, drop_of_length-le, take-append-drop, drop-drop, take-take}, specs.Lists.{all}, proofs.Tests.{and_left}}
use Rattle.lists.{proofs.Tests.{and_right, and_both, never}}
use Rattle.mesh.specs.{Limits.{max_radios}, Marks.{name_bytes, place_bytes, places, store_bytes, before, is_name, is_zeros, name_in, image_in, is_mark}}
use Rattle.mesh.specs.{Marks.{places_of, used, marks_in, are_marks, is_store, place_at, name_at, StoreRules}}
use Rattle.mesh.proofs.Marks.{NameOrder.{before_trans}, Lists.{RisingMarks}, Ranks.{differ_before}, Laws.{zeros_take, mark_nonzero, store_marks}}
use Rattle.mesh.proofs.Marks.{Laws.{place_mark, mark_place}}

-- ---- place i

place_next : (bs : List ℕ) (j : ℕ) → place_at (drop place_bytes bs) j ≡ place_at bs (suc j)
unfolding place_at
place_next bs j =
    let e : place_bytes + place_bytes * j ≡ place_bytes * suc j = omega arith in
    ap (take place_bytes) (drop-drop (place_bytes * j) place_bytes bs ∙ ap (λ (x : ℕ). drop x bs) e)

place_first : (bs : List ℕ) → take place_bytes bs ≡ place_at bs 0
unfolding place_at
place_first bs = let e : 0 ≡ place_bytes * 0 = omega arith in ap (λ (x : ℕ). take place_bytes (drop x bs)) e

-- entry i of a list that is empty or begins with p
entry_of : (t : Bool) (p : List ℕ) (ps : List (List ℕ)) (f : ℕ → List ℕ) → p ≡ f 0 → ((i : ℕ) → i < length ps → get_or ps i [] ≡ f (suc i)) →
    (i : ℕ) → i < length (cond t [] (p ∷ ps)) → get_or (cond t [] (p ∷ ps)) i [] ≡ f i
entry_of true p ps f e r i l = absurd (omega arith)
entry_of false p ps f e r zero l = e
entry_of false p ps f e r (suc i) l = r i (omega arith)

-- place i of the used ones
used_get_d : (k : ℕ) (bs : List ℕ) (i : ℕ) → i < length (used (places_of k bs)) → get_or (used (places_of k bs)) i [] ≡ place_at bs i
unfolding used places_of
used_get_d zero bs i l = absurd (omega arith)
used_get_d (suc k) bs i l =
    entry_of (is_zeros (take place_bytes bs)) (take place_bytes bs) (used (places_of k (drop place_bytes bs))) (place_at bs) (place_first bs)
    (λ j h. used_get_d k (drop place_bytes bs) j h ∙ place_next bs j) i l

pub mark_at : (bs : List ℕ) (i : ℕ) → i < length (marks_in bs) → get_or (marks_in bs) i [] ≡ place_at bs i
unfolding marks_in
mark_at bs i l = used_get_d places bs i l

pub name_of_place : (bs : List ℕ) (i : ℕ) → name_in (place_at bs i) ≡ name_at bs i
unfolding name_in place_at name_at
name_of_place bs i = take-take name_bytes place_bytes (drop (place_bytes * i) bs) (omega arith)

-- ---- places in rising order, one by one

rising_from : (n : ℕ) (x : List ℕ) (ps : List (List ℕ)) → RisingMarks n x ps → (i : ℕ) → i < length ps → before x (name_in (get_or ps i [])) ≡ true
rising_from n x [] r i l = absurd (omega arith)
rising_from n x (p ∷ ps) r zero l = r.2
rising_from n x (p ∷ ps) r (suc i) l = before_trans x (name_in p) (name_in (get_or ps i [])) r.2 (rising_from n (name_in p) ps r.3 i (omega arith))

rising_pair : (n : ℕ) (x : List ℕ) (ps : List (List ℕ)) → RisingMarks n x ps → (i j : ℕ) → i < j → j < length ps →
    before (name_in (get_or ps i [])) (name_in (get_or ps j [])) ≡ true
rising_pair n x [] r i j h l = absurd (omega arith)
rising_pair n x (p ∷ ps) r i zero h l = absurd (omega arith)
rising_pair n x (p ∷ ps) r zero (suc j) h l = rising_from n (name_in p) ps r.3 j (omega arith)
rising_pair n x (p ∷ ps) r (suc i) (suc j) h l = rising_pair n (name_in p) ps r.3 i j (omega arith) (omega arith)

rising_mark : (n : ℕ) (x : List ℕ) (ps : List (List ℕ)) → RisingMarks n x ps → (i : ℕ) → i < length ps →
    (length (get_or ps i []) ≡ place_bytes) × (is_mark n (get_or ps i []) ≡ true)
rising_mark n x [] r i l = absurd (omega arith)
rising_mark n x (p ∷ ps) r zero l = (r.0, r.1)
rising_mark n x (p ∷ ps) r (suc i) l = rising_mark n (name_in p) ps r.3 i (omega arith)

marks_one_by_one : (n : ℕ) (x : List ℕ) (ps : List (List ℕ)) → ((i : ℕ) → i < length ps → is_mark n (get_or ps i []) ≡ true) →
    (0 < length ps → before x (name_in (get_or ps 0 [])) ≡ true) →
    ((i : ℕ) → suc i < length ps → before (name_in (get_or ps i [])) (name_in (get_or ps (suc i) [])) ≡ true) →
    are_marks n x ps ≡ true
unfolding are_marks
marks_one_by_one n x [] m f r = refl
marks_one_by_one n x (p ∷ ps) m f r =
    rw (m 0 (omega arith), f (omega arith))
    (marks_one_by_one n (name_in p) ps (λ i l. m (suc i) (omega arith)) (λ l. r 0 (omega arith)) (λ i l. r (suc i) (omega arith)))

-- ---- zeros

zeros_drop : (k : ℕ) (bs : List ℕ) → is_zeros bs ≡ true → is_zeros (drop k bs) ≡ true
unfolding is_zeros all
zeros_drop zero bs h = h
zeros_drop (suc k) [] h = refl
zeros_drop (suc k) (b ∷ bs) h = zeros_drop k bs (and_right (eqb b 0) (is_zeros bs) h)

zeros_append : (bs cs : List ℕ) → is_zeros bs ≡ true → is_zeros cs ≡ true → is_zeros (bs ++ cs) ≡ true
unfolding is_zeros all
zeros_append [] cs h k = k
zeros_append (b ∷ bs) cs h k =
    and_both (eqb b 0) (is_zeros (bs ++ cs)) (and_left (eqb b 0) (is_zeros bs) h) (zeros_append bs cs (and_right (eqb b 0) (is_zeros bs) h) k)

-- the last d places are unused
zeros_from : (bs : List ℕ) → length bs ≡ store_bytes → (d i : ℕ) → i + d ≡ places → ((j : ℕ) → i ≤ j → j < places → is_zeros (place_at bs j) ≡ true) →
    is_zeros (drop (place_bytes * i) bs) ≡ true
unfolding is_zeros all place_at
zeros_from bs len zero i e z = let l : length bs ≤ place_bytes * i = omega arith in ap is_zeros (drop_of_length-le bs l)
zeros_from bs len (suc d) i e z =
    let f : place_bytes * i + place_bytes ≡ place_bytes * suc i = omega arith in
    ap is_zeros (sym (take-append-drop place_bytes (drop (place_bytes * i) bs)))
    ∙ zeros_append (take place_bytes (drop (place_bytes * i) bs)) (drop place_bytes (drop (place_bytes * i) bs)) (place z)
    (ap is_zeros (drop-drop place_bytes (place_bytes * i) bs ∙ ap (λ (k : ℕ). drop k bs) f) ∙ zeros_from bs len d (suc i) (omega arith)
    (λ j l m. z j (omega arith) m))
  where
    place : ((j : ℕ) → i ≤ j → j < places → is_zeros (place_at bs j) ≡ true) → is_zeros (take place_bytes (drop (place_bytes * i) bs)) ≡ true
    place h = h i (omega arith) (omega arith)

-- u used places, and then an unused one
used_count : (k u : ℕ) (bs : List ℕ) → u ≤ k → ((i : ℕ) → i < u → is_zeros (place_at bs i) ≡ false) → (u < k → is_zeros (place_at bs u) ≡ true) →
    length (used (places_of k bs)) ≡ u
unfolding used places_of
used_count zero u bs l f z = omega arith
used_count (suc k) zero bs l f z = rw (place_first bs, z (omega arith))
used_count (suc k) (suc u) bs l f z =
    rw (place_first bs, f 0 (omega arith))
    (ap suc (used_count k u (drop place_bytes bs) (omega arith) (λ i h. ap is_zeros (place_next bs i) ∙ f (suc i) (omega arith))
    (λ h. ap is_zeros (place_next bs u) ∙ z (omega arith))))

-- ---- both ways

good_rules : (n : ℕ) (bs : List ℕ) → length bs ≡ store_bytes → is_store n bs ≡ true → StoreRules n bs
unfolding is_store place_at
good_rules n bs len h =
    let s = store_marks n bs len h in
    let ps = marks_in bs in
    let r = s.marks.rising in
    let z = and_right (are_marks n [] ps) (is_zeros (drop (place_bytes * length ps) bs)) h in
    let up : (i j : ℕ) → i < j → j < length ps → before (name_at bs i) (name_at bs j) ≡ true = λ i j l m.
    ap₂ before (sym (name i (omega arith))) (sym (name j m)) ∙ rising_pair n [] ps r i j l m in
    record {
      many = length ps;
      few = s.marks.few;
      mark = λ i l.
          let m = rising_mark n [] ps r i l in
          let e = mark_at bs i l in
          let k = mark_place n (place_at bs i) (rw e at m.0) (rw e at m.1) in
          record { name = name_in (place_at bs i); image = image_in n (place_at bs i); name_good = k.0; image_good = k.1; is = k.2 };
      rising = up;
      differ = λ i j l m. differ_before (name_at bs i) (name_at bs j) (up i j l m);
      unused = λ i l m. unused z i l;
    }
  where
    name : (i : ℕ) → i < length (marks_in bs) → name_in (get_or (marks_in bs) i []) ≡ name_at bs i
    name i l = ap name_in (mark_at bs i l) ∙ name_of_place bs i

    unused : is_zeros (drop (place_bytes * length (marks_in bs)) bs) ≡ true → (i : ℕ) → length (marks_in bs) ≤ i → is_zeros (place_at bs i) ≡ true
    unused z i l =
        let k = length (marks_in bs) in
        let e : place_bytes * k + place_bytes * (i - k) ≡ place_bytes * i = omega arith in
        zeros_take place_bytes (drop (place_bytes * i) bs)
        (ap is_zeros (sym (drop-drop (place_bytes * (i - k)) (place_bytes * k) bs ∙ ap (λ (j : ℕ). drop j bs) e))
        ∙ zeros_drop (place_bytes * (i - k)) (drop (place_bytes * k) bs) z)

-- a mark's name is not empty
named : (n : ℕ) (p : List ℕ) → is_mark n p ≡ true → before [] (name_in p) ≡ true
unfolding before is_mark is_name name_in
named n [] h = never false h refl
named n (c ∷ p) h = refl

rules_good : (n : ℕ) (bs : List ℕ) → n ≤ max_radios → length bs ≡ store_bytes → StoreRules n bs → is_store n bs ≡ true
unfolding is_store marks_in
rules_good n bs small len s =
    let u = s.many in
    let few = s.few in
    let ps = used (places_of places bs) in
    let c : length ps ≡ u = used_count places u bs few (λ i l. mark_nonzero n (place_at bs i) (good i l)) (λ l. s.unused u (omega arith) l) in
    let m : (i : ℕ) → i < length ps → get_or ps i [] ≡ place_at bs i = λ i l. mark_at bs i l in
    and_both (are_marks n [] ps) (is_zeros (drop (place_bytes * length ps) bs))
    (marks_one_by_one n [] ps (λ i l. ap (is_mark n) (m i l) ∙ good i (omega arith))
    (λ l. ap (λ (q : List ℕ). before [] (name_in q)) (m 0 l) ∙ named n (place_at bs 0) (good 0 (omega arith)))
    (λ i l. ap₂ before (ap name_in (m i (omega arith)) ∙ name_of_place bs i) (ap name_in (m (suc i) l) ∙ name_of_place bs (suc i)) ∙ s.rising i (suc i)
    (omega arith) (omega arith)))
    (rw c (zeros_from bs len (places - u) u (omega arith) (λ j l k. s.unused j l k)))
  where
    good : (i : ℕ) → i < s.many → is_mark n (place_at bs i) ≡ true
    good i l =
        let k = s.mark i l in
        ap (is_mark n) k.is ∙ (place_mark n k.name k.image small k.name_good k.image_good).good

-- a store of full length is good exactly if it keeps the rules
pub store_good_iff : (n : ℕ) (bs : List ℕ) → n ≤ max_radios → length bs ≡ store_bytes →
    ((is_store n bs ≡ true) → StoreRules n bs) × (StoreRules n bs → is_store n bs ≡ true)
store_good_iff n bs small len = (good_rules n bs len, rules_good n bs small len)
