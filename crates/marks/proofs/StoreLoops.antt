-- Laws of one step of each loop over the store.
use Rattle.std.specs.Prelude.{◌≡◌, ◌&&◌, ◌∷◌, ◌+◌, ◌*◌, ◌-◌, ◌≤◌, ◌<◌}
use Rattle.lists.specs.{Kit.{refl, sym, ap, ap₂, ◌∙◌, Bool, true, false, cond, List, [], ℕ, zero, suc, arith, length}}
use Rattle.lists.specs.{Kit.{take, drop, drop_of_length-le, drop-cons, drop-drop, eqb-true}, Lists.{same}}
use Rattle.mesh.{specs.Limits.{size_good}, specs.Marks.{name_bytes, place_bytes, places, store_bytes, before, is_name, is_zeros, name_in, is_mark, places_of}}
use Rattle.mesh.{specs.Marks.{used, marks_in, are_marks, is_store, place_at, name_at}, specs.MarkPlaces.{rank, heads}, proofs.Marks.Rules.{mark_at}}
use Rattle.mesh.{proofs.Marks.Rules.{name_of_place}}
use Rattle.calls.{specs.Questions.{ask, Lengths, site_refusal}, specs.Marks.{store_length, marks_good, mark_refusal}, proofs.QuestionLaws.{true_size_good}}
use Rattle.calls.{proofs.ChainLaws.{SiteGood, site_zero, site_yes, site_stops}}
use Rattle.marks.specs.Store.{last_name, Counted, Located}
use Rattle.marks.proofs.Left.{rest_part}
use Rattle.std.specs.Prelude.{◌⊎◌, ◌↔◌, IsTrue}
use Rattle.lists.{specs.Kit.{subst, inl, inr}, proofs.All.{same_refl, same_eq}, proofs.Tests.{bool_cases, never}}

-- ---- counting used places

pub record Counting (bs : List ℕ) (i : ℕ) : Type 0 where
  pub low : i ≤ places
  pub left : length (marks_in bs) ≡ i + length (used (places_of (places - i) (drop (place_bytes * i) bs)))

pub counting_none : (bs : List ℕ) → Counting bs 0
unfolding marks_in
counting_none bs = record { low = omega arith; left = sym (zero_plus (length (used (places_of places bs)))) }
  where
    zero_plus : (x : ℕ) → 0 + x ≡ x
    zero_plus x = omega arith

part_is : (bs : List ℕ) (i : ℕ) → take (place_bytes * i + place_bytes - place_bytes * i) (drop (place_bytes * i) bs) ≡ place_at bs i
unfolding place_at
part_is bs i =
    let e : place_bytes * i + place_bytes - place_bytes * i ≡ place_bytes = omega arith in
    ap (λ (k : ℕ). take k (drop (place_bytes * i) bs)) e

-- the places from i on
from_place : (bs : List ℕ) (i : ℕ) → i < places → places_of (places - i) (drop (place_bytes * i) bs) ≡ place_at bs i ∷ places_of (places - (i + 1))
    (drop (place_bytes * (i + 1)) bs)
unfolding places_of place_at
from_place bs i l =
    let e : places - i ≡ suc (places - (i + 1)) = omega arith in
    let f : place_bytes * i + place_bytes ≡ place_bytes * (i + 1) = omega arith in
    ap (λ (k : ℕ). places_of k (drop (place_bytes * i) bs)) e
    ∙ ap {B = List (List ℕ)} (λ (xs : List ℕ). place_at bs i ∷ places_of (places - (i + 1)) xs)
    (drop-drop place_bytes (place_bytes * i) bs ∙ ap (λ (k : ℕ). drop k bs) f)

used_more : (p : List ℕ) (ps : List (List ℕ)) → is_zeros p ≡ false → used (p ∷ ps) ≡ p ∷ used ps
unfolding used
used_more p ps h = rw h

used_none : (p : List ℕ) (ps : List (List ℕ)) → is_zeros p ≡ true → used (p ∷ ps) ≡ []
unfolding used
used_none p ps h = rw h

pub counting_turn : (bs : List ℕ) (i : ℕ) (r : Bool) → Counting bs i → i < places
    → r ≡ is_zeros (take (place_bytes * i + place_bytes - place_bytes * i) (drop (place_bytes * i) bs)) → r ≡ false → Counting bs (i + 1)
unfolding is_zeros
counting_turn bs i r c l e h =
    let z : is_zeros (place_at bs i) ≡ false = ap is_zeros (sym (part_is bs i)) ∙ sym e ∙ h in
    let rest = places_of (places - (i + 1)) (drop (place_bytes * (i + 1)) bs) in
    let m = ap used (from_place bs i l) ∙ used_more (place_at bs i) rest z in
    record { low = omega arith; left = c.left ∙ ap (λ (ps : List (List ℕ)). i + length ps) m ∙ shift (length (used rest)) }
  where
    shift : (x : ℕ) → i + suc x ≡ i + 1 + x
    shift x = omega arith

pub counting_stop : (bs : List ℕ) (i : ℕ) (r : Bool) → Counting bs i → i < places
    → r ≡ is_zeros (take (place_bytes * i + place_bytes - place_bytes * i) (drop (place_bytes * i) bs)) → r ≡ true → i ≡ length (marks_in bs)
unfolding is_zeros
counting_stop bs i r c l e h =
    let z : is_zeros (place_at bs i) ≡ true = ap is_zeros (sym (part_is bs i)) ∙ sym e ∙ h in
    let m = ap length (ap used (from_place bs i l) ∙ used_none (place_at bs i) (places_of (places - (i + 1)) (drop (place_bytes * (i + 1)) bs)) z) in
    omega (arith, c.left, m)

pub counting_end : (bs : List ℕ) (i : ℕ) → Counting bs i → places ≤ i → places ≡ length (marks_in bs)
unfolding used places_of
counting_end bs i c l =
    let low = c.low in
    let e : i ≡ places = omega arith in
    let m : length (used (places_of (places - i) (drop (place_bytes * i) bs))) ≡ 0 = rw e in
    omega (arith, c.left)

-- ---- testing used places

pub record TestingMarks (n : ℕ) (bs : List ℕ) (i : ℕ) : Type 0 where
  pub low : i ≤ length (marks_in bs)
  pub left : are_marks n [] (marks_in bs) ≡ are_marks n (last_name bs i) (drop i (marks_in bs))

pub testing_none : (n : ℕ) (bs : List ℕ) → TestingMarks n bs 0
unfolding last_name
testing_none n bs = record { low = omega arith; left = refl }

marks_step : (n : ℕ) (bs : List ℕ) (i : ℕ) → i < length (marks_in bs)
    → are_marks n (last_name bs i) (drop i (marks_in bs)) ≡
    (is_mark n (place_at bs i) && (before (last_name bs i) (name_at bs i) && are_marks n (last_name bs (i + 1)) (drop (i + 1) (marks_in bs))))
unfolding are_marks last_name
marks_step n bs i l =
    let e : suc i ≡ i + 1 = omega arith in
    ap (are_marks n (last_name bs i)) (drop-cons (marks_in bs) i [] l)
    ∙ ap₂ {C = Bool} (λ (p x : List ℕ). is_mark n p && (before (last_name bs i) x && are_marks n x (drop (suc i) (marks_in bs)))) (mark_at bs i l)
    (ap name_in (mark_at bs i l) ∙ name_of_place bs i)
    ∙ ap (λ (k : ℕ). is_mark n (place_at bs i) && (before (last_name bs i) (name_at bs i) && are_marks n (last_name bs k) (drop k (marks_in bs)))) e

-- ---- names in turn

rising_parts : (bs : List ℕ) (i : ℕ) → take (place_bytes * i + name_bytes - place_bytes * i) (drop (place_bytes * i) bs) ≡ name_at bs i
unfolding name_at
rising_parts bs i =
    let e : place_bytes * i + name_bytes - place_bytes * i ≡ name_bytes = omega arith in ap (λ (k : ℕ). take k (drop (place_bytes * i) bs)) e

pub rising_first : (bs : List ℕ) (i : ℕ) (r : Bool) → i ≡ 0 → r ≡ before (take (0 - 0) (drop 0 bs))
    (take (place_bytes * i + name_bytes - place_bytes * i) (drop (place_bytes * i) bs))
    → r ≡ before (last_name bs i) (name_at bs i)
unfolding last_name
rising_first bs i r z e =
    e ∙ ap₂ before (ap (λ (j : ℕ). last_name bs j) (sym z)) (rising_parts bs i)

pub rising_next : (bs : List ℕ) (i : ℕ) (r : Bool) → (i ≡ 0 → ⊥)
    → r ≡ before (take (place_bytes * i - place_bytes + name_bytes - (place_bytes * i - place_bytes)) (drop (place_bytes * i - place_bytes) bs))
    (take (place_bytes * i + name_bytes - place_bytes * i) (drop (place_bytes * i) bs)) → r ≡ before (last_name bs i) (name_at bs i)
unfolding last_name
rising_next bs zero r z e = absurd (z refl)
rising_next bs (suc j) r z e =
    let f : place_bytes * suc j - place_bytes ≡ place_bytes * j = omega arith in
    e ∙ ap₂ before (ap (λ (k : ℕ). take (k + name_bytes - k) (drop k bs)) f ∙ rising_parts bs j) (rising_parts bs (suc j))

-- ---- the whole store

module _ (n : ℕ) (bs : List ℕ) (i : ℕ) (t : TestingMarks n bs i) (l : i < length (marks_in bs)) (r : Bool)
    (r_is : r ≡ is_mark n (take (place_bytes * i + place_bytes - place_bytes * i) (drop (place_bytes * i) bs))) where
  mark_is : is_mark n (place_at bs i) ≡ r
  mark_is = ap (is_mark n) (sym (part_is bs i)) ∙ sym r_is

  abbrev tail : Bool
  tail = are_marks n (last_name bs (i + 1)) (drop (i + 1) (marks_in bs))

  pub store_not_mark : r ≡ false → is_store n bs ≡ false
  unfolding is_store
  store_not_mark h =
      ap (λ (b : Bool). b && is_zeros (drop (place_bytes * length (marks_in bs)) bs))
      (t.left ∙ marks_step n bs i l ∙ ap (λ (b : Bool). b && (before (last_name bs i) (name_at bs i) && tail)) (mark_is ∙ h))

  pub store_not_rising : r ≡ true → (s : Bool) → s ≡ before (last_name bs i) (name_at bs i) → s ≡ false → is_store n bs ≡ false
  unfolding is_store
  store_not_rising h s e k =
      ap (λ (b : Bool). b && is_zeros (drop (place_bytes * length (marks_in bs)) bs))
      (t.left ∙ marks_step n bs i l ∙ ap₂ {C = Bool} (λ b d. b && (d && tail)) (mark_is ∙ h) (sym e ∙ k))

  pub testing_turn : r ≡ true → (s : Bool) → s ≡ before (last_name bs i) (name_at bs i) → s ≡ true → TestingMarks n bs (i + 1)
  testing_turn h s e k = record {
    low = omega arith;
    left = t.left ∙ marks_step n bs i l ∙ ap₂ {C = Bool} (λ b d. b && (d && tail)) (mark_is ∙ h) (sym e ∙ k);
  }

pub store_tested : (n : ℕ) (bs : List ℕ) (i k : ℕ) (z : Bool) → TestingMarks n bs i → k ≤ i → k ≡ length (marks_in bs)
    → z ≡ is_zeros (take (length bs - place_bytes * k) (drop (place_bytes * k) bs)) → z ≡ is_store n bs
unfolding is_store are_marks is_zeros
store_tested n bs i k z t l e f =
    let low : length (marks_in bs) ≤ i = omega arith in
    let all_tested : are_marks n [] (marks_in bs) ≡ true = t.left ∙ ap (are_marks n (last_name bs i)) (drop_of_length-le (marks_in bs) low) in
    f ∙ ap is_zeros (rest_part bs (place_bytes * k))
    ∙ ap (λ (j : ℕ). is_zeros (drop (place_bytes * j) bs)) e
    ∙ sym (ap (λ (b : Bool). b && is_zeros (drop (place_bytes * length (marks_in bs)) bs)) all_tested)

-- ---- where a name stands

-- the used places from i on
from_mark : (bs : List ℕ) (i : ℕ) → i < length (marks_in bs) → drop i (marks_in bs) ≡ place_at bs i ∷ drop (i + 1) (marks_in bs)
from_mark bs i l =
    let e : suc i ≡ i + 1 = omega arith in
    drop-cons (marks_in bs) i [] l ∙ ap₂ {C = List (List ℕ)} (λ p k. p ∷ drop k (marks_in bs)) (mark_at bs i l) e

pub record Ranking (bs x : List ℕ) (i : ℕ) : Type 0 where
  pub low : i ≤ length (marks_in bs)
  pub left : rank x (marks_in bs) ≡ i + rank x (drop i (marks_in bs))

module _ (bs x : List ℕ) (i : ℕ) (f : Ranking bs x i) (l : i < length (marks_in bs)) (r : Bool)
    (r_is : r ≡ before (take (place_bytes * i + name_bytes - place_bytes * i) (drop (place_bytes * i) bs)) x) where
  name_is : before (name_in (place_at bs i)) x ≡ r
  name_is = ap (λ (y : List ℕ). before y x) (name_of_place bs i ∙ sym (rising_parts bs i)) ∙ sym r_is

  rank_from : rank x (drop i (marks_in bs)) ≡ cond r (suc (rank x (drop (i + 1) (marks_in bs)))) 0
  unfolding rank
  rank_from = ap (rank x) (from_mark bs i l) ∙ ap (λ (t : Bool). cond t (suc (rank x (drop (i + 1) (marks_in bs)))) 0) name_is

  pub ranking_turn : r ≡ true → Ranking bs x (i + 1)
  ranking_turn h =
      let e : rank x (drop i (marks_in bs)) ≡ suc (rank x (drop (i + 1) (marks_in bs))) = rank_from ∙ ap
      (λ (t : Bool). cond t (suc (rank x (drop (i + 1) (marks_in bs)))) 0) h in
      record { low = omega arith; left = omega (arith, f.left, e) }

  pub ranking_stop : r ≡ false → i ≡ rank x (marks_in bs)
  ranking_stop h =
      let e : rank x (drop i (marks_in bs)) ≡ 0 = rank_from ∙ ap (λ (t : Bool). cond t (suc (rank x (drop (i + 1) (marks_in bs)))) 0) h in
      omega (arith, f.left, e)

pub ranking_end : (bs x : List ℕ) (i k : ℕ) → Ranking bs x i → k ≡ length (marks_in bs) → k ≤ i → k ≡ rank x (marks_in bs)
unfolding rank
ranking_end bs x i k f e l =
    let low : length (marks_in bs) ≤ i = omega arith in
    let z : rank x (drop i (marks_in bs)) ≡ 0 = ap (rank x) (drop_of_length-le (marks_in bs) low) in
    omega (arith, f.left, f.low, z)

-- ---- the spot of a name

-- whether two lists are the same, by a test that says whether they are equal
same_is : (t : Bool) (xs ys : List ℕ) → IsTrue t ↔ (xs ≡ ys) → t ≡ same xs ys
same_is true xs ys e = sym (subst (λ (zs : List ℕ). same xs zs ≡ true) (e.0 refl) (same_refl xs))
same_is false xs ys e = go (bool_cases (same xs ys))
  where
    go : (same xs ys ≡ true) ⊎ (same xs ys ≡ false) → false ≡ same xs ys
    go (inl q) = never false (e.1 (same_eq xs ys q)) refl
    go (inr q) = sym q

module _ (bs x : List ℕ) (k r : ℕ) (count : Counted bs k) (r_is : r ≡ rank x (marks_in bs)) (low : r ≤ k) where
  located : (t : Bool) → (t ≡ true → r < k) → t ≡ heads x (drop r (marks_in bs)) → Located bs x k r t
  located t less e = record {
    long = count.long;
    few = count.few;
    low = low;
    less = less;
    counted = count.counted;
    ranked = r_is;
    found = e ∙ ap (λ (j : ℕ). heads x (drop j (marks_in bs))) r_is;
  }

  pub located_end : r ≡ k → Located bs x k r false
  unfolding heads
  located_end h =
      let l : length (marks_in bs) ≤ r = omega (arith, count.counted) in
      located false (λ no. never true refl (sym no)) (sym (ap (heads x) (drop_of_length-le (marks_in bs) l)))

  pub located_at : (t : Bool) → IsTrue t ↔ (take (place_bytes * r + name_bytes - place_bytes * r) (drop (place_bytes * r) bs) ≡ x) → (r ≡ k → ⊥)
      → Located bs x k r t
  unfolding heads
  located_at t e h =
      located t (λ yes. omega (arith, low, h))
      (same_is t (take (place_bytes * r + name_bytes - place_bytes * r) (drop (place_bytes * r) bs)) x e
      ∙ ap (λ (y : List ℕ). same y x) (rising_parts bs r ∙ sym (name_of_place bs r))
      ∙ sym (ap (heads x) (from_mark bs r (omega (arith, low, h, count.counted)))))

-- ---- questions 1, 2, 3 and 17

pub refused_site : (n : ℕ) (l : Lengths) (sound : Bool) (x bs : List ℕ) (q : ℕ) → q ≡ site_refusal n l (store_length bs) sound 0 → (q ≡ 0 → ⊥)
    → q ≡ mark_refusal n l sound x bs 0
unfolding mark_refusal
refused_site n l sound x bs q e h = e ∙ sym (site_stops n l (store_length bs) sound (ask 17 (marks_good n x bs) 0) (λ z. h (e ∙ z)))

module _ (n : ℕ) (l : Lengths) (sound : Bool) (x bs : List ℕ) (e : 0 ≡ site_refusal n l (store_length bs) sound 0) where
  pub site_is_good : SiteGood n l (store_length bs) sound
  site_is_good = (site_zero n l (store_length bs) sound 0 (sym e)).0

  -- 17
  asked_17 : (t : Bool) → marks_good n x bs ≡ t → ask 17 t 0 ≡ mark_refusal n l sound x bs 0
  unfolding mark_refusal
  asked_17 t f = sym (ap (λ (b : Bool). ask 17 b 0) f) ∙ sym (site_yes n l (store_length bs) sound (ask 17 (marks_good n x bs) 0) site_is_good)

  pub not_store : is_store n bs ≡ false → 17 ≡ mark_refusal n l sound x bs 0
  unfolding marks_good ask
  not_store f = asked_17 false (ap (λ (b : Bool). b && is_name x) f)

  pub not_named : is_store n bs ≡ true → is_name x ≡ false → 17 ≡ mark_refusal n l sound x bs 0
  unfolding marks_good ask
  not_named f g = asked_17 false (ap₂ {C = Bool} (λ b d. b && d) f g)

  pub all_good : is_store n bs ≡ true → is_name x ≡ true → 0 ≡ mark_refusal n l sound x bs 0
  unfolding marks_good ask
  all_good f g = asked_17 true (ap₂ {C = Bool} (λ b d. b && d) f g)

pub good_size : (n : ℕ) (l : Lengths) (others sound : Bool) → SiteGood n l others sound → size_good n ≡ true
good_size n l others sound g = true_size_good n g.lent.least g.lent.most

pub good_length : (n : ℕ) (l : Lengths) (sound : Bool) (bs : List ℕ) → SiteGood n l (store_length bs) sound → length bs ≡ store_bytes
unfolding store_length
good_length n l sound bs g = eqb-true (length bs) store_bytes g.lent.further
