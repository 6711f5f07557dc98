-- Bytes being moved by one place: laws of one step of both loops.
--   up_none, up_turn       from the last byte on: the bytes from i on are moved
--   down_none, down_turn   from the first byte on: the bytes before i are moved
use Rattle.std.specs.Prelude.{◌≡◌, ◌∷◌, ◌++◌, ◌+◌, ◌-◌, ◌≤◌, ◌<◌}
use Rattle.lists.specs.Kit.{refl, sym, ap, ap₂, subst, ◌∙◌, List, [], append_assoc, ℕ, zero, suc, arith, length, get_or, take}
use Rattle.lists.specs.Kit.{drop, set, length-append, length-drop, length-set, take-append-drop, take-suc, drop-cons, length-take-le, get_or-drop, set_at, paste}
use Rattle.lists.specs.Kit.{paste-suc, get_or-append-add}
use Rattle.mesh.specs.{Marks.{place_bytes}, MarkPlaces.{moved_up, moved_down}}

-- ---- up

pub length_moved_up : (bs : List ℕ) (i to : ℕ) → i ≤ to → to + place_bytes ≤ length bs → length (moved_up bs i to) ≡ length bs
unfolding moved_up
length_moved_up bs i to l h =
    let part = take (to - i) (drop i bs) in
    let rest = drop (to + place_bytes) bs in
    omega (
      arith,
      length-append (take (i + place_bytes) bs) (part ++ rest),
      length-append part rest,
      length-take-le (i + place_bytes) bs (omega arith),
      length-take-le (to - i) (drop i bs) (omega (arith, length-drop i bs)),
      length-drop (to + place_bytes) bs,
    )

pub up_none : (bs : List ℕ) (to : ℕ) → bs ≡ moved_up bs to to
unfolding moved_up
up_none bs to =
    let e : 0 ≡ to - to = omega arith in
    sym (take-append-drop (to + place_bytes) bs) ∙ ap (λ (k : ℕ). take (to + place_bytes) bs ++ (take k (drop to bs) ++ drop (to + place_bytes) bs)) e

pub up_turn : (bs now : List ℕ) (i to : ℕ) → suc i ≤ to → to + place_bytes ≤ length bs → now ≡ moved_up bs (suc i) to → set now (i + place_bytes) (get_or now i 0)
    ≡ moved_up bs i to
unfolding moved_up
up_turn bs now i to l h e =
    let rest = take (to - suc i) (drop (suc i) bs) ++ drop (to + place_bytes) bs in
    let front = take (i + place_bytes) bs in
    let x = get_or bs (i + place_bytes) 0 in
    let s : suc i + place_bytes ≡ suc (i + place_bytes) = omega arith in
    let f : now ≡ front ++ (x ∷ rest) =
    e ∙ ap (λ (k : ℕ). take k bs ++ rest) s ∙ ap (λ (ys : List ℕ). ys ++ rest) (take-suc bs (i + place_bytes) 0 (omega arith)) ∙ append_assoc front (x ∷ [])
    rest in
    let v : get_or now i 0 ≡ get_or bs i 0 =
    ap (λ (ys : List ℕ). get_or ys i 0) (e ∙ ap (λ (k : ℕ). take k bs ++ rest) s)
    ∙ get_d_front i (suc (i + place_bytes)) bs rest (omega arith) (omega arith) in
    let d : to - i ≡ suc (to - suc i) = omega arith in
    ap₂ {C = List ℕ} (λ ys y. set ys (i + place_bytes) y) f v
    ∙ set_at front x rest (get_or bs i 0) (i + place_bytes) (length-take-le (i + place_bytes) bs (omega arith))
    ∙ ap (λ (ys : List ℕ). front ++ (ys ++ drop (to + place_bytes) bs))
    (sym (ap₂ {C = List ℕ} (λ k ys. take k ys) d (drop-cons bs i 0 (omega arith))))
  where
    get_d_front : (j k : ℕ) (xs ys : List ℕ) → j < k → j < length xs → get_or (take k xs ++ ys) j 0 ≡ get_or xs j 0
    get_d_front j zero xs ys p q = absurd (omega arith)
    get_d_front j (suc k) [] ys p q = absurd (omega arith)
    get_d_front zero (suc k) (z ∷ xs) ys p q = refl
    get_d_front (suc j) (suc k) (z ∷ xs) ys p q = get_d_front j k xs ys (omega arith) (omega arith)

-- ---- down

-- moving down is pasting what stands one place higher
down_is : (bs : List ℕ) (from to : ℕ) → place_bytes ≤ from → from ≤ to → moved_down bs from to ≡ paste bs (from - place_bytes) (drop from bs) (to - from)
unfolding moved_down
down_is bs from to l h =
    let e : to - place_bytes ≡ from - place_bytes + (to - from) = omega arith in
    ap (λ (k : ℕ). take (from - place_bytes) bs ++ (take (to - from) (drop from bs) ++ drop k bs)) e
    ∙ sym (append_assoc (take (from - place_bytes) bs) (take (to - from) (drop from bs)) (drop (from - place_bytes + (to - from)) bs))

pub length_moved_down : (bs : List ℕ) (from to : ℕ) → place_bytes ≤ from → from ≤ to → to ≤ length bs → length (moved_down bs from to) ≡ length bs
unfolding moved_down
length_moved_down bs from to l h m =
    let part = take (to - from) (drop from bs) in
    let rest = drop (to - place_bytes) bs in
    omega (
      arith,
      length-append (take (from - place_bytes) bs) (part ++ rest),
      length-append part rest,
      length-take-le (from - place_bytes) bs (omega arith),
      length-take-le (to - from) (drop from bs) (omega (arith, length-drop from bs)),
      length-drop (to - place_bytes) bs,
    )

pub down_none : (bs : List ℕ) (from : ℕ) → place_bytes ≤ from → bs ≡ moved_down bs from from
unfolding moved_down
down_none bs from l =
    let e : 0 ≡ from - from = omega arith in
    sym (take-append-drop (from - place_bytes) bs)
    ∙ ap (λ (k : ℕ). take (from - place_bytes) bs ++ (take k (drop from bs) ++ drop (from - place_bytes) bs)) e

-- what is read stands at or above what is written, so it is as it was
read_above : (bs : List ℕ) (from i : ℕ) → place_bytes ≤ from → from ≤ i → i < length bs → get_or (moved_down bs from i) i 0 ≡ get_or bs i 0
unfolding moved_down
read_above bs from i l h m =
    let front = take (from - place_bytes) bs in
    let part = take (i - from) (drop from bs) in
    let rest = drop (i - place_bytes) bs in
    let long : length (front ++ part) ≡ i - place_bytes =
    omega (
      arith,
      length-append front part,
      length-take-le (from - place_bytes) bs (omega arith),
      length-take-le (i - from) (drop from bs) (omega (arith, length-drop from bs)),
    ) in
    let e : i ≡ length (front ++ part) + place_bytes = omega arith in
    let d : i - place_bytes + place_bytes ≡ i = omega arith in
    ap (λ (ys : List ℕ). get_or ys i 0) (sym (append_assoc front part rest)) ∙ ap (λ (k : ℕ). get_or ((front ++ part) ++ rest) k 0) e
    ∙ get_or-append-add (front ++ part) rest place_bytes 0 ∙ get_or-drop (i - place_bytes) bs place_bytes 0 ∙ ap (λ (k : ℕ). get_or bs k 0) d

pub down_turn : (bs now : List ℕ) (from i : ℕ) → place_bytes ≤ from → from ≤ i → i < length bs → now ≡ moved_down bs from i →
    set now (i - place_bytes) (get_or now i 0) ≡ moved_down bs from (i + 1)
down_turn bs now from i l h m e =
    let a = from - place_bytes in
    let j = i - from in
    let v : get_or now i 0 ≡ get_or (drop from bs) j 0 =
    let k : i ≡ from + j = omega arith in
    ap (λ (ys : List ℕ). get_or ys i 0) e ∙ read_above bs from i l h m ∙ ap (λ (z : ℕ). get_or bs z 0) k ∙ sym (get_or-drop from bs j 0) in
    let w : i - place_bytes ≡ a + j = omega arith in
    let s : suc j ≡ i + 1 - from = omega arith in
    ap₂ {C = List ℕ} (λ k y. set now k y) w v ∙ ap (λ (ys : List ℕ). set ys (a + j) (get_or (drop from bs) j 0)) (e ∙ down_is bs from i l h)
    ∙ paste-suc bs a (drop from bs) j 0 (omega arith) (omega (arith, length-drop from bs)) ∙ ap (paste bs a (drop from bs)) s
    ∙ sym (down_is bs from (i + 1) l (omega arith))

-- ---- invariants

pub record MovingUp (bs now : List ℕ) (from to i : ℕ) : Type 0 where
  pub low : from ≤ i
  pub high : i ≤ to
  pub long : length now ≡ length bs
  pub is : now ≡ moved_up bs i to

pub moving_up_turn : (bs now : List ℕ) (from to i : ℕ) → to + place_bytes ≤ length bs → MovingUp bs now from to i → from < i →
    MovingUp bs (set now (i - 1 + place_bytes) (get_or now (i - 1) 0)) from to (i - 1)
moving_up_turn bs now from to zero h m l = absurd (omega arith)
moving_up_turn bs now from to (suc j) h m l =
    let e : j ≡ suc j - 1 = omega arith in
    subst (λ (k : ℕ). MovingUp bs (set now (k + place_bytes) (get_or now k 0)) from to k) e
    (record {
      low = omega arith;
      high = omega (arith, m.high);
      long = simp length-set m.long;
      is = up_turn bs now j to m.high h m.is;
    })

pub record MovingDown (bs now : List ℕ) (from to i : ℕ) : Type 0 where
  pub low : from ≤ i
  pub high : i ≤ to
  pub long : length now ≡ length bs
  pub is : now ≡ moved_down bs from i

pub moving_down_turn : (bs now : List ℕ) (from to i : ℕ) → place_bytes ≤ from → to ≤ length bs → MovingDown bs now from to i → i < to →
    MovingDown bs (set now (i - place_bytes) (get_or now i 0)) from to (i + 1)
moving_down_turn bs now from to i p h m l = record {
  low = omega (arith, m.low);
  high = omega arith;
  long = simp length-set m.long;
  is = down_turn bs now from i p m.low (omega arith) m.is;
}
