-- Laws of stores: entries in front (`overwrite`), one after the other (`sets`), inside a table given by a rule.
use Rattle.std.specs.Prelude.{◌≡◌, ◌∷◌, ◌++◌, ◌+◌, ◌-◌, ◌<◌, ◌≤◌}
use Rattle.lists.specs.Kit.{refl, ap, ◌∙◌, sym, ap₂, cond, List, [], map, append-nil, append_assoc, ℕ, zero}
use Rattle.lists.specs.Kit.{suc, min, arith, zero-add, length, take, drop, set, drop_of_length-le, get_or, length-append, ⊎_elim}
use Rattle.lists.specs.Kit.{take-append-drop, take_at, take_all, drop-cons, set_at, set-append_left, get_or-take, sets, set_out, drop-nil, drop_at}
use Rattle.lists.specs.Kit.{drop-drop, eqb, ltb, eq-eqb, ne_eqb, ltb-true, ltb-false}
use Rattle.lists.specs.Lists.{overwrite, range}
use Rattle.lists.proofs.{Map.{map_range_ext, length-map, get_d_map_range}, Range.{length_range}, Parts.{drop_take}, Tests.{bool_cases}}

pub take_overwrite : {A : Type 0} (new old : List A) → take (length new) (overwrite new old) ≡ new
unfolding overwrite
take_overwrite new old = take_at new (drop (length new) old) (length new) refl

pub drop_overwrite : {A : Type 0} (new old : List A) → drop (length new) (overwrite new old) ≡ drop (length new) old
unfolding overwrite
drop_overwrite new old = drop_at new (drop (length new) old) (length new) refl

pub set_map_range_end : (f : ℕ → ℕ) (i k : ℕ) (d : List ℕ) → k < length d
    → set (map f (range i k) ++ drop k d) k (f (i + k)) ≡ map f (range i (suc k)) ++ drop (suc k) d
unfolding range
set_map_range_end f i k [] h = absurd (omega arith)
set_map_range_end f i zero (x ∷ d) h = ap {B = List ℕ} (λ n. f n ∷ d) (omega arith)
set_map_range_end f i (suc k) (x ∷ d) h =
    let e : i + suc k ≡ suc i + k = omega arith in
    ap {B = List ℕ} (λ t. f i ∷ t)
    (ap (λ n. set (map f (range (suc i) k) ++ drop k d) k (f n)) e ∙ set_map_range_end f (suc i) k d (omega arith))

pub overwrite_take : (s d : List ℕ) → length s ≡ length d → overwrite (take (length d) s) d ≡ s
unfolding overwrite
overwrite_take s d e =
    let t : take (length d) s ≡ s = take_all (length d) s (omega arith) in
    let g : length d ≤ length s = omega arith in
    rw t (ap (λ r. s ++ r) (drop_of_length-le d g) ∙ append-nil s)

-- one entry more in front
pub set_overwrite : {A : Type 0} (xs d : List A) (c : ℕ) (x : A) → c ≡ length xs → c < length d → set (overwrite xs d) c x ≡ overwrite (xs ++ x ∷ []) d
unfolding overwrite
set_overwrite {A = A} xs d c x e l =
    let long : length (xs ++ x ∷ []) ≡ suc c = length-append xs (x ∷ []) ∙ omega arith in
    ap (λ (ys : List A). set (xs ++ ys) c x) (ap (λ (j : ℕ). drop j d) (sym e) ∙ drop-cons d c x l)
    ∙ set_at xs (get_or d c x) (drop (suc c) d) x c (sym e)
    ∙ sym (append_assoc xs (x ∷ []) (drop (suc c) d)) ∙ ap (λ (j : ℕ). (xs ++ x ∷ []) ++ drop j d) (sym long)

pub set_map_range : (f : ℕ → ℕ) (i k w x : ℕ) → w < k → set (map f (range i k)) w x ≡ map (λ u. cond (eqb (i + w) u) x (f u)) (range i k)
unfolding range
set_map_range f i zero w x l = absurd (omega arith)
set_map_range f i (suc k) zero x l =
    ap₂ {C = List ℕ} (λ y ys. y ∷ ys) (sym (rw (eq-eqb (i + 0) i (omega arith))))
    (map_range_ext f (λ u. cond (eqb (i + 0) u) x (f u)) (suc i) k (λ u m q. sym (rw (ne_eqb (i + 0) u (λ e. omega arith)))))
set_map_range f i (suc k) (suc w) x l =
    let e : suc i + w ≡ i + suc w = omega arith in
    ap₂ {C = List ℕ} (λ y ys. y ∷ ys) (sym (rw (ne_eqb (i + suc w) i (λ q. omega arith)))) (set_map_range f (suc i) k w x (omega arith) ∙ rw e)

pub set_front : (f : ℕ → ℕ) (k w x : ℕ) (d : List ℕ) → w < k
    → set (overwrite (map f (range 0 k)) d) w x ≡ overwrite (map (λ u. cond (eqb w u) x (f u)) (range 0 k)) d
unfolding overwrite
set_front f k w x d l =
    let long : (h : ℕ → ℕ) → length (map h (range 0 k)) ≡ k = λ h. length-map h (range 0 k) ∙ length_range 0 k in
    let new : ℕ → ℕ = λ u. cond (eqb w u) x (f u) in
    set-append_left (map f (range 0 k)) (drop (length (map f (range 0 k))) d) w x (omega (arith, long f))
    ∙ ap₂ {C = List ℕ} (λ ys j. ys ++ drop j d)
    (set_map_range f 0 k w x l ∙ map_range_ext (λ u. cond (eqb (0 + w) u) x (f u)) new 0 k
    (λ u a b. ap (λ (i : ℕ). cond {A = ℕ} (eqb i u) x (f u)) (zero-add w)))
    (long f ∙ sym (long new))

pub get_d_front : (f : ℕ → ℕ) (k v : ℕ) (d : List ℕ) → v < k → get_or (overwrite (map f (range 0 k)) d) v 0 ≡ f v
get_d_front f k v d l =
    let new = map f (range 0 k) in
    sym (get_or-take (length new) (overwrite new d) v 0 (omega (arith, length-map f (range 0 k), length_range 0 k)))
    ∙ ap (λ (ys : List ℕ). get_or ys v 0) (take_overwrite new d) ∙ get_d_map_range 0 f 0 k v l ∙ ap f (zero-add v)

pub sets_append : (old : List ℕ) (i : ℕ) (xs ys : List ℕ) → sets old i (xs ++ ys) ≡ sets (sets old i xs) (i + length xs) ys
sets_append old i [] ys = ap (λ (k : ℕ). sets old k ys) (omega arith)
sets_append old i (x ∷ xs) ys =
    sets_append (set old i x) (suc i) xs ys ∙ ap (λ (k : ℕ). sets (sets (set old i x) (suc i) xs) k ys) (omega arith)

pub sets_nil : (i : ℕ) (xs : List ℕ) → sets [] i xs ≡ []
sets_nil i [] = refl
sets_nil i (x ∷ xs) = sets_nil (suc i) xs

pub sets_cons : (y : ℕ) (old : List ℕ) (i : ℕ) (xs : List ℕ) → sets (y ∷ old) (suc i) xs ≡ y ∷ sets old i xs
sets_cons y old i [] = refl
sets_cons y old i (x ∷ xs) = sets_cons y (set old i x) (suc i) xs

-- stores from the front, as many as fit
pub sets_front : (old xs : List ℕ) → sets old 0 xs ≡ overwrite (take (length old) xs) old
unfolding overwrite
sets_front [] xs = sets_nil 0 xs
sets_front (y ∷ old) [] = refl
sets_front (y ∷ old) (x ∷ xs) = sets_cons x old 0 xs ∙ ap {B = List ℕ} (λ zs. x ∷ zs) (sets_front old xs)

-- a store past the end changes nothing, so a place past the end is as good as the end
pub sets_full : (old : List ℕ) (i : ℕ) (xs : List ℕ) → length old ≤ i → sets old i xs ≡ old
sets_full old i [] h = refl
sets_full old i (x ∷ xs) h =
    let same = set_out old i x h in rw same (sets_full old (suc i) xs (omega arith))

pub sets_min : (old : List ℕ) (i : ℕ) (xs : List ℕ) → sets old (min (length old) i) xs ≡ sets old i xs
sets_min old i xs =
    ⊎_elim (λ e. let p : min (length old) i ≡ i = omega (arith, ltb-true i (length old) e) in ap (λ (k : ℕ). sets old k xs) p)
    (λ e. let l = ltb-false i (length old) e in sets_full old (min (length old) i) xs (omega arith) ∙ sym (sets_full old i xs l))
    (bool_cases (ltb i (length old)))

-- stores from a place on leave what stands before it
pub sets_drop : (old : List ℕ) (i : ℕ) (xs : List ℕ) → i ≤ length old → take i old ++ sets (drop i old) 0 xs ≡ sets old i xs
sets_drop old zero xs h = refl
sets_drop [] (suc i) xs h = absurd (omega arith)
sets_drop (y ∷ old) (suc i) xs h = ap {B = List ℕ} (λ zs. y ∷ zs) (sets_drop old i xs (omega arith)) ∙ sym (sets_cons y old i xs)

-- new entries in front of a part that has room for them
pub overwrite_part : (new old : List ℕ) (k : ℕ) → length new ≤ k → overwrite new (take k old) ++ drop k old ≡ overwrite new old
unfolding overwrite
overwrite_part new old k h =
    let m = length new in
    let all : m + (k - m) ≡ k = omega arith in
    append_assoc new (drop m (take k old)) (drop k old)
    ∙ ap (λ (z : List ℕ). new ++ z)
    (ap₂ (λ (y z : List ℕ). y ++ z) (drop_take m k old) (ap (λ (j : ℕ). drop j old) (sym all) ∙ sym (drop-drop (k - m) m old))
    ∙ take-append-drop (k - m) (drop m old))

-- as many new entries as there are old ones
pub overwrite_all : (new old : List ℕ) → length old ≤ length new → overwrite new old ≡ new
unfolding overwrite
overwrite_all new old h = ap (λ (z : List ℕ). new ++ z) (drop_past (length new) old h) ∙ append-nil new
  where
    drop_past : (k : ℕ) (xs : List ℕ) → length xs ≤ k → drop k xs ≡ []
    drop_past k [] l = drop-nil k
    drop_past zero (x ∷ xs) l = absurd (omega arith)
    drop_past (suc k) (x ∷ xs) l = drop_past k xs (omega arith)
