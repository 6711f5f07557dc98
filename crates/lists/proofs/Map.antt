-- Laws of `map` and `flat_map`, and of tables given by a rule: map f over a range.
use Rattle.std.specs.Prelude.{◌≡◌, ◌∷◌, ◌++◌, ◌+◌, ◌<◌, ◌≤◌}
use Rattle.lists.specs.Kit.{ap, ◌∙◌, refl, ap₂, sym, inl, inr, map, List, [], ListAsMemᴰ, List·Memᴰ·cases-cons, List·Memᴰ·not-nil, ⊎_elim}
use Rattle.lists.specs.Kit.{List·Memᴰ·head, List·Memᴰ·tail, flat_map, List·Memᴰ·append-cases, Memᴰ·append-left, Memᴰ·append-right, append_assoc, ℕ}
use Rattle.lists.specs.Kit.{zero, suc, arith, get_or, length, drop, take, replicate, drop-cons}
use Rattle.lists.specs.Lists.{range, In, head_or}

pub get_d_map_range : {A : Type 0} (d : A) (f : ℕ → A) (i k v : ℕ) → v < k → get_or (map f (range i k)) v d ≡ f (i + v)
unfolding range
get_d_map_range d f i zero v h = absurd (omega arith)
get_d_map_range d f i (suc k) zero h = ap f (omega arith)
get_d_map_range d f i (suc k) (suc v) h = get_d_map_range d f (suc i) k v (omega arith) ∙ ap f (omega arith)

-- what each entry is read as, mapped over the places, is the list
pub map_range_of_get_d : {A : Type 0} (d : A) (f : ℕ → A) (i : ℕ) (xs : List A) → ((j : ℕ) → j < length xs → f (i + j) ≡ get_or xs j d)
    → map f (range i (length xs)) ≡ xs
unfolding range
map_range_of_get_d d f i [] h = refl
map_range_of_get_d {A} d f i (x ∷ xs) h =
    ap₂ {C = List A} (λ y ys. y ∷ ys) (ap f (omega arith) ∙ h 0 (omega arith))
    (map_range_of_get_d d f (suc i) xs (λ j l. ap f (omega arith) ∙ h (suc j) (omega arith)))

pub mem_map : {A : Type 0} (f : ℕ → A) (x : A) (xs : List ℕ) → ListAsMemᴰ x (map f xs) → (v : ℕ) × In v xs × (x ≡ f v)
mem_map f x [] m = absurd (List·Memᴰ·not-nil m)
mem_map f x (y ∷ ys) m = let rec = mem_map f x ys in ⊎_elim (λ e. (y, inl refl, e)) (λ n. let r = rec n in (r.0, inr r.1, r.2)) (List·Memᴰ·cases-cons m)

pub map_mem : {A : Type 0} (f : ℕ → A) (x : A) (v : ℕ) (xs : List ℕ) → In v xs → x ≡ f v → ListAsMemᴰ x (map f xs)
map_mem {A = A} f x v [] x3 e = elim x3 [ ]
map_mem f x v (y ∷ ys) (inl q) e = List·Memᴰ·head (e ∙ ap f (sym q))
map_mem f x v (y ∷ ys) (inr m) e = List·Memᴰ·tail (map_mem f x v ys m e)

pub mem_flat_map : {A : Type 0} (f : ℕ → List A) (x : A) (ks : List ℕ) → ListAsMemᴰ x (flat_map f ks) → (k : ℕ) × In k ks × ListAsMemᴰ x (f k)
unfolding flat_map
mem_flat_map f x [] m = absurd (List·Memᴰ·not-nil m)
mem_flat_map f x (k ∷ ks) m = let rec = mem_flat_map f x ks in
    ⊎_elim (λ n. (k, inl refl, n)) (λ n. let r = rec n in (r.0, inr r.1, r.2)) (List·Memᴰ·append-cases (f k) m)

pub flat_map_mem : {A : Type 0} (f : ℕ → List A) (x : A) (k : ℕ) (ks : List ℕ) → In k ks → ListAsMemᴰ x (f k) → ListAsMemᴰ x (flat_map f ks)
unfolding flat_map
flat_map_mem {A = A} f x k [] x3 m = elim x3 [ ]
flat_map_mem f x k (j ∷ js) (inl e) m = Memᴰ·append-left (flat_map f js) (rw (← e) at m)
flat_map_mem f x k (j ∷ js) (inr i) m = Memᴰ·append-right (f j) (flat_map_mem f x k js i m)

pub head_eq : (x y : ℕ) (xs ys : List ℕ) → x ∷ xs ≡ y ∷ ys → x ≡ y
unfolding head_or
head_eq x y xs ys e = ap (head_or 0) e

pub tail_eq : (x y : ℕ) (xs ys : List ℕ) → x ∷ xs ≡ y ∷ ys → xs ≡ ys
tail_eq x y xs ys e = ap (drop 1) e

-- numbers that agree along a list agree at each of its radios
pub map_eq_in : (f h : ℕ → ℕ) (xs : List ℕ) → map f xs ≡ map h xs → (v : ℕ) → In v xs → f v ≡ h v
map_eq_in f h [] e v x'' = elim x'' [ ]
map_eq_in f h (x ∷ xs) e v (inl q) = rw (← q) (head_eq (f x) (h x) (map f xs) (map h xs) e)
map_eq_in f h (x ∷ xs) e v (inr m) = map_eq_in f h xs (tail_eq (f x) (h x) (map f xs) (map h xs) e) v m

pub map_range_get_d : (s : List ℕ) (i k : ℕ) → i + k ≤ length s → map (λ j. get_or s j 0) (range i k) ≡ take k (drop i s)
unfolding range
map_range_get_d s i zero h = refl
map_range_get_d s i (suc k) h =
    ap {B = List ℕ} (λ t. get_or s i 0 ∷ t) (map_range_get_d s (suc i) k (omega arith)) ∙ ap (take (suc k)) (sym (drop-cons s i 0 (omega arith)))

pub map_range_constant : (x i k : ℕ) → map (λ j. x) (range i k) ≡ replicate k x
unfolding range
map_range_constant x i zero = refl
map_range_constant x i (suc k) = ap {B = List ℕ} (λ t. x ∷ t) (map_range_constant x (suc i) k)

pub map_range_id : (i k : ℕ) → map (λ j. j) (range i k) ≡ range i k
unfolding range
map_range_id i zero = refl
map_range_id i (suc k) = ap {B = List ℕ} (λ t. i ∷ t) (map_range_id (suc i) k)

pub length-map : {A B : Type 0} (f : A → B) (xs : List A) → length (map f xs) ≡ length xs
length-map f [] = refl
length-map f (x ∷ xs) = ap suc (length-map f xs)

pub flat_map_none : {A : Type 0} (f : ℕ → List A) (xs : List ℕ) → ((x : ℕ) → In x xs → f x ≡ []) → flat_map f xs ≡ []
unfolding flat_map
flat_map_none f [] h = refl
flat_map_none f (x ∷ xs) h = rw (h x (inl refl), flat_map_none f xs (λ y m. h y (inr m)))

pub map_range_ext : (f h : ℕ → ℕ) (i k : ℕ) → ((w : ℕ) → i ≤ w → w < i + k → f w ≡ h w) → map f (range i k) ≡ map h (range i k)
unfolding range
map_range_ext f h i zero e = refl
map_range_ext f h i (suc k) e =
    ap₂ {C = List ℕ} (λ x xs. x ∷ xs) (e i (omega arith) (omega arith)) (map_range_ext f h (suc i) k (λ w m l. e w (omega arith) (omega arith)))

pub map_ext : (f h : ℕ → ℕ) (xs : List ℕ) → ((x : ℕ) → In x xs → f x ≡ h x) → map f xs ≡ map h xs
map_ext f h [] e = refl
map_ext f h (x ∷ xs) e = ap₂ {C = List ℕ} (λ y ys. y ∷ ys) (e x (inl refl)) (map_ext f h xs (λ y i. e y (inr i)))

pub map_append : {A B : Type 0} (f : A → B) (xs ys : List A) → map f (xs ++ ys) ≡ map f xs ++ map f ys
map_append f [] ys = refl
map_append {B = B} f (x ∷ xs) ys = ap {B = List B} (λ zs. f x ∷ zs) (map_append f xs ys)

pub flat_map_append : {A B : Type 0} (f : A → List B) (xs ys : List A) → flat_map f (xs ++ ys) ≡ flat_map f xs ++ flat_map f ys
unfolding flat_map
flat_map_append f [] ys = refl
flat_map_append {B = B} f (x ∷ xs) ys = ap (λ (zs : List B). f x ++ zs) (flat_map_append f xs ys) ∙ sym (append_assoc (f x) (flat_map f xs) (flat_map f ys))

pub drop_map : {A B : Type 0} (f : A → B) (k : ℕ) (xs : List A) → drop k (map f xs) ≡ map f (drop k xs)
drop_map f zero xs = refl
drop_map f (suc k) [] = refl
drop_map f (suc k) (x ∷ xs) = drop_map f k xs
