-- Laws of parts: parts of equal length joined, a part of a part, lists of bytes, zeros.
use Rattle.std.specs.Prelude.{◌≡◌, ◌∷◌, ◌++◌, ◌+◌, ◌*◌, ◌<◌, ◌≤◌, ◌-◌}
use Rattle.lists.specs.Kit.{sym, ap, ◌∙◌, refl, ap₂, Bool, true, false, cond, List, [], flat_map, ℕ, zero, suc}
use Rattle.lists.specs.Kit.{min, arith, mul-suc, zero-min, suc-min-suc, sub-zero, zero-sub, suc-sub-suc, add-one, replicate, ⊎_elim}
use Rattle.lists.specs.Kit.{length-replicate, get_or-replicate, length, get_or, take, drop, length-append, List·getD-append, length-drop, take-append-drop}
use Rattle.lists.specs.Kit.{List·getD-eq-default, get_or-append-add, drop-append-add, take_at, drop-drop, take-take, get_or-drop, take-nil, drop-cons, ltb}
use Rattle.lists.specs.Kit.{ltb-true, ltb-false}
use Rattle.lists.specs.{Facts.{Bytes}, Lists.{range}}
use Rattle.lists.proofs.Tests.{bool_cases}

-- an entry that is there is the same whatever stands for none
pub get_d_any : (xs : List ℕ) (i d e : ℕ) → i < length xs → get_or xs i d ≡ get_or xs i e
get_d_any [] i d e l = absurd (omega arith)
get_d_any (x ∷ xs) zero d e l = refl
get_d_any (x ∷ xs) (suc i) d e l = get_d_any xs i d e (omega arith)

pub length_cond : (t : Bool) (xs ys : List ℕ) → length xs ≡ length ys → length (cond t xs ys) ≡ length ys
length_cond true xs ys e = e
length_cond false xs ys e = refl

pub bytes_replicate : (k : ℕ) → Bytes (replicate k 0)
bytes_replicate k i h = rw (get_or-replicate {A = ℕ} k i 0 0 (omega (arith, length-replicate {A = ℕ} k 0))) (omega arith)

module _ {A : Type 0} (f : A → List ℕ) (size : ℕ) (sizes : (x : A) → length (f x) ≡ size) where
  pub length_flat_map : (xs : List A) → length (flat_map f xs) ≡ size * length xs
  unfolding flat_map
  length_flat_map [] = omega arith
  length_flat_map (x ∷ xs) = omega (arith, length-append (f x) (flat_map f xs), sizes x, length_flat_map xs, mul-suc size (length xs))

  -- where the part of the default has zeros only, the law holds past the end too
  pub get_d_flat_map : (d : A) → ((j : ℕ) → get_or (f d) j 0 ≡ 0) → (xs : List A) (v j : ℕ) → j < size
      → get_or (flat_map f xs) (size * v + j) 0 ≡ get_or (f (get_or xs v d)) j 0
  unfolding flat_map
  get_d_flat_map d zeros [] v j l = sym (zeros j)
  get_d_flat_map d zeros (x ∷ xs) zero j l =
      ap (λ (k : ℕ). get_or (f x ++ flat_map f xs) k 0) (omega arith) ∙ List·getD-append (f x) (flat_map f xs) 0 j (omega (arith, sizes x))
  get_d_flat_map d zeros (x ∷ xs) (suc v) j l =
      ap (λ (k : ℕ). get_or (f x ++ flat_map f xs) k 0) (omega (arith, sizes x, mul-suc size v))
      ∙ get_or-append-add (f x) (flat_map f xs) (size * v + j) 0 ∙ get_d_flat_map d zeros xs v j l

  -- part v by itself
  pub take_drop_flat_map : (d : A) (xs : List A) (v : ℕ) → v < length xs → take size (drop (size * v) (flat_map f xs)) ≡ f (get_or xs v d)
  unfolding flat_map
  take_drop_flat_map d [] v l = absurd (omega arith)
  take_drop_flat_map d (x ∷ xs) zero l =
      let e : size * 0 ≡ 0 = omega arith in rw e (take_at (f x) (flat_map f xs) size (sizes x))
  take_drop_flat_map d (x ∷ xs) (suc v) l =
      let e : size * suc v ≡ length (f x) + size * v = omega (arith, sizes x, mul-suc size v) in
      ap (λ (k : ℕ). take size (drop k (f x ++ flat_map f xs))) e
      ∙ ap (take size) (drop-append-add (f x) (flat_map f xs) (size * v)) ∙ take_drop_flat_map d xs v (omega arith)

-- the same for a range, where only its own parts need have that length
module _ (f : ℕ → List ℕ) (size : ℕ) where
  pub length_flat_map_range : (i k : ℕ) → ((w : ℕ) → i ≤ w → w < i + k → length (f w) ≡ size) → length (flat_map f (range i k)) ≡ size * k
  unfolding flat_map range
  length_flat_map_range i zero sizes = omega arith
  length_flat_map_range i (suc k) sizes =
      omega (
        arith,
        length-append (f i) (flat_map f (range (suc i) k)),
        sizes i (omega arith) (omega arith),
        length_flat_map_range (suc i) k (λ w l h. sizes w (omega arith) (omega arith)),
        mul-suc size k,
      )

  pub get_d_flat_map_range : (i k : ℕ) → ((w : ℕ) → i ≤ w → w < i + k → length (f w) ≡ size) → (v j : ℕ) → v < k → j < size
      → get_or (flat_map f (range i k)) (size * v + j) 0 ≡ get_or (f (i + v)) j 0
  unfolding flat_map range
  get_d_flat_map_range i zero sizes v j h l = absurd (omega arith)
  get_d_flat_map_range i (suc k) sizes zero j h l =
      ap (λ (x : ℕ). get_or (f i ++ flat_map f (range (suc i) k)) x 0) (omega arith)
      ∙ List·getD-append (f i) (flat_map f (range (suc i) k)) 0 j (omega (arith, sizes i (omega arith) (omega arith)))
      ∙ ap (λ (x : ℕ). get_or (f x) j 0) (omega arith)
  get_d_flat_map_range i (suc k) sizes (suc v) j h l =
      ap (λ (x : ℕ). get_or (f i ++ flat_map f (range (suc i) k)) x 0) (omega (arith, sizes i (omega arith) (omega arith), mul-suc size v))
      ∙ get_or-append-add (f i) (flat_map f (range (suc i) k)) (size * v + j) 0
      ∙ get_d_flat_map_range (suc i) k (λ w m n. sizes w (omega arith) (omega arith)) v j (omega arith) l
      ∙ ap (λ (x : ℕ). get_or (f x) j 0) (omega arith)

-- a list whose parts are the given ones
pub flat_map_take_drop : (f : ℕ → List ℕ) (size i k : ℕ) (bs : List ℕ) → length bs ≡ size * k
    → ((v : ℕ) → v < k → take size (drop (size * v) bs) ≡ f (i + v)) → flat_map f (range i k) ≡ bs
unfolding flat_map range
flat_map_take_drop f size i zero [] len h = refl
flat_map_take_drop f size i zero (b ∷ bs) len h = absurd (omega arith)
flat_map_take_drop f size i (suc k) bs len h =
    let none : size * 0 ≡ 0 = omega arith in
    let first : take size bs ≡ f i = sym (ap (λ (x : ℕ). take size (drop x bs)) none) ∙ h 0 (omega arith) ∙ ap f (omega arith) in
    ap₂ {C = List ℕ} (λ xs ys. xs ++ ys) (sym first)
    (flat_map_take_drop f size (suc i) k (drop size bs) (omega (arith, length-drop size bs, mul-suc size k)) rest)
    ∙ take-append-drop size bs
  where
    rest : (v : ℕ) → v < k → take size (drop (size * v) (drop size bs)) ≡ f (suc i + v)
    rest v l =
        let e : size + size * v ≡ size * suc v = omega (arith, mul-suc size v) in
        ap (take size) (drop-drop (size * v) size bs ∙ ap (λ (x : ℕ). drop x bs) e) ∙ h (suc v) (omega arith) ∙ ap f (omega arith)

-- a part of a part
pub take_drop_take : {A : Type 0} (k m s : ℕ) (xs : List A) → k + m ≤ s → take m (drop k (take s xs)) ≡ take m (drop k xs)
take_drop_take zero m s xs h = take-take m s xs (omega arith)
take_drop_take (suc k) m zero xs h = absurd (omega arith)
take_drop_take (suc k) m (suc s) [] h = refl
take_drop_take (suc k) m (suc s) (x ∷ xs) h = take_drop_take k m s xs (omega arith)

-- a place past the end reads as zero
pub get_d_bytes : (bs : List ℕ) → Bytes bs → (i : ℕ) → get_or bs i 0 < 256
get_d_bytes bs b i =
    ⊎_elim (λ e. b i (ltb-true i (length bs) e)) (λ e. rw (List·getD-eq-default bs 0 {n = i} (ltb-false i (length bs) e)) (omega arith))
    (bool_cases (ltb i (length bs)))

pub bytes_cons : (x : ℕ) (bs : List ℕ) → x < 256 → Bytes bs → Bytes (x ∷ bs)
bytes_cons x bs h b zero l = h
bytes_cons x bs h b (suc i) l = b i (omega arith)

pub bytes_append : (bs cs : List ℕ) → Bytes bs → Bytes cs → Bytes (bs ++ cs)
bytes_append [] cs b c = c
bytes_append (x ∷ bs) cs b c = bytes_cons x (bs ++ cs) (b 0 (omega arith)) (bytes_append bs cs (λ i l. b (suc i) (omega arith)) c)

pub bytes_take : (k : ℕ) (bs : List ℕ) → Bytes bs → Bytes (take k bs)
bytes_take zero bs b = λ i l. absurd (omega arith)
bytes_take (suc k) [] b = λ i l. absurd (omega arith)
bytes_take (suc k) (x ∷ bs) b = bytes_cons x (take k bs) (b 0 (omega arith)) (bytes_take k bs (λ i l. b (suc i) (omega arith)))

pub bytes_drop : (k : ℕ) (bs : List ℕ) → Bytes bs → Bytes (drop k bs)
bytes_drop k bs b i l = rw (get_or-drop k bs i 0) (get_d_bytes bs b (k + i))

pub bytes_flat_map : {A : Type 0} (f : A → List ℕ) → ((x : A) → Bytes (f x)) → (xs : List A) → Bytes (flat_map f xs)
unfolding flat_map
bytes_flat_map f b [] = λ i l. absurd (omega arith)
bytes_flat_map f b (x ∷ xs) = bytes_append (f x) (flat_map f xs) (b x) (bytes_flat_map f b xs)

pub get_d_zeros : (k j : ℕ) → get_or {A = ℕ} (replicate k 0) j 0 ≡ 0
get_d_zeros zero j = refl
get_d_zeros (suc k) zero = refl
get_d_zeros (suc k) (suc j) = get_d_zeros k j

pub get_d_append_zeros : (xs : List ℕ) (k j : ℕ) → get_or (xs ++ replicate k 0) j 0 ≡ get_or xs j 0
get_d_append_zeros [] k j = get_d_zeros k j
get_d_append_zeros (x ∷ xs) k zero = refl
get_d_append_zeros (x ∷ xs) k (suc j) = get_d_append_zeros xs k j

pub take_min : {X : Type 0} (k : ℕ) (s : List X) → take (min k (length s)) s ≡ take k s
take_min zero s = ap (λ n. take n s) (zero-min (length s))
take_min (suc k) [] = take-nil (min (suc k) 0)
take_min {X} (suc k) (x ∷ s) = ap (λ n. take n (x ∷ s)) (suc-min-suc k (length s)) ∙ ap {B = List X} (λ t. x ∷ t) (take_min k s)

-- the pieces of a text are its bytes
pub drop_first : (text : List ℕ) (i : ℕ) → i < length text → drop i text ≡ (get_or text i 0 ∷ []) ++ drop (i + 1) text
drop_first text i h = rw (add-one i) (drop-cons text i 0 h)

pub drop_replicate : (j k : ℕ) (x : ℕ) → drop j (replicate k x) ≡ replicate (k - j) x
drop_replicate zero k x = let e : k - 0 ≡ k = omega arith in rw e
drop_replicate (suc j) zero x = let e : 0 - suc j ≡ 0 = omega arith in rw e
drop_replicate (suc j) (suc k) x = let e : suc k - suc j ≡ k - j = omega arith in rw e (drop_replicate j k x)

pub drop_take : (k m : ℕ) (xs : List ℕ) → drop k (take m xs) ≡ take (m - k) (drop k xs)
drop_take zero m xs = ap (λ (i : ℕ). take i xs) (sym (sub-zero m))
drop_take (suc k) zero xs = ap (λ (i : ℕ). take i (drop (suc k) xs)) (sym (zero-sub (suc k)))
drop_take (suc k) (suc m) [] = sym (take-nil (suc m - suc k))
drop_take (suc k) (suc m) (x ∷ xs) = drop_take k m xs ∙ ap (λ (i : ℕ). take i (drop k xs)) (sym (suc-sub-suc m k))
