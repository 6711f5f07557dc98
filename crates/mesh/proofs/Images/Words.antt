-- Laws of numbers as little-endian bytes, and how large a block's check can be.
use Rattle.std.specs.Prelude.{◌≡◌, ◌∷◌, ◌+◌, ◌*◌, ◌/◌, ◌%◌, ◌≤◌, ◌<◌}
use Rattle.lists.{specs.Kit.{refl, ap, ◌∙◌, List, [], ℕ, zero, suc, arith, mul-suc, mul-le-mul, div-div-eq-div-mul}}
use Rattle.lists.{specs.Kit.{length, get_or}, specs.Facts.{Bytes}, proofs.Parts.{get_d_bytes, bytes_cons}}
use Rattle.mesh.specs.Image.{word, long, weighted_sum, check_sum, word_at}

-- ---- word

pub length_word : (x : ℕ) → length (word x) ≡ 2
unfolding word
length_word x = refl

pub bytes_word : (x : ℕ) → Bytes (word x)
unfolding word
bytes_word x =
    bytes_cons (x % 256) (x / 256 % 256 ∷ []) (omega arith) (bytes_cons (x / 256 % 256) [] (omega arith) (λ i l. absurd (omega arith)))

pub get_d_word_zero : (j : ℕ) → get_or (word 0) j 0 ≡ 0
unfolding word
get_d_word_zero zero = refl
get_d_word_zero (suc zero) = refl
get_d_word_zero (suc (suc j)) = refl

-- two places that hold the bytes of x are read as x
pub word_at_word : (bs : List ℕ) (i x : ℕ) → x < 65536 → get_or bs i 0 ≡ get_or (word x) 0 0 → get_or bs (i + 1) 0 ≡ get_or (word x) 1 0 → word_at bs i ≡ x
unfolding word word_at
word_at_word bs i x h p q = omega arith

-- the two bytes at a place are the bytes of what is read there
pub get_d_word_word_at : (bs : List ℕ) → Bytes bs → (i e : ℕ) → e < 2 → get_or (word (word_at bs i)) e 0 ≡ get_or bs (i + e) 0
unfolding word word_at
get_d_word_word_at bs b i zero h =
    let e : i + 0 ≡ i = omega arith in rw e (omega (arith, get_d_bytes bs b i))
get_d_word_word_at bs b i (suc zero) h = omega (arith, get_d_bytes bs b i, get_d_bytes bs b (i + 1))
get_d_word_word_at bs b i (suc (suc e)) h = absurd (omega arith)

pub word_at_less : (bs : List ℕ) → Bytes bs → (i : ℕ) → word_at bs i < 65536
unfolding word_at
word_at_less bs b i = omega (arith, get_d_bytes bs b i, get_d_bytes bs b (i + 1))

-- ---- long

pub length_long : (x : ℕ) → length (long x) ≡ 4
unfolding long
length_long x = refl

pub bytes_long : (x : ℕ) → Bytes (long x)
unfolding long
bytes_long x =
    bytes_cons (x % 256) (x / 256 % 256 ∷ x / 65536 % 256 ∷ x / 16777216 % 256 ∷ []) (omega arith)
    (bytes_cons (x / 256 % 256) (x / 65536 % 256 ∷ x / 16777216 % 256 ∷ []) (omega arith)
    (bytes_cons (x / 65536 % 256) (x / 16777216 % 256 ∷ []) (omega arith)
    (bytes_cons (x / 16777216 % 256) [] (omega arith) (λ i l. absurd (omega arith)))))

-- the number that four bytes stand for
abbrev pub long_of : List ℕ → ℕ
long_of bs = get_or bs 0 0 + 256 * get_or bs 1 0 + 65536 * get_or bs 2 0 + 16777216 * get_or bs 3 0

-- a number below 2 ^ 32 is told by its four bytes
pub long_of_long : (x : ℕ) → x < 4294967296 → long_of (long x) ≡ x
unfolding long
long_of_long x h =
    joined (x % 256) (x / 256 % 256) (x / 65536 % 256) (lowest x)
    (lowest (x / 256) ∙ ap (λ (q : ℕ). x / 256 % 256 + 256 * q) (div-div-eq-div-mul x 256 256))
    (lowest (x / 65536) ∙ ap (λ (q : ℕ). x / 65536 % 256 + 256 * q) (div-div-eq-div-mul x 65536 256)) (omega arith)
  where
    lowest : (y : ℕ) → y ≡ y % 256 + 256 * (y / 256)
    lowest y = omega arith

    joined : (a b c : ℕ) {d p q r : ℕ} → x ≡ a + 256 * p → p ≡ b + 256 * q → q ≡ c + 256 * r → r ≡ d
        → a + 256 * b + 65536 * c + 16777216 * d ≡ x
    joined a b c i j k l = omega arith

pub long_long_of : (a b c d : ℕ) → a < 256 → b < 256 → c < 256 → d < 256 → long (long_of (a ∷ b ∷ c ∷ d ∷ [])) ≡ a ∷ b ∷ c ∷ d ∷ []
unfolding long
long_long_of a b c d ha hb hc hd =
    let x : ℕ = a + 256 * b + 65536 * c + 16777216 * d in
    let one : x / 256 ≡ b + 256 * (c + 256 * d) = omega arith in
    let two : x / 65536 ≡ c + 256 * d = omega arith in
    let three : x / 16777216 ≡ d = omega arith in
    let p : x % 256 ≡ a = omega arith in
    let q : x / 256 % 256 ≡ b = ap (λ (y : ℕ). y % 256) one ∙ lowest b (c + 256 * d) hb in
    let r : x / 65536 % 256 ≡ c = ap (λ (y : ℕ). y % 256) two ∙ lowest c d hc in
    let s : x / 16777216 % 256 ≡ d = ap (λ (y : ℕ). y % 256) three ∙ omega arith in rw (p, q, r, s)
  where
    lowest : (y z : ℕ) → y < 256 → (y + 256 * z) % 256 ≡ y
    lowest y z h = omega arith

-- ---- the check grows byte by byte

-- ---- the check fits

-- `top` bounds the weights
weighted_sum_le : (top i : ℕ) (bs : List ℕ) → Bytes bs → i + length bs ≤ top → weighted_sum i bs ≤ 255 * top * length bs
unfolding weighted_sum
weighted_sum_le top i [] b h = omega arith
weighted_sum_le top i (x ∷ bs) b h =
    let here : x ≤ 255 = omega (arith, b 0 (omega arith)) in
    let low : i ≤ top = omega arith in
    omega (arith, mul-le-mul here low, mul-suc (255 * top) (length bs), weighted_sum_le top (suc i) bs (λ j l. b (suc j) (omega arith)) (omega arith))

-- the check of a block's 508 bytes has four bytes
pub check_sum_less : (bs : List ℕ) → Bytes bs → length bs ≤ 508 → check_sum bs < 4294967296
unfolding check_sum
check_sum_less bs b h = omega (arith, weighted_sum_le 509 1 bs b (omega arith))
