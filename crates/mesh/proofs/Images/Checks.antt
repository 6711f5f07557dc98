-- Questions 9 and 10 and the block reader, for any bytes, in the form in which a loop decides them.
--   four_at, long_at       four bytes at a place, and the number they stand for
--   block_check_value      a block passes its check when the sum of its first 508 bytes is the number in its last four
--   payload-at-image-of    what the block reader gives back of an image
use Rattle.std.specs.Prelude.{◌≡◌, ◌∷◌, ◌+◌, ◌*◌, ◌≤◌, ◌<◌}
use Rattle.lists.{specs.Kit.{sym, ap, ap₂, ◌∙◌, List, [], ℕ, zero, suc, arith, eqb, length, get_or, take, drop, length-take}}
use Rattle.lists.{specs.Kit.{length-drop, get_or-take, get_or-drop, take-take, length-take-le, ext_get_or, eqb-true, eq-eqb}, specs.Lists.{same}, specs.Facts.{Bytes}}
use Rattle.lists.{proofs.Tests.{iff_eq}, proofs.All.{same_refl, same_eq}, proofs.Parts.{get_d_bytes, bytes_take, bytes_drop}}
use Rattle.mesh.specs.Image.{block_bytes, long, check_sum, block_check}
use Rattle.mesh.proofs.Images.Words.{long_of, long_of_long, long_long_of, check_sum_less}

-- ---- four bytes at a place

abbrev pub four_at : (bs : List ℕ) → (at : ℕ) → List ℕ
four_at bs i = get_or bs i 0 ∷ get_or bs (i + 1) 0 ∷ get_or bs (i + 2) 0 ∷ get_or bs (i + 3) 0 ∷ []

abbrev pub long_at : (bs : List ℕ) → (at : ℕ) → ℕ
long_at bs i = long_of (four_at bs i)

-- a number below 2 ^ 32 is written as these bytes when it is read from them
pub same_long : (bs : List ℕ) (i x : ℕ) → Bytes bs → x < 4294967296 → same (long x) (four_at bs i) ≡ eqb x (long_at bs i)
same_long bs i x b small =
    let back : long (long_at bs i) ≡ four_at bs i =
    long_long_of (get_or bs i 0) (get_or bs (i + 1) 0) (get_or bs (i + 2) 0) (get_or bs (i + 3) 0)
    (get_d_bytes bs b i) (get_d_bytes bs b (i + 1)) (get_d_bytes bs b (i + 2)) (get_d_bytes bs b (i + 3)) in
    iff_eq (same (long x) (four_at bs i)) (eqb x (long_at bs i))
    (λ h. eq-eqb x (long_at bs i) (sym (long_of_long x small) ∙ ap long_of (same_eq (long x) (four_at bs i) h)))
    (λ h. ap (same (long x)) (sym (ap long (eqb-true x (long_at bs i) h) ∙ back)) ∙ same_refl (long x))

-- ---- question 10

-- block i of any bytes
abbrev pub part_at : (bs : List ℕ) → (i : ℕ) → List ℕ
part_at bs i = take block_bytes (drop (block_bytes * i) bs)

module _ (bs : List ℕ) (i : ℕ) (fits : block_bytes * i + block_bytes ≤ length bs) where
  pub length_part_at : length (part_at bs i) ≡ block_bytes
  length_part_at = length-take-le block_bytes (drop (block_bytes * i) bs) (omega (arith, length-drop (block_bytes * i) bs))

  pub get_d_part_at : (j : ℕ) → j < block_bytes → get_or (part_at bs i) j 0 ≡ get_or bs (block_bytes * i + j) 0
  get_d_part_at j h = get_or-take block_bytes (drop (block_bytes * i) bs) j 0 h ∙ get_or-drop (block_bytes * i) bs j 0

  check_bytes : drop 508 (part_at bs i) ≡ four_at bs (block_bytes * i + 508)
  check_bytes = ext_get_or 0 (drop 508 (part_at bs i)) (four_at bs (block_bytes * i + 508)) len (λ j l. at j (omega (arith, len)))
    where
      len : length (drop 508 (part_at bs i)) ≡ 4
      len = omega (arith, length-drop 508 (part_at bs i), length_part_at)

      byte : (j : ℕ) → j < 4 → get_or (drop 508 (part_at bs i)) j 0 ≡ get_or bs (block_bytes * i + 508 + j) 0
      byte j h = get_or-drop 508 (part_at bs i) j 0 ∙ get_d_part_at (508 + j) (omega arith) ∙ ap (λ (k : ℕ). get_or bs k 0) (omega arith)

      at : (j : ℕ) → j < 4 → get_or (drop 508 (part_at bs i)) j 0 ≡ get_or (four_at bs (block_bytes * i + 508)) j 0
      at zero h = byte 0 h ∙ ap (λ (k : ℕ). get_or bs k 0) (omega arith)
      at (suc zero) h = byte 1 h
      at (suc (suc zero)) h = byte 2 h
      at (suc (suc (suc zero))) h = byte 3 h
      at (suc (suc (suc (suc j)))) h = absurd (omega arith)

  pub block_check_value : Bytes bs → block_check bs i ≡ eqb (check_sum (take 508 (drop (block_bytes * i) bs))) (long_at bs (block_bytes * i + 508))
  unfolding block_check
  block_check_value b =
      let front : List ℕ = take 508 (drop (block_bytes * i) bs) in
      let same_front : take 508 (part_at bs i) ≡ front = take-take 508 block_bytes (drop (block_bytes * i) bs) (omega arith) in
      let small : check_sum front < 4294967296 =
      check_sum_less front (bytes_take 508 (drop (block_bytes * i) bs) (bytes_drop (block_bytes * i) bs b))
      (omega (arith, length-take 508 (drop (block_bytes * i) bs))) in
      ap₂ same (ap (λ (x : List ℕ). long (check_sum x)) same_front) check_bytes ∙ same_long bs (block_bytes * i + 508) (check_sum front) b small

-- ---- the block reader
