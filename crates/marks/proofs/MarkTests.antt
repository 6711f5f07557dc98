-- The size of a place's image; a place tested part by part: name, image, zeros.
use Rattle.std.specs.Prelude.{◌≡◌, ◌⊎◌, ◌&&◌, ◌+◌, ◌*◌, ◌-◌, ◌^◌, ◌≤◌, ◌<◌}
use Rattle.lists.{specs.Kit.{sym, ap, ◌∙◌, inl, inr, Bool, true, false, List, ℕ, arith, length, take, drop}}
use Rattle.lists.{specs.Kit.{length-drop, take_all, drop-drop}, proofs.Tests.{bool_cases}}
use Rattle.mesh.{specs.Limits.{size_good}, specs.Image.{block_bytes, block_count, order_blocks, blocks_for, word_at, is_image}, specs.Marks.{name_bytes}}
use Rattle.mesh.{specs.Marks.{place_bytes, is_name, is_zeros, name_in, image_size, image_in, is_mark}, proofs.Marks.Laws.{mark_place, length_is_image}}
use Rattle.calls.{specs.Questions.{image_refusal}, proofs.QuestionLaws.{ask_yes, size_good_true}, proofs.ChainLaws.{image_zero, image_yes}}
use Rattle.calls.{proofs.MarkCalls.{image_blocks}}
use Rattle.image_reader.specs.Reading.{alone_refusal}
use Rattle.marks.proofs.Left.{rest_part}

-- ---- the size of a place's image

pub image_size_at : (n m b : ℕ) (p : List ℕ) → m ≡ word_at (take (length p - name_bytes) (drop name_bytes p)) 6 → b ≡ block_count n m
    → block_bytes * b ≡ image_size n (drop name_bytes p)
unfolding image_size
image_size_at n m b p e f =
    ap (λ (k : ℕ). block_bytes * k) (f ∙ ap (block_count n) (e ∙ ap (λ (bs : List ℕ). word_at bs 6) (rest_part p name_bytes)))

pub image_size_less : (n m b : ℕ) → n < 2 ^ 32 → m < 65536 → b ≡ block_count n m → block_bytes * b < 2 ^ 42
unfolding block_count order_blocks blocks_for
image_size_less n m b small few e = omega (arith, e)

-- ---- a place

pub not_name : (n : ℕ) (p : List ℕ) → is_name (take name_bytes p) ≡ false → is_mark n p ≡ false
unfolding is_mark name_in
not_name n p h = rw h

whole_rest : (n : ℕ) (p : List ℕ) → length (drop name_bytes p) ≤ image_size n (drop name_bytes p) → image_in n p ≡ drop name_bytes p
unfolding image_in
whole_rest n p h = take_all (image_size n (drop name_bytes p)) (drop name_bytes p) h

-- an image that says more bytes than the place has is none
pub not_long : (n : ℕ) (p : List ℕ) (s : ℕ) → length p ≡ place_bytes → s ≡ image_size n (drop name_bytes p) → place_bytes < name_bytes + s → is_mark n p ≡ false
not_long n p s l e h = go (bool_cases (is_mark n p))
  where
    go : (is_mark n p ≡ true) ⊎ (is_mark n p ≡ false) → is_mark n p ≡ false
    go (inl k) =
        let i = (mark_place n p l k).1 in
        let w = whole_rest n p (omega (arith, length-drop name_bytes p)) in
        absurd (omega (arith, length_is_image n (drop name_bytes p) (rw w at i), length-drop name_bytes p))
    go (inr k) = k

-- the parts as the code lends them
module _ (n : ℕ) (p : List ℕ) (s : ℕ) (good : size_good n ≡ true) (size : s ≡ image_size n (drop name_bytes p)) (name : is_name (take name_bytes p) ≡ true)
  where
    abbrev image : List ℕ
    image = take (name_bytes + s - name_bytes) (drop name_bytes p)

    mark_parts : is_mark n p ≡ (is_image n image && is_zeros (drop (name_bytes + s) p))
    unfolding is_mark name_in image_in
    mark_parts =
        let e : name_bytes + s - name_bytes ≡ s = omega arith in
        rw (name, ← size, e, drop-drop s name_bytes p)

    pub not_image : (r : ℕ) → r ≡ alone_refusal n image → (r ≡ 0 → ⊥) → is_mark n p ≡ false
    unfolding alone_refusal
    not_image r e f = go (bool_cases (is_image n image))
      where
        go : (is_image n image ≡ true) ⊎ (is_image n image ≡ false) → is_mark n p ≡ false
        go (inl i) = absurd (f (e ∙ ask_yes 1 (size_good n) (image_refusal n image) good ∙ image_yes n image (size_good_true n good).1 (image_blocks n image i)
            i))
        go (inr i) = mark_parts ∙ ap (λ (t : Bool). t && is_zeros (drop (name_bytes + s) p)) i

    pub image_and_zeros : (z : Bool) → 0 ≡ alone_refusal n image
        → z ≡ is_zeros (take (length p - (name_bytes + s)) (drop (name_bytes + s) p)) → z ≡ is_mark n p
    unfolding alone_refusal
    image_and_zeros z e g =
        let i = (image_zero n image (sym (ask_yes 1 (size_good n) (image_refusal n image) good) ∙ sym e)).1 in
        g ∙ ap is_zeros (rest_part p (name_bytes + s))
        ∙ sym (mark_parts ∙ ap (λ (t : Bool). t && is_zeros (drop (name_bytes + s) p)) i)
