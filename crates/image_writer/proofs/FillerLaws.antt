-- Laws of the block filler.
-- In order: a block opened, zeros stored, a block sealed, an opened block with its payload sealed, entries put one after the other.
use Rattle.std.specs.Prelude.{◌≡◌, ◌∷◌, ◌++◌, ◌+◌, ◌*◌, ◌-◌, ◌/◌, ◌%◌, ◌≤◌, ◌<◌}
use Rattle.lists.{specs.Kit.{refl, sym, ap, ap₂, ◌∙◌, List, [], flat_map, append_assoc, append-nil, ℕ, min}}
use Rattle.lists.{specs.Kit.{arith, div-div-eq-div-mul, add-one, length, get_or, take, drop, set, replicate, length-append, length-take, length-drop}}
use Rattle.lists.{specs.Kit.{replicate-append-replicate, drop_of_length-le, sets, sets-eq, length-sets, take-suc, take_at, take_all, length-take-le, drop-drop}}
use Rattle.lists.{specs.Kit.{get_or-take, get_or-drop}, proofs.Parts.{length_flat_map, drop_replicate}, proofs.Overwrite.{sets_append}, proofs.Map.{flat_map_append}}
use borrow.Rule.Slice.PartMut.{put_mid}
use Rattle.mesh.{specs.Image.{block_bytes, payload_bytes, block_entries, word, long, check_sum, block}, proofs.Images.Blocks.{block_body, block_check_last}}
use Rattle.mesh.{proofs.Images.Blocks.{length_block_body}, proofs.Images.Words.{length_word, length_long}}
use Rattle.image_writer.specs.Filler.{opened, sealed}

-- ---- a block opened

pub opened_sets : (k i : ℕ) (b : List ℕ) → b ≡ replicate block_bytes 0 → sets (set b 0 k) 2 (word i) ≡ opened k i
unfolding opened word
opened_sets k i b e = rw e

pub length_opened : (k i : ℕ) → length (opened k i) ≡ block_bytes
unfolding opened word
length_opened k i = refl

-- zeros stored after the first e bytes
pub zeros_put : (part new : List ℕ) (e k : ℕ) → length part ≡ block_bytes → e ≤ block_bytes → k ≡ block_bytes - e
    → new ≡ replicate (length (take k (drop e part))) 0 → put_mid e k part new ≡ take e part ++ replicate (block_bytes - e) 0
zeros_put part new e k long h m is =
    let n : length (take k (drop e part)) ≡ block_bytes - e = omega (arith, length-take k (drop e part), length-drop e part) in
    let past : drop k (drop e part) ≡ [] = drop_of_length-le (drop e part) {i = k} (omega (arith, length-drop e part)) in
    ap (λ (zs : List ℕ). take e part ++ zs) (ap₂ {C = List ℕ} (λ xs ys. xs ++ ys) (is ∙ ap (λ (j : ℕ). replicate {A = ℕ} j 0) n) past ∙ append-nil
    (replicate (block_bytes - e) 0))

-- ---- a block sealed

words_long : (x : ℕ) → word x ++ word (x / 65536) ≡ long x
unfolding word long
words_long x = rw (div-div-eq-div-mul x 65536 256)

pub sealed_sets : (b : List ℕ) (x : ℕ) → length b ≡ block_bytes → x ≡ check_sum (take 508 b)
    → sets (sets b 508 (word x)) 510 (word (x / 65536)) ≡ sealed b
unfolding sealed
sealed_sets b x h e =
    let n : length (long x) ≡ 4 = length_long x in
    let past : drop (508 + length (long x)) b ≡ [] = drop_of_length-le b {i = 508 + length (long x)} (omega arith) in
    ap (λ (k : ℕ). sets (sets b 508 (word x)) k (word (x / 65536))) (omega (arith, length_word x))
    ∙ sym (sets_append b 508 (word x) (word (x / 65536))) ∙ ap (sets b 508) (words_long x) ∙ sets-eq (long x) b 508 (omega arith)
    ∙ rw (past, append-nil, e)

-- ---- an opened block with its payload, sealed

module _ (k i : ℕ) (xs : List ℕ) (fits : length xs ≤ payload_bytes) where
  -- the head, the payload and zeros after it
  pub filled_payload : sets (opened k i) 4 xs ≡ k ∷ 0 ∷ word i ++ xs ++ replicate (508 - length xs) 0
  unfolding opened word
  filled_payload =
      let four : drop (4 + length xs) (opened k i) ≡ drop (length xs) (replicate 508 0) = sym (drop-drop (length xs) 4 (opened k i)) in
      sets-eq xs (opened k i) 4 (omega (arith, length_opened k i))
      ∙ ap (λ (ys : List ℕ). (k ∷ 0 ∷ i % 256 ∷ i / 256 % 256 ∷ xs) ++ ys) (four ∙ drop_replicate (length xs) 508 0)

  filled_body : sets (opened k i) 4 xs ≡ block_body k i xs ++ replicate 4 0
  unfolding word
  filled_body =
      let e : 508 - length xs ≡ payload_bytes - length xs + 4 = omega arith in
      let rest : replicate {A = ℕ} (508 - length xs) 0 ≡ replicate (payload_bytes - length xs) 0 ++ replicate 4 0 =
      ap (λ (m : ℕ). replicate {A = ℕ} m 0) e ∙ sym (replicate-append-replicate (payload_bytes - length xs) 4 0) in
      filled_payload ∙ ap (λ (ys : List ℕ). (k ∷ 0 ∷ i % 256 ∷ i / 256 % 256 ∷ xs) ++ ys) rest
      ∙ sym (append_assoc (k ∷ 0 ∷ i % 256 ∷ i / 256 % 256 ∷ xs) (replicate (payload_bytes - length xs) 0) (replicate 4 0))

  pub sealed_payload : sealed (sets (opened k i) 4 xs) ≡ block k i xs
  unfolding sealed
  sealed_payload =
      let body : take 508 (sets (opened k i) 4 xs) ≡ block_body k i xs =
      ap (take 508) filled_body ∙ take_at (block_body k i xs) (replicate 4 0) 508 (length_block_body k i xs fits) in
      rw body (sym (block_check_last k i xs))

-- the block of kind 0
pub sealed_counts : (n m : ℕ) → sealed (sets (sets (opened 0 0) 4 (word n)) 6 (word m)) ≡ block 0 0 (word n ++ word m)
sealed_counts n m =
    ap (λ (k : ℕ). sealed (sets (sets (opened 0 0) 4 (word n)) k (word m))) (omega (arith, length_word n))
    ∙ ap sealed (sym (sets_append (opened 0 0) 4 (word n) (word m)))
    ∙ sealed_payload 0 0 (word n ++ word m) (omega (arith, length-append (word n) (word m), length_word n, length_word m))

-- ---- entries put one after the other, `size` bytes each: v of them so far

module _ {A : Type 0} (f : A → List ℕ) (size : ℕ) (sizes : (x : A) → length (f x) ≡ size) where
  pub record Putting (start : List ℕ) (at : ℕ) (xs : List A) (v : ℕ) (table : List ℕ) : Type 0 where
    pub low : v ≤ length xs
    pub long : length table ≡ length start
    pub is : table ≡ sets start at (flat_map f (take v xs))

  pub putting_none : (start : List ℕ) (at : ℕ) (xs : List A) → Putting start at xs 0 start
  unfolding flat_map
  putting_none start at xs = record { low = omega arith; long = refl; is = refl }

  pub putting_turn : (start : List ℕ) (at : ℕ) (xs : List A) (v : ℕ) (table new : List ℕ) (d y : A) → Putting start at xs v table → v < length xs
      → y ≡ get_or xs v d → new ≡ sets table (at + size * v) (f y) → Putting start at xs (v + 1) new
  unfolding flat_map
  putting_turn start at xs v table new d y p h same_entry e =
      let x : A = get_or xs v d in
      let done : List ℕ = flat_map f (take v xs) in
      let n : length done ≡ size * v = length_flat_map f size sizes (take v xs) ∙ ap (λ (k : ℕ). size * k) (length-take-le v xs p.low) in
      let one : flat_map f (x ∷ []) ≡ f x = append-nil (f x) in
      let more : flat_map f (take (v + 1) xs) ≡ done ++ f x =
      ap (λ (k : ℕ). flat_map f (take k xs)) (add-one v) ∙ ap (flat_map f) (take-suc xs v d h) ∙ flat_map_append f (take v xs) (x ∷ [])
      ∙ ap (λ (ys : List ℕ). done ++ ys) one in
      record {
        low = omega arith;
        long = ap length e ∙ length-sets table (at + size * v) (f y) ∙ p.long;
        is =
            e ∙ ap₂ {C = List ℕ} (λ t z. sets t (at + size * v) (f z)) p.is same_entry ∙ ap (λ (k : ℕ). sets (sets start at done) (at + k) (f x)) (sym n)
            ∙ sym (sets_append start at done (f x)) ∙ ap (sets start at) (sym more);
      }

  pub putting_end : (start : List ℕ) (at : ℕ) (xs : List A) (v : ℕ) (table : List ℕ) → Putting start at xs v table → length xs ≤ v
      → table ≡ sets start at (flat_map f xs)
  putting_end start at xs v table p h = p.is ∙ ap (λ (ys : List A). sets start at (flat_map f ys)) (take_all v xs h)

-- ---- the entries of the order that a block has

abbrev pub order_part : (order : List ℕ) → (from : ℕ) → List ℕ
order_part xs from = take block_entries (drop from xs)

pub length_order_part : (xs : List ℕ) (from : ℕ) → length (order_part xs from) ≡ min block_entries (length xs - from)
length_order_part xs from = length-take block_entries (drop from xs) ∙ ap (min block_entries) (length-drop from xs)

pub get_d_order_part : (xs : List ℕ) (from v : ℕ) → v < block_entries → get_or xs (from + v) 0 ≡ get_or (order_part xs from) v 0
get_d_order_part xs from v h = sym (get_or-take block_entries (drop from xs) v 0 h ∙ get_or-drop from xs v 0)

pub length_order_bytes : (xs : List ℕ) (from : ℕ) → length (flat_map word (order_part xs from)) ≤ payload_bytes
length_order_bytes xs from = omega (arith, length_flat_map word 2 length_word (order_part xs from), length_order_part xs from)
