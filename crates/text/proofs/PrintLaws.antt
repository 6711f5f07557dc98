-- Laws of `put`: one text after another, lengths, the place, and what stands in the buffer where the text fits.
use Rattle.std.specs.Prelude.{◌≡◌, ◌∷◌, ◌++◌, ◌+◌, ◌≤◌, ◌<◌}
use Rattle.lists.specs.Kit.{refl, sym, ap, ◌∙◌, List, [], map, ℕ, suc, min, arith}
use Rattle.lists.specs.Kit.{add-one, ltb, length, take, drop, get_or, set, length-set, drop_of_length-le, drop-cons, set_out, sets, sets-eq, lt-ltb, le-ltb}
use Rattle.lists.{specs.Kit.{ltb-true, ltb-false, ⊎_elim}, proofs.Tests.{bool_cases}}
use Rattle.text.specs.{Text.{space, line_feed, decimal, further_fields}, Print.{Buffer, buffer_at, max_place, next_place, put, Puts}}

-- ---- one byte

module _ (bytes : List ℕ) (at x : ℕ) where
  pub puts_byte_in : at < max_place → Puts (buffer_at bytes at) (x ∷ []) (buffer_at (set bytes at x) (at + 1))
  unfolding put next_place
  puts_byte_in h = record { is = rw (lt-ltb at max_place h) }

  pub puts_byte_past : length bytes ≤ at → at < max_place → Puts (buffer_at bytes at) (x ∷ []) (buffer_at bytes (at + 1))
  unfolding put next_place
  puts_byte_past l h = record { is = rw (lt-ltb at max_place h, set_out bytes at x l) }

  pub puts_byte_last : length bytes ≤ at → max_place ≤ at → Puts (buffer_at bytes at) (x ∷ []) (buffer_at bytes at)
  unfolding put next_place
  puts_byte_last l h = record { is = rw (le-ltb at max_place h, set_out bytes at x l) }

-- ---- one text after another

pub put_append : (b : Buffer) (xs ys : List ℕ) → put b (xs ++ ys) ≡ put (put b xs) ys
unfolding put
put_append b [] ys = refl
put_append b (x ∷ xs) ys = put_append (buffer_at (set b.bytes b.at x) (next_place b.at)) xs ys

pub puts_append : {b c d : Buffer} {xs ys : List ℕ} → Puts b xs c → Puts c ys d → Puts b (xs ++ ys) d
puts_append {b} {c} {d} {xs} {ys} p q =
    record { is = q.is ∙ ap (λ (a : Buffer). put a ys) p.is ∙ sym (put_append b xs ys) }

-- the same text, said in another way
pub puts_as : {b c : Buffer} {xs ys : List ℕ} → xs ≡ ys → Puts b xs c → Puts b ys c
puts_as {b} e p = record { is = p.is ∙ ap (put b) e }

-- ---- a text put by pieces

-- c is the buffer after the first pieces, and what is left takes it where the whole text takes b
pub record Putting (b : Buffer) (whole : List ℕ) (c : Buffer) (left : List ℕ) : Type 0 where
  pub is : put c left ≡ put b whole

pub putting_none : {b : Buffer} {whole : List ℕ} → Putting b whole b whole
putting_none = record { is = refl }

pub putting_piece : {b c d : Buffer} {whole piece : List ℕ} (left more : List ℕ) → left ≡ piece ++ more → Putting b whole c left → Puts c piece d → Putting b
    whole d more
putting_piece {b} {c} {d} {whole} {piece} left more e p q =
    record { is = ap (λ (a : Buffer). put a more) q.is ∙ sym (put_append c piece more) ∙ ap (put c) (sym e) ∙ p.is }

-- the last piece
pub putting_last : {b c d : Buffer} {whole left : List ℕ} → Putting b whole c left → Puts c left d → Puts b whole d
putting_last p q = record { is = q.is ∙ p.is }

-- nothing is left
pub putting_end : {b c : Buffer} {whole left : List ℕ} → Putting b whole c left → left ≡ [] → Puts b whole c
unfolding put
putting_end {b} {c} p e = record { is = ap (put c) (sym e) ∙ p.is }

-- ---- fields of a line, at any width

-- the first i of the things xs are put, a field each for the number that is printed of it
pub record Fields {A : Type 0} (f : A → ℕ) (xs : List A) (b c : Buffer) (i : ℕ) : Type 0 where
  pub low : i ≤ length xs
  pub is : Putting b (further_fields (map (λ (x : A). decimal (f x)) xs)) c (further_fields (map (λ (x : A). decimal (f x)) (drop i xs)))

pub fields_none : {A : Type 0} (f : A → ℕ) (xs : List A) {b : Buffer} → Fields f xs b b 0
fields_none f xs = record { low = omega arith; is = putting_none }

pub fields_next : {A : Type 0} {f : A → ℕ} {xs : List A} {b c d : Buffer} {i : ℕ} (x : A) (w : ℕ) → i < length xs → x ≡ get_or xs i x → w ≡ f x
    → Fields f xs b c i → Puts c (space ∷ decimal w) d → Fields f xs b d (i + 1)
unfolding further_fields
fields_next {A} {f} {xs} {b} {c} {d} {i} x w h e n s p =
    let split : further_fields (map (λ (y : A). decimal (f y)) (drop i xs))
    ≡ (space ∷ decimal w) ++ further_fields (map (λ (y : A). decimal (f y)) (drop (i + 1) xs))
    = rw (add-one i, drop-cons xs i x h, ← e, n) in
    record { low = omega arith; is = putting_piece _ _ split s.is p }

pub fields_last : {A : Type 0} {f : A → ℕ} {xs : List A} {b c d : Buffer} {i : ℕ} → length xs ≤ i → Fields f xs b c i → Puts c (line_feed ∷ []) d
    → Puts b (further_fields (map (λ (x : A). decimal (f x)) xs)) d
unfolding further_fields
fields_last {A} {f} {xs} {b} {c} {d} {i} h s p =
    let none_left : line_feed ∷ [] ≡ further_fields (map (λ (x : A). decimal (f x)) (drop i xs)) = rw (drop_of_length-le xs h) in
    putting_last s.is (puts_as none_left p)

-- ---- length

pub length_put : (b : Buffer) (xs : List ℕ) → length (put b xs).bytes ≡ length b.bytes
unfolding put
length_put b [] = refl
length_put b (x ∷ xs) = length_put (buffer_at (set b.bytes b.at x) (next_place b.at)) xs ∙ length-set b.bytes b.at x

pub length_putting : {b c : Buffer} {xs ys : List ℕ} → Putting b xs c ys → length c.bytes ≡ length b.bytes
length_putting {b} {c} {xs} {ys} p =
    sym (length_put c ys) ∙ ap (λ (a : Buffer). length a.bytes) p.is ∙ length_put b xs

-- ---- place

next_place_below : (at : ℕ) → at < max_place → next_place at ≡ at + 1
unfolding next_place
next_place_below at h = rw (lt-ltb at max_place h)

next_place_min : (at : ℕ) → at ≤ max_place → next_place at ≡ min (at + 1) max_place
unfolding next_place
next_place_min at h =
    ⊎_elim (λ e. rw e (omega (arith, ltb-true at max_place e))) (λ e. rw e (omega (arith, ltb-false at max_place e))) (bool_cases (ltb at max_place))

-- the place after a text is its length further on, at most the largest
pub at_put : (b : Buffer) (xs : List ℕ) → b.at ≤ max_place → (put b xs).at ≡ min (b.at + length xs) max_place
unfolding put
at_put b [] h = omega arith
at_put b (x ∷ xs) h =
    omega (arith, next_place_min b.at h, at_put (buffer_at (set b.bytes b.at x) (next_place b.at)) xs (omega (arith, next_place_min b.at h)))

-- ---- what stands in the buffer

bytes_put : (bytes : List ℕ) (at : ℕ) (xs : List ℕ) → at + length xs ≤ max_place → put (buffer_at bytes at) xs ≡ buffer_at (sets bytes at xs) (at + length xs)
unfolding put
bytes_put bytes at [] h = let e : at ≡ at + 0 = omega arith in ap (λ (p : ℕ). buffer_at bytes p) e
bytes_put bytes at (x ∷ xs) h =
    let e : at + 1 + length xs ≡ at + suc (length xs) = omega arith in
    rw (next_place_below at (omega arith))
    (bytes_put (set bytes at x) (at + 1) xs (omega arith)
    ∙ ap (λ (p : ℕ). buffer_at (sets (set bytes at x) p xs) (at + 1 + length xs)) (add-one at)
    ∙ ap (λ (p : ℕ). buffer_at (sets (set bytes at x) (suc at) xs) p) e)

-- a text that fits stands from the place on, and the place after it is answered; the bytes before and after are kept
pub put_fits : (bytes : List ℕ) (at : ℕ) (xs : List ℕ) → at + length xs ≤ length bytes → length bytes ≤ max_place
    → put (buffer_at bytes at) xs ≡ buffer_at (take at bytes ++ xs ++ drop (at + length xs) bytes) (at + length xs)
put_fits bytes at xs h m =
    bytes_put bytes at xs (omega arith) ∙ ap (λ (l : List ℕ). buffer_at l (at + length xs)) (sets-eq xs bytes at h)

-- ---- what a caller learns from the answered place

-- an answer at most the length: the whole text stands from the place on, and the bytes before and after it are kept
pub puts_whole : {bytes text after : List ℕ} {at next : ℕ} → Puts (buffer_at bytes at) text (buffer_at after next)
    → at ≤ max_place → length bytes < max_place → next ≤ length bytes
    → (next ≡ at + length text) × (after ≡ take at bytes ++ text ++ drop (at + length text) bytes)
puts_whole {bytes} {text} {after} {at} {next} p h m l =
    let place : next ≡ min (at + length text) max_place = ap (λ (b : Buffer). b.at) p.is ∙ at_put (buffer_at bytes at) text h in
    let e : buffer_at after next ≡ buffer_at (take at bytes ++ text ++ drop (at + length text) bytes) (at + length text)
    = p.is ∙ put_fits bytes at text (omega arith) (omega arith) in
    (ap (λ (b : Buffer). b.at) e, ap (λ (b : Buffer). b.bytes) e)
