-- What a read found, and reads one after another.
use Rattle.std.specs.Prelude.{◌≡◌, ◌∷◌, ◌++◌, ◌≤◌, ◌<◌, ◌+◌, Result, Ok, Err}
use Rattle.lists.specs.Kit.{refl, sym, ap, ◌∙◌, true, false, List, [], ℕ, zero, suc, min, arith, ℤ, pos, negsuc, eq-eqb, ne_eqb}
use Rattle.std.proofs.Common.{w32, to_z, of_z, SFits}
use Rattle.std.proofs.Math.Facts.{to_z-of_z}
use Rattle.lists.specs.Kit.{length, take, drop, length-take, length-take-le, take_at}
use Rattle.player.specs.Counts.{IsPrefixLen}
use Rattle.text.{specs.Print.{Buffer, buffer_at, put, Puts, max_place}, proofs.PrintLaws.{puts_append, at_put, length_put, puts_whole}}
use Rattle.player.specs.{Reads.{is_error, failure, by_count, found, Found, Read, input_of, Going, ToEnd, FillsOn}}
use Rattle.player.specs.{Reads.{Fills}, declared.input.Brought.{Brought}, declared.input.State.{State}, declared.input.State.TheVariants.{GoesOn, End, Failed}}
use Rattle.player.specs.declared.input.Unread.TheVariants.{Other}

-- ---- fronts

pub prefix_len : (k : ℕ) (xs : List ℕ) → k ≤ length xs → IsPrefixLen k xs
prefix_len k xs h = (h, sym (length-take-le k xs h))

-- ---- errors, from the bits that the code compares

is_error_at : (k : ℕ) (e : ℤ) → e ≡ pos k → is_error k e ≡ true
unfolding is_error
is_error_at k e h = ap (is_error k) h ∙ eq-eqb k k refl

pub error_is : (k : ℕ) (e : ℤ) → to_z w32 k ≡ pos k → SFits w32 e → of_z w32 e ≡ k → is_error k e ≡ true
error_is k e t f h = is_error_at k e (sym (to_z-of_z f) ∙ ap (to_z w32) h ∙ t)

pub error_other : (k : ℕ) (e : ℤ) → (of_z w32 e ≡ k → ⊥) → is_error k e ≡ false
unfolding is_error
error_other k (pos j) h = ne_eqb j k h
error_other k (negsuc j) h = refl

-- ---- what a read found

pub found_nowhere : (got : Result ℕ ℤ) (room : ℕ) → room ≡ 0 → record { count = 0; state = Failed Other } ≡ found got room
unfolding found
found_nowhere got zero h = refl
found_nowhere got (suc room) h = absurd (omega arith)

pub found_failed : (e : ℤ) (room : ℕ) (s : State) → (room ≡ 0 → ⊥) → s ≡ failure e → record { count = 0; state = s } ≡ found (Err e) room
unfolding found
found_failed e zero s some f = absurd (some refl)
found_failed e (suc room) s some f = rw f

module _ (j room k : ℕ) (some : room ≡ 0 → ⊥) (is : k ≡ min j room) where
  found_count : found (Ok j) room ≡ by_count k
  unfolding found
  found_count = by room some is
    where
      by : (r : ℕ) → (r ≡ 0 → ⊥) → k ≡ min j r → found (Ok j) r ≡ by_count k
      by zero f e = absurd (f refl)
      by (suc r) f e = rw e

  pub found_end : k ≡ 0 → record { count = 0; state = End } ≡ found (Ok j) room
  unfolding by_count
  found_end e = rw (found_count, e)

  pub found_bytes : (k ≡ 0 → ⊥) → record { count = k; state = GoesOn } ≡ found (Ok j) room
  unfolding by_count
  found_bytes f = rw found_count (by k f)
    where
      by : (i : ℕ) → (i ≡ 0 → ⊥) → record { count = i; state = GoesOn } ≡ by_count i
      by zero f = absurd (f refl)
      by (suc i) f = refl

by_none : (k : ℕ) → ((by_count k).state ≡ GoesOn → ⊥) → (by_count k).count ≡ 0
unfolding by_count
by_none zero h = refl
by_none (suc k) h = absurd (h refl)

-- what was found brings bytes only where it goes on
found_none : (got : Result ℕ ℤ) (room : ℕ) → ((found got room).state ≡ GoesOn → ⊥) → (found got room).count ≡ 0
unfolding found
found_none got zero h = refl
found_none (Ok k) (suc room) h = by_none (min k (suc room)) h
found_none (Err e) (suc room) h = refl

pub none_found : {room : ℕ} {r : Brought} → Found room r → (r.state ≡ GoesOn → ⊥) → r.count ≡ 0
none_found {room} {r} f h =
    ap (λ (x : Brought). x.count) f.is
    ∙ found_none f.got room (λ e. h (ap (λ (x : Brought). x.state) f.is ∙ e))

pub found_in : (got : Result ℕ ℤ) (size most len : ℕ) (xs : List ℕ) (r : Brought) → size ≡ min most len → length xs ≡ len
    → r ≡ found got (length (take size xs)) → Found (min most len) r
found_in got size most len xs r h l f = record { got = got; is = f ∙ ap (found got) (length-take size xs ∙ omega (arith, h, l)) }

pub take_few : (size k most len : ℕ) (xs : List ℕ) → size ≡ min most len → k ≤ length (take size xs) → k ≤ most
take_few size k most len xs h l = omega (arith, h, l, length-take size xs)

pub take_none : (k : ℕ) (xs : List ℕ) → k ≡ 0 → take k xs ≡ []
take_none k xs h = ap (λ (j : ℕ). take j xs) h

-- what counts bytes of a part counts bytes of the whole
pub take_counts : (size k : ℕ) (xs : List ℕ) → k ≤ length (take size xs) → IsPrefixLen k xs
take_counts size k xs h = prefix_len k xs (omega (arith, h, length-take size xs))

-- ---- a front

-- the reads so far filled the buffer to this place
pub record Filled (old new : List ℕ) (at : ℕ) : Type 0 where
  pub reads : List Read
  pub puts : Puts (buffer_at old 0) (input_of reads) (buffer_at new at)
  pub going : Going reads
  pub low : at ≤ length new

pub filled_none : (old : List ℕ) → Filled old old 0
unfolding put input_of Going
filled_none old = record { reads = []; puts = record { is = refl }; going = tt; low = omega arith }

-- one read more, whatever it found
pub filled_more : (old mid new : List ℕ) (at : ℕ) (r : Brought) → Filled old mid at → FillsOn mid at r new → Fills old r new
unfolding input_of Going ToEnd
filled_more old mid new at r so on =
    record {
      reads = record { bytes = on.bytes; state = r.state; none = on.none } ∷ so.reads;
      puts = puts_append so.puts on.puts;
      going = λ e. (e, so.going);
      ended = λ e. (e, so.going);
    }

-- and it goes on
pub filled_on : (old new : List ℕ) (r : Brought) → r.count ≤ length new → r.state ≡ GoesOn → Fills old r new → Filled old new r.count
filled_on old new r low e f = record { reads = f.reads; puts = f.puts; going = f.going e; low = low }

-- the reads are used up
pub filled_out : (old new : List ℕ) (at : ℕ) → Filled old new at → Fills old (record { count = at; state = Failed Other }) new
filled_out old new at so = record { reads = so.reads; puts = so.puts; going = λ e. absurd (cc); ended = λ e. absurd (cc) }

-- what is put within the buffer ends within it
pub put_within : (old text new : List ℕ) (at next : ℕ) → at + length text ≤ length old → length old ≤ max_place
    → Puts (buffer_at old at) text (buffer_at new next) → next ≤ length new
put_within old text new at next h m p =
    let place : next ≡ (put (buffer_at old at) text).at = ap (λ (b : Buffer). b.at) p.is in
    let long : length new ≡ length (put (buffer_at old at) text).bytes = ap (λ (b : Buffer). length b.bytes) p.is in
    omega (arith, place, long, at_put (buffer_at old at) text (omega arith), length_put (buffer_at old at) text)

-- the front of the buffer is what the reads brought
pub fills_front : (old new : List ℕ) (r : Brought) → length old < max_place → r.count ≤ length old → (f : Fills old r new) → take r.count new ≡ input_of
    f.reads
fills_front old new r m l f =
    let whole = puts_whole f.puts (omega arith) m l in
    let k = length (input_of f.reads) in
    ap (λ (xs : List ℕ). take r.count xs) whole.1
    ∙ ap (λ (j : ℕ). take j ([] ++ input_of f.reads ++ drop (0 + k) old)) whole.0
    ∙ take_at (input_of f.reads) (drop (0 + k) old) (0 + k) (omega arith)
