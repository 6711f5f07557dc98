-- The script put piece by piece: its lines from their parts, and the invariant of each loop.
--   puts_place                     the place after a text that fits
--   one_put, two_put, three_put    a radio from its digits
--   first_put, word_put, up_put    a line from its parts
--   up_word, up_lower, up_higher   the room that its parts have
--   Fitting             c is the buffer after the first pieces, and what is left takes it where the whole text takes b, and fits
--   Ends, Rows          so after i pieces
--   above_radios        the neighbours above a radio are radios
use Rattle.std.specs.Prelude.{◌≡◌, ◌∷◌, ◌++◌, ◌+◌, ◌*◌, ◌-◌, ◌/◌, ◌%◌, ◌≤◌, ◌<◌}
use Rattle.lists.{specs.Kit.{refl, sym, ap, ◌∙◌, Bool, true, false, cond, List, [], append_assoc, flat_map, ℕ}}
use Rattle.lists.{specs.Kit.{arith, add-one, ltb, leb, length, get_or, take, drop, set, length-append, drop_of_length-le, drop-cons}}
use Rattle.lists.{specs.Lists.{overwrite, In, EntriesBelow}, proofs.Overwrite.{overwrite_take}, proofs.Map.{flat_map_append}, proofs.Filter.{in_filter}}
use Rattle.lists.{proofs.Member.{in_get_d}}
use borrow.Rule.Slice.PartMut.{mid_of, put_mid, Post-is, mid_len}
use Rattle.mesh.specs.Limits.{max_radios, row_bytes}
use Rattle.rows.{specs.Rows.{neighbours_of, row_listed, neighbours_above}, proofs.RowListLaws.{in_neighbours_of}, specs.Links.{links_to, links_above}}
use Rattle.rows.{specs.Links.{links_from}, proofs.LinksFrom.{links_from_row, links_from_end}}
use Rattle.text.{specs.Text.{bytes_of, space, line_feed, digit_byte, decimal, further_fields, printed_line}, specs.Print.{Buffer, buffer_at, max_place, Puts}}
use Rattle.text.{proofs.DecimalLaws.{decimal_digit, decimal_more}, proofs.PrintLaws.{put_fits, puts_byte_in, puts_append, puts_as, at_put, Putting}}
use Rattle.text.{proofs.PrintLaws.{putting_none, putting_piece, putting_end}}
use Rattle.calls.specs.Script.{radios_text, up_text, up_line}
use Rattle.script.proofs.ScriptLengths.{length_up_text}

-- ---- the place after a text

pub puts_place : {b c : Buffer} {xs : List ℕ} → Puts b xs c → b.at + length xs ≤ max_place → c.at ≡ b.at + length xs
puts_place {b} {c} {xs} p h = omega (arith, ap (λ (d : Buffer). d.at) p.is, at_put b xs (omega arith))

-- ---- a radio's digits

decimal_two : (x : ℕ) → 10 ≤ x → x < 100 → decimal x ≡ digit_byte (x / 10) ∷ digit_byte (x % 10) ∷ []
decimal_two x h l = rw (decimal_more x h, decimal_digit (x / 10) (omega arith))

decimal_three : (x : ℕ) → 100 ≤ x → x < 1000 → decimal x ≡ digit_byte (x / 100) ∷ digit_byte (x / 10 % 10) ∷ digit_byte (x % 10) ∷ []
decimal_three x h l =
    let e : x / 10 / 10 ≡ x / 100 = omega arith in rw (decimal_more x (omega arith), decimal_two (x / 10) (omega arith) (omega arith), e)

module _ (bytes : List ℕ) (at x : ℕ) where
  pub one_put : (d : ℕ) → x < 10 → d ≡ digit_byte x → at < max_place → Puts (buffer_at bytes at) (decimal x) (buffer_at (set bytes at d) (at + 1))
  one_put d h e m = puts_as (rw (e, decimal_digit x h)) (puts_byte_in bytes at d m)

  pub two_put : (d e : ℕ) → 10 ≤ x → x < 100 → d ≡ digit_byte (x / 10) → e ≡ digit_byte (x % 10) → at + 1 < max_place
      → Puts (buffer_at bytes at) (decimal x) (buffer_at (set (set bytes at d) (at + 1) e) (at + 2))
  two_put d e h l f g m =
      let s : at + 1 + 1 ≡ at + 2 = omega arith in
      rw (← s) (puts_as (rw (f, g, decimal_two x h l)) (puts_append (puts_byte_in bytes at d (omega arith)) (puts_byte_in _ (at + 1) e m)))

  pub three_put : (d e f : ℕ) → 100 ≤ x → x < 1000 → d ≡ digit_byte (x / 100) → e ≡ digit_byte (x / 10 % 10) → f ≡ digit_byte (x % 10) → at + 2 < max_place
      → Puts (buffer_at bytes at) (decimal x) (buffer_at (set (set (set bytes at d) (at + 1) e) (at + 2) f) (at + 3))
  three_put d e f h l i j k m =
      let s : at + 1 + 1 ≡ at + 2 = omega arith in
      let t : at + 2 + 1 ≡ at + 3 = omega arith in
      let two : Puts (buffer_at bytes at) (d ∷ e ∷ []) (buffer_at (set (set bytes at d) (at + 1) e) (at + 2))
      = rw (← s) (puts_append (puts_byte_in bytes at d (omega arith)) (puts_byte_in _ (at + 1) e (omega arith))) in
      rw (← t) (puts_as (rw (i, j, k, decimal_three x h l)) (puts_append two (puts_byte_in _ (at + 2) f m)))

-- ---- lines

pub first_put : {a b c d : Buffer} (n : ℕ) → Puts a (bytes_of "radios ") b → Puts b (decimal n) c → Puts c (line_feed ∷ []) d → Puts a (radios_text n) d
unfolding printed_line further_fields
first_put n p q r = puts_append p (puts_append q r)

-- a word copied over a part of the buffer that is as long
pub word_put : (bytes word new : List ℕ) (at : ℕ) → at + length word ≤ length bytes → length bytes ≤ max_place
    → new ≡ overwrite (take (length (mid_of at (at + length word - at) bytes)) word) (mid_of at (at + length word - at) bytes)
    → Puts (buffer_at bytes at) word (buffer_at (put_mid at (at + length word - at) bytes new) (at + length word))
word_put bytes word new at fits m e =
    let part = mid_of at (at + length word - at) bytes in
    let is : new ≡ word = e ∙ overwrite_take word part (omega (arith, mid_len at (at + length word) bytes fits)) in
    record {
      is = rw (is, Post-is at (at + length word) bytes (omega arith))
          (ap (λ (l : List ℕ). buffer_at l (at + length word)) (sym (append_assoc (take at bytes) word (drop (at + length word) bytes)))
          ∙ sym (put_fits bytes at word fits m));
    }

pub up_put : {a b c d e : Buffer} (x y : ℕ) → Puts a (bytes_of "up ") b → Puts b (decimal x) c → Puts c (space ∷ decimal y) d → Puts d (line_feed ∷ []) e
    → Puts a (up_text x y) e
unfolding printed_line further_fields
up_put x y p q r s = puts_append p (puts_append q (puts_append r s))

-- the word of a line that fits has room, and so have both its radios and its line feed
module _ (bytes : List ℕ) (at a b : ℕ) (room : at + length (up_text a b) ≤ length bytes) (long : length bytes ≤ max_place) where
  pub up_word : {xs : List ℕ} {w : ℕ} → Puts (buffer_at bytes at) (bytes_of "up ") (buffer_at xs w) → w + 2 + length (decimal a) + length (decimal b) ≤ length
      bytes
  up_word o = omega (arith, length_up_text a b, puts_place o (omega (arith, length_up_text a b)))

  pub up_lower : {xs ys : List ℕ} {w s : ℕ} → Puts (buffer_at bytes at) (bytes_of "up ") (buffer_at xs w)
      → Puts (buffer_at xs w) (decimal a) (buffer_at ys s) → s + 2 + length (decimal b) ≤ length bytes
  up_lower o p = omega (arith, up_word o, puts_place p (omega (arith, up_word o)))

  pub up_higher : {xs ys zs ws : List ℕ} {w s f : ℕ} → Puts (buffer_at bytes at) (bytes_of "up ") (buffer_at xs w)
      → Puts (buffer_at xs w) (decimal a) (buffer_at ys s) → Puts (buffer_at zs (s + 1)) (decimal b) (buffer_at ws f) → f < length bytes
  up_higher o p q = omega (arith, up_lower o p, puts_place q (omega (arith, up_lower o p)))

-- ---- a text put by pieces, which fits

pub record Fitting (b : Buffer) (whole : List ℕ) (c : Buffer) (left : List ℕ) : Type 0 where
  pub is : Putting b whole c left
  pub place : c.at + length left ≡ b.at + length whole

fitting_none : {b : Buffer} {whole : List ℕ} → Fitting b whole b whole
fitting_none = record { is = putting_none; place = refl }

-- a piece that is to come has room
fitting_room : {b c : Buffer} {whole left : List ℕ} (piece more : List ℕ) → left ≡ piece ++ more → Fitting b whole c left
    → c.at + length piece ≤ b.at + length whole
fitting_room piece more e f = omega (arith, f.place, ap length e, length-append piece more)

fitting_piece : {b c d : Buffer} {whole piece : List ℕ} (left more : List ℕ) → left ≡ piece ++ more → b.at + length whole ≤ max_place
    → Fitting b whole c left → Puts c piece d → Fitting b whole d more
fitting_piece {b} {c} {d} {whole} {piece} left more e m f p =
    record {
      is = putting_piece left more e f.is p;
      place = omega (arith, f.place, ap length e, length-append piece more, puts_place p (omega (arith, fitting_room piece more e f)));
    }

-- ---- the links of a row: the first i of the radios bs are put

ends_split : (a : ℕ) (bs : List ℕ) (i x : ℕ) → i < length bs → x ≡ get_or bs i 0
    → flat_map up_line (links_to a (drop i bs)) ≡ up_text a x ++ flat_map up_line (links_to a (drop (i + 1) bs))
unfolding flat_map up_line
ends_split a bs i x h e = rw (add-one i, drop-cons bs i 0 h, e)

pub record Ends (a : ℕ) (bs : List ℕ) (b c : Buffer) (i : ℕ) : Type 0 where
  pub low : i ≤ length bs
  pub is : Fitting b (flat_map up_line (links_to a bs)) c (flat_map up_line (links_to a (drop i bs)))

pub ends_none : (a : ℕ) (bs : List ℕ) {b : Buffer} → Ends a bs b b 0
ends_none a bs = record { low = omega arith; is = fitting_none }

module _ {a : ℕ} {bs : List ℕ} {b c : Buffer} {i : ℕ} (s : Ends a bs b c i) where
  pub ends_room : (x : ℕ) → i < length bs → x ≡ get_or bs i 0 → c.at + length (up_text a x) ≤ b.at + length (flat_map up_line (links_to a bs))
  ends_room x h e = fitting_room (up_text a x) _ (ends_split a bs i x h e) s.is

  pub ends_next : {d : Buffer} (x : ℕ) → i < length bs → x ≡ get_or bs i 0 → b.at + length (flat_map up_line (links_to a bs)) ≤ max_place
      → Puts c (up_text a x) d → Ends a bs b d (i + 1)
  ends_next x h e m p = record { low = omega arith; is = fitting_piece _ _ (ends_split a bs i x h e) m s.is p }

  pub ends_last : length bs ≤ i → Puts b (flat_map up_line (links_to a bs)) c
  unfolding flat_map
  ends_last h = putting_end s.is.is (rw (drop_of_length-le bs h))

-- ---- the rows: the ones below a are put

rows_split : (n : ℕ) (ts : List ℕ) (a : ℕ) → a < n
    → flat_map up_line (links_from n ts a 0) ≡ flat_map up_line (links_above ts a) ++ flat_map up_line (links_from n ts (a + 1) 0)
unfolding links_above
rows_split n ts a h =
    ap (flat_map up_line) (links_from_row n ts a 0 h (omega arith)) ∙ flat_map_append up_line (links_to a (neighbours_above ts a)) (links_from n ts (a + 1) 0)

pub record Rows (n : ℕ) (ts : List ℕ) (b c : Buffer) (a : ℕ) : Type 0 where
  pub low : a ≤ n
  pub is : Fitting b (flat_map up_line (links_from n ts 0 0)) c (flat_map up_line (links_from n ts a 0))

pub rows_none : (n : ℕ) (ts : List ℕ) {b : Buffer} → Rows n ts b b 0
rows_none n ts = record { low = omega arith; is = fitting_none }

module _ {n : ℕ} {ts : List ℕ} {b c : Buffer} {a : ℕ} (s : Rows n ts b c a) where
  pub rows_room : a < n → c.at + length (flat_map up_line (links_above ts a)) ≤ b.at + length (flat_map up_line (links_from n ts 0 0))
  rows_room h = fitting_room (flat_map up_line (links_above ts a)) _ (rows_split n ts a h) s.is

  pub rows_next : {d : Buffer} → a < n → b.at + length (flat_map up_line (links_from n ts 0 0)) ≤ max_place
      → Puts c (flat_map up_line (links_above ts a)) d → Rows n ts b d (a + 1)
  rows_next h m p = record { low = omega arith; is = fitting_piece _ _ (rows_split n ts a h) m s.is p }

  pub rows_last : n ≤ a → Puts b (flat_map up_line (links_from n ts 0 0)) c
  unfolding flat_map
  rows_last h = putting_end s.is.is (rw (links_from_end n ts a 0 h))

-- ---- the radios of a row

pub above_radios : (ts : List ℕ) (a : ℕ) → EntriesBelow max_radios (neighbours_above ts a)
unfolding neighbours_above row_listed
above_radios ts a i h =
    go (leb (row_bytes * a + row_bytes) (length ts)) (in_filter (ltb a) (row_listed ts a) _ (in_get_d (neighbours_above ts a) i h)).0
  where
    go : (t : Bool) → In (get_or (neighbours_above ts a) i 0) (cond t (neighbours_of ts a) []) → get_or (neighbours_above ts a) i 0 < max_radios
    go true m = (in_neighbours_of ts a _ m).0
    go false m = absurd m
