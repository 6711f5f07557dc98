-- Texts of the site sheet put piece by piece, each at its place: columns, cells, and the invariant of each loop.
--   column_space, column_digit   a column by cases
--   cell_put               a cell from its columns
--   Spaces, Cells, Lines   after i pieces: what is left takes the page where the whole text takes it
--   line_put               a line from its cells, its spaces and its line feed
use Rattle.std.specs.Prelude.{◌≡◌, ◌∷◌, ◌++◌, ◌+◌, ◌*◌, ◌-◌, ◌/◌, ◌%◌, ◌≤◌, ◌<◌}
use Rattle.lists.specs.{Kit.{sym, ap, List, [], flat_map, ℕ, suc, min, arith, length, replicate, set, lt-ltb}}
use Rattle.lists.specs.{Kit.{le-ltb}, Lists.{range}}
use Rattle.mesh.specs.Sound.{number_in}
use Rattle.text.{specs.Text.{space, line_feed, digit_byte}, specs.Print.{Buffer, buffer_at, max_place, put, Puts}, proofs.PrintLaws.{puts_byte_in, puts_append}}
use Rattle.text.{proofs.PrintLaws.{puts_as, Putting, putting_none, putting_piece, putting_end}}
use Rattle.calls.{specs.Sheet.{line_cells, line_width, line_bytes, cell_width, filled, cell, cells, sheet_line, sheet_lines, sheet}}
use Rattle.calls.{specs.SheetCells.{digit_column, CellsFit}, proofs.SheetLaws.{cell_columns, length_cells}}

-- ---- columns

pub column_space : (p x : ℕ) → x < p → digit_column p x ≡ space
unfolding digit_column
column_space p x h = rw (lt-ltb x p h)

pub column_digit : (p x : ℕ) → p ≤ x → digit_column p x ≡ digit_byte (x / p % 10)
unfolding digit_column
column_digit p x h = rw (le-ltb x p h)

-- ---- a byte at its place

-- after a text that ends i bytes on
puts_at : {b : Buffer} {xs page : List ℕ} (at i x : ℕ) → at + i < max_place → Puts b xs (buffer_at page (at + i))
    → Puts b (xs ++ (x ∷ [])) (buffer_at (set page (at + i) x) (at + (i + 1)))
puts_at {b} {xs} {page} at i x h p =
    let e : at + i + 1 ≡ at + (i + 1) = omega arith in rw (← e) (puts_append p (puts_byte_in page (at + i) x h))

module _ (page : List ℕ) (at v x : ℕ) (room : at + cell_width ≤ max_place) (radio : v < 1000) (low : x < 100) where
  -- the bytes of the radio's columns and of the number's
  pub cell_put : (v₁ v₂ v₃ x₁ x₂ : ℕ) → v₁ ≡ digit_column 100 v → v₂ ≡ digit_column 10 v → v₃ ≡ digit_byte (v % 10) → x₁ ≡ digit_column 10 x
      → x₂ ≡ digit_byte (x % 10)
      → Puts (buffer_at page at) (cell v x) (
      buffer_at
      (set (set (set (set (set (set (set (set page at v₁) (at + 1) v₂) (at + 2) v₃) (at + 3) 58) (at + 4) x₁) (at + 5) x₂) (at + 6) space) (at + 7) space)
      (at + cell_width))
  cell_put v₁ v₂ v₃ x₁ x₂ e f g k l =
      let is : v₁ ∷ v₂ ∷ v₃ ∷ 58 ∷ x₁ ∷ x₂ ∷ space ∷ space ∷ [] ≡ cell v x = rw (e, f, g, k, l) (sym (cell_columns v x radio low)) in
      puts_as is (
      puts_at at 7 space (omega arith) (puts_at at 6 space (omega arith) (
      puts_at at 5 x₂ (omega arith) (puts_at at 4 x₁ (omega arith) (puts_at at 3 58 (omega arith) (
      puts_at at 2 v₃ (omega arith) (puts_at at 1 v₂ (omega arith) (puts_byte_in page at v₁ (omega arith)))))))))

-- ---- spaces

pub record Spaces (page : List ℕ) (at count : ℕ) (after : List ℕ) (i : ℕ) : Type 0 where
  pub low : i ≤ count
  pub is : Putting (buffer_at page at) (replicate count space) (buffer_at after (at + i)) (replicate (count - i) space)

pub spaces_none : (page : List ℕ) (at count : ℕ) → Spaces page at count page 0
spaces_none page at count =
    let e : count - 0 ≡ count = omega arith in
    let f : at + 0 ≡ at = omega arith in
    record { low = omega arith; is = rw (e, f) putting_none }

pub spaces_next : {page after : List ℕ} {at count i : ℕ} → i < count → at + i < max_place → Spaces page at count after i
    → Spaces page at count (set after (at + i) space) (i + 1)
spaces_next {page} {after} {at} {count} {i} h l s =
    let e : count - i ≡ suc (count - (i + 1)) = omega arith in
    let f : at + i + 1 ≡ at + (i + 1) = omega arith in
    let split : replicate (count - i) space ≡ (space ∷ []) ++ replicate (count - (i + 1)) space = rw e in
    record { low = omega arith; is = rw (← f) (putting_piece _ _ split s.is (puts_byte_in after (at + i) space l)) }

pub spaces_last : {page after : List ℕ} {at count i : ℕ} → count ≤ i → Spaces page at count after i
    → Puts (buffer_at page at) (replicate count space) (buffer_at after (at + count))
spaces_last {page} {after} {at} {count} {i} h s =
    let e : count - i ≡ 0 = omega arith in
    let f : at + count ≡ at + i = omega (arith, s.low) in rw f (putting_end s.is (rw e))

-- ---- cells

pub record Cells (page : List ℕ) (at : ℕ) (ns : List ℕ) (v k : ℕ) (after : List ℕ) (i : ℕ) : Type 0 where
  pub low : i ≤ k
  pub is : Putting (buffer_at page at) (cells ns v k) (buffer_at after (at + cell_width * i)) (cells ns (v + i) (k - i))

pub cells_none : (page : List ℕ) (at : ℕ) (ns : List ℕ) (v k : ℕ) → Cells page at ns v k page 0
cells_none page at ns v k =
    let e : v + 0 ≡ v = omega arith in
    let f : k - 0 ≡ k = omega arith in
    let g : at + cell_width * 0 ≡ at = omega arith in
    record { low = omega arith; is = rw (e, f, g) putting_none }

pub cells_next : {page after more ns : List ℕ} {at v k i : ℕ} (x : ℕ) → i < k → x ≡ number_in ns (v + i) → Cells page at ns v k after i
    → Puts (buffer_at after (at + cell_width * i)) (cell (v + i) x) (buffer_at more (at + cell_width * i + cell_width)) → Cells page at ns v k more (i + 1)
unfolding cells range flat_map
cells_next {page} {after} {more} {ns} {at} {v} {k} {i} x h g s p =
    let e : k - i ≡ suc (k - (i + 1)) = omega arith in
    let m : suc (v + i) ≡ v + (i + 1) = omega arith in
    let f : at + cell_width * i + cell_width ≡ at + cell_width * (i + 1) = omega arith in
    let split : cells ns (v + i) (k - i) ≡ cell (v + i) x ++ cells ns (v + (i + 1)) (k - (i + 1)) = rw (e, ← m, g) in
    record { low = omega arith; is = rw (← f) (putting_piece _ _ split s.is p) }

pub cells_last : {page after ns : List ℕ} {at v k i : ℕ} → k ≤ i → Cells page at ns v k after i
    → Puts (buffer_at page at) (cells ns v k) (buffer_at after (at + cell_width * k))
unfolding cells range flat_map
cells_last {page} {after} {ns} {at} {v} {k} {i} h s =
    let e : k - i ≡ 0 = omega arith in
    let f : k ≡ i = omega (arith, s.low) in rw (ap (λ (j : ℕ). at + cell_width * j) f) (putting_end s.is (rw e))

-- ---- a line

pub line_put : {ns page more after : List ℕ} (at i k : ℕ) → CellsFit ns → line_cells * i < length ns → k ≡ min line_cells (length ns - line_cells * i)
    → at + line_bytes ≤ max_place → Puts (buffer_at page at) (cells ns (line_cells * i) k) (buffer_at more (at + cell_width * k))
    → Puts (buffer_at more (at + cell_width * k)) (replicate (line_width - cell_width * k) space)
    (buffer_at after (at + cell_width * k + (line_width - cell_width * k)))
    → Puts (buffer_at page at) (sheet_line ns i) (buffer_at (set after (at + line_width) line_feed) (at + line_bytes))
unfolding sheet_line filled
line_put {ns} {page} {more} {after} at i k fit h f room p q =
    let text = cells ns (line_cells * i) k in
    let long : length text ≡ cell_width * k = length_cells ns fit (line_cells * i) k (omega arith) in
    let s : line_width - cell_width * k ≡ line_width - length text = omega arith in
    let e : at + cell_width * k + (line_width - cell_width * k) ≡ at + line_width = omega arith in
    let columns : Puts (buffer_at page at) (text ++ replicate (line_width - length text) space) (buffer_at after (at + line_width))
    = rw (← e) (puts_append p (puts_as (ap (λ (m : ℕ). replicate m space) s) q)) in
    rw (← f) (puts_at at line_width line_feed (omega arith) columns)

-- ---- the sheet

pub record Lines (ns page after : List ℕ) (i : ℕ) : Type 0 where
  pub low : i ≤ sheet_lines (length ns)
  pub is : Putting (buffer_at page 0) (sheet ns) (buffer_at after (line_bytes * i)) (flat_map (sheet_line ns) (range i (sheet_lines (length ns) - i)))

pub lines_none : (ns page : List ℕ) → Lines ns page page 0
unfolding sheet
lines_none ns page =
    let e : sheet_lines (length ns) - 0 ≡ sheet_lines (length ns) = omega arith in
    record { low = omega arith; is = rw e putting_none }

pub lines_next : {ns page after more : List ℕ} {i : ℕ} → i < sheet_lines (length ns) → Lines ns page after i
    → Puts (buffer_at after (line_bytes * i)) (sheet_line ns i) (buffer_at more (line_bytes * i + line_bytes)) → Lines ns page more (i + 1)
unfolding range flat_map
lines_next {ns} {page} {after} {more} {i} h s p =
    let many = sheet_lines (length ns) in
    let e : many - i ≡ suc (many - (i + 1)) = omega arith in
    let m : suc i ≡ i + 1 = omega arith in
    let f : line_bytes * i + line_bytes ≡ line_bytes * (i + 1) = omega arith in
    let split : flat_map (sheet_line ns) (range i (many - i)) ≡ sheet_line ns i ++ flat_map (sheet_line ns) (range (i + 1) (many - (i + 1)))
    = rw (e, ← m) in
    record { low = omega arith; is = rw (← f) (putting_piece _ _ split s.is p) }

pub lines_last : {ns page after : List ℕ} {i : ℕ} → sheet_lines (length ns) ≤ i → Lines ns page after i
    → after ≡ (put (buffer_at page 0) (sheet ns)).bytes
unfolding range flat_map
lines_last {ns} {page} {after} {i} h s =
    let e : sheet_lines (length ns) - i ≡ 0 = omega arith in ap (λ (a : Buffer). a.bytes) (putting_end s.is (rw e)).is

-- line i has a radio
pub line_inside : (n i : ℕ) → i < sheet_lines n → line_cells * i < n
unfolding sheet_lines
line_inside n i h = omega arith
