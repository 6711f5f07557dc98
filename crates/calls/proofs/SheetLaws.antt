-- Laws of the site sheet (document 02, W-201).
--   length_cell           a cell has its 8 columns where the radio has at most three digits and the number at most two
--   cell_columns          its columns one by one: each digit, or a space where the text has none
--   length_sheet_line     a line has 65 bytes
--   length_sheet          the sheet has 65 bytes × lines
--   sheet_columns         what stands in each column of the sheet
--   columns_front         so it is of a page that has the sheet in front
--   numbers_two_digits    sound tables have numbers of at most 40
--   sheet_fits            so their sheet has these columns, and each cell has the core number (`columns_by`)
-- In order: texts in columns, a cell, a line, the sheet, sound tables.
use Rattle.std.specs.Prelude.{◌≡◌, ◌⊎◌, ◌∷◌, ◌++◌, ◌+◌, ◌*◌, ◌-◌, ◌/◌, ◌%◌, ◌≤◌, ◌<◌}
use Rattle.lists.{specs.Kit.{sym, ap, ◌∙◌, inl, inr, true, false, List, [], ℕ, min, arith, ltb, length}}
use Rattle.lists.{specs.Kit.{get_or, replicate, length-append, length-replicate, get_or-replicate, List·getD-append, drop, get_or-append-add, ltb-true, ltb-false}}
use Rattle.lists.{specs.Kit.{lt-ltb}, specs.Lists.{overwrite}, proofs.Tests.{bool_cases}, proofs.Parts.{length_flat_map_range, get_d_flat_map_range}}
use Rattle.mesh.{specs.Limits.{max_radios, max_neighbours}, specs.Cores.{number}, specs.Tables.{Tables, graph_in}, specs.Sound.{number_in, sound}}
use Rattle.mesh.{proofs.Cores.Peeling.{get_d_numbers}, proofs.Tables.Soundness.{sound_right}, proofs.Images.Tables.{valid_graph_in, number_most}}
use Rattle.text.{specs.Text.{bytes_of, space, line_feed, digit_byte, decimal}, proofs.DecimalLaws.{decimal_digit, decimal_more, length_decimal_le}}
use Rattle.calls.specs.{Sheet.{cell_width, line_cells, line_width, line_bytes, right_aligned, filled, cell, cells, sheet_line, sheet_lines, sheet}}
use Rattle.calls.specs.{Sheet.{sheet_length, Columns}, SheetCells.{column_at, digit_column, CellsFit}}

-- ---- texts in columns

length_right_aligned : (k : ℕ) (xs : List ℕ) → length xs ≤ k → length (right_aligned k xs) ≡ k
unfolding right_aligned
length_right_aligned k xs h =
    omega (arith, length-append (replicate (k - length xs) space) xs, length-replicate {A = ℕ} (k - length xs) space)

length_filled : (k : ℕ) (xs : List ℕ) → length xs ≤ k → length (filled k xs) ≡ k
unfolding filled
length_filled k xs h =
    omega (arith, length-append xs (replicate (k - length xs) space), length-replicate {A = ℕ} (k - length xs) space)

-- the text itself
get_d_filled : (k : ℕ) (xs : List ℕ) (j : ℕ) → j < length xs → get_or (filled k xs) j 0 ≡ get_or xs j 0
unfolding filled
get_d_filled k xs j h = List·getD-append xs (replicate (k - length xs) space) 0 j h

-- and the spaces after it
get_d_filled_after : (k : ℕ) (xs : List ℕ) (j : ℕ) → length xs ≤ j → j < k → get_or (filled k xs) j 0 ≡ space
unfolding filled
get_d_filled_after k xs j l h =
    ap (λ (x : ℕ). get_or (xs ++ replicate (k - length xs) space) x 0) (omega arith)
    ∙ get_or-append-add xs (replicate (k - length xs) space) (j - length xs) 0
    ∙ get_or-replicate {A = ℕ} (k - length xs) (j - length xs) space 0 (omega arith)

-- ---- a cell

pub length_cell : (v x : ℕ) → v < 1000 → x < 100 → length (cell v x) ≡ cell_width
unfolding cell
length_cell v x h k =
    let radio = right_aligned 3 (decimal v) in
    let num = right_aligned 2 (decimal x) in
    omega (
      arith,
      length-append (radio ++ bytes_of ":" ++ num) (bytes_of "  "),
      length-append (radio ++ bytes_of ":") num,
      length-append radio (bytes_of ":"),
      length_right_aligned 3 (decimal v) (length_decimal_le 2 v (omega arith)),
      length_right_aligned 2 (decimal x) (length_decimal_le 1 x (omega arith)),
    )

-- v has one, two or three digits
three_columns : (v : ℕ) → v < 1000 → right_aligned 3 (decimal v) ≡ digit_column 100 v ∷ digit_column 10 v ∷ digit_byte (v % 10) ∷ []
unfolding right_aligned digit_column
three_columns v h = go (bool_cases (ltb v 10)) (bool_cases (ltb v 100))
  where
    go : (ltb v 10 ≡ true) ⊎ (ltb v 10 ≡ false) → (ltb v 100 ≡ true) ⊎ (ltb v 100 ≡ false)
        → right_aligned 3 (decimal v) ≡ digit_column 100 v ∷ digit_column 10 v ∷ digit_byte (v % 10) ∷ []
    go (inl e) f =
        let l = ltb-true v 10 e in
        let s : v % 10 ≡ v = omega arith in rw (decimal_digit v l, e, lt-ltb v 100 (omega arith), s)
    go (inr e) (inl f) =
        let l = ltb-false v 10 e in
        let m = ltb-true v 100 f in
        let s : v / 10 % 10 ≡ v / 10 = omega arith in rw (decimal_more v l, decimal_digit (v / 10) (omega arith), e, f, s)
    go (inr e) (inr f) =
        let l = ltb-false v 10 e in
        let m = ltb-false v 100 f in
        let s : v / 10 / 10 ≡ v / 100 = omega arith in
        let u : v / 100 % 10 ≡ v / 100 = omega arith in
        rw (decimal_more v l, decimal_more (v / 10) (omega arith), decimal_digit (v / 10 / 10) (omega arith), e, f, s, u)

two_columns : (x : ℕ) → x < 100 → right_aligned 2 (decimal x) ≡ digit_column 10 x ∷ digit_byte (x % 10) ∷ []
unfolding right_aligned digit_column
two_columns x h = go (bool_cases (ltb x 10))
  where
    go : (ltb x 10 ≡ true) ⊎ (ltb x 10 ≡ false) → right_aligned 2 (decimal x) ≡ digit_column 10 x ∷ digit_byte (x % 10) ∷ []
    go (inl e) = let s : x % 10 ≡ x = omega (arith, ltb-true x 10 e) in rw (decimal_digit x (ltb-true x 10 e), e, s)
    go (inr e) =
        let s : x / 10 % 10 ≡ x / 10 = omega arith in rw (decimal_more x (ltb-false x 10 e), decimal_digit (x / 10) (omega arith), e, s)

pub cell_columns : (v x : ℕ) → v < 1000 → x < 100
    → cell v x ≡ digit_column 100 v ∷ digit_column 10 v ∷ digit_byte (v % 10) ∷ 58 ∷ digit_column 10 x ∷ digit_byte (x % 10) ∷ space ∷ space ∷ []
unfolding cell
cell_columns v x h k = rw (three_columns v h, two_columns x k)

-- ---- a line

module _ (ns : List ℕ) (fit : CellsFit ns) where
  pub length_cells : (v k : ℕ) → v + k ≤ length ns → length (cells ns v k) ≡ cell_width * k
  unfolding cells
  length_cells v k h =
      length_flat_map_range (λ w. cell w (number_in ns w)) cell_width v k
      (λ w l m. length_cell w (number_in ns w) (omega (arith, fit.radios)) (fit.two_digits w (omega arith)))

  get_d_cells : (v k c j : ℕ) → v + k ≤ length ns → c < k → j < cell_width
      → get_or (cells ns v k) (cell_width * c + j) 0 ≡ get_or (cell (v + c) (number_in ns (v + c))) j 0
  unfolding cells
  get_d_cells v k c j h l m =
      get_d_flat_map_range (λ w. cell w (number_in ns w)) cell_width v k
      (λ w p q. length_cell w (number_in ns w) (omega (arith, fit.radios)) (fit.two_digits w (omega arith))) c j l m

  -- the radios of line i
  abbrev many : (i : ℕ) → ℕ
  many i = min line_cells (length ns - line_cells * i)

  abbrev text : (i : ℕ) → List ℕ
  text i = cells ns (line_cells * i) (many i)

  module _ (i : ℕ) (inside : line_cells * i < length ns) where
    long : length (text i) ≡ cell_width * many i
    long = length_cells (line_cells * i) (many i) (omega arith)

    short : length (text i) ≤ line_width
    short = omega (arith, long)

    pub length_sheet_line : length (sheet_line ns i) ≡ line_bytes
    unfolding sheet_line
    length_sheet_line = omega (arith, length-append (filled line_width (text i)) (line_feed ∷ []), length_filled line_width (text i) short)

    in_line : (j : ℕ) → j < line_width → get_or (sheet_line ns i) j 0 ≡ get_or (filled line_width (text i)) j 0
    unfolding sheet_line
    in_line j h = List·getD-append (filled line_width (text i)) (line_feed ∷ []) 0 j (omega (arith, length_filled line_width (text i) short))

    line_cell : (c j : ℕ) → c < line_cells → j < cell_width → (v : ℕ) → v ≡ line_cells * i + c → v < length ns
        → get_or (sheet_line ns i) (cell_width * c + j) 0 ≡ get_or (cell v (number_in ns v)) j 0
    line_cell c j h k v e l =
        in_line (cell_width * c + j) (omega arith)
        ∙ get_d_filled line_width (text i) (cell_width * c + j) (omega (arith, long))
        ∙ get_d_cells (line_cells * i) (many i) c j (omega arith) (omega arith) k
        ∙ ap (λ (w : ℕ). get_or (cell w (number_in ns w)) j 0) (sym e)

    line_spaces : (c j : ℕ) → c < line_cells → j < cell_width → length ns ≤ line_cells * i + c → get_or (sheet_line ns i) (cell_width * c + j) 0 ≡ space
    line_spaces c j h k l =
        in_line (cell_width * c + j) (omega arith)
        ∙ get_d_filled_after line_width (text i) (cell_width * c + j) (omega (arith, long)) (omega arith)

    line_feeds : get_or (sheet_line ns i) line_width 0 ≡ line_feed
    unfolding sheet_line
    line_feeds =
        ap (λ (x : ℕ). get_or (filled line_width (text i) ++ (line_feed ∷ [])) x 0) (omega (arith, length_filled line_width (text i) short))
        ∙ get_or-append-add (filled line_width (text i)) (line_feed ∷ []) 0 0

  -- ---- the sheet

  line_inside : (i : ℕ) → i < sheet_lines (length ns) → line_cells * i < length ns
  unfolding sheet_lines
  line_inside i h = omega arith

  pub length_sheet : length (sheet ns) ≡ sheet_length (length ns)
  unfolding sheet sheet_length
  length_sheet = length_flat_map_range (sheet_line ns) line_bytes 0 (sheet_lines (length ns)) (λ i l h. length_sheet_line i (line_inside i (omega arith)))

  -- byte j of line i
  get_d_sheet : (i j : ℕ) → i < sheet_lines (length ns) → j < line_bytes → get_or (sheet ns) (line_bytes * i + j) 0 ≡ get_or (sheet_line ns i) j 0
  unfolding sheet
  get_d_sheet i j h l =
      get_d_flat_map_range (sheet_line ns) line_bytes 0 (sheet_lines (length ns)) (λ w m p. length_sheet_line w (line_inside w (omega arith))) i j h l
      ∙ ap (λ (k : ℕ). get_or (sheet_line ns k) j 0) (omega arith)

  line_of : (i c : ℕ) → line_cells * i + c < length ns → i < sheet_lines (length ns)
  unfolding sheet_lines
  line_of i c h = omega arith

  pub sheet_columns : Columns (length ns) (number_in ns) (sheet ns)
  sheet_columns = record {
    cells = λ i c j h k v e l.
        let m : i < sheet_lines (length ns) = line_of i c (omega arith) in
        get_d_sheet i (cell_width * c + j) m (omega arith) ∙ line_cell i (line_inside i m) c j h k v e l;
    spaces = λ i c j m h k l. get_d_sheet i (cell_width * c + j) m (omega arith) ∙ line_spaces i (line_inside i m) c j h k l;
    feeds = λ i m. get_d_sheet i line_width m (omega arith) ∙ line_feeds i (line_inside i m);
  }

  -- the page has the sheet in front
  pub columns_front : (w : List ℕ) → Columns (length ns) (number_in ns) (overwrite (sheet ns) w)
  unfolding overwrite sheet_length
  columns_front w = record {
    cells = λ i c j h k v e l.
        let m : i < sheet_lines (length ns) = line_of i c (omega arith) in
        get_d_page (column_at i c j) (omega arith) ∙ sheet_columns.cells i c j h k v e l;
    spaces = λ i c j m h k l. get_d_page (column_at i c j) (omega arith) ∙ sheet_columns.spaces i c j m h k l;
    feeds = λ i m. get_d_page (line_bytes * i + line_width) (omega arith) ∙ sheet_columns.feeds i m;
  }
    where
      get_d_page : (j : ℕ) → j < line_bytes * sheet_lines (length ns) → get_or (overwrite (sheet ns) w) j 0 ≡ get_or (sheet ns) j 0
      get_d_page j h = List·getD-append (sheet ns) (drop (length (sheet ns)) w) 0 j (omega (arith, length_sheet))

-- ---- sound tables

module _ (n : ℕ) (t : Tables) (long : length t.numbers ≡ n) (good : sound n t ≡ true) where
  -- the numbers are the core numbers
  entry : (v : ℕ) → v < n → number_in t.numbers v ≡ number (graph_in n t.links) v
  unfolding sound graph_in
  entry v h =
      ap (λ (ns : List ℕ). number_in ns v) (sound_right max_neighbours n t long good).core_numbers ∙ get_d_numbers (graph_in n t.links) v h

  pub numbers_two_digits : n ≤ max_radios → (v : ℕ) → v < n → number_in t.numbers v ≤ max_neighbours
  unfolding sound graph_in
  numbers_two_digits small v h =
      omega (arith, entry v h, number_most max_neighbours (graph_in n t.links) t.order (valid_graph_in max_neighbours n t small good) v h)

  pub sheet_fits : n ≤ max_radios → CellsFit t.numbers
  sheet_fits small = record { radios = omega arith; two_digits = λ v h. omega (arith, numbers_two_digits small v (omega arith)) }

  pub columns_by : (x : List ℕ) → Columns (length t.numbers) (number_in t.numbers) x → Columns n (number (graph_in n t.links)) x
  columns_by x c = record {
    cells = λ i k j h m v e l. c.cells i k j h m v e (omega arith) ∙ ap (λ (y : ℕ). get_or (cell v y) j 0) (entry v l);
    spaces = λ i k j l h m p. c.spaces i k j (omega (arith, ap sheet_lines long)) h m (omega arith);
    feeds = λ i l. c.feeds i (omega (arith, ap sheet_lines long));
  }
