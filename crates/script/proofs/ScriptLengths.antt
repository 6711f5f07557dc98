-- The script's length, counted: the digits of a number, the bytes of a line, and the invariant of each loop.
--   digits_two, ..               how many digits a number has
--   length_radios, length_up_text, length_up, length_script   the bytes of a line, and of all
--   EndsCounted, RowsCounted   after i pieces: what is counted and the bytes of what is left are the bytes of the whole
use Rattle.std.specs.Prelude.{◌≡◌, ◌∷◌, ◌++◌, ◌+◌, ◌*◌, ◌/◌, ◌≤◌, ◌<◌}
use Rattle.lists.{specs.Kit.{ap, ◌∙◌, List, [], flat_map, ℕ, arith, add-one, length, get_or, drop, length-append}}
use Rattle.lists.{specs.Kit.{drop_of_length-le, drop-cons}, proofs.Map.{flat_map_append}}
use Rattle.mesh.specs.Graph.{Link, link_of, graph}
use Rattle.rows.{specs.Rows.{neighbours_above}, specs.Links.{links_to, links_above, links_from}, proofs.LinksFrom.{links_from_row, links_from_end}}
use Rattle.text.{specs.Text.{decimal, further_fields, printed_line}, proofs.DecimalLaws.{length_decimal_digit, length_decimal_more}}
use Rattle.calls.specs.Script.{radios_text, up_text, up_line, script_of, script_length}

-- ---- digits

pub digits_two : (x : ℕ) → 10 ≤ x → x < 100 → length (decimal x) ≡ 2
digits_two x h l = omega (arith, length_decimal_more x h, length_decimal_digit (x / 10) (omega arith))

pub digits_three : (x : ℕ) → 100 ≤ x → x < 1000 → length (decimal x) ≡ 3
digits_three x h l = omega (arith, length_decimal_more x (omega arith), digits_two (x / 10) (omega arith) (omega arith))

-- ---- lines

pub length_radios : (n : ℕ) → length (radios_text n) ≡ 8 + length (decimal n)
unfolding printed_line further_fields
length_radios n = omega (arith, length-append (decimal n) (10 ∷ []))

pub length_up_text : (a b : ℕ) → length (up_text a b) ≡ 5 + length (decimal a) + length (decimal b)
unfolding printed_line further_fields
length_up_text a b = omega (arith, length-append (decimal a) (32 ∷ (decimal b ++ (10 ∷ []))), length-append (decimal b) (10 ∷ []))

length_up : (a b : ℕ) → length (up_line (link_of a b)) ≡ 5 + length (decimal a) + length (decimal b)
unfolding up_line
length_up a b = length_up_text a b

-- the whole script
pub length_script : (n : ℕ) (ls : List Link) → script_length (graph n ls) ≡ 8 + length (decimal n) + length (flat_map up_line ls)
unfolding script_length script_of
length_script n ls = omega (arith, length-append (radios_text n) (flat_map up_line ls), length_radios n)

-- ---- the links of a row: the lines of the first i of the radios bs are counted

pub record EndsCounted (a : ℕ) (bs : List ℕ) (i sum : ℕ) : Type 0 where
  pub low : i ≤ length bs
  pub small : sum ≤ 11 * i
  pub is : sum + length (flat_map up_line (links_to a (drop i bs))) ≡ length (flat_map up_line (links_to a bs))

pub ends_counted_none : (a : ℕ) (bs : List ℕ) → EndsCounted a bs 0 0
ends_counted_none a bs = record { low = omega arith; small = omega arith; is = omega arith }

pub ends_counted_next : (a : ℕ) (bs : List ℕ) (i sum own d : ℕ) → i < length bs → own ≡ 5 + length (decimal a) → own ≤ 8
    → d ≡ length (decimal (get_or bs i 0)) → d ≤ 3 → EndsCounted a bs i sum → EndsCounted a bs (i + 1) (sum + (own + d))
unfolding flat_map
ends_counted_next a bs i sum own d h e few f less c =
    let split : length (flat_map up_line (links_to a (drop i bs)))
    ≡ length (up_line (link_of a (get_or bs i 0)) ++ flat_map up_line (links_to a (drop (i + 1) bs))) = rw (add-one i, drop-cons bs i 0 h) in
    record {
      low = omega arith;
      small = omega (arith, c.small);
      is =
          omega (
            arith,
            c.is,
            split,
            length-append (up_line (link_of a (get_or bs i 0))) (flat_map up_line (links_to a (drop (i + 1) bs))),
            length_up a (get_or bs i 0),
          );
    }

pub ends_counted_last : (a : ℕ) (bs : List ℕ) (i sum : ℕ) → length bs ≤ i → EndsCounted a bs i sum → sum ≡ length (flat_map up_line (links_to a bs))
unfolding flat_map
ends_counted_last a bs i sum h c =
    omega (arith, c.is, ap (λ (xs : List ℕ). length (flat_map up_line (links_to a xs))) (drop_of_length-le bs {i = i} h))

-- ---- the rows: the lines of the ones below a are counted

pub record RowsCounted (n : ℕ) (ts : List ℕ) (a sum : ℕ) : Type 0 where
  pub low : a ≤ n
  pub is : sum + length (flat_map up_line (links_from n ts a 0)) ≡ length (flat_map up_line (links_from n ts 0 0))

pub rows_counted_none : (n : ℕ) (ts : List ℕ) → RowsCounted n ts 0 0
rows_counted_none n ts = record { low = omega arith; is = omega arith }

pub rows_counted_next : (n : ℕ) (ts : List ℕ) (a sum k : ℕ) → a < n → k ≡ length (flat_map up_line (links_above ts a)) → RowsCounted n ts a sum
    → RowsCounted n ts (a + 1) (sum + k)
unfolding links_above
rows_counted_next n ts a sum k h e c =
    let row = links_to a (neighbours_above ts a) in
    let split : flat_map up_line (links_from n ts a 0) ≡ flat_map up_line row ++ flat_map up_line (links_from n ts (a + 1) 0) =
    ap (flat_map up_line) (links_from_row n ts a 0 h (omega arith)) ∙ flat_map_append up_line row (links_from n ts (a + 1) 0) in
    record { low = omega arith; is = omega (arith, c.is, ap length split, length-append (flat_map up_line row) (flat_map up_line (links_from n ts (a + 1) 0))) }

pub rows_counted_last : (n : ℕ) (ts : List ℕ) (a sum : ℕ) → n ≤ a → RowsCounted n ts a sum → sum ≡ length (flat_map up_line (links_from n ts 0 0))
unfolding flat_map
rows_counted_last n ts a sum h c = omega (arith, c.is, ap (λ ls. length (flat_map up_line ls)) (links_from_end n ts a 0 h))
