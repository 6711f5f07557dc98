-- The neighbours that a row of the links table marks, as a list: laws for callers.
-- In order: ascending entries, neighbours_of (order, repeats, membership, counts), the graph that the table marks, row_listed,
-- row_count.
use Rattle.std.specs.Prelude.{◌≡◌, ◌⊎◌, ◌&&◌, ◌++◌, ◌+◌, ◌*◌, ◌-◌, ◌≤◌, ◌<◌}
use Rattle.lists.{specs.Kit.{sym, ap, ◌∙◌, inl, inr, Bool, true, false, List, append-nil, ℕ, suc, min, arith}}
use Rattle.lists.{specs.Kit.{leb, length, take, length-take, take_all, leb-true, leb-false, le-leb, lt-leb}, specs.Lists.{range, count, filter, member}}
use Rattle.lists.{specs.Lists.{overwrite, In, Ascending}, specs.Facts.{Distinct}, proofs.Tests.{bool_cases}, proofs.Range.{in_range, range_in, distinct_range}}
use Rattle.lists.{proofs.Range.{range_append}, proofs.Filter.{in_filter, member_filter, count_filter, length_filter, filter_none, filter_ext, filter_append}}
use Rattle.lists.{proofs.Filter.{distinct_filter}, proofs.Overwrite.{take_overwrite}, proofs.Ascending.{ascending_range, ascending_filter}}
use Rattle.mesh.{specs.Limits.{max_radios, row_bytes}, specs.Graph.{linked}, specs.Tables.{marked, graph_in}, specs.Sound.{symmetric, irreflexive, within}}
use Rattle.mesh.{specs.Sound.{row_degree}, proofs.Tables.Rows.{within_of}, proofs.Tables.ReadBack.{linked_graph_in}}
use Rattle.rows.specs.Rows.{neighbours_of, row_listed, row_count}
use Rattle.rows.proofs.RowWords.{row_listed_whole}

-- ---- neighbours_of

pub ascending_neighbours_of : (ts : List ℕ) (a : ℕ) → Ascending (neighbours_of ts a)
unfolding neighbours_of
ascending_neighbours_of ts a = ascending_filter (λ b. marked ts a b) (range 0 max_radios) (ascending_range 0 max_radios)

pub distinct_neighbours_of : (ts : List ℕ) (a : ℕ) → Distinct (neighbours_of ts a)
unfolding neighbours_of
distinct_neighbours_of ts a = distinct_filter (λ b. marked ts a b) (range 0 max_radios) (distinct_range 0 max_radios)

-- an entry is a radio, and the row marks it
pub in_neighbours_of : (ts : List ℕ) (a v : ℕ) → In v (neighbours_of ts a) → (v < max_radios) × (marked ts a v ≡ true)
unfolding neighbours_of
in_neighbours_of ts a v m =
    let r = in_filter (λ b. marked ts a b) (range 0 max_radios) v m in (omega (arith, range_in 0 max_radios v r.0), r.1)

pub member_neighbours_of : (ts : List ℕ) (a v : ℕ) → v < max_radios → member v (neighbours_of ts a) ≡ marked ts a v
unfolding neighbours_of
member_neighbours_of ts a v h =
    member_filter (λ b. marked ts a b) (range 0 max_radios) v (in_range 0 max_radios v (omega arith) (omega arith))

pub length_neighbours_of : (ts : List ℕ) (a : ℕ) → length (neighbours_of ts a) ≡ row_degree ts a
unfolding neighbours_of row_degree
length_neighbours_of ts a = length_filter (λ b. marked ts a b) (range 0 max_radios)

pub count_neighbours_of : (f : ℕ → Bool) (ts : List ℕ) (a : ℕ)
    → count f (neighbours_of ts a) ≡ count (λ b. marked ts a b && f b) (range 0 max_radios)
unfolding neighbours_of
count_neighbours_of f ts a = count_filter f (λ b. marked ts a b) (range 0 max_radios)

-- ---- the graph that the table marks

-- a row that marks as f tells below n, and nothing from n on
pub neighbours_of_filter : (n : ℕ) (ts : List ℕ) (a : ℕ) (f : ℕ → Bool) → n ≤ max_radios → ((b : ℕ) → b < n → marked ts a b ≡ f b)
    → ((b : ℕ) → n ≤ b → b < max_radios → marked ts a b ≡ false) → neighbours_of ts a ≡ filter f (range 0 n)
unfolding neighbours_of
neighbours_of_filter n ts a f big same none =
    let row : ℕ → Bool = λ b. marked ts a b in
    let parts : max_radios ≡ n + (max_radios - n) = omega arith in
    let rest = range (0 + n) (max_radios - n) in
    ap (λ (k : ℕ). filter row (range 0 k)) parts
    ∙ ap (filter row) (range_append 0 n (max_radios - n))
    ∙ filter_append row (range 0 n) rest
    ∙ ap (λ (xs : List ℕ). filter row (range 0 n) ++ xs)
    (filter_none row rest (λ b m. let r = range_in (0 + n) (max_radios - n) b m in none b (omega (arith, r.0)) (omega (arith, r.1))))
    ∙ append-nil (filter row (range 0 n))
    ∙ filter_ext row f (range 0 n) (λ b m. same b (omega (arith, range_in 0 n b m)))

pub neighbours_of_linked : (n : ℕ) (ts : List ℕ) → n ≤ max_radios → symmetric n ts ≡ true → irreflexive n ts ≡ true → within n ts ≡ true
    → (a : ℕ) → a < n → neighbours_of ts a ≡ filter (linked (graph_in n ts) a) (range 0 n)
neighbours_of_linked n ts big s r w a la = neighbours_of_filter n ts a (linked (graph_in n ts) a) big
    (λ b lb. sym (linked_graph_in n ts s r a b la lb)) (λ b nb lb. within_of n ts w a b la nb lb)

-- ---- row_listed

-- the rows of a table of n radios
pub row_listed_radio : (n : ℕ) (ts : List ℕ) → length ts ≡ row_bytes * n → (a : ℕ) → a < n → row_listed ts a ≡ neighbours_of ts a
row_listed_radio n ts e a h = row_listed_whole ts a (omega arith)

pub length_row_listed_radio : (n : ℕ) (ts : List ℕ) → length ts ≡ row_bytes * n → (a : ℕ) → a < n → length (row_listed ts a) ≡ row_degree ts a
length_row_listed_radio n ts e a h = ap length (row_listed_radio n ts e a h) ∙ length_neighbours_of ts a

-- what is listed of a row in front of a list, and how many that are
pub row_listed_taken : (most : ℕ) (ts : List ℕ) (a : ℕ) (old new : List ℕ) (r : ℕ) → r ≡ min (length old) (row_count most ts a)
    → new ≡ overwrite (take (min (length old) (suc most)) (row_listed ts a)) old → take r new ≡ take (min (length old) (suc most)) (row_listed ts a)
unfolding row_count
row_listed_taken most ts a old new r e f =
    let xs = take (min (length old) (suc most)) (row_listed ts a) in
    let count : r ≡ length xs = omega (arith, e, length-take (min (length old) (suc most)) (row_listed ts a)) in
    ap (take r) f ∙ ap (λ (k : ℕ). take k (overwrite xs old)) count ∙ take_overwrite xs old

-- a row that the list has room for
pub row_listed_fits : (most : ℕ) (ts : List ℕ) (a : ℕ) (old new : List ℕ) (r : ℕ) → length (row_listed ts a) ≤ min (length old) (suc most)
    → r ≡ min (length old) (row_count most ts a) → new ≡ overwrite (take (min (length old) (suc most)) (row_listed ts a)) old
    → (r ≡ length (row_listed ts a)) × (take r new ≡ row_listed ts a)
unfolding row_count
row_listed_fits most ts a old new r fits e f = (
  omega (arith, e, fits),
  row_listed_taken most ts a old new r e f ∙ take_all (min (length old) (suc most)) (row_listed ts a) fits,
)

-- ---- row_count

-- no further than `most`: all of the row
pub row_count_few : (most n : ℕ) (ts : List ℕ) → length ts ≡ row_bytes * n → (a : ℕ) → a < n → row_degree ts a ≤ most
    → row_count most ts a ≡ row_degree ts a
unfolding row_count
row_count_few most n ts e a h few = omega (arith, length_row_listed_radio n ts e a h)

-- past `most`: one past it, whatever the row marks
pub row_count_many : (most n : ℕ) (ts : List ℕ) → length ts ≡ row_bytes * n → (a : ℕ) → a < n → most < row_degree ts a
    → row_count most ts a ≡ suc most
unfolding row_count
row_count_many most n ts e a h many = omega (arith, length_row_listed_radio n ts e a h)

-- the stop does not change what a limit of `most` says of any row
pub row_count_most : (most n : ℕ) (ts : List ℕ) → length ts ≡ row_bytes * n → (a : ℕ) → a < n
    → leb (row_count most ts a) most ≡ leb (row_degree ts a) most
unfolding row_count
row_count_most most n ts e a h = go (bool_cases (leb (row_degree ts a) most))
  where
    long : length (row_listed ts a) ≡ row_degree ts a
    long = length_row_listed_radio n ts e a h

    go : (leb (row_degree ts a) most ≡ true) ⊎ (leb (row_degree ts a) most ≡ false) → leb (row_count most ts a) most ≡ leb (row_degree ts a) most
    go (inl f) = le-leb (row_count most ts a) most (omega (arith, long, leb-true (row_degree ts a) most f)) ∙ sym f
    go (inr f) = lt-leb (row_count most ts a) most (omega (arith, long, leb-false (row_degree ts a) most f)) ∙ sym f
