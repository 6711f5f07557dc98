-- Laws of the check by columns.
-- In order: bounds, a byte added, the loop over a run's columns, the difference of a column, all columns together.
use Rattle.std.specs.Prelude.{◌≡◌, ◌+◌, ◌*◌, ◌-◌, ◌/◌, ◌%◌, ◌≤◌, ◌<◌}
use Rattle.lists.specs.Kit.{refl, sym, ap, ap₂, ◌∙◌, Bool, true, false, cond, List, ℕ, zero, suc, arith, mul-add}
use Rattle.lists.specs.Kit.{add-mul, mul_comm, mul-le-mul, add-one, ltb, eqb, length, get_or, take, replicate, length-set, length-replicate, get_or-replicate}
use Rattle.lists.specs.Kit.{take-suc, length-take-le, get_or-set_same, get_or-set_other, ltb-true, ltb-false, lt-ltb, le-ltb, eqb-true, eqb-false}
use Rattle.mesh.{specs.Image.{check_sum, weighted_sum}, proofs.Images.Laws.{check_sum_snoc}}
use Rattle.image.specs.Columns.{column, column_twice, with_byte, ByteFits, ByteAdded, Columns, columns_total, ColumnsFit}
use Rattle.image.proofs.CheckLaws.{Small}

-- ---- bounds

column_le : (bs : List ℕ) → Small bs → (p r : ℕ) → column bs p r ≤ 255 * r
unfolding column
column_le bs b p zero = omega arith
column_le bs b p (suc r) = omega (arith, column_le bs b p r, b (24 * r + p))

column_twice_le : (bs : List ℕ) → Small bs → (p r : ℕ) → 2 * column_twice bs p r ≤ 255 * (r * suc r)
unfolding column_twice
column_twice_le bs b p zero = omega arith
column_twice_le bs b p (suc r) =
    omega (arith, column_twice_le bs b p r, column_le bs b p (suc r), add-mul r 1 (suc (suc r)), mul-add r (suc r) 1)

-- it fits 16 bits
column_twice_most : (bs : List ℕ) → Small bs → (p r : ℕ) → r ≤ 21 → column_twice bs p r ≤ 58905
column_twice_most bs b p r l = let m : suc r ≤ 22 = omega arith in omega (arith, column_twice_le bs b p r, mul-le-mul l m)

-- ---- a byte added: column q has `runs q` runs

pub record Summed (bs : List ℕ) (runs : ℕ → ℕ) (sums twice : List ℕ) : Type 0 where
  pub sums_long : length sums ≡ 24
  pub twice_long : length twice ≡ 24
  pub sum_at : (q : ℕ) → q < 24 → get_or sums q 0 ≡ column bs q (runs q)
  pub twice_at : (q : ℕ) → q < 24 → get_or twice q 0 ≡ column_twice bs q (runs q)

-- the runs when run r is added to column p
abbrev one_more : (r p : ℕ) → (runs : ℕ → ℕ) → (q : ℕ) → ℕ
one_more r p runs q = cond (eqb q p) (suc r) (runs q)

summed_as : (bs : List ℕ) (f g : ℕ → ℕ) (ss ts : List ℕ) → Summed bs f ss ts → ((q : ℕ) → q < 24 → f q ≡ g q) → Summed bs g ss ts
summed_as bs f g ss ts s e =
    record {
      sums_long = s.sums_long;
      twice_long = s.twice_long;
      sum_at = λ q l. s.sum_at q l ∙ ap (column bs q) (e q l);
      twice_at = λ q l. s.twice_at q l ∙ ap (column_twice bs q) (e q l);
    }

module _ (bs : List ℕ) (runs : ℕ → ℕ) (ss ts : List ℕ) (s : Summed bs runs ss ts) (r p : ℕ) (h : p < 24) (e : runs p ≡ r) where
  sum_here : with_byte bs (24 * r + p) p ss ≡ column bs p (suc r)
  unfolding column
  sum_here = ap (λ (k : ℕ). k + get_or bs (24 * r + p) 0) (s.sum_at p h ∙ ap (column bs p) e)

  twice_here : get_or ts p 0 + with_byte bs (24 * r + p) p ss ≡ column_twice bs p (suc r)
  unfolding column_twice
  twice_here = ap₂ {C = ℕ} ◌+◌ (s.twice_at p h ∙ ap (column_twice bs p) e) sum_here

  byte_fits : Small bs → r < 21 → 504 ≤ length bs → ByteFits bs (24 * r + p) p ss ts
  byte_fits b l long =
      record {
        there = omega arith;
        sums_there = omega (arith, s.sums_long);
        twice_there = omega (arith, s.twice_long);
        small = omega (arith, sum_here, column_le bs b p (suc r));
        twice_small = omega (arith, twice_here, column_twice_most bs b p (suc r) (omega arith));
      }

  module _ (ss' ts' : List ℕ) (added : ByteAdded bs (24 * r + p) p ss ts ss' ts') where
    sum_next : (q : ℕ) → q < 24 → (t : Bool) → eqb q p ≡ t → get_or ss' q 0 ≡ column bs q (cond t (suc r) (runs q))
    sum_next q l true k =
        ap (λ (xs : List ℕ). get_or xs q 0) added.sum
        ∙ rw (eqb-true q p k) (get_or-set_same ss p (with_byte bs (24 * r + p) p ss) 0 (omega (arith, s.sums_long)) ∙ sum_here)
    sum_next q l false k =
        ap (λ (xs : List ℕ). get_or xs q 0) added.sum ∙ get_or-set_other ss p q (with_byte bs (24 * r + p) p ss) 0 (eqb-false q p k) ∙ s.sum_at q l

    twice_next : (q : ℕ) → q < 24 → (t : Bool) → eqb q p ≡ t → get_or ts' q 0 ≡ column_twice bs q (cond t (suc r) (runs q))
    twice_next q l true k =
        ap (λ (xs : List ℕ). get_or xs q 0) added.sum_twice
        ∙ rw (eqb-true q p k)
        (get_or-set_same ts p (get_or ts p 0 + with_byte bs (24 * r + p) p ss) 0 (omega (arith, s.twice_long)) ∙ twice_here)
    twice_next q l false k =
        ap (λ (xs : List ℕ). get_or xs q 0) added.sum_twice
        ∙ get_or-set_other ts p q (get_or ts p 0 + with_byte bs (24 * r + p) p ss) 0 (eqb-false q p k) ∙ s.twice_at q l

    byte_added : Summed bs (one_more r p runs) ss' ts'
    byte_added =
        record {
          sums_long = ap length added.sum ∙ length-set ss p (with_byte bs (24 * r + p) p ss) ∙ s.sums_long;
          twice_long = ap length added.sum_twice ∙ length-set ts p (get_or ts p 0 + with_byte bs (24 * r + p) p ss) ∙ s.twice_long;
          sum_at = λ q l. sum_next q l (eqb q p) refl;
          twice_at = λ q l. twice_next q l (eqb q p) refl;
        }

-- ---- the loop over a run's columns: run r is added to t columns, by one of each third in turn

abbrev pub runs_at : (r t q : ℕ) → ℕ
runs_at r t q = cond (ltb (3 * (q % 8) + q / 8) t) (suc r) r

-- column p is the next
module _ (bs : List ℕ) (r t : ℕ) (ss ts : List ℕ) (s : Summed bs (runs_at r t) ss ts) (p : ℕ) (h : p < 24) (e : 3 * (p % 8) + p / 8 ≡ t) where
  runs_here : runs_at r t p ≡ r
  runs_here = rw (le-ltb (3 * (p % 8) + p / 8) t (omega arith))

  -- by whether q is this column
  runs_next : (q : ℕ) → q < 24 → (same : Bool) → eqb q p ≡ same → (next : ℕ) → t + 1 ≡ next → cond same (suc r) (runs_at r t q) ≡ runs_at r next q
  runs_next q l true k next n = rw (lt-ltb (3 * (q % 8) + q / 8) next (omega (arith, eqb-true q p k)))
  runs_next q l false k next n = by_test (ltb (3 * (q % 8) + q / 8) t) refl
    where
      by_test : (b : Bool) → ltb (3 * (q % 8) + q / 8) t ≡ b → cond b (suc r) r ≡ runs_at r next q
      by_test true o = rw (lt-ltb (3 * (q % 8) + q / 8) next (omega (arith, ltb-true (3 * (q % 8) + q / 8) t o)))
      by_test false o =
          let d : (q ≡ p → ⊥) = eqb-false q p k in
          rw (le-ltb (3 * (q % 8) + q / 8) next (omega (arith, ltb-false (3 * (q % 8) + q / 8) t o)))

  pub next_fits : Small bs → r < 21 → 504 ≤ length bs → ByteFits bs (24 * r + p) p ss ts
  next_fits = byte_fits bs (runs_at r t) ss ts s r p h runs_here

  pub next_added : (ss' ts' : List ℕ) → ByteAdded bs (24 * r + p) p ss ts ss' ts' → (next : ℕ) → t + 1 ≡ next → Summed bs (runs_at r next) ss' ts'
  next_added ss' ts' added next n =
      summed_as bs (one_more r p (runs_at r t)) (runs_at r next) ss' ts' (byte_added bs (runs_at r t) ss ts s r p h runs_here ss' ts' added)
      (λ q l. runs_next q l (eqb q p) refl next n)

-- ---- the difference of a column

-- byte × (position + 1) over the first r runs of column p
unfoldable column_check : (bytes : List ℕ) → (p r : ℕ) → ℕ
column_check bs p zero = 0
column_check bs p (suc r) = column_check bs p r + get_or bs (24 * r + p) 0 * (24 * r + p + 1)

spread : (w c x : ℕ) → (w + 24) * (c + x) ≡ w * c + x * w + 24 * c + 24 * x
spread w c x = omega (arith, add-mul w 24 (c + x), mul-add w c x, mul_comm w x)

column_difference : (bs : List ℕ) (p r : ℕ) → (24 * r + p + 1) * column bs p r ≡ 24 * column_twice bs p r + column_check bs p r
unfolding column column_twice column_check
column_difference bs p zero = omega arith
column_difference bs p (suc r) =
    let w : ℕ = 24 * r + p + 1 in
    let x : ℕ = get_or bs (24 * r + p) 0 in
    let e : 24 * suc r + p + 1 ≡ w + 24 = omega arith in
    ap (λ (k : ℕ). k * (column bs p r + x)) e ∙ omega (arith, spread w (column bs p r) x, column_difference bs p r)

module _ (bs : List ℕ) (ss ts : List ℕ) (c : Columns bs 21 ss ts) where
  difference_here : (p : ℕ) → p < 24 → (p + 505) * get_or ss p 0 ≡ 24 * get_or ts p 0 + column_check bs p 21
  difference_here p l =
      let e : p + 505 ≡ 24 * 21 + p + 1 = omega arith in
      ap₂ {C = ℕ} ◌*◌ e (c.sum_at p l) ∙ column_difference bs p 21 ∙ ap (λ (k : ℕ). 24 * k + column_check bs p 21) (sym (c.twice_at p l))

  pub columns_fit : Small bs → ColumnsFit ss ts
  columns_fit b =
      record {
        sums_long = c.sums_long;
        twice_long = c.twice_long;
        low = λ p l. omega (arith, difference_here p l);
        small = λ p l. omega (arith, c.sum_at p l, column_le bs b p 21);
      }

-- ---- all columns together

-- the first p columns of r runs
unfoldable columns_check_of : (bytes : List ℕ) → (r p : ℕ) → ℕ
columns_check_of bs r zero = 0
columns_check_of bs r (suc p) = columns_check_of bs r p + column_check bs p r

-- the first p bytes of run r
unfoldable run_check : (bytes : List ℕ) → (r p : ℕ) → ℕ
run_check bs r zero = 0
run_check bs r (suc p) = run_check bs r p + get_or bs (24 * r + p) 0 * (24 * r + p + 1)

total_columns : (bs ss ts : List ℕ) → Columns bs 21 ss ts → (p : ℕ) → p ≤ 24 → columns_total ss ts p ≡ columns_check_of bs 21 p
unfolding columns_total columns_check_of
total_columns bs ss ts c zero l = refl
total_columns bs ss ts c (suc p) l = omega (arith, total_columns bs ss ts c p (omega arith), difference_here bs ss ts c p l)

no_runs : (bs : List ℕ) (p : ℕ) → columns_check_of bs 0 p ≡ 0
unfolding columns_check_of column_check
no_runs bs zero = refl
no_runs bs (suc p) = omega (arith, no_runs bs p)

one_run_more : (bs : List ℕ) (r p : ℕ) → columns_check_of bs (suc r) p ≡ columns_check_of bs r p + run_check bs r p
unfolding columns_check_of column_check run_check
one_run_more bs r zero = refl
one_run_more bs r (suc p) = omega (arith, one_run_more bs r p)

check_run : (bs : List ℕ) (r p : ℕ) → 24 * r + p ≤ length bs → check_sum (take (24 * r + p) bs) ≡ check_sum (take (24 * r) bs) + run_check bs r p
unfolding run_check
check_run bs r zero l = let e : 24 * r + 0 ≡ 24 * r = omega arith in rw e (omega arith)
check_run bs r (suc p) l =
    let e : 24 * r + suc p ≡ suc (24 * r + p) = omega arith in
    ap (λ (k : ℕ). check_sum (take k bs)) e ∙ ap check_sum (take-suc bs (24 * r + p) 0 (omega arith))
    ∙ check_sum_snoc (take (24 * r + p) bs) (get_or bs (24 * r + p) 0)
    ∙ ap (λ (k : ℕ). check_sum (take (24 * r + p) bs) + get_or bs (24 * r + p) 0 * (k + 1)) (length-take-le (24 * r + p) bs (omega arith))
    ∙ omega (arith, check_run bs r p (omega arith))

check_columns : (bs : List ℕ) (r : ℕ) → 24 * r ≤ length bs → columns_check_of bs r 24 ≡ check_sum (take (24 * r) bs)
unfolding check_sum weighted_sum
check_columns bs zero l = no_runs bs 24
check_columns bs (suc r) l =
    let e : 24 * suc r ≡ 24 * r + 24 = omega arith in
    one_run_more bs r 24 ∙ ap (λ (k : ℕ). k + run_check bs r 24) (check_columns bs r (omega arith)) ∙ sym (check_run bs r 24 (omega arith))
    ∙ ap (λ (k : ℕ). check_sum (take k bs)) (sym e)

-- the sum by columns is the check
pub columns_check : (bs ss ts : List ℕ) → Columns bs 21 ss ts → 504 ≤ length bs → columns_total ss ts 24 ≡ check_sum (take 504 bs)
columns_check bs ss ts c l = total_columns bs ss ts c 24 (omega arith) ∙ check_columns bs 21 l

-- ---- the loop over the columns

pub record Totalling (ss ts : List ℕ) (sum p : ℕ) : Type 0 where
  pub low : p ≤ 24
  pub small : sum ≤ 4194304 * p
  pub is : sum ≡ columns_total ss ts p

pub totalling_none : (ss ts : List ℕ) → Totalling ss ts 0 0
unfolding columns_total
totalling_none ss ts = record { low = omega arith; small = omega arith; is = refl }

module _ (ss ts : List ℕ) (fit : ColumnsFit ss ts) (sum p : ℕ) (t : Totalling ss ts sum p) (h : p < 24) where
  pub product_small : (p + 505) * get_or ss p 0 ≤ 4194304
  product_small = let top : p + 505 ≤ 529 = omega arith in omega (arith, mul-le-mul top (fit.small p h))

  pub totalling_turn : Totalling ss ts (sum + ((p + 505) * get_or ss p 0 - 24 * get_or ts p 0)) (p + 1)
  unfolding columns_total
  totalling_turn =
      record {
        low = omega arith;
        small = omega (arith, product_small, t.small);
        is = ap (λ (k : ℕ). k + ((p + 505) * get_or ss p 0 - 24 * get_or ts p 0)) t.is ∙ ap (columns_total ss ts) (sym (add-one p));
      }

-- ---- before the first run

pub columns_none : (bs : List ℕ) → Columns bs 0 (replicate 24 0) (replicate 24 0)
unfolding column column_twice
columns_none bs =
    record {
      sums_long = length-replicate {A = ℕ} 24 0;
      twice_long = length-replicate {A = ℕ} 24 0;
      sum_at = λ p l. get_or-replicate 24 p 0 0 l;
      twice_at = λ p l. get_or-replicate 24 p 0 0 l;
    }
