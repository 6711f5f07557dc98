-- Laws of tables that are written from the front or compared, one entry a turn. Their parameter is the width w: the proof of
-- each function cites them with its own, 8 or 16.
-- In order: laws of lists; values; a table being written, and what it holds at the end; a table being copied; tables compared.
use Rattle.std.specs.Prelude.{◌≡◌, ◌&&◌, ◌++◌, ◌+◌, ◌%◌, ◌^◌, ◌≤◌, ◌<◌}
use Rattle.lists.{specs.Kit.{refl, sym, ap, ap₂, ◌∙◌, true, false, List, map, append-nil, ℕ, suc, min, mod-eq_of_lt}}
use Rattle.lists.{specs.Kit.{zero-add, add-one, arith, eqb, length, get_or, set, take, drop, replicate, length-set, drop_of_length-le, drop-cons, eq-eqb, ne_eqb}}
use Rattle.lists.{specs.Lists.{range, same, overwrite}, proofs.Range.{length_range}, proofs.Map.{map_range_ext, length-map, map_range_get_d, map_range_constant}}
use Rattle.lists.{proofs.Map.{map_range_id}, proofs.Overwrite.{set_map_range_end}, proofs.Parts.{take_min}}
use borrow.Author.Count.{below_more}
use Rattle.tables.specs.Widths.{Below, values, written}

-- ---- laws of lists

-- ---- values

pub length_values : (w : ℕ) (f : ℕ → ℕ) (k : ℕ) → length (values w f k) ≡ k
unfolding values
length_values w f k = length-map (λ i. f i % 2 ^ w) (range 0 k) ∙ length_range 0 k

-- values below 2 ^ w are held as they are
pub values_below : (w : ℕ) (f : ℕ → ℕ) (k : ℕ) → Below w f k → values w f k ≡ map f (range 0 k)
unfolding values
values_below w f k b = map_range_ext (λ i. f i % 2 ^ w) f 0 k (λ j m l. mod-eq_of_lt (b j (omega arith)))

pub values_constant : (w x k : ℕ) → x < 2 ^ w → values w (λ j. x) k ≡ replicate k x
values_constant w x k h = values_below w (λ j. x) k (λ j l. h) ∙ map_range_constant x 0 k

pub values_index : (w k : ℕ) → k ≤ 2 ^ w → values w (λ j. j) k ≡ range 0 k
values_index w k h = values_below w (λ j. j) k (λ j l. omega arith) ∙ map_range_id 0 k

pub values_get_d : (w : ℕ) (s : List ℕ) (k : ℕ) → k ≤ length s → Below w (λ j. get_or s j 0) k → values w (λ j. get_or s j 0) k ≡ take k s
values_get_d w s k h b = values_below w (λ j. get_or s j 0) k b ∙ map_range_get_d s 0 k (omega arith)

pub written_front : (w : ℕ) (f : ℕ → ℕ) (k : ℕ) (d : List ℕ) → written w f k d ≡ values w f k ++ drop k d
unfolding written overwrite
written_front w f k d = ap (λ n. values w f k ++ drop n d) (length_values w f k)

-- ---- a table of width w being written by a rule: i entries so far

pub record Writing (w : ℕ) (f : ℕ → ℕ) (start table : List ℕ) (i : ℕ) : Type 0 where
  pub low : i ≤ length start
  pub long : length table ≡ length start
  pub is : table ≡ written w f i start

pub writing_none : (w : ℕ) (f : ℕ → ℕ) (d : List ℕ) → Writing w f d d 0
unfolding written values overwrite range
writing_none w f d = record { low = omega arith; long = refl; is = refl }

-- one turn, at every width: the rule's next value as width w holds it
pub writing_turn :
    (w : ℕ) (f : ℕ → ℕ) (start table : List ℕ) (i x : ℕ) → Writing w f start table i → i < length start → x ≡ f i % 2 ^ w →
    Writing w f start (set table i x) (i + 1)
unfolding written overwrite values
writing_turn w f start table i x b h e =
    record {
      low = omega arith;
      long = length-set table i x ∙ b.long;
      is =
          ap (λ t. set t i x) (b.is ∙ written_front w f i start)
          ∙ ap (λ y. set (values w f i ++ drop i start) i y) (e ∙ ap (λ n. f n % 2 ^ w) (sym (zero-add i)))
          ∙ set_map_range_end (λ j. f j % 2 ^ w) 0 i start h ∙ sym (written_front w f (suc i) start) ∙ ap (λ n. written w f n start) (sym (add-one i));
    }

-- all entries written
pub writing_all :
    (w : ℕ) (f : ℕ → ℕ) (start table : List ℕ) (i : ℕ) → Writing w f start table i → length start ≤ i →
    table ≡ values w f (length start)
unfolding written overwrite
writing_all w f start table i b h =
    let e : i ≡ length start = omega (arith, b.low) in
    b.is ∙ written_front w f i start ∙ ap (λ t. values w f i ++ t) (drop_of_length-le start h) ∙ append-nil (values w f i) ∙ ap (values w f) e

pub writing_constant :
    (w x : ℕ) (start table : List ℕ) (i : ℕ) → Writing w (λ j. x) start table i → length start ≤ i → x < 2 ^ w →
    table ≡ replicate (length start) x
writing_constant w x start table i b h l = writing_all w (λ j. x) start table i b h ∙ values_constant w x (length start) l

-- ---- a table of width w being copied from another: i entries so far

pub record Copying (w : ℕ) (s start table : List ℕ) (i : ℕ) : Type 0 where
  pub writing : Writing w (λ j. get_or s j 0) start table i
  pub within : i ≤ length s
  pub below : Below w (λ j. get_or s j 0) i

pub copying_none : (w : ℕ) (s d : List ℕ) → Copying w s d d 0
copying_none w s d = record { writing = writing_none w (λ j. get_or s j 0) d; within = omega arith; below = λ j l. absurd (omega arith) }

pub copying_turn :
    (w : ℕ) (s start table : List ℕ) (i : ℕ) → Copying w s start table i → i < min (length start) (length s) → get_or s i 0 < 2 ^ w →
    Copying w s start (set table i (get_or s i 0)) (i + 1)
copying_turn w s start table i b h l =
    record {
      writing = writing_turn w (λ j. get_or s j 0) start table i (get_or s i 0) b.writing (omega arith) (sym (mod-eq_of_lt l));
      within = omega arith;
      below = below_more _ _ b.below l;
    }

pub copying_end :
    (w : ℕ) (s start table : List ℕ) (i : ℕ) → Copying w s start table i → min (length start) (length s) ≤ i →
    table ≡ overwrite (take (length start) s) start
unfolding written
copying_end w s start table i b h =
    let e : i ≡ min (length start) (length s) = omega (arith, b.writing.low, b.within) in
    b.writing.is
    ∙ ap (λ t. overwrite t start) (values_get_d w s i b.within b.below ∙ ap (λ n. take n s) e ∙ take_min (length start) s)

-- ---- tables being compared: i entries so far are equal. What is compared are the entries, whatever their width

pub record Comparing (xs ys : List ℕ) (i : ℕ) : Type 0 where
  pub low : i ≤ length xs
  pub long : length xs ≡ length ys
  pub is : same xs ys ≡ same (drop i xs) (drop i ys)

pub comparing_none : (xs ys : List ℕ) → length xs ≡ length ys → Comparing xs ys 0
comparing_none xs ys e = record { low = omega arith; long = e; is = refl }

-- what the next entry decides
module _ (xs ys : List ℕ) (i : ℕ) (b : Comparing xs ys i) (h : i < length xs) where
  comparing_next : same xs ys ≡ (eqb (get_or xs i 0) (get_or ys i 0) && same (drop (suc i) xs) (drop (suc i) ys))
  unfolding same
  comparing_next = b.is ∙ ap₂ same (drop-cons xs i 0 h) (drop-cons ys i 0 (omega (arith, b.long)))

  pub comparing_turn : get_or xs i 0 ≡ get_or ys i 0 → Comparing xs ys (i + 1)
  comparing_turn e =
      record {
        low = omega arith;
        long = b.long;
        is = rw add-one (comparing_next ∙ ap (λ t. t && same (drop (suc i) xs) (drop (suc i) ys)) (eq-eqb (get_or xs i 0) (get_or ys i 0) e));
      }

  pub comparing_differ : (get_or xs i 0 ≡ get_or ys i 0 → ⊥) → same xs ys ≡ false
  comparing_differ e =
      comparing_next ∙ ap (λ t. t && same (drop (suc i) xs) (drop (suc i) ys)) (ne_eqb (get_or xs i 0) (get_or ys i 0) e)

pub comparing_end : (xs ys : List ℕ) (i : ℕ) → Comparing xs ys i → length xs ≤ i → same xs ys ≡ true
unfolding same
comparing_end xs ys i b h =
    let g : length ys ≤ i = omega (arith, b.long) in b.is ∙ ap₂ same (drop_of_length-le xs h) (drop_of_length-le ys g)
