-- The site that a run plays on.
--   part_written      a part that was written is in front of the table
--   board_cleared     clearing gives a cleared site
--   numbers_few, order_few   its tables are as long as a site
--   answer_few
use Rattle.std.specs.Prelude.{◌≡◌, ◌∷◌, ◌++◌, ◌*◌, ◌≤◌, ◌<◌}
use Rattle.lists.specs.Kit.{refl, ap, true, List, ℕ, zero, suc, arith, length, take, drop, replicate, length-replicate, length-take, take_at}
use Rattle.mesh.specs.{Limits.{max_radios, row_bytes}, Tables.{Tables, tables}}
use Rattle.calls.{specs.Questions.{lengths_of, lent_refusal, tables_refusal}, specs.Outcomes.{Tabled, clear_outcome}, specs.CallContracts.{ClearContract}}
use Rattle.calls.{proofs.ChainLaws.{lent_yes}, proofs.ContractLaws.{by_zero}}
use Rattle.player.specs.{Board.{tables_of}, Play.{cleared}, Reading.{SiteCleared}, declared.board.Board.{Board}}

pub part_written : (k : ℕ) (xs ys : List ℕ) → k ≤ length ys → length xs ≡ length (take k ys) → take k (xs ++ drop k ys) ≡ xs
part_written k xs ys h l = take_at xs (drop k ys) k (omega (arith, length-take k ys))

-- a part of zeros
take_zeros : (n m : ℕ) → n ≤ m → take {A = ℕ} n (replicate m 0) ≡ replicate n 0
take_zeros zero m h = refl
take_zeros (suc n) zero h = absurd (omega arith)
take_zeros (suc n) (suc m) h = ap (λ (xs : List ℕ). 0 ∷ xs) (take_zeros n m (omega arith))

-- parts of so many zeros
part_long : (k m : ℕ) → k ≤ m → length (take {A = ℕ} k (replicate m 0)) ≡ k
part_long k m h = omega (arith, length-take {A = ℕ} k (replicate m 0), length-replicate {A = ℕ} m 0)

module _ (n r l m : ℕ) (ls ns xs : List ℕ) (some : 0 < n) (few : n ≤ max_radios) (wide : row_bytes * n ≤ l) (long : n ≤ m) where
  -- the tables lent to be cleared
  abbrev before : Tables
  before = tables (take (row_bytes * n) (replicate l 0)) (take n (replicate m 0)) (take n (replicate m 0))

  after : ClearContract n before r (tables ls ns xs) → tables ls ns xs ≡ cleared n
  unfolding ClearContract clear_outcome tables_refusal lengths_of cleared
  after h =
      let yes : lent_refusal n (lengths_of before) true 0 ≡ 0 =
      lent_yes n (lengths_of before) true 0 (record {
        least = some;
        most = few;
        lengths = record { links = part_long (row_bytes * n) l wide; numbers = part_long n m long; order = part_long n m long };
        further = refl;
      }) in
      ap (λ (o : Tabled ℕ). o.tables) (by_zero _ _ _ yes h)

  pub board_cleared : ClearContract n before r (tables ls ns xs) → length ls ≡ length before.links → length ns ≡ length before.numbers
      → length xs ≡ length before.order → SiteCleared n (tables (take (row_bytes * n) (ls ++ drop (row_bytes * n) (replicate l 0)))
      (take n (ns ++ drop n (replicate m 0))) (take n (xs ++ drop n (replicate m 0)))) (take n (replicate m 0))
  board_cleared h e f g =
      record {
        some = some;
        few = few;
        is_cleared = rw (
          part_written _ ls (replicate l 0) (omega (arith, length-replicate {A = ℕ} l 0)) e,
          part_written _ ns (replicate m 0) (omega (arith, length-replicate {A = ℕ} m 0)) f,
          part_written _ xs (replicate m 0) (omega (arith, length-replicate {A = ℕ} m 0)) g,
        )
            (after h);
        answer_zero = take_zeros n m long;
      }

module _ (b : Board) where
  pub numbers_few : length (tables_of b).numbers ≤ b.radios
  unfolding tables_of
  numbers_few = omega (arith, length-take b.radios b.numbers)

  pub order_few : length (tables_of b).order ≤ b.radios
  unfolding tables_of
  order_few = omega (arith, length-take b.radios b.order)
