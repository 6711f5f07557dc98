-- What the parts of a hearing come back with. The phases of a hearing, and what is left of them, are in specs/Hearing.antt of `calls`.
--   PhaseBy        the pairs of a phase are told by what both ends hear and by what a row marks
--   MarkedHearing  a heard table that got yes of question 7, and its one-sided pairs
--   RowSwitched    the listed links of a row are done
--   RowsSwitched   all rows are done
--   Brought         both phases are done
-- Definitions only.
use Rattle.std.specs.Prelude.{◌≡◌, ◌&&◌, ◌<◌}
use Rattle.lists.specs.Kit.{Bool, true, false, not, cond, List, ℕ, suc}
use Rattle.mesh.specs.{Limits.{max_neighbours}, Tables.{Tables}}
use Rattle.calls.specs.{Heard.{agreed, agreed_few, one_sided}, Hearing.{Phase, RowsLeft, RowLeft}}
use Rattle.conditions.specs.Hearing.{OfSize}
use Rattle.links.specs.Steps.{Prepared}

unfoldable pub PhaseBy : (n : ℕ) → (heard : List ℕ) → Phase → Type 0
PhaseBy n hs p =
    (a b : ℕ) → a < b → b < n
    → p.test a b ≡ cond p.up (agreed hs a b && not (p.marks a b)) (p.marks a b && not (agreed hs a b))

pub record MarkedHearing (n : ℕ) (hs ws : List ℕ) : Type 0 where
  pub size : OfSize n hs
  pub few : agreed_few max_neighbours n hs ≡ true
  pub one_sided : ws ≡ one_sided n hs

-- t and v are the tables before and after; bs are radios above a, and all of them are switched
pub record RowSwitched (up : Bool) (n a : ℕ) (bs : List ℕ) (t v : Tables) (places not_lower : List ℕ) : Type 0 where
  pub ready : Prepared n v places not_lower
  pub left : (p : Phase) (s : Tables) → p.up ≡ up → RowLeft n p s a (λ b. true) bs t → RowsLeft n p s (suc a) v

pub record RowsSwitched (up : Bool) (n : ℕ) (hs : List ℕ) (t v : Tables) (places not_lower : List ℕ) : Type 0 where
  pub ready : Prepared n v places not_lower
  pub left : (p : Phase) (s : Tables) → p.up ≡ up → PhaseBy n hs p → RowsLeft n p s 0 t → RowsLeft n p s n v

-- the tables between, which the downs leave and the ups find
pub record Brought (n : ℕ) (hs : List ℕ) (t v : Tables) : Type 0 where
  pub between : Tables
  pub down : (s : Tables) (p : Phase) → p.up ≡ false → PhaseBy n hs p → RowsLeft n p s 0 t → RowsLeft n p s n between
  pub up : (s : Tables) (p : Phase) → p.up ≡ true → PhaseBy n hs p → RowsLeft n p s 0 between → RowsLeft n p s n v
