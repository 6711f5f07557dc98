-- A hearing carried out row by row: its single calls are made in two phases, downs and then ups, and each phase goes over the rows.
--   Left             the switches ss are left of all, which are to be made of the tables t
--   Phase            single calls of one kind: the pairs that pass a test, and what a row marks above its own radio before they are made
--   RowsLeft        the rows from a on are left of a phase
--   RowLeft         of row a the radios bs are left, and the rows after it
--   downs, ups       the two phases
-- Laws are in proofs/HearingLaws.antt. Definitions only.
use Rattle.std.specs.Prelude.{◌≡◌, ◌&&◌, ◌++◌, ◌-◌, ◌≤◌, ◌<◌}
use Rattle.lists.specs.{Kit.{Bool, true, false, List, [], map, flat_map, ℕ, suc}, Lists.{range, filter, In, Ascending}}
use Rattle.mesh.specs.Tables.{Tables, marked, graph_in}
use Rattle.calls.specs.{Switches.{Switch, switch, tables_after, AllAllowed}, Heard.{agreed, row_switches, switches_where, goes_down, comes_up}}
use Rattle.calls.specs.{Heard.{heard_switches}}

-- the ones done brought t to the tables u, and ss may be made of these
pub record Left (n : ℕ) (all : List Switch) (t : Tables) (ss : List Switch) (u : Tables) : Type 0 where
  pub done : List Switch
  pub split : all ≡ done ++ ss
  pub tables : u ≡ tables_after n done t
  pub allowed : AllAllowed n (graph_in n u.links).links ss

-- `later` are the switches of the next phase; `marks` is what row a marks of radios above a
pub record Phase : Type 0 where
  pub up : Bool
  pub test : ℕ → ℕ → Bool
  pub marks : ℕ → ℕ → Bool
  pub later : List Switch
  pub all : List Switch

abbrev pub rows_from : (n : ℕ) → Phase → (a : ℕ) → List Switch
rows_from n p a = flat_map (row_switches p.up n p.test) (range a (n - a)) ++ p.later

-- a switch of an earlier row leaves what row a marks above a
pub record RowsLeft (n : ℕ) (p : Phase) (t : Tables) (a : ℕ) (u : Tables) : Type 0 where
  pub left : Left n p.all t (rows_from n p a) u
  pub kept : (v w : ℕ) → a ≤ v → v < w → w < n → marked u.links v w ≡ p.marks v w

-- of the radios bs the ones that pass the test `told` are switched
pub record RowLeft (n : ℕ) (p : Phase) (t : Tables) (a : ℕ) (told : ℕ → Bool) (bs : List ℕ) (u : Tables) : Type 0 where
  pub left : Left n p.all t (map (λ b. switch p.up a b) (filter told bs) ++ rows_from n p (suc a)) u
  pub kept : (v w : ℕ) → suc a ≤ v → v < w → w < n → marked u.links v w ≡ p.marks v w
  pub above : (b : ℕ) → In b bs → (a < b) × (b < n) × (marked u.links a b ≡ p.marks a b)
  pub rising : Ascending bs

-- links that are not agreed go down
unfoldable pub downs : (n : ℕ) → (heard : List ℕ) → Tables → Phase
downs n hs t =
    let g = graph_in n t.links in
    record {
      up = false;
      test = goes_down g hs;
      marks = marked t.links;
      later = switches_where true n (comes_up g hs);
      all = heard_switches g hs;
    }

-- agreed links that are down come up: after the downs, rows mark the links that are agreed
unfoldable pub ups : (n : ℕ) → (heard : List ℕ) → Tables → Phase
ups n hs t =
    let g = graph_in n t.links in
    record {
      up = true;
      test = comes_up g hs;
      marks = λ a b. marked t.links a b && agreed hs a b;
      later = [];
      all = heard_switches g hs;
    }
