-- Questions 4 to 7 of a link call, put to the rows of the links table: what each "no" of the code gives, and the "yes" to all.
-- In order: the rows of a proper table, then each outcome.
use Rattle.std.specs.Prelude.{◌≡◌, ◌&&◌, ◌*◌, ◌≤◌, ◌<◌}
use Rattle.lists.{specs.Kit.{refl, sym, ap, ◌∙◌, Bool, true, false, not, Bool·beq, List, ℕ, arith, length, lt-ltb, le-ltb, eq-eqb}}
use Rattle.lists.{specs.Kit.{ne_eqb}, proofs.Tests.{and_left, and_right}}
use Rattle.mesh.{specs.Limits.{max_radios, row_bytes}, specs.Graph.{Graph, linked, degree}, specs.Tables.{marked, graph_in}, specs.Sound.{symmetric}}
use Rattle.mesh.{specs.Sound.{irreflexive, within, few, rows_proper}, proofs.Tables.ReadBack.{linked_graph_in, degree_graph_in}}
use Rattle.calls.specs.Questions.{ask, is_radio, are_radios, ends_differ, can_switch, has_room, ends_refusal}
use Rattle.rows.{specs.Rows.{row_listed}, proofs.RowListLaws.{length_neighbours_of}, proofs.RowWords.{row_listed_whole}}

-- ---- the rows of a proper table

-- what the four conditions on rows say of neighbours
pub record ProperRows (most n : ℕ) (ts : List ℕ) : Type 0 where
  pub symmetric_rows : symmetric n ts ≡ true
  pub irreflexive_rows : irreflexive n ts ≡ true
  pub within_rows : within n ts ≡ true
  pub few_rows : few most n ts ≡ true

pub proper_rows : (most n : ℕ) (ts : List ℕ) → rows_proper most n ts ≡ true → ProperRows most n ts
unfolding rows_proper
proper_rows most n ts p =
    let first = symmetric n ts && irreflexive n ts in
    let second = within n ts && few most n ts in
    let l = and_left first second p in
    let r = and_right first second p in
    record {
      symmetric_rows = and_left (symmetric n ts) (irreflexive n ts) l;
      irreflexive_rows = and_right (symmetric n ts) (irreflexive n ts) l;
      within_rows = and_left (within n ts) (few most n ts) r;
      few_rows = and_right (within n ts) (few most n ts) r;
    }

module _ (most n : ℕ) (ts : List ℕ) (big : n ≤ max_radios) (len : length ts ≡ row_bytes * n) (p : rows_proper most n ts ≡ true) where
  rows : ProperRows most n ts
  rows = proper_rows most n ts p

  pub linked_marked : (a b : ℕ) → a < n → b < n → linked (graph_in n ts) a b ≡ marked ts a b
  linked_marked = linked_graph_in n ts rows.symmetric_rows rows.irreflexive_rows

  pub degree_listed : (v : ℕ) → v < n → degree (graph_in n ts) v ≡ length (row_listed ts v)
  degree_listed v l =
      degree_graph_in n ts big rows.symmetric_rows rows.irreflexive_rows rows.within_rows v l
      ∙ sym (length_neighbours_of ts v)
      ∙ sym (ap length (row_listed_whole ts v (omega arith)))

-- ---- each outcome

module _ (most : ℕ) (up : Bool) (n a b : ℕ) (g : Graph) where
  pub ends_four_first : n ≤ a → 4 ≡ ends_refusal most up n a b g
  unfolding ends_refusal ask are_radios is_radio
  ends_four_first h = rw (le-ltb a n h)

  pub ends_four_second : a < n → n ≤ b → 4 ≡ ends_refusal most up n a b g
  unfolding ends_refusal ask are_radios is_radio
  ends_four_second la h = rw (lt-ltb a n la, le-ltb b n h)

  module _ (la : a < n) (lb : b < n) where
    pub ends_five : a ≡ b → 5 ≡ ends_refusal most up n a b g
    unfolding ends_refusal ask are_radios is_radio ends_differ
    ends_five e = rw (lt-ltb a n la, lt-ltb b n lb, eq-eqb a b e)

    -- `on` is what the row of a says of b
    module _ (ne : a ≡ b → ⊥) (on : Bool) (says : linked g a b ≡ on) where
      can_switch_beq : (u : Bool) → can_switch u g a b ≡ not (Bool·beq on u)
      unfolding can_switch
      can_switch_beq true = rw says (either on)
        where
          either : (x : Bool) → not x ≡ not (Bool·beq x true)
          either true = refl
          either false = refl
      can_switch_beq false = says ∙ either on
        where
          either : (x : Bool) → x ≡ not (Bool·beq x false)
          either true = refl
          either false = refl

      pub ends_six : Bool·beq on up ≡ true → 6 ≡ ends_refusal most up n a b g
      unfolding ends_refusal ask are_radios is_radio ends_differ
      ends_six e = rw (lt-ltb a n la, lt-ltb b n lb, ne_eqb a b ne, can_switch_beq up, e)

      module _ (state : Bool·beq on up ≡ false) where
        asked_seven : ends_refusal most up n a b g ≡ ask 7 (has_room most up g a b) 0
        unfolding ends_refusal ask are_radios is_radio ends_differ
        asked_seven = rw (lt-ltb a n la, lt-ltb b n lb, ne_eqb a b ne, can_switch_beq up, state)

        pub ends_down : up ≡ false → 0 ≡ ends_refusal most up n a b g
        unfolding ask has_room
        ends_down e = rw (asked_seven, e)

        pub ends_seven_first : up ≡ true → most ≤ degree g a → 7 ≡ ends_refusal most up n a b g
        unfolding ask has_room
        ends_seven_first e h = rw (asked_seven, e, le-ltb (degree g a) most h)

        pub ends_seven_second : up ≡ true → degree g a < most → most ≤ degree g b → 7 ≡ ends_refusal most up n a b g
        unfolding ask has_room
        ends_seven_second e l h = rw (asked_seven, e, lt-ltb (degree g a) most l, le-ltb (degree g b) most h)

        pub ends_up : up ≡ true → degree g a < most → degree g b < most → 0 ≡ ends_refusal most up n a b g
        unfolding ask has_room
        ends_up e l h = rw (asked_seven, e, lt-ltb (degree g a) most l, lt-ltb (degree g b) most h)
