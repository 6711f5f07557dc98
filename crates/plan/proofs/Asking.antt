-- The questions of a link call, asked of the tables, on plain values.
-- In order: sound tables, what a plan is made from, the questions, what a plan is applied to.
use Rattle.std.specs.Prelude.{◌≡◌, ◌&&◌, ◌*◌, ◌≤◌, ◌<◌}
use Rattle.lists.{specs.Kit.{sym, ap, ◌∙◌, Bool, true, List, ℕ, arith, le_trans, le_of_eq, leb, length, get_or}, specs.Lists.{range}}
use Rattle.lists.{proofs.Range.{range_in}, proofs.Filter.{length_filter, filter_ext}}
use Rattle.mesh.{specs.Limits.{max_radios, max_neighbours, row_bytes}, specs.Graph.{Graph, radios, linked, neighbours_in}, specs.Cores.{number, numbers}}
use Rattle.mesh.{specs.Tables.{Tables, graph_in}, specs.Sound.{number_in, rows_proper, sound}, proofs.Cores.Peeling.{get_d_numbers}, proofs.Tables.Rows.{few_of}}
use Rattle.mesh.{proofs.Tables.ReadBack.{proper_graph_in, ascending_graph_in, degree_graph_in}, proofs.Tables.Soundness.{Right, sound_right}}
use Rattle.calls.{specs.Questions.{lengths_of, answer_length, ends_refusal}, proofs.QuestionLaws.{answer_length_true}}
use Rattle.calls.{proofs.ChainLaws.{SiteGood, site_zero, ends_zero, link_zero}}
use Rattle.conditions.specs.Conditions.{Placed, NotLower}
use Rattle.soundness.{specs.Checks.{Asked}, proofs.HighCounts.{counts_neighbours_in}, proofs.RadioLaws.{site_later_no, site_later_yes}}
use Rattle.plan.specs.Plans.{Ready, Applicable}
use Rattle.plan.proofs.EndsLaws.{proper_rows}
use Rattle.calls.specs.Chains.{link_refusal}

-- ---- sound tables

-- proper rows, core numbers and a k-order
pub right_of : (n : ℕ) (t : Tables) → length t.numbers ≡ n → sound n t ≡ true → Right max_neighbours n t
unfolding sound
right_of n t e h = sound_right max_neighbours n t e h

-- the neighbours that are not below a radio, by the table of numbers and by core numbers
pub high_numbers : (g : Graph) (ns : List ℕ) → ns ≡ numbers g → (v : ℕ) → v < g.n
    → neighbours_in g v (λ w. leb (number_in ns v) (number_in ns w)) ≡ neighbours_in g v (λ w. leb (number g v) (number g w))
unfolding neighbours_in radios
high_numbers g ns e v l =
    let f : ℕ → Bool = λ w. linked g v w && leb (number_in ns v) (number_in ns w) in
    let h : ℕ → Bool = λ w. linked g v w && leb (number g v) (number g w) in
    let is : (w : ℕ) → w < g.n → number_in ns w ≡ number g w = λ w k. ap (λ (z : List ℕ). get_or z w 0) e ∙ get_d_numbers g w k in
    sym (length_filter f (range 0 g.n))
    ∙ ap length
    (filter_ext f h (range 0 g.n) (λ w m. let k : w < g.n = omega (arith, range_in 0 g.n w m) in rw (is v l, is w k)))
    ∙ length_filter h (range 0 g.n)

-- ---- what a plan is made from: places and not-lower counts of every radio are in ps and hs

pub ready_of : (up : Bool) (n a b : ℕ) (t : Tables) (others : Bool) → SiteGood n (lengths_of t) others (sound n t) → (ps hs : List ℕ) → Placed n t.order ps
    → NotLower n t.links t.numbers hs → max_radios ≤ length ps → max_radios ≤ length hs → ends_refusal max_neighbours up n a b (graph_in n t.links) ≡
    0
    → Ready up n a b t ps hs
unfolding lengths_of graph_in
ready_of up n a b t others good ps hs placed counts lp lh z =
    let g = graph_in n t.links in
    let right = right_of n t good.lent.lengths.numbers good.is_sound in
    record {
      small = good.lent.most;
      links_length = good.lent.lengths.links;
      numbers_length = good.lent.lengths.numbers;
      order_length = good.lent.lengths.order;
      is_sound = good.is_sound;
      allowed = ends_zero max_neighbours up a b g z;
      places_length = omega (arith, good.lent.most);
      not_lower_length = omega (arith, good.lent.most);
      placed = λ i l low high. placed.at i l;
      counted = λ v l e.
          counts_neighbours_in n t good.is_sound good.lent.most hs counts v l ∙ high_numbers g t.numbers right.core_numbers v l;
    }

-- ---- the questions: q is the number of 1 to 3

module _ (up : Bool) (n a b : ℕ) (t : Tables) (w : ℕ) (ps hs : List ℕ) (q : ℕ) (asked : Asked n t (answer_length n w) ps hs q) where
  abbrev g : Graph
  g = graph_in n t.links

  abbrev R : ℕ
  R = link_refusal up n a b (lengths_of t) w (sound n t) g

  pub asked_no : (q ≡ 0 → ⊥) → q ≡ R
  asked_no h = site_later_no n (lengths_of t) (answer_length n w) (sound n t) q asked.number _ h

  module _ (zero : q ≡ 0) where
    good : SiteGood n (lengths_of t) (answer_length n w) (sound n t)
    good = (site_zero n (lengths_of t) (answer_length n w) (sound n t) 0 (sym asked.number ∙ zero)).0

    right : Right max_neighbours n t
    unfolding lengths_of
    right = right_of n t good.lent.lengths.numbers good.is_sound

    pub ends_room : (n ≤ max_radios) × (length t.links ≡ row_bytes * n) × (rows_proper max_neighbours n t.links ≡ true)
    unfolding lengths_of
    ends_room = (good.lent.most, good.lent.lengths.links, right.rows)

    pub asked_order : length t.order ≡ n
    unfolding lengths_of
    asked_order = good.lent.lengths.order

    pub asked_ends : ends_refusal max_neighbours up n a b g ≡ R
    asked_ends = sym (site_later_yes n (lengths_of t) (answer_length n w) (sound n t) q asked.number _ zero)

    pub asked_ready : max_radios ≤ length ps → max_radios ≤ length hs → ends_refusal max_neighbours up n a b g ≡ 0 → Ready up n a b t ps hs
    asked_ready lp lh z = ready_of up n a b t (answer_length n w) good ps hs (asked.placed zero) (asked.counts zero) lp lh z

-- ---- what a plan is applied to

-- what the questions say of the tables where none got "no"
pub asked_applicable : (up : Bool) (n a b : ℕ) (t : Tables) (answer : List ℕ)
    → link_refusal up n a b (lengths_of t) (length answer) (sound n t) (graph_in n t.links) ≡ 0 → Applicable up n a b t answer
unfolding graph_in lengths_of
asked_applicable up n a b t answer e =
    let ts = t.links in
    let good = link_zero up a b (lengths_of t) (length answer) (sound n t) (graph_in n ts) e in
    let lent = good.0.lent in
    let right = right_of n t lent.lengths.numbers good.0.is_sound in
    let rows = proper_rows max_neighbours n ts right.rows in
    record {
      small = lent.most;
      valid = record {
        links_proper = proper_graph_in n ts;
        links_ascending = ascending_graph_in n ts;
        degrees = λ v l.
            le_trans (le_of_eq (degree_graph_in n ts lent.most rows.symmetric_rows rows.irreflexive_rows rows.within_rows v l))
            (few_of max_neighbours n ts rows.few_rows v l);
        k_order = right.k_order;
      };
      numbered = right.core_numbers;
      allowed = good.1;
      room = answer_length_true n (length answer) lent.further;
    }
