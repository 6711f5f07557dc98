-- The conditions on rows of the links table, as facts about marks, and the rows of a graph's table.
-- In order: each condition from its test and back, the bits of a row counted, the table of a graph.
use Rattle.std.specs.Prelude.{◌≡◌, ◌⊎◌, ◌-◌, ◌≤◌, ◌<◌}
use Rattle.lists.specs.Kit.{sym, ◌∙◌, inl, inr, Bool, true, false, not, Bool·beq, List, ℕ, arith, le_antisymm, ltb, leb, leb-true}
use Rattle.lists.{specs.Kit.{le-leb, not-true, ltb-true, ltb-false}, specs.Lists.{range, count, all, In}, proofs.Tests.{bool_cases, never, beq_eq, eq_beq}}
use Rattle.lists.specs.Kit.{⊎_elim}
use Rattle.lists.{proofs.Range.{in_range, range_in, distinct_range}, proofs.All.{all_in, in_all, all_below, below_all}, proofs.Distinct.{count_sub}}
use Rattle.mesh.specs.{Limits.{max_radios}, Graph.{Graph, radios, linked, neighbours_among, degree, proper}, Tables.{marked, links_table}}
use Rattle.mesh.specs.Sound.{symmetric, irreflexive, within, row_degree, few, rows_proper}
use Rattle.mesh.proofs.{GraphLaws.{linked_by_proper, linked_sym, linked_self, proper_of}, Tables.Laws.{marked_links_table}}

-- ---- each condition, from its test and back

pub symmetric_of : (n : ℕ) (ts : List ℕ) → symmetric n ts ≡ true → (a b : ℕ) → a < n → b < n → marked ts a b ≡ marked ts b a
unfolding symmetric
symmetric_of n ts h a b la lb = beq_eq (marked ts a b) (marked ts b a)
    (all_below (λ b. Bool·beq (marked ts a b) (marked ts b a)) n
    (all_below (λ a. all (λ b. Bool·beq (marked ts a b) (marked ts b a)) (range 0 n)) n h a la) b lb)

pub of_symmetric : (n : ℕ) (ts : List ℕ) → ((a b : ℕ) → a < n → b < n → marked ts a b ≡ marked ts b a) → symmetric n ts ≡ true
unfolding symmetric
of_symmetric n ts h = below_all (λ a. all (λ b. Bool·beq (marked ts a b) (marked ts b a)) (range 0 n)) n
    (λ a la. below_all (λ b. Bool·beq (marked ts a b) (marked ts b a)) n (λ b lb. eq_beq (marked ts a b) (marked ts b a) (h a b la lb)))

pub irreflexive_of : (n : ℕ) (ts : List ℕ) → irreflexive n ts ≡ true → (a : ℕ) → a < n → marked ts a a ≡ false
unfolding irreflexive
irreflexive_of n ts h a la = not-true (marked ts a a) (all_below (λ a. not (marked ts a a)) n h a la)

pub of_irreflexive : (n : ℕ) (ts : List ℕ) → ((a : ℕ) → a < n → marked ts a a ≡ false) → irreflexive n ts ≡ true
unfolding irreflexive
of_irreflexive n ts h = below_all (λ a. not (marked ts a a)) n (λ a la. rw (h a la))

pub within_of : (n : ℕ) (ts : List ℕ) → within n ts ≡ true → (a b : ℕ) → a < n → n ≤ b → b < max_radios → marked ts a b ≡ false
unfolding within
within_of n ts h a b la nb lb = not-true (marked ts a b)
    (all_in (λ b. not (marked ts a b)) (range n (max_radios - n))
    (all_below (λ a. all (λ b. not (marked ts a b)) (range n (max_radios - n))) n h a la) b
    (in_range n (max_radios - n) b nb (omega arith)))

pub of_within : (n : ℕ) (ts : List ℕ) → ((a b : ℕ) → a < n → n ≤ b → b < max_radios → marked ts a b ≡ false) → within n ts ≡ true
unfolding within
of_within n ts h = below_all (λ a. all (λ b. not (marked ts a b)) (range n (max_radios - n))) n
    (λ a la. in_all (λ b. not (marked ts a b)) (range n (max_radios - n))
    (λ b m. let r = range_in n (max_radios - n) b m in rw (h a b la r.0 (omega (arith, r.0, r.1)))))

pub few_of : (most n : ℕ) (ts : List ℕ) → few most n ts ≡ true → (a : ℕ) → a < n → row_degree ts a ≤ most
unfolding few
few_of most n ts h a la = leb-true (row_degree ts a) most (all_below (λ a. leb (row_degree ts a) most) n h a la)

pub of_few : (most n : ℕ) (ts : List ℕ) → ((a : ℕ) → a < n → row_degree ts a ≤ most) → few most n ts ≡ true
unfolding few
of_few most n ts h = below_all (λ a. leb (row_degree ts a) most) n (λ a la. le-leb (row_degree ts a) most (h a la))

-- ---- the bits of a row, counted

-- a row that marks as f tells below n, and nothing from n on
pub row_degree_count : (n : ℕ) (ts : List ℕ) (a : ℕ) (f : ℕ → Bool) → n ≤ max_radios → ((b : ℕ) → b < n → marked ts a b ≡ f b)
    → ((b : ℕ) → n ≤ b → b < max_radios → marked ts a b ≡ false) → row_degree ts a ≡ count f (range 0 n)
unfolding row_degree
row_degree_count n ts a f big same none = le_antisymm
    (count_sub (λ b. marked ts a b) f (range 0 max_radios) (range 0 n) (distinct_range 0 max_radios)
    (λ b m h. there b (omega (arith, range_in 0 max_radios b m)) h (bool_cases (ltb b n))))
    (count_sub f (λ b. marked ts a b) (range 0 n) (range 0 max_radios) (distinct_range 0 n)
    (λ b m h. let l : b < n = omega (arith, range_in 0 n b m) in (in_range 0 max_radios b (omega arith) (omega arith), same b l ∙ h)))
  where
    there : (b : ℕ) → b < max_radios → marked ts a b ≡ true → (ltb b n ≡ true) ⊎ (ltb b n ≡ false) → In b (range 0 n) × (f b ≡ true)
    there b l h (inl e) = let k = ltb-true b n e in (in_range 0 n b (omega arith) (omega arith), sym (same b k) ∙ h)
    there b l h (inr e) = never (marked ts a b) h (none b (ltb-false b n e) l)

-- ---- the table of a graph

-- proper links join no radio at n or above
pub linked_within : (g : Graph) → proper g.n g.links ≡ true → (a b : ℕ) → g.n ≤ b → linked g a b ≡ false
unfolding linked
linked_within g p a b h =
    ⊎_elim (λ e. absurd (omega (arith, (linked_by_proper g.n g.links (proper_of g.n g.links p) a b e).1))) (λ e. e) (bool_cases (linked g a b))

pub row_degree_links_table : (g : Graph) → g.n ≤ max_radios → proper g.n g.links ≡ true
    → (a : ℕ) → a < g.n → row_degree (links_table g) a ≡ degree g a
unfolding degree neighbours_among radios
row_degree_links_table g big p a la = row_degree_count g.n (links_table g) a (linked g a) big
    (λ b lb. marked_links_table g a b la (omega arith))
    (λ b nb lb. marked_links_table g a b la lb ∙ linked_within g p a b nb)

pub rows_proper_links_table : (most : ℕ) (g : Graph) → g.n ≤ max_radios → proper g.n g.links ≡ true
    → ((v : ℕ) → v < g.n → degree g v ≤ most) → rows_proper most g.n (links_table g) ≡ true
unfolding rows_proper
rows_proper_links_table most g big p degrees = rw (
  of_symmetric g.n (links_table g)
      (λ a b la lb. marked_links_table g a b la (omega arith) ∙ linked_sym g a b ∙ sym (marked_links_table g b a lb (omega arith))),
  of_irreflexive g.n (links_table g) (λ a la. marked_links_table g a a la (omega arith) ∙ linked_self g p a),
  of_within g.n (links_table g) (λ a b la nb lb. marked_links_table g a b la lb ∙ linked_within g p a b nb),
) (of_few most g.n (links_table g) (λ a la. omega (arith, row_degree_links_table g big p a la, degrees a la)))
