-- The links table read back as a graph.
-- In order: members of joined lists of links, the links that a table marks, their order, the round trips, neighbours and
-- degrees.
use Rattle.std.specs.Prelude.{◌≡◌, ◌⊎◌, ◌∷◌, ◌*◌, ◌-◌, ◌≤◌, ◌<◌}
use Rattle.lists.specs.Kit.{refl, sym, ap, subst, ◌∙◌, inl, inr, Bool, true, false, cond, List, [], map, flat_map, ℕ, zero, suc}
use Rattle.lists.{specs.Kit.{arith, ltb, length, ltb-true, ltb-false}, specs.Lists.{range, filter, In}, specs.Facts.{Bytes}, proofs.Tests.{bool_cases}}
use Rattle.lists.specs.Kit.{⊎_elim}
use Rattle.lists.{proofs.Tests.{iff_eq, trichotomy}, proofs.Range.{in_range, range_in}, proofs.Filter.{in_filter, filter_in}}
use Rattle.mesh.specs.{Limits.{max_radios, row_bytes}, Graph.{Link, InLinks, Graph, graph, radios, linked, degree, neighbours_among, proper, ascending}}
use Rattle.mesh.specs.{Tables.{marked, links_table, row_links, graph_in}, Sound.{symmetric, irreflexive, within, row_degree}}
use Rattle.mesh.proofs.{GraphLaws.{linked_sym, linked_self, Proper, proper_of, of_proper}, Tables.Laws.{table_eq, length_links_table, bytes_links_table}}
use Rattle.mesh.proofs.{Tables.Laws.{marked_links_table}, Tables.Rows.{symmetric_of, irreflexive_of, within_of, row_degree_count, linked_within}}
use Rattle.mesh.proofs.Tables.AscendingLinks.{in_links_left, in_links_right, in_links_cases, in_links_proper, proper_in_links, Before, link_less}
use Rattle.mesh.proofs.Tables.AscendingLinks.{Sorted, sorted_of, of_sorted, sorted_append, sorted_eq, in_linked, linked_in}

-- ---- members of joined lists of links

flat_map_in : (f : ℕ → List Link) (xs : List ℕ) (a : ℕ) (m : Link) → In a xs → InLinks m (f a) → InLinks m (flat_map f xs)
unfolding flat_map
flat_map_in f [] a m x'' k = elim x'' [ ]
flat_map_in f (x ∷ xs) a m (inl e) k = in_links_left m (f x) (flat_map f xs) (rw e k)
flat_map_in f (x ∷ xs) a m (inr i) k = in_links_right m (f x) (flat_map f xs) (flat_map_in f xs a m i k)

in_flat_map : (f : ℕ → List Link) (xs : List ℕ) (m : Link) → InLinks m (flat_map f xs) → (a : ℕ) × In a xs × InLinks m (f a)
unfolding flat_map
in_flat_map f [] m i = absurd i
in_flat_map f (x ∷ xs) m i = let rec = in_flat_map f xs m in
    ⊎_elim (λ k. (x, inl refl, k)) (λ k. let r = rec k in (r.0, inr r.1, r.2)) (in_links_cases m (f x) (flat_map f xs) i)

-- the links from a to the radios of a list
abbrev links_to : (a : ℕ) → List ℕ → List Link
links_to a xs = map (λ b. record { low = a; high = b }) xs

links_to_in : (a b : ℕ) (xs : List ℕ) → In b xs → InLinks (record { low = a; high = b }) (links_to a xs)
links_to_in a b [] x' = elim x' [ ]
links_to_in a b (x ∷ xs) (inl e) = inl (ap {B = Link} (λ y. record { low = a; high = y }) e)
links_to_in a b (x ∷ xs) (inr i) = inr (links_to_in a b xs i)

in_links_to : (a : ℕ) (xs : List ℕ) (m : Link) → InLinks m (links_to a xs) → (m.low ≡ a) × In m.high xs
in_links_to a [] m x' = elim x' [ ]
in_links_to a (x ∷ xs) m (inl e) = (sym (ap (λ (l : Link). l.low) e), inl (ap (λ (l : Link). l.high) e))
in_links_to a (x ∷ xs) m (inr i) = let r = in_links_to a xs m i in (r.0, inr r.1)

-- ---- the links that a table marks

-- both radios below n, lower first, and the lower one's row marks the higher
pub record Marks (n : ℕ) (ts : List ℕ) (m : Link) : Type 0 where
  pub lower_first : m.low < m.high
  pub is_radio : m.high < n
  pub is_marked : marked ts m.low m.high ≡ true

pub in_graph_in : (n : ℕ) (ts : List ℕ) (m : Link) → InLinks m (graph_in n ts).links → Marks n ts m
unfolding graph_in row_links
in_graph_in n ts m i = row (in_flat_map (row_links n ts) (range 0 n) m i)
  where
    row : (a : ℕ) × In a (range 0 n) × InLinks m (row_links n ts a) → Marks n ts m
    row r = bit r.0 (in_links_to r.0 (filter (λ b. marked ts r.0 b) (range (suc r.0) (n - suc r.0))) m r.2)
      where
        bit : (a : ℕ) → (m.low ≡ a) × In m.high (filter (λ b. marked ts a b) (range (suc a) (n - suc a))) → Marks n ts m
        bit a p =
            let q = in_filter (λ b. marked ts a b) (range (suc a) (n - suc a)) m.high p.1 in
            let k = range_in (suc a) (n - suc a) m.high q.0 in
            record { lower_first = omega (arith, p.0, k.0); is_radio = omega (arith, k.0, k.1); is_marked = rw p.0 q.1 }

pub graph_in_in : (n : ℕ) (ts : List ℕ) (m : Link) → Marks n ts m → InLinks m (graph_in n ts).links
unfolding graph_in row_links
graph_in_in n ts m k =
    let a : ℕ = m.low in
    flat_map_in (row_links n ts) (range 0 n) a m (in_range 0 n a (omega arith) (omega (arith, k.lower_first, k.is_radio)))
    (links_to_in a m.high (filter (λ b. marked ts a b) (range (suc a) (n - suc a)))
    (filter_in (λ b. marked ts a b) (range (suc a) (n - suc a)) m.high
    (in_range (suc a) (n - suc a) m.high (omega (arith, k.lower_first)) (omega (arith, k.lower_first, k.is_radio))) k.is_marked))

pub proper_graph_in : (n : ℕ) (ts : List ℕ) → proper n (graph_in n ts).links ≡ true
proper_graph_in n ts = of_proper n (graph_in n ts).links
    (proper_in_links n (graph_in n ts).links (λ m i. let k = in_graph_in n ts m i in (k.lower_first, k.is_radio)))

-- ---- their order

sorted_links_to : (a : ℕ) (f : ℕ → Bool) (i k : ℕ) → Sorted (links_to a (filter f (range i k)))
unfolding range filter
sorted_links_to a f i zero = tt
sorted_links_to a f i (suc k) = go (sorted_links_to a f (suc i) k) (f i)
  where
    go : Sorted (links_to a (filter f (range (suc i) k))) → (t : Bool)
        → Sorted (links_to a (cond t (i ∷ filter f (range (suc i) k)) (filter f (range (suc i) k))))
    go rec true = (λ m p. later m (in_links_to a (filter f (range (suc i) k)) m p), rec)
      where
        later : (m : Link) → (m.low ≡ a) × In m.high (filter f (range (suc i) k)) → Before (record { low = a; high = i }) m
        later m r = inr (sym r.0, (range_in (suc i) k m.high (in_filter f (range (suc i) k) m.high r.1).0).0)
    go rec false = rec

-- rows in the order of their radios
sorted_rows : (f : ℕ → List Link) → ((a : ℕ) → Sorted (f a)) → ((a : ℕ) (m : Link) → InLinks m (f a) → m.low ≡ a)
    → (i k : ℕ) → Sorted (flat_map f (range i k))
unfolding flat_map range
sorted_rows f s low i zero = tt
sorted_rows f s low i (suc k) = sorted_append (f i) (flat_map f (range (suc i) k)) (s i) (sorted_rows f s low (suc i) k)
    (λ l m p q. later l m p (in_flat_map f (range (suc i) k) m q))
  where
    later : (l m : Link) → InLinks l (f i) → (a : ℕ) × In a (range (suc i) k) × InLinks m (f a) → Before l m
    later l m p r = inl (omega (arith, low i l p, low r.0 m r.2, range_in (suc i) k r.0 r.1))

pub sorted_graph_in : (n : ℕ) (ts : List ℕ) → Sorted (graph_in n ts).links
unfolding graph_in row_links
sorted_graph_in n ts = sorted_rows (row_links n ts)
    (λ a. sorted_links_to a (λ b. marked ts a b) (suc a) (n - suc a))
    (λ a m i. (in_links_to a (filter (λ b. marked ts a b) (range (suc a) (n - suc a))) m i).0) 0 n

pub ascending_graph_in : (n : ℕ) (ts : List ℕ) → ascending (graph_in n ts).links ≡ true
ascending_graph_in n ts = of_sorted (graph_in n ts).links (sorted_graph_in n ts)

-- ---- the graph of a table, and back

pub graph_in_links_table : (g : Graph) → g.n ≤ max_radios → proper g.n g.links ≡ true → ascending g.links ≡ true
    → graph_in g.n (links_table g) ≡ g
unfolding graph_in linked
graph_in_links_table g big p s = ap (graph g.n) (sorted_eq (graph_in g.n (links_table g)).links g.links
    (sorted_graph_in g.n (links_table g)) (sorted_of g.links s) there back)
  where
    q : Proper g.n g.links
    q = proper_of g.n g.links p

    there : (m : Link) → InLinks m (graph_in g.n (links_table g)).links → InLinks m g.links
    there m i =
        let k = in_graph_in g.n (links_table g) m i in
        let e = marked_links_table g m.low m.high (omega (arith, k.lower_first, k.is_radio)) (omega (arith, k.is_radio)) in
        subst (λ (l : Link). InLinks l g.links) (link_less m.low m.high k.lower_first)
        (linked_in g.n g.links m.low m.high q (sym e ∙ k.is_marked))

    back : (m : Link) → InLinks m g.links → InLinks m (graph_in g.n (links_table g)).links
    back m i =
        let k = in_links_proper g.n g.links m q i in
        graph_in_in g.n (links_table g) m (record {
          lower_first = k.0;
          is_radio = k.1;
          is_marked = marked_links_table g m.low m.high (omega (arith, k.0, k.1)) (omega (arith, k.1))
              ∙ in_linked g.links m.low m.high (subst (λ (l : Link). InLinks l g.links) (sym (link_less m.low m.high k.0)) i);
        })

module _ (n : ℕ) (ts : List ℕ) (is_symmetric : symmetric n ts ≡ true) (is_irreflexive : irreflexive n ts ≡ true) where
  linked_above : (a b : ℕ) → a < b → b < n → linked (graph_in n ts) a b ≡ marked ts a b
  unfolding linked
  linked_above a b h l = iff_eq (linked (graph_in n ts) a b) (marked ts a b)
      (λ e. (in_graph_in n ts (record { low = a; high = b })
      (subst (λ (m : Link). InLinks m (graph_in n ts).links) (link_less a b h)
      (linked_in n (graph_in n ts).links a b (proper_of n (graph_in n ts).links (proper_graph_in n ts)) e))).is_marked)
      (λ e. in_linked (graph_in n ts).links a b
      (subst (λ (m : Link). InLinks m (graph_in n ts).links) (sym (link_less a b h))
      (graph_in_in n ts (record { low = a; high = b }) (record { lower_first = h; is_radio = l; is_marked = e }))))

  pub linked_graph_in : (a b : ℕ) → a < n → b < n → linked (graph_in n ts) a b ≡ marked ts a b
  unfolding graph_in
  linked_graph_in a b la lb = go (trichotomy a b)
    where
      go : (a < b) ⊎ ((a ≡ b) ⊎ (b < a)) → linked (graph_in n ts) a b ≡ marked ts a b
      go (inl h) = linked_above a b h lb
      go (inr (inl e)) = rw (← e) (linked_self (graph_in n ts) (proper_graph_in n ts) a ∙ sym (irreflexive_of n ts is_irreflexive a la))
      go (inr (inr h)) = linked_sym (graph_in n ts) a b ∙ linked_above b a h la ∙ symmetric_of n ts is_symmetric b a lb la

pub links_table_graph_in : (n : ℕ) (ts : List ℕ) → n ≤ max_radios → length ts ≡ row_bytes * n → Bytes ts
    → symmetric n ts ≡ true → irreflexive n ts ≡ true → within n ts ≡ true → links_table (graph_in n ts) ≡ ts
unfolding graph_in
links_table_graph_in n ts big len bytes s r w = table_eq n (links_table (graph_in n ts)) ts
    (length_links_table (graph_in n ts)) len (bytes_links_table (graph_in n ts)) bytes
    (λ a b la lb. marked_links_table (graph_in n ts) a b la lb ∙ go a b la lb (bool_cases (ltb b n)))
  where
    go : (a b : ℕ) → a < n → b < max_radios → (ltb b n ≡ true) ⊎ (ltb b n ≡ false) → linked (graph_in n ts) a b ≡ marked ts a b
    go a b la lb (inl e) = linked_graph_in n ts s r a b la (ltb-true b n e)
    go a b la lb (inr e) =
        linked_within (graph_in n ts) (proper_graph_in n ts) a b (ltb-false b n e) ∙ sym (within_of n ts w a b la (ltb-false b n e) lb)

pub degree_graph_in : (n : ℕ) (ts : List ℕ) → n ≤ max_radios → symmetric n ts ≡ true → irreflexive n ts ≡ true → within n ts ≡ true
    → (a : ℕ) → a < n → degree (graph_in n ts) a ≡ row_degree ts a
unfolding degree neighbours_among radios graph_in
degree_graph_in n ts big s r w a la = sym (row_degree_count n ts a (linked (graph_in n ts) a) big
    (λ b lb. sym (linked_graph_in n ts s r a b la lb)) (λ b nb lb. within_of n ts w a b la nb lb))
