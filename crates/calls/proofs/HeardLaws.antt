-- Links that both ends hear: the single calls are allowed in turn, and lead to the agreed links.
--   Told n f          the test f of two radios below n does not ask which is named first, and no radio passes it with itself
--   graph_where n f   the graph whose links pass such a test
--   where_switches    the single calls of the links that pass a test
--   agreed_links      the agreed links
--   hear_allowed      questions 4 to 7 of each single call get yes
--   middle_linked     what is linked after the downs
--   hear_pairs        the pairs after all of them are the agreed links
use Rattle.std.specs.Prelude.{◌≡◌, ◌&&◌, ◌∷◌, ◌++◌, ◌+◌, ◌-◌, ◌≤◌, ◌<◌}
use Rattle.lists.{specs.Kit.{refl, sym, ap, ap₂, ◌∙◌, Bool, true, false, not, cond, and_comm, List, [], map, flat_map, ℕ, zero, suc}}
use Rattle.lists.{specs.Kit.{arith, leb, leb-true}, specs.Lists.{range, filter, count}, proofs.Tests.{never, and_left, and_right}}
use Rattle.lists.{proofs.Range.{range_in}, proofs.Filter.{filter_ext}, proofs.Count.{count_ext}, proofs.All.{all_below}}
use Rattle.mesh.{specs.Limits.{max_radios, max_neighbours}, specs.Graph.{Link, Graph, graph, link_of, InLinks, radios, linked, neighbours_among, degree}}
use Rattle.mesh.{specs.Tables.{marked, bit_table, row_links, graph_in}, specs.Sound.{irreflexive}, proofs.GraphLaws.{linked_sym, linked_self, proper_of}}
use Rattle.mesh.{proofs.Tables.Laws.{marked_bit_table}, proofs.Tables.Rows.{of_symmetric, of_irreflexive, irreflexive_of}, proofs.Tables.ReadBack.{in_graph_in}}
use Rattle.mesh.{proofs.Tables.ReadBack.{proper_graph_in, sorted_graph_in, ascending_graph_in, linked_graph_in}}
use Rattle.calls.specs.{Switches.{Switch, switch, pairs_after, AllAllowed}, Heard.{agreed, agreed_degree, agreed_few, heard_proper, row_switches}}
use Rattle.calls.specs.{Heard.{switches_where, goes_down, comes_up, heard_switches}}
use Rattle.calls.proofs.{Holds.{all_allowed_append, pairs_after_append}, Turns.{Ordered, pairs_eq, Room, switches_of, Turned, turns}}

-- ---- links that pass a test

pub record Told (n : ℕ) (f : ℕ → ℕ → Bool) : Type 0 where
  pub symmetric : (a b : ℕ) → a < n → b < n → f a b ≡ f b a
  pub irreflexive : (a : ℕ) → a < n → f a a ≡ false

abbrev pub graph_where : (n : ℕ) → (ℕ → ℕ → Bool) → Graph
graph_where n f = graph_in n (bit_table n f)

pub ordered_where : (n : ℕ) (f : ℕ → ℕ → Bool) → Ordered n (graph_where n f).links
ordered_where n f = record { is_proper = proper_graph_in n (bit_table n f); is_ascending = ascending_graph_in n (bit_table n f) }

switches_of_append : (u : Bool) (ls ms : List Link) → switches_of u (ls ++ ms) ≡ switches_of u ls ++ switches_of u ms
unfolding switches_of
switches_of_append u [] ms = refl
switches_of_append u (l ∷ ls) ms = ap (λ (ss : List Switch). switch u l.low l.high ∷ ss) (switches_of_append u ls ms)

switches_of_row : (u : Bool) (a : ℕ) (bs : List ℕ) → switches_of u (map (λ b. link_of a b) bs) ≡ map (λ b. switch u a b) bs
unfolding switches_of
switches_of_row u a [] = refl
switches_of_row u a (b ∷ bs) = ap (λ (ss : List Switch). switch u a b ∷ ss) (switches_of_row u a bs)

module _ (n : ℕ) (f : ℕ → ℕ → Bool) (small : n ≤ max_radios) where
  row_where : (u : Bool) (a : ℕ) → a < n → row_switches u n f a ≡ switches_of u (row_links n (bit_table n f) a)
  unfolding row_switches row_links
  row_where u a l =
      ap (map (λ b. switch u a b))
      (filter_ext (f a) (λ b. marked (bit_table n f) a b) (range (suc a) (n - suc a))
      (λ b i. sym (marked_bit_table n f a b l (omega (arith, range_in (suc a) (n - suc a) b i)))))
      ∙ sym (switches_of_row u a (filter (λ b. marked (bit_table n f) a b) (range (suc a) (n - suc a))))

  rows_where :
      (u : Bool) (i k : ℕ) → i + k ≤ n →
      flat_map (row_switches u n f) (range i k) ≡ switches_of u (flat_map (row_links n (bit_table n f)) (range i k))
  unfolding range flat_map switches_of
  rows_where u i zero h = refl
  rows_where u i (suc k) h =
      ap₂ (λ (ss rs : List Switch). ss ++ rs) (row_where u i (omega arith)) (rows_where u (suc i) k (omega arith))
      ∙ sym (switches_of_append u (row_links n (bit_table n f) i) (flat_map (row_links n (bit_table n f)) (range (suc i) k)))

  pub where_switches : (u : Bool) → switches_where u n f ≡ switches_of u (graph_where n f).links
  unfolding switches_where graph_in
  where_switches u = rows_where u 0 n (omega arith)

  marks : (a b : ℕ) → a < n → b < n → marked (bit_table n f) a b ≡ f a b
  marks a b la lb = marked_bit_table n f a b la (omega arith)

  pub where_passes : (m : Link) → InLinks m (graph_where n f).links → (m.low < n) × (m.high < n) × (f m.low m.high ≡ true)
  where_passes m i =
      let k = in_graph_in n (bit_table n f) m i in
      let l : m.low < n = omega (arith, k.lower_first, k.is_radio) in
      (l, k.is_radio, sym (marks m.low m.high l k.is_radio) ∙ k.is_marked)

  pub linked_where : Told n f → (a b : ℕ) → a < n → b < n → linked (graph_where n f) a b ≡ f a b
  linked_where t a b la lb =
      linked_graph_in n (bit_table n f)
      (of_symmetric n (bit_table n f) (λ a b la lb. marks a b la lb ∙ t.symmetric a b la lb ∙ sym (marks b a lb la)))
      (of_irreflexive n (bit_table n f) (λ a la. marks a a la la ∙ t.irreflexive a la)) a b la lb
      ∙ marks a b la lb

-- ---- agreed links

pub agreed_sym : (hs : List ℕ) (a b : ℕ) → agreed hs a b ≡ agreed hs b a
unfolding agreed
agreed_sym hs a b = and_comm (marked hs a b) (marked hs b a)

pub agreed_told : (n : ℕ) (hs : List ℕ) → heard_proper n hs ≡ true → Told n (agreed hs)
unfolding heard_proper agreed
agreed_told n hs p = record {
  symmetric = λ a b _ _. agreed_sym hs a b;
  irreflexive = λ a l. ap (λ (x : Bool). x && marked hs a a) (irreflexive_of n hs (and_left (irreflexive n hs) _ p) a l);
}

abbrev pub agreed_links : (n : ℕ) → (heard : List ℕ) → List Link
agreed_links n hs = (graph_where n (agreed hs)).links

module _ (n : ℕ) (hs : List ℕ) (small : n ≤ max_radios) (is_proper : heard_proper n hs ≡ true) where
  pub agreed_linked : (a b : ℕ) → a < n → b < n → linked (graph n (agreed_links n hs)) a b ≡ agreed hs a b
  unfolding graph_in
  agreed_linked = linked_where n (agreed hs) small (agreed_told n hs is_proper)

  pub agreed_room : agreed_few max_neighbours n hs ≡ true → (v : ℕ) → v < n → degree (graph n (agreed_links n hs)) v ≤ max_neighbours
  unfolding degree neighbours_among radios agreed_few agreed_degree
  agreed_room h v l =
      let c : count (linked (graph n (agreed_links n hs)) v) (range 0 n) ≡ count (agreed hs v) (range 0 n) =
      count_ext (linked (graph n (agreed_links n hs)) v) (agreed hs v) (range 0 n) (λ w i. agreed_linked v w l (omega (arith, range_in 0 n w i))) in
      let d = leb-true (count (agreed hs v) (range 0 n)) max_neighbours
      (all_below (λ a. leb (agreed_degree n hs a) max_neighbours) n h v l) in omega (arith, c, d)

-- ---- downs, then ups

module _ (n : ℕ) (hs : List ℕ) (ps : List Link) (small : n ≤ max_radios) (ordered : Ordered n ps) (is_proper : heard_proper n hs ≡ true)
    (few : agreed_few max_neighbours n hs ≡ true) where
  abbrev g : Graph
  g = graph n ps

  down_told : Told n (goes_down g hs)
  unfolding goes_down
  down_told = record {
    symmetric = λ a b _ _. ap₂ (λ (x y : Bool). x && not y) (linked_sym g a b) (agreed_sym hs a b);
    irreflexive = λ a _. ap (λ (x : Bool). x && not (agreed hs a a)) (linked_self g ordered.is_proper a);
  }

  up_told : Told n (comes_up g hs)
  unfolding comes_up
  up_told = record {
    symmetric = λ a b _ _. ap₂ (λ (x y : Bool). x && not y) (agreed_sym hs a b) (linked_sym g a b);
    irreflexive = λ a l. ap (λ (x : Bool). x && not (linked g a a)) ((agreed_told n hs is_proper).irreflexive a l);
  }

  abbrev downs : List Link
  downs = (graph_where n (goes_down g hs)).links

  abbrev ups : List Link
  ups = (graph_where n (comes_up g hs)).links

  down : Turned n false downs ps
  unfolding goes_down
  down =
      turns n false g downs ps (proper_of n downs (proper_graph_in n _)) (sorted_graph_in n _) ordered
      (λ m i. and_left (linked g m.low m.high) _ (where_passes n (goes_down g hs) small m i).2) (λ e. never false e refl)

  abbrev pub middle : List Link
  middle = pairs_after (switches_of false downs) ps

  pub middle_linked : (v w : ℕ) → v < n → w < n → linked (graph n middle) v w ≡ (linked g v w && agreed hs v w)
  unfolding linked goes_down graph_in
  middle_linked v w lv lw =
      down.joined v w
      ∙ ap (λ (x : Bool). cond x false (linked g v w)) (linked_where n (goes_down g hs) small down_told v w lv lw)
      ∙ go (linked g v w) (agreed hs v w)
    where
      go : (x y : Bool) → cond (x && not y) false x ≡ (x && y)
      go true true = refl
      go true false = refl
      go false y = refl

  up_passes :
      (m : Link) → InLinks m ups →
      (linked (graph n middle) m.low m.high ≡ false) × (linked (graph n (agreed_links n hs)) m.low m.high ≡ true)
  unfolding comes_up
  up_passes m i =
      let k = where_passes n (comes_up g hs) small m i in
      let p = and_left (agreed hs m.low m.high) _ k.2 in
      let q = and_right (agreed hs m.low m.high) _ k.2 in (
        middle_linked m.low m.high k.0 k.1 ∙ ap (λ (x : Bool). x && agreed hs m.low m.high) (off (linked g m.low m.high) q),
        agreed_linked n hs small is_proper m.low m.high k.0 k.1 ∙ p,
      )
    where
      off : (x : Bool) → not x ≡ true → x ≡ false
      off true e = never false e refl
      off false e = refl

  middle_room : Room n (graph n (agreed_links n hs)) middle ups
  middle_room = record {
    same_n = refl;
    inside = λ v w lv lw h.
        agreed_linked n hs small is_proper v w lv lw ∙ and_right (linked g v w) (agreed hs v w) (sym (middle_linked v w lv lw) ∙ h);
    listed = λ m i. (up_passes m i).1;
    few = agreed_room n hs small is_proper few;
  }

  up : Turned n true ups middle
  up =
      turns n true (graph n (agreed_links n hs)) ups middle (proper_of n ups (proper_graph_in n _)) (sorted_graph_in n _) down.ordered
      (λ m i. (up_passes m i).0) (λ e. middle_room)

  switches_are : heard_switches g hs ≡ switches_of false downs ++ switches_of true ups
  unfolding heard_switches
  switches_are = ap₂ (λ (ss rs : List Switch). ss ++ rs) (where_switches n (goes_down g hs) small false) (where_switches n (comes_up g hs) small true)

  -- no single call would be refused
  pub hear_allowed : AllAllowed n ps (heard_switches g hs)
  hear_allowed = rw switches_are (all_allowed_append n ps (switches_of false downs) (switches_of true ups) down.allowed up.allowed)

  -- the downs alone
  pub downs_pairs : pairs_after (switches_where false n (goes_down g hs)) ps ≡ middle
  downs_pairs = ap (λ (ss : List Switch). pairs_after ss ps) (where_switches n (goes_down g hs) small false)

  -- the links are then the agreed ones
  pub hear_pairs : pairs_after (heard_switches g hs) ps ≡ agreed_links n hs
  unfolding linked comes_up graph_in
  hear_pairs =
      ap (λ (ss : List Switch). pairs_after ss ps) switches_are ∙ pairs_after_append (switches_of false downs) (switches_of true ups) ps
      ∙ pairs_eq n _ (agreed_links n hs) up.ordered (ordered_where n (agreed hs))
      (λ v w lv lw.
      up.joined v w
      ∙ ap₂ (λ (x y : Bool). cond x true y) (linked_where n (comes_up g hs) small up_told v w lv lw) (middle_linked v w lv lw)
      ∙ go (linked g v w) (agreed hs v w) ∙ sym (agreed_linked n hs small is_proper v w lv lw))
    where
      go : (x y : Bool) → cond (y && not x) true (x && y) ≡ y
      go true true = refl
      go true false = refl
      go false true = refl
      go false false = refl
