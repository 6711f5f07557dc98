-- Worked cases played on pairs and order are the worked cases played over the outcomes.
--   Alike         what link calls leave holds the pairs, the order and the answers of a state
--   by_state      a row that is right on pairs and order is right over the outcomes, whatever the lent tables held
-- In order: what is lent, what calls answer, the state, link calls, what is wanted, rows.
use Rattle.std.specs.Prelude.{◌≡◌, ◌&&◌, ◌∷◌, ◌++◌, ◌+◌, ◌*◌, ◌≤◌}
use Rattle.lists.{specs.Kit.{refl, ap, sym, ◌∙◌, true, false, List, [], flat_map, ℕ, zero, suc, arith, eqb, length, take}}
use Rattle.lists.{specs.Kit.{length-map, eqb-true, eq-eqb}, specs.Lists.{range, same, overwrite}, proofs.Tests.{never, and_left, and_right, and_both}}
use Rattle.lists.{proofs.Range.{length_range}, proofs.All.{same_refl, same_eq}, proofs.Overwrite.{take_overwrite}}
use Rattle.mesh.{specs.Limits.{max_neighbours, row_bytes}, specs.Graph.{Link, Graph, graph, radios}, specs.Staircase.{staircase, link_entries}}
use Rattle.mesh.{specs.Levels.{changed}, specs.Tables.{Tables, graph_in, tables_of}, specs.Sound.{sound}, specs.Connected.{core_of, backbone}}
use Rattle.mesh.{specs.Tree.{node, node_name, tree, node_names}, specs.Image.{long, image_of}, specs.declared.Node.{Node}, proofs.Images.Of.{length_image_of}}
use Rattle.calls.specs.{Questions.{lengths_of, size_good, image_length, tables_refusal, ends_refusal, read_refusal}}
use Rattle.calls.specs.{Switches.{Switch, switched}, Outcomes.{link_outcome, Tabled, Listing, value, listing_outcome, clear_outcome}}
use Rattle.calls.specs.{Outcomes.{read_outcome, write_outcome, tree_outcome}, Book.{beginning_tables}, Worked.{entries, lent_tables, lent_nodes, Left}}
use Rattle.calls.specs.{Worked.{left, left_by, played, after, Want, last_answers, all_numbers, whole_order, shell_tree, connected_core, backbone_radios}}
use Rattle.calls.specs.{Worked.{image_checks, printed, soundness, staircase_list, formerly, script, bad_text, image_reading, same_nodes, block_checks}}
use Rattle.calls.specs.{Worked.{is_value, is_listing, image_written, meets, meets_all, Row, right, Right, AllRight}}
use Rattle.calls.proofs.{ContractLaws.{number_by}, QuestionLaws.{size_good_true}, ChainLaws.{lent_yes, ends_zero}, Holds.{Holds, clear_is, clear_holds}}
use Rattle.calls.proofs.{Holds.{read_back, switched_holds}, Steps.{answer_accepted, answer_refused}, ByPairs.{link_asked, core_by_pairs}}
use Rattle.calls.proofs.{ByPairs.{backbone_by_pairs, write_by_pairs, tree_by_pairs, staircase_by_pairs}, WorkedState.{State, state, carried_out}}
use Rattle.calls.proofs.{WorkedState.{state_played, state_after, right_lengths, state_meets, state_meets_all, state_right, all_state_right}}
use Rattle.calls.specs.Chains.{level_refusal}
use Rattle.calls.specs.Questions.{by_number}
use Rattle.calls.specs.declared.Value.{Value}
use Rattle.calls.specs.Chains.{link_refusal}

-- ---- what is lent

length_entries : (f : ℕ → ℕ) (k : ℕ) → length (entries f k) ≡ k
unfolding entries
length_entries f k = length-map (range 0 k) f ∙ length_range 0 k

length_lent_nodes : (f : ℕ → ℕ) (n : ℕ) → length (lent_nodes f n) ≡ n + 1
unfolding lent_nodes
length_lent_nodes f n = length-map (range 0 (n + 1)) (λ i. node (f i) (f i) (f i)) ∙ length_range 0 (n + 1)

lengths_lent : (f : ℕ → ℕ) (n : ℕ) → lengths_of (lent_tables f n) ≡ right_lengths n
unfolding lengths_of lent_tables
lengths_lent f n = rw (length_entries f (row_bytes * n), length_entries f n)

-- ---- what calls answer

node_ext : (x y : Node) → x.name ≡ y.name → x.level ≡ y.level → x.parent ≡ y.parent → x ≡ y
node_ext x y p q r = rw (← p, ← q, ← r)

same_nodes_eq : (xs ys : List Node) → same_nodes xs ys ≡ true → xs ≡ ys
unfolding same_nodes
same_nodes_eq [] [] p = refl
same_nodes_eq [] (y ∷ ys) p = never false p refl
same_nodes_eq (x ∷ xs) [] p = never false p refl
same_nodes_eq (x ∷ xs) (y ∷ ys) p =
    let a = and_left (eqb x.name y.name && eqb x.level y.level) (eqb x.parent y.parent && same_nodes xs ys) p in
    let b = and_right (eqb x.name y.name && eqb x.level y.level) (eqb x.parent y.parent && same_nodes xs ys) p in
    let e : x ≡ y =
    node_ext x y
    (eqb-true x.name y.name (and_left (eqb x.name y.name) (eqb x.level y.level) a))
    (eqb-true x.level y.level (and_right (eqb x.name y.name) (eqb x.level y.level) a))
    (eqb-true x.parent y.parent (and_left (eqb x.parent y.parent) (same_nodes xs ys) b)) in
    let d = same_nodes_eq xs ys (and_right (eqb x.parent y.parent) (same_nodes xs ys) b) in rw (e, d)

same_nodes_refl : (xs : List Node) → same_nodes xs xs ≡ true
unfolding same_nodes
same_nodes_refl [] = refl
same_nodes_refl (x ∷ xs) = rw (eq-eqb x.name x.name refl, eq-eqb x.level x.level refl, eq-eqb x.parent x.parent refl, same_nodes_refl xs)

is_value_refl : (q x : ℕ) → is_value (value q x) q x ≡ true
unfolding is_value
is_value_refl q x = rw (eq-eqb q q refl, eq-eqb x x refl)

-- a number and a list
listing_right :
    (R r : ℕ) (new old xs : List ℕ) → (eqb R r && same (by_number R new (λ x. [])) xs) ≡ true →
    is_listing (listing_outcome R (length new) new old) r xs ≡ true
unfolding is_listing listing_outcome by_number same
listing_right zero r new old xs p =
    let e : ◌≡◌ {A = ℕ} 0 r = eqb-true 0 r (and_left (eqb 0 r) (same new xs) p) in
    let d : new ≡ xs = same_eq new xs (and_right (eqb 0 r) (same new xs) p) in
    rw (← e, ← d, is_value_refl 0 (length new), take_overwrite new old, same_refl new)
listing_right (suc y) r new old xs p =
    let e : suc y ≡ r = eqb-true (suc y) r (and_left (eqb (suc y) r) (same [] xs) p) in
    let d : [] ≡ xs = same_eq [] xs (and_right (eqb (suc y) r) (same [] xs) p) in
    rw (← e, ← d, is_value_refl (suc y) 0)

-- the kept links of a staircase tree, two entries each
kept_long : (ks : List Link) → 2 * length ks ≡ length (link_entries ks)
unfolding link_entries
kept_long [] = refl
kept_long (l ∷ ls) = omega (arith, kept_long ls)

kept_right :
    (R r : ℕ) (ks : List Link) (old xs : List ℕ) → (eqb R r && same (by_number R (link_entries ks) (λ x. [])) xs) ≡ true →
    let o = listing_outcome R (length ks) (link_entries ks) old in
    (eqb o.reply.number r && (eqb (2 * o.reply.value) (length xs) && same (take (length xs) o.lent) xs)) ≡ true
unfolding listing_outcome by_number same
kept_right zero r ks old xs p =
    let e : ◌≡◌ {A = ℕ} 0 r = eqb-true 0 r (and_left (eqb 0 r) (same (link_entries ks) xs) p) in
    let d : link_entries ks ≡ xs = same_eq (link_entries ks) xs (and_right (eqb 0 r) (same (link_entries ks) xs) p) in
    rw (← e, ← d, eq-eqb (2 * length ks) (length (link_entries ks)) (kept_long ks), take_overwrite (link_entries ks) old, same_refl (link_entries ks))
kept_right (suc y) r ks old xs p =
    let e : suc y ≡ r = eqb-true (suc y) r (and_left (eqb (suc y) r) (same [] xs) p) in
    let d : [] ≡ xs = same_eq [] xs (and_right (eqb (suc y) r) (same [] xs) p) in
    rw (← e, ← d, eq-eqb (suc y) (suc y) refl)

number_read : (n : ℕ) (bs : List ℕ) (t : Tables) → (read_outcome n bs t).reply ≡ read_refusal n (lengths_of t) bs
unfolding read_outcome
number_read n bs t = number_by (λ (o : Tabled ℕ). o.reply) (read_refusal n (lengths_of t) bs) _ _ refl (λ q. refl)

-- ---- a state

pub record Alike (n : ℕ) (q : State) (s : Left) : Type 0 where
  pub holds : Holds n q.pairs s.tables
  pub order : s.tables.order ≡ q.order
  pub answers : s.answers ≡ q.answers

module _ (f : ℕ → ℕ) (n : ℕ) (size : size_good n ≡ true) where
  abbrev least : 1 ≤ n
  least = (size_good_true n size).0

  abbrev enough_entries : n ≤ length (entries f n)
  enough_entries = omega (arith, length_entries f n)

  cleared : tables_refusal n (lengths_of (lent_tables f n)) ≡ 0
  unfolding tables_refusal
  cleared =
      rw (lengths_lent f n) (lent_yes n (right_lengths n) true 0 (record {
        least = least;
        most = (size_good_true n size).1;
        lengths = record { links = refl; numbers = refl; order = refl };
        further = refl;
      }))

  alike_cleared :
      let o = clear_outcome n (lent_tables f n) in (eqb o.reply 0 ≡ true) × Alike n (state [] (range 0 n) []) (left o.tables [])
  unfolding beginning_tables tables_of
  alike_cleared =
      rw (clear_is n (lent_tables f n) cleared) (refl, record { holds = clear_holds n (lent_tables f n) cleared; order = refl; answers = refl })

  -- ---- link calls

  module _ (c : Switch) (q : State) (s : Left) (k : Alike n q s) where
    abbrev g : Graph
    g = graph n q.pairs

    abbrev changes : List ℕ
    changes = changed c.up c.a c.b g

    abbrev asked :
        link_refusal c.up n c.a c.b (lengths_of s.tables) (length (entries f n)) (sound n s.tables) (graph_in n s.tables.links)
        ≡ ends_refusal max_neighbours c.up n c.a c.b g
    asked = link_asked n q.pairs s.tables k.holds least c.up c.a c.b (length (entries f n)) enough_entries

    alike_by : (R : ℕ) → ends_refusal max_neighbours c.up n c.a c.b g ≡ R → Alike n (carried_out R n c q) (played f n c s)
    unfolding carried_out played left_by link_outcome sound by_number switched
    alike_by zero e =
        let same : graph_in n s.tables.links ≡ g = read_back n q.pairs s.tables k.holds in
        rw (asked ∙ e)
        (record {
          holds = switched_holds n q.pairs s.tables k.holds c (ends_zero max_neighbours c.up c.a c.b g e);
          order = rw (same, k.order);
          answers = rw (same, k.answers, answer_accepted c.up _ changes (entries f n) _ refl refl refl refl);
        })
    alike_by (suc x) e =
        rw (asked ∙ e) (record { holds = k.holds; order = k.order; answers = rw (k.answers, answer_refused _ (suc x) (entries f n) refl refl refl) })

    alike_played : Alike n (state_played n c q) (played f n c s)
    unfolding state_played
    alike_played = alike_by _ refl

  alike_after : (cs : List Switch) (q : State) (s : Left) → Alike n q s → Alike n (state_after n cs q) (after f n cs s)
  unfolding after state_after
  alike_after [] q s k = k
  alike_after (c ∷ cs) q s k = alike_after cs (state_played n c q) (played f n c s) (alike_played c q s k)

  -- ---- what is wanted

  module _ (q : State) (s : Left) (k : Alike n q s) where
    abbrev site : Graph
    site = graph n q.pairs

    tables_are : s.tables ≡ tables_of site q.order
    unfolding tables_of
    tables_are =
        k.holds.is ∙ ap (tables_of site) (sym (ap (λ (o : Tables). o.order) k.holds.is) ∙ k.order)

    -- the image is written whole into a buffer that holds it
    image_taken :
        (w : List ℕ) → image_length site ≤ length w → let o = write_outcome n s.tables w in
        (o.reply ≡ value 0 (image_length site)) × (take (image_length site) o.lent ≡ image_of site q.order)
    unfolding image_length
    image_taken w l =
        let e = write_by_pairs n q.pairs s.tables k.holds least w l in (
          ap (λ (o : Listing Value (List ℕ)). o.reply) e,
          ap (λ (o : Listing Value (List ℕ)). take (image_length site) o.lent) e
              ∙ rw (k.order, ← length_image_of site q.order, take_overwrite (image_of site q.order) w),
        )

    written : image_written f n s.tables ≡ image_of site q.order
    unfolding image_written
    written =
        let e : graph_in n s.tables.links ≡ site = read_back n q.pairs s.tables k.holds in
        let o = image_taken (entries f (image_length site)) (omega (arith, length_entries f (image_length site))) in
        rw (e, o.0) o.1

    checks_right :
        (cs w : List ℕ) → image_length site ≤ length w →
        same (block_checks (length cs) (image_of site q.order)) (flat_map long cs) ≡ true → let o = write_outcome n s.tables w in
        (is_value o.reply 0 (image_length site) && same (block_checks (length cs) (take (image_length site) o.lent)) (flat_map long cs)) ≡ true
    checks_right cs w l p =
        let o = image_taken w l in rw (o.0, o.1, is_value_refl 0 (image_length site)) p

    names_taken : (w : List ℕ) → take n (overwrite (node_names site) w) ≡ node_names site
    unfolding node_names radios
    names_taken w =
        let e : length (node_names site) ≡ n = length-map (range 0 n) (node_name site) ∙ length_range 0 n in
        ap (λ (i : ℕ). take i (overwrite (node_names site) w)) (sym e) ∙ take_overwrite (node_names site) w

    tree_right :
        (ns : List Node) (vs : List ℕ) → same_nodes (tree site) ns ≡ true → same (node_names site) vs ≡ true →
        let o = tree_outcome n s.tables (lent_nodes f n) (entries f n) in
        (is_value o.reply 0 (length ns) && (same_nodes (take (length ns) o.lent.0) ns && same (take n o.lent.1) vs)) ≡ true
    tree_right ns vs p r =
        let e = tree_by_pairs n q.pairs s.tables k.holds least (lent_nodes f n) (entries f n) (omega (arith, length_lent_nodes f n)) enough_entries in
        rw (
          e,
          ← same_nodes_eq (tree site) ns p,
          is_value_refl 0 (length (tree site)),
          take_overwrite (tree site) (lent_nodes f n),
          same_nodes_refl (tree site),
          names_taken (entries f n),
        ) r

    meets_by : (w : Want) → state_meets n q w ≡ true → meets f n s w ≡ true
    unfolding state_meets meets tables_of by_number
    meets_by (last_answers hs) p = rw k.answers p
    meets_by (all_numbers ns) p = rw tables_are p
    meets_by (whole_order xs) p = rw k.order p
    meets_by (shell_tree ns vs) p =
        tree_right ns vs (and_left (same_nodes (tree site) ns) (same (node_names site) vs) p)
        (and_right (same_nodes (tree site) ns) (same (node_names site) vs) p)
    meets_by (connected_core v i r xs) p =
        rw (core_by_pairs n q.pairs s.tables k.holds least v i (entries f n) enough_entries) (
        listing_right (level_refusal n v i site) r (core_of site v i) (entries f n) xs p)
    meets_by (backbone_radios xs) p =
        rw (backbone_by_pairs n q.pairs s.tables k.holds least (entries f n) enough_entries) (
        listing_right 0 0 (backbone site) (entries f n) xs p)
    meets_by (image_checks m cs) p =
        let checks = same (block_checks (length cs) (image_of site q.order)) (flat_map long cs) in
        let e : image_length site ≡ m = eqb-true (image_length site) m (and_left (eqb (image_length site) m) checks p) in
        rw (← e) (checks_right cs (entries f (image_length site)) (omega (arith, length_entries f (image_length site))) (
        and_right (eqb (image_length site) m) checks p))
    meets_by (printed ls) p = rw (k.answers, tables_are) p
    meets_by (soundness ps ns xs b) p = rw tables_are p
    meets_by (staircase_list i r xs) p =
        rw (staircase_by_pairs n q.pairs s.tables k.holds least (entries f i), length_entries f i) (kept_right _ r (staircase site) (entries f i) xs p)
    meets_by (formerly a b r) p = rw (read_back n q.pairs s.tables k.holds) p
    meets_by (script ls) p = rw (read_back n q.pairs s.tables k.holds) p
    meets_by (bad_text l x) p = p
    meets_by (image_reading m i ps r) p = rw (number_read m _ (lent_tables f m), lengths_lent f m, written) p

    meets_all_by : (ws : List Want) → state_meets_all n q ws ≡ true → meets_all f n s ws ≡ true
    unfolding state_meets_all meets_all
    meets_all_by [] p = refl
    meets_all_by (w ∷ ws) p =
        and_both (meets f n s w) (meets_all f n s ws) (meets_by w (and_left (state_meets n q w) (state_meets_all n q ws) p)) (
        meets_all_by ws (and_right (state_meets n q w) (state_meets_all n q ws) p))

-- ---- rows

pub by_state : (r : Row) → state_right r ≡ true → Right r
unfolding state_right right
by_state r p f =
    let n = r.n in
    let q = state_after n r.calls (state [] (range 0 n) []) in
    let size = and_left (size_good n) (state_meets_all n q r.wants) p in
    let start = alike_cleared f n size in
    let k = alike_after f n size r.calls (state [] (range 0 n) []) _ start.1 in
    and_both _ _ start.0 (meets_all_by f n size q _ k r.wants (and_right (size_good n) (state_meets_all n q r.wants) p))

pub all_by_state : (rs : List Row) → all_state_right rs ≡ true → AllRight rs
unfolding all_state_right AllRight
all_by_state [] p = tt
all_by_state (r ∷ rs) p =
    (by_state r (and_left (state_right r) (all_state_right rs) p), all_by_state rs (and_right (state_right r) (all_state_right rs) p))

-- rows may be proved right in groups
pub all_right_append : (xs ys : List Row) → AllRight xs → AllRight ys → AllRight (xs ++ ys)
unfolding AllRight
all_right_append [] ys p q = q
all_right_append (x ∷ xs) ys p q = (p.0, all_right_append xs ys p.1 q)
