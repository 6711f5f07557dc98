-- The shell tree's text, from the nodes and the names that its call puts in front of lent tables.
use Rattle.std.specs.Prelude.{◌≡◌, ◌&&◌, ◌++◌, ◌≤◌, Ok, Err}
use Rattle.lists.{specs.Kit.{refl, sym, ◌∙◌, ap, List, ℕ, zero, suc, min, arith, length, take}, specs.Lists.{overwrite, range}}
use Rattle.lists.{proofs.Overwrite.{take_overwrite}, proofs.Map.{length-map}, proofs.Parts.{take_min}, proofs.Range.{length_range}}
use Rattle.text.specs.{Text.{bytes_of}, Print.{buffer_at, Puts}}
use Rattle.mesh.specs.{Graph.{radios}, Tables.{Tables, graph_in}, Sound.{sound}, Tree.{tree, node_name, node_names}, declared.Node.{Node}}
use Rattle.calls.specs.{Questions.{lengths_of, answer_length, by_number}, Outcomes.{Listing, listing, tree_outcome}, CallContracts.{TreeContract}}
use Rattle.calls.{specs.Chains.{tree_refusal, nodes_length}, specs.Answers.{refusal_number, value_reply}, specs.declared.{Refusal.{Refusal}, Value.{Value}}}
use Rattle.calls.{proofs.ChainLaws.{site_zero}}
use Rattle.site_program.{specs.{Texts.{radios_line, node_lines, tree_text}, Said.{TreeSaid}}, proofs.TextLaws.{by_refused, by_put}}

-- where the call is not refused there are at most 512 radios
named : (n many : ℕ) (t : Tables) → many ≡ min n 512 → tree_refusal n (lengths_of t) 513 512 (sound n t) ≡ 0
    → many ≡ length (node_names (graph_in n t.links))
unfolding node_names radios graph_in
named n many t d z =
    let few : n ≤ 512 = (site_zero n (lengths_of t) (nodes_length n 513 && answer_length n 512) (sound n t) 0 z).0.lent.most in
    let g = graph_in n t.links in
    let long : length (node_names g) ≡ n = length-map (node_name g) (range 0 n) ∙ length_range 0 n in
    omega (arith, d, few, long)

module _ (n : ℕ) (t : Tables) (m o : List Node) (w v : List ℕ) (nodes : length m ≡ 513) (names : length w ≡ 512) where
  abbrev R : ℕ
  R = tree_refusal n (lengths_of t) 513 512 (sound n t)

  -- the outcome by the number Q
  abbrev by : (Q : ℕ) → Listing Value (List Node × List ℕ)
  by Q = by_number Q (listing (value_reply (Ok (length (tree (graph_in n t.links)))))
      (overwrite (tree (graph_in n t.links)) m, overwrite (node_names (graph_in n t.links)) w)) (λ q. listing (record { number = q; value = 0 }) (m, w))

  contract_by : (reply : Value) → TreeContract n t m w reply o v → listing reply (o, v) ≡ by R
  unfolding TreeContract tree_outcome
  contract_by reply h = rw (nodes, names) at h

  pub tree_refused : (x : List ℕ) (r : Refusal) → TreeContract n t m w (value_reply (Err r)) o v → TreeSaid n t x (Err r) x
  unfolding TreeSaid by_number
  tree_refused x r h = by_refused R _ x r (go R (contract_by _ h))
    where
      go : (Q : ℕ) → listing (value_reply (Err r)) (o, v) ≡ by Q → refusal_number r ≡ Q
      go zero d = ap (λ (l : Listing Value (List Node × List ℕ)). l.reply.number) d
      go (suc q) d = ap (λ (l : Listing Value (List Node × List ℕ)). l.reply.number) d

  -- the tables' fronts are the tree's
  module _ (k : ℕ) (h : TreeContract n t m w (value_reply (Ok k)) o v) where
    told : (R ≡ 0) × (listing (value_reply (Ok k)) (o, v) ≡ by 0)
    unfolding by_number
    told = go R (contract_by _ h)
      where
        go : (Q : ℕ) → listing (value_reply (Ok k)) (o, v) ≡ by Q → (Q ≡ 0) × (listing (value_reply (Ok k)) (o, v) ≡ by 0)
        go zero d = (refl, d)
        go (suc q) d = absurd (omega (arith, ap (λ (l : Listing Value (List Node × List ℕ)). l.reply.number) d))

    pub tree_told : (x y : List ℕ) (many all end : ℕ) → length o ≡ 513 → many ≡ min k 513 → all ≡ min n 512
        → Puts (buffer_at x 0) (node_lines (take many o) ++ radios_line (bytes_of "nodes") (take all v)) (buffer_at y end) → TreeSaid n t x (Ok end) y
    unfolding TreeSaid tree_text by_number
    tree_told x y many all end long some names_are p =
        let g = graph_in n t.links in
        let count : k ≡ length (tree g) = ap (λ (l : Listing Value (List Node × List ℕ)). l.reply.value) told.1 in
        let lines : o ≡ overwrite (tree g) m = ap (λ (l : Listing Value (List Node × List ℕ)). l.lent.0) told.1 in
        let radios_named : v ≡ overwrite (node_names g) w = ap (λ (l : Listing Value (List Node × List ℕ)). l.lent.1) told.1 in
        let first : take many o ≡ tree g =
        ap (λ (i : ℕ). take i o) (some ∙ ap (λ (i : ℕ). min k i) (sym long)) ∙ take_min k o ∙ rw (count, lines) (take_overwrite (tree g) m) in
        let second : take all v ≡ node_names g = rw (named n all t names_are told.0, radios_named) (take_overwrite (node_names g) w) in
        by_put R _ x end y told.0 (rw (first, second) at p)
