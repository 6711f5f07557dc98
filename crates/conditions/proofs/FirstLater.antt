-- The later neighbours of a radio of tables with proper rows: what is counted of its row is what the order says.
-- In order: the first of some radios by its key, the entries after a radio's place, the first of them.
use Rattle.std.specs.Prelude.{◌≡◌, ◌⊎◌, ◌&&◌, ◌∷◌, ◌+◌, ◌*◌, ◌-◌, ◌%◌, ◌≤◌, ◌<◌}
use Rattle.lists.{specs.Kit.{refl, sym, ap, ◌∙◌, inl, inr, Bool, true, false, cond, List, [], ℕ, suc, min}}
use Rattle.lists.{specs.Kit.{arith, ltb, leb, length, get_or, drop, length-drop, get_or-drop, ltb-true, ltb-false, lt-ltb, leb-true, leb-false}}
use Rattle.lists.{specs.Lists.{range, filter, head_or, In}, specs.Facts.{EachOnce, Rising}, proofs.Tests.{bool_cases, never, and_left, and_right}}
use Rattle.lists.{proofs.Filter.{in_filter, filter_in, filter_ext, length_filter}, proofs.Range.{once_below, once_length, once_in, in_range}}
use Rattle.lists.{proofs.Member.{in_get_d, get_d_of_in}, proofs.Ascending.{rising_filter, rising_index}}
use Rattle.mesh.{specs.Limits.{max_radios, max_neighbours}, specs.Graph.{linked}, specs.Orders.{later_in, nobody}, specs.Tables.{Tables, marked, graph_in}}
use Rattle.mesh.{specs.Sound.{symmetric, irreflexive, within, few, rows_proper}, proofs.Cores.Later.{later_in_at}, proofs.Tables.ReadBack.{linked_graph_in}}
use Rattle.mesh.{proofs.Tables.Rows.{within_of}}
use Rattle.rows.{specs.Rows.{neighbours_of}, proofs.RowListLaws.{in_neighbours_of}}
use Rattle.conditions.specs.Conditions.{Placed, sooner_key, first_key, later_count}
use Rattle.conditions.proofs.RowByRow.{place_of, later_count_is}

-- ---- the first of some radios by its key

module _ (ps : List ℕ) (a : ℕ) where
  abbrev place : ℕ → ℕ
  place b = get_or ps b 0

  -- no later radio has a smaller key
  pub first_key_le : (xs : List ℕ) (b : ℕ) → In b xs → place a < place b → first_key ps a xs ≤ place b * 65536 + b
  unfolding first_key sooner_key
  first_key_le [] b x'' l = elim x'' [ ]
  first_key_le (x ∷ xs) b (inl e) l = rw e (rw (lt-ltb (place a) (place b) l) (omega arith))
  first_key_le (x ∷ xs) b (inr m) l = go (first_key_le xs b m l) (bool_cases (ltb (place a) (place x)))
    where
      go : first_key ps a xs ≤ place b * 65536 + b → (ltb (place a) (place x) ≡ true) ⊎ (ltb (place a) (place x) ≡ false)
          → cond (ltb (place a) (place x)) (min (place x * 65536 + x) (first_key ps a xs)) (first_key ps a xs) ≤ place b * 65536 + b
      go rec (inl t) = rw t (omega arith)
      go rec (inr t) = rw t rec

  -- it is the key of a later radio, or of none
  pub record KeyOf (xs : List ℕ) (key b : ℕ) : Type 0 where
    pub in_list : In b xs
    pub later : place a < place b
    pub is : key ≡ place b * 65536 + b

  pub first_key_some : (xs : List ℕ) → (first_key ps a xs ≡ 4294967295) ⊎ ((b : ℕ) × KeyOf xs (first_key ps a xs) b)
  unfolding first_key sooner_key
  first_key_some [] = inl refl
  first_key_some (x ∷ xs) = go (first_key_some xs) (bool_cases (ltb (place a) (place x)))
    where
      more : (key : ℕ) → (b : ℕ) × KeyOf xs key b → (b : ℕ) × KeyOf (x ∷ xs) key b
      more key r = (r.0, record { in_list = inr r.1.in_list; later = r.1.later; is = r.1.is })

      old : (first_key ps a xs ≡ 4294967295) ⊎ ((b : ℕ) × KeyOf xs (first_key ps a xs) b)
          → (first_key ps a xs ≡ 4294967295) ⊎ ((b : ℕ) × KeyOf (x ∷ xs) (first_key ps a xs) b)
      old (inl e) = inl e
      old (inr r) = inr (more (first_key ps a xs) r)

      pick : ltb (place a) (place x) ≡ true → (leb (place x * 65536 + x) (first_key ps a xs) ≡ true) ⊎ (leb (place x * 65536 + x) (first_key ps a xs) ≡ false)
          → (first_key ps a xs ≡ 4294967295) ⊎ ((b : ℕ) × KeyOf xs (first_key ps a xs) b)
          → (min (place x * 65536 + x) (first_key ps a xs) ≡ 4294967295) ⊎ ((b : ℕ) × KeyOf (x ∷ xs) (min (place x * 65536 + x) (first_key ps a xs)) b)
      pick t (inl q) rec =
          let le = leb-true (place x * 65536 + x) (first_key ps a xs) q in
          inr (x, record { in_list = inl refl; later = ltb-true (place a) (place x) t; is = omega arith })
      pick t (inr q) rec =
          let lt = leb-false (place x * 65536 + x) (first_key ps a xs) q in
          let same : min (place x * 65536 + x) (first_key ps a xs) ≡ first_key ps a xs = omega arith in rw same (old rec)

      go : (first_key ps a xs ≡ 4294967295) ⊎ ((b : ℕ) × KeyOf xs (first_key ps a xs) b) → (ltb (place a) (place x) ≡ true) ⊎ (ltb (place a) (place x) ≡ false)
          → (first_key ps a (x ∷ xs) ≡ 4294967295) ⊎ ((b : ℕ) × KeyOf (x ∷ xs) (first_key ps a (x ∷ xs)) b)
      go rec (inl t) = rw t (pick t (bool_cases (leb (place x * 65536 + x) (first_key ps a xs))) rec)
      go rec (inr t) = rw t (old rec)

-- ---- the entries after a radio's place

module _ (n v : ℕ) (t : Tables) (ps : List ℕ) (small : n ≤ max_radios) (proper : rows_proper max_neighbours n t.links ≡ true)
    (once : EachOnce n t.order) (placed : Placed n t.order ps) (radio : v < n) where
  abbrev at : ℕ → ℕ
  at b = get_or ps b 0

  abbrev rest : List ℕ
  rest = drop (suc (at v)) t.order

  abbrev near : ℕ → Bool
  near = marked t.links v

  abbrev mirrored : Bool
  mirrored = symmetric n t.links && irreflexive n t.links

  abbrev bounded : Bool
  bounded = within n t.links && few max_neighbours n t.links

  linked_marked : (b : ℕ) → b < n → linked (graph_in n t.links) v b ≡ near b
  unfolding rows_proper
  linked_marked b l =
      let m = and_left mirrored bounded proper in
      linked_graph_in n t.links (and_left (symmetric n t.links) (irreflexive n t.links) m)
      (and_right (symmetric n t.links) (irreflexive n t.links) m) v b radio l

  long : length t.order ≡ n
  long = once_length n t.order once

  at_below : (b : ℕ) → b < n → at b < n
  at_below b l =
      let r = get_d_of_in b t.order (once_in n t.order once b l) in
      let q : at b ≡ r.0 = ap at (sym r.2) ∙ placed.at r.0 (omega (arith, r.1, long)) in
      omega (arith, r.1, long)

  rest_at : (j : ℕ) → j < length rest → (get_or rest j 0 < n) × (at (get_or rest j 0) ≡ suc (at v) + j)
  rest_at j l =
      let k : suc (at v) + j < n = omega (arith, length-drop (suc (at v)) t.order, long) in
      let e = get_or-drop (suc (at v)) t.order j 0 in (
        rw e (once_below n t.order once (get_or t.order (suc (at v) + j) 0) (in_get_d t.order (suc (at v) + j) (omega (arith, long)))),
        ap at e ∙ placed.at (suc (at v) + j) k,
      )

  -- a later radio stands there, and what stands there is later
  in_rest : (b : ℕ) → b < n → at v < at b → In b rest
  in_rest b l h =
      let k : suc (at v) + (at b - suc (at v)) ≡ at b = omega arith in
      let e : get_or rest (at b - suc (at v)) 0 ≡ b =
      get_or-drop (suc (at v)) t.order (at b - suc (at v)) 0 ∙ ap (λ (i : ℕ). get_or t.order i 0) k ∙ place_of n t.order ps once placed b l in
      rw (← e) (in_get_d rest (at b - suc (at v)) (omega (arith, length-drop (suc (at v)) t.order, long, at_below b l)))

  rest_in : (b : ℕ) → In b rest → (b < n) × (at v < at b)
  rest_in b m =
      let r = get_d_of_in b rest m in
      let q = rest_at r.0 r.1 in
      (rw r.2 at q.0, omega (arith, sym (ap at r.2) ∙ q.1))

  pub later_in_rest : later_in (linked (graph_in n t.links)) v t.order ≡ filter near rest
  later_in_rest =
      later_in_at (linked (graph_in n t.links)) v t.order (at v) (omega (arith, long, at_below v radio)) (place_of n t.order ps once placed v radio)
      (λ j l e. omega (arith, ap at e, placed.at j (omega (arith, at_below v radio))))
      ∙ filter_ext (linked (graph_in n t.links) v) near rest (λ b m. linked_marked b (rest_in b m).0)

  below : (b : ℕ) → n ≤ b → b < max_radios → near b ≡ false
  unfolding rows_proper
  below b l h =
      within_of n t.links (and_left (within n t.links) (few max_neighbours n t.links) (and_right mirrored bounded proper)) v b radio l h

  pub later_count_rest : later_count ps v (neighbours_of t.links v) ≡ length (later_in (linked (graph_in n t.links)) v t.order)
  later_count_rest =
      later_count_is max_neighbours n t ps (small) once placed v radio below ∙ sym (ap length later_in_rest ∙ length_filter near rest)

  -- ---- the first of them

  row_below : (b : ℕ) → In b (neighbours_of t.links v) → (b < n) × (near b ≡ true)
  row_below b m = go (in_neighbours_of t.links v b m) (bool_cases (ltb b n))
    where
      go : (b < max_radios) × (near b ≡ true) → (ltb b n ≡ true) ⊎ (ltb b n ≡ false) → (b < n) × (near b ≡ true)
      go r (inl e) = (ltb-true b n e, r.1)
      go r (inr e) = absurd (never (near b) r.1 (below b (ltb-false b n e) r.0))

  in_row : (b : ℕ) → b < n → near b ≡ true → In b (neighbours_of t.links v)
  unfolding neighbours_of
  in_row b l h = filter_in near (range 0 max_radios) b (in_range 0 max_radios b (omega arith) (omega (arith, small))) h

  rising_rest : Rising at (filter near rest)
  rising_rest = rising_filter at near rest (rising_index at (suc (at v)) rest (λ j l. (rest_at j l).1))

  pub first_key_rest : first_key ps v (neighbours_of t.links v) % 65536 ≡ head_or nobody (later_in (linked (graph_in n t.links)) v t.order)
  unfolding head_or
  first_key_rest = go (filter near rest) refl rising_rest (first_key_some ps v (neighbours_of t.links v)) ∙ ap (head_or nobody) (sym later_in_rest)
    where
      key : ℕ
      key = first_key ps v (neighbours_of t.links v)

      first_of : (w : ℕ) (ws : List ℕ) → filter near rest ≡ w ∷ ws → ((u : ℕ) → In u ws → at w ≤ at u) → (b : ℕ) → In b (filter near rest) → at w ≤ at b
      first_of w ws e r b m = pick (rw e at m)
        where
          pick : (w ≡ b) ⊎ In b ws → at w ≤ at b
          pick (inl q) = rw q (omega arith)
          pick (inr k) = r b k

      some : (w : ℕ) (ws : List ℕ) → filter near rest ≡ w ∷ ws → ((u : ℕ) → In u ws → at w ≤ at u) → w < n → key ≤ at w * 65536 + w
          → (key ≡ 4294967295) ⊎ ((b : ℕ) × KeyOf ps v (neighbours_of t.links v) key b) → key % 65536 ≡ w
      some w ws e r l least (inl k) = absurd (omega (arith, at_below w l, small))
      some w ws e r l least (inr k) =
          let b = k.0 in
          let q = row_below b k.1.in_list in
          let least_place : at w ≤ at b = first_of w ws e r b (filter_in near rest b (in_rest b q.0 k.1.later) q.1) in
          let same_place : at b ≡ at w = omega (arith, k.1.is, q.0, small) in
          let same : b ≡ w =
          sym (place_of n t.order ps once placed b q.0) ∙ ap (λ (i : ℕ). get_or t.order i 0) same_place ∙ place_of n t.order ps once placed w l in
          omega (arith, k.1.is, same, small)

      go : (ys : List ℕ) → filter near rest ≡ ys → Rising at ys → (key ≡ 4294967295) ⊎ ((b : ℕ) × KeyOf ps v (neighbours_of t.links v) key b)
          → key % 65536 ≡ head_or nobody ys
      go [] e r (inl k) = ap (λ (x : ℕ). x % 65536) k
      go [] e r (inr k) =
          let q = row_below k.0 k.1.in_list in
          absurd (rw e at (filter_in near rest k.0 (in_rest k.0 q.0 k.1.later) q.1))
      go (w ∷ ws) e r k =
          let m : In w (filter near rest) = rw e (inl refl) in
          let q = in_filter near rest w m in
          let l = rest_in w q.0 in
          let least = first_key_le ps v (neighbours_of t.links v) w (in_row w l.0 q.1) l.1 in
          some w ws e r.0 l.0 least k
