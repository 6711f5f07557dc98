-- The nodes that come before a radio at a level, and the lists with nodes and names in front.
-- In order: laws of lists; nodes from one radio and one level to the next; how many they are; one node more in front.
use Rattle.std.specs.Prelude.{◌≡◌, ◌⊎◌, ◌&&◌, ◌||◌, ◌∷◌, ◌++◌, ◌+◌, ◌-◌, ◌≤◌, ◌<◌}
use Rattle.lists.{specs.Kit.{refl, sym, ap, ◌∙◌, inl, inr, Bool, true, false, cond, List, [], map, flat_map, append-nil}}
use Rattle.lists.{specs.Kit.{append_assoc, ℕ, zero, suc, arith, zero-add, leb, eqb, length, length-append, leb-true, le-leb, lt-leb}}
use Rattle.lists.{specs.Kit.{eqb-true, ne_eqb}, specs.Facts.{folded}, specs.Lists.{range, count, filter, member, overwrite, In}, proofs.Tests.{bool_cases}}
use Rattle.lists.{proofs.Tests.{bit_one, bit_le}, proofs.Range.{range_in, length_range, range_append, range_suc, count_front}, proofs.Filter.{filter_append}}
use Rattle.lists.{proofs.Filter.{filter_none, length_filter}, proofs.Count.{count_le_length, count_add}, proofs.Map.{length-map, map_append, flat_map_append}}
use Rattle.lists.{proofs.Map.{flat_map_none, map_range_ext}, proofs.Overwrite.{set_front}}
use Rattle.mesh.specs.{Graph.{Graph, radios}, Cores.{number}, Tree.{root, node, node_name, parent_name, nodes_at, tree}, declared.Node.{Node}}
use Rattle.tree.specs.Trees.{entries_set, own, nodes_within, nodes_before}

-- ---- laws of lists

-- x at each listed place
pub entries_set_map : (f : ℕ → ℕ) (k x : ℕ) (ws : List ℕ) (d : List ℕ) → ((w : ℕ) → In w ws → w < k)
    → entries_set x ws (overwrite (map f (range 0 k)) d) ≡ overwrite (map (λ u. cond (member u ws) x (f u)) (range 0 k)) d
unfolding entries_set folded member
entries_set_map f k x [] d h = refl
entries_set_map f k x (w ∷ ws) d h =
    ap (entries_set x ws) (set_front f k w x d (h w (inl refl)))
    ∙ entries_set_map (λ u. cond (eqb w u) x (f u)) k x ws d (λ u m. h u (inr m))
    ∙ ap (λ (ys : List ℕ). overwrite ys d) (map_range_ext (λ u. cond (member u ws) x (cond (eqb w u) x (f u))) (λ u. cond (eqb w u || member u ws) x (f u)) 0 k
    (λ u a b. either (eqb w u) (member u ws) (f u)))
  where
    either : (a b : Bool) (y : ℕ) → cond b x (cond a x y) ≡ cond (a || b) x y
    either true true y = refl
    either true false y = refl
    either false b y = refl

-- ---- nodes from one radio, and one level, to the next

module _ (g : Graph) where
  -- v brings a node where it names its own
  abbrev pub node_of : (k v : ℕ) → List Node
  node_of k v = cond (own g k v) (node v k (parent_name g v k) ∷ []) []

  nodes_within_next : (k v : ℕ) → nodes_within g (suc k) (suc v) ≡ nodes_within g (suc k) v ++ node_of (suc k) v
  unfolding nodes_within filter
  nodes_within_next k v =
      let at : ℕ → Node = λ w. node w (suc k) (parent_name g w (suc k)) in
      let named = own g (suc k) in
      ap (λ (xs : List ℕ). map at (filter named xs)) (range_suc 0 v ∙ ap (λ (j : ℕ). range 0 v ++ j ∷ []) (zero-add v))
      ∙ ap (map at) (filter_append named (range 0 v) (v ∷ [])) ∙ map_append at (filter named (range 0 v)) (filter named (v ∷ []))
      ∙ ap (λ (xs : List Node). map at (filter named (range 0 v)) ++ xs) (one (own g (suc k) v))
    where
      one : (b : Bool) → map {A = ℕ} {B = Node} (λ w. node w (suc k) (parent_name g w (suc k))) (cond b (v ∷ []) [])
          ≡ cond b (node v (suc k) (parent_name g v (suc k)) ∷ []) []
      one true = refl
      one false = refl

  pub nodes_before_next : (k v : ℕ) → 1 ≤ k → nodes_before g k (suc v) ≡ nodes_before g k v ++ node_of k v
  unfolding nodes_before
  nodes_before_next zero v h = absurd (omega arith)
  nodes_before_next (suc k) v h =
      let front = root ∷ flat_map (nodes_at g) (range 1 k) in
      ap (λ (xs : List Node). front ++ xs) (nodes_within_next k v)
      ∙ sym (append_assoc front (nodes_within g (suc k) v) (node_of (suc k) v))

  -- a level at its end
  nodes_within_all : (k : ℕ) → nodes_within g (suc k) g.n ≡ nodes_at g (suc k)
  unfolding nodes_within nodes_at radios own
  nodes_within_all k = refl

  levels_next : (k : ℕ) → flat_map (nodes_at g) (range 1 (suc k)) ≡ flat_map (nodes_at g) (range 1 k) ++ nodes_at g (suc k)
  unfolding flat_map
  levels_next k =
      let e : 1 + k ≡ suc k = omega arith in
      ap (flat_map (nodes_at g)) (range_suc 1 k ∙ ap (λ (j : ℕ). range 1 k ++ j ∷ []) e) ∙ flat_map_append (nodes_at g) (range 1 k) (suc k ∷ [])
      ∙ ap (λ (xs : List Node). flat_map (nodes_at g) (range 1 k) ++ xs) (append-nil (nodes_at g (suc k)))

  nodes_before_zero : (k : ℕ) → nodes_before g (suc k) 0 ≡ root ∷ flat_map (nodes_at g) (range 1 k)
  unfolding nodes_before nodes_within filter range
  nodes_before_zero k = append-nil (root ∷ flat_map (nodes_at g) (range 1 k))

  nodes_before_all : (k : ℕ) → nodes_before g (suc k) g.n ≡ root ∷ flat_map (nodes_at g) (range 1 (suc k))
  unfolding nodes_before
  nodes_before_all k =
      ap (λ (xs : List Node). (root ∷ flat_map (nodes_at g) (range 1 k)) ++ xs) (nodes_within_all k)
      ∙ ap {B = List Node} (λ xs. root ∷ xs) (sym (levels_next k))

  pub nodes_before_end : (k : ℕ) → 1 ≤ k → nodes_before g k g.n ≡ nodes_before g (suc k) 0
  nodes_before_end zero h = absurd (omega arith)
  nodes_before_end (suc k) h = nodes_before_all k ∙ sym (nodes_before_zero (suc k))

  pub nodes_before_start : nodes_before g 1 0 ≡ root ∷ []
  unfolding range flat_map
  nodes_before_start = nodes_before_zero 0

  -- above the greatest number there is no node
  nodes_at_above : (k : ℕ) → ((v : ℕ) → v < g.n → number g v < k) → nodes_at g k ≡ []
  unfolding nodes_at radios
  nodes_at_above k h =
      ap (map (λ v. node v k (parent_name g v k))) (filter_none (λ v. eqb (number g v) k && eqb (node_name g v) v) (range 0 g.n)
      (λ v m. rw (ne_eqb (number g v) k (λ e. omega (arith, h v (omega (arith, range_in 0 g.n v m)))))))

  pub nodes_before_tree : (k : ℕ) → k ≤ g.n → ((v : ℕ) → v < g.n → number g v ≤ k) → nodes_before g (suc k) 0 ≡ tree g
  unfolding tree
  nodes_before_tree k l h =
      let rest : flat_map (nodes_at g) (range (1 + k) (g.n - k)) ≡ [] =
      flat_map_none (nodes_at g) (range (1 + k) (g.n - k)) (λ j m. nodes_at_above j (λ v lv. omega (arith, h v lv, range_in (1 + k) (g.n - k) j m))) in
      let parts : range 1 g.n ≡ range 1 k ++ range (1 + k) (g.n - k) =
      ap (range 1) (omega arith) ∙ range_append 1 k (g.n - k) in
      let all : flat_map (nodes_at g) (range 1 g.n) ≡ flat_map (nodes_at g) (range 1 k) =
      ap (flat_map (nodes_at g)) parts ∙ flat_map_append (nodes_at g) (range 1 k) (range (1 + k) (g.n - k))
      ∙ ap (λ (xs : List Node). flat_map (nodes_at g) (range 1 k) ++ xs) rest ∙ append-nil (flat_map (nodes_at g) (range 1 k)) in
      nodes_before_zero k ∙ ap {B = List Node} (λ xs. root ∷ xs) (sym all)

  -- ---- how many they are

  -- the radios of number k at most
  abbrev low : (k v : ℕ) → Bool
  low k v = leb (number g v) k

  low_own : (k v : ℕ) → cond {A = ℕ} (low k v) 1 0 + cond (own g (suc k) v) 1 0 ≤ cond (low (suc k) v) 1 0
  unfolding own
  low_own k v = go (bool_cases (eqb (number g v) (suc k)))
    where
      go : (eqb (number g v) (suc k) ≡ true) ⊎ (eqb (number g v) (suc k) ≡ false)
          → cond {A = ℕ} (low k v) 1 0 + cond (own g (suc k) v) 1 0 ≤ cond (low (suc k) v) 1 0
      go (inl e) =
          let q = eqb-true (number g v) (suc k) e in
          rw (lt-leb (number g v) k (omega arith), le-leb (number g v) (suc k) (omega arith), e) (omega (arith, bit_one (eqb (node_name g v) v)))
      go (inr e) = rw e (omega (arith, bit_le (low k v) (low (suc k) v) (λ h. le-leb (number g v) (suc k) (omega (arith, leb-true (number g v) k h)))))

  length_nodes_within : (k v : ℕ) → length (nodes_within g (suc k) v) ≡ count (own g (suc k)) (range 0 v)
  unfolding nodes_within
  length_nodes_within k v =
      length-map (λ w. node w (suc k) (parent_name g w (suc k))) (filter (own g (suc k)) (range 0 v)) ∙ length_filter (own g (suc k)) (range 0 v)

  length_levels : (k : ℕ) → length (flat_map (nodes_at g) (range 1 k)) ≤ count (low k) (range 0 g.n)
  unfolding range flat_map
  length_levels zero = omega arith
  length_levels (suc k) =
      omega (
        arith,
        ap length (levels_next k),
        length-append (flat_map (nodes_at g) (range 1 k)) (nodes_at g (suc k)),
        ap length (nodes_within_all k),
        length_nodes_within k g.n,
        length_levels k,
        count_add (low k) (own g (suc k)) (low (suc k)) (range 0 g.n) (low_own k),
      )

  pub length_nodes_before : (k v : ℕ) → v ≤ g.n → length (nodes_before g k v) ≤ g.n + 1
  unfolding nodes_before
  length_nodes_before zero v l = omega arith
  length_nodes_before (suc k) v l =
      omega (
        arith,
        length-append (root ∷ flat_map (nodes_at g) (range 1 k)) (nodes_within g (suc k) v),
        length_nodes_within k v,
        length_levels k,
        count_front (own g (suc k)) v g.n l,
        count_add (low k) (own g (suc k)) (low (suc k)) (range 0 g.n) (low_own k),
        count_le_length (low (suc k)) (range 0 g.n),
        length_range 0 g.n,
      )
