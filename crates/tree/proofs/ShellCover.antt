-- Names and nodes of the shell tree, level by level and radio by radio.
-- In order: the lowest radio of a shell, whom a level has named so far, names from one radio and one level to the next.
use Rattle.std.specs.Prelude.{◌≡◌, ◌⊎◌, ◌&&◌, ◌||◌, ◌∷◌, ◌≤◌, ◌<◌}
use Rattle.lists.{specs.Kit.{refl, sym, ap, ◌∙◌, inl, inr, Bool, true, false, cond, List, [], ℕ, zero, suc, min, arith}}
use Rattle.lists.{specs.Kit.{ltb, leb, eqb, ltb-true, ltb-false, lt-ltb, le-ltb, leb-true, leb-false, le-leb, eqb-true, eq-eqb, ne_eqb}, specs.Lists.{member}}
use Rattle.lists.{specs.Lists.{head_or}, proofs.Tests.{bool_cases, never, and_left, and_right, and_both, or_cases, or_left, or_right, iff_eq}}
use Rattle.lists.{proofs.Member.{head_or_in, head_or_any}}
use Rattle.mesh.{specs.Graph.{Graph}, specs.Cores.{number}, specs.Connected.{InCore, core_of}, specs.Tree.{root_name, shell, node_name, parent_name}}
use Rattle.mesh.{proofs.Trees.Reach.{core_of_iff}, proofs.Trees.CoreLevels.{in_core_here, in_core_below, in_core_level, in_core_sym, core_of_same}}
use Rattle.mesh.{proofs.Trees.NodeSets.{core_has_self, shell_in, in_shell, core_set_of}, proofs.Trees.ShellNames.{shell_named}}
use Rattle.tree.specs.Trees.{own, covered, name_before, present}

module _ (g : Graph) (k : ℕ) where
  -- the lowest radio of the shell that w has at level k; n where it is empty
  abbrev lead : ℕ → ℕ
  lead w = head_or g.n (shell g w k)

  -- ---- the lowest radio of a shell

  lead_in : (w : ℕ) → w < g.n → lead w < g.n → InCore g w k (lead w) × (number g (lead w) ≡ k)
  unfolding head_or
  lead_in w l h = go (shell g w k) refl
    where
      go : (xs : List ℕ) → shell g w k ≡ xs → InCore g w k (lead w) × (number g (lead w) ≡ k)
      go [] e = absurd (omega (arith, ap (head_or g.n) e))
      go (x ∷ xs) e = shell_in g w k (lead w) l (head_or_in g.n x (shell g w k) (rw e (inl refl)))

  lead_same : (v w : ℕ) → v < g.n → k ≤ number g v → InCore g v k w → lead w ≡ lead v
  unfolding shell
  lead_same v w l h r = rw (core_of_same g v k w l h r)

  lead_lowest : (w x : ℕ) → w < g.n → k ≤ number g w → InCore g w k x → number g x ≡ k → lead w ≤ x
  lead_lowest w x l h r e =
      let lx = in_core_below g w k x l r in
      (shell_named g (core_set_of g w k l h) g.n w x l (core_has_self g w k l) (in_shell g w k x l r e)).lowest x ((core_of_iff g w k l x).1 r) e lx

  lead_any : (d w x : ℕ) → w < g.n → InCore g w k x → number g x ≡ k → head_or d (shell g w k) ≡ lead w
  lead_any d w x l r e = head_or_any d g.n x (shell g w k) (in_shell g w k x l r e)

  -- ---- which radios name their own node

  node_name_lead : (v : ℕ) → v < g.n → 1 ≤ k → number g v ≡ k → node_name g v ≡ lead v
  unfolding node_name
  node_name_lead v l h e = rw (e, ne_eqb k 0 (λ z. omega arith)) (lead_any root_name v v l (in_core_here g v k) e)

  pub own_lead : (v : ℕ) → v < g.n → 1 ≤ k → own g k v ≡ true → (number g v ≡ k) × (lead v ≡ v)
  unfolding own
  own_lead v l h o =
      let e = eqb-true (number g v) k (and_left (eqb (number g v) k) (eqb (node_name g v) v) o) in
      (e, sym (node_name_lead v l h e) ∙ eqb-true (node_name g v) v (and_right (eqb (number g v) k) (eqb (node_name g v) v) o))

  pub lead_own : (v : ℕ) → v < g.n → 1 ≤ k → number g v ≡ k → lead v ≡ v → own g k v ≡ true
  unfolding own
  lead_own v l h e q =
      and_both (eqb (number g v) k) (eqb (node_name g v) v) (eq-eqb (number g v) k e) (eq-eqb (node_name g v) v (node_name_lead v l h e ∙ q))

  -- ---- whom level k has named before v

  covered_true : (v w : ℕ) → covered g k v w ≡ true → (k ≤ number g w) × (lead w < v)
  unfolding covered
  covered_true v w h = (
    leb-true k (number g w) (and_left (leb k (number g w)) (ltb (lead w) v) h),
    ltb-true (lead w) v (and_right (leb k (number g w)) (ltb (lead w) v) h),
  )

  true_covered : (v w : ℕ) → k ≤ number g w → lead w < v → covered g k v w ≡ true
  unfolding covered
  true_covered v w h l = and_both (leb k (number g w)) (ltb (lead w) v) (le-leb k (number g w) h) (lt-ltb (lead w) v l)

  pub covered_none : (w : ℕ) → covered g k 0 w ≡ false
  covered_none w = go (bool_cases (covered g k 0 w))
    where
      go : (covered g k 0 w ≡ true) ⊎ (covered g k 0 w ≡ false) → covered g k 0 w ≡ false
      go (inl e) = absurd (omega (arith, covered_true 0 w e))
      go (inr e) = e

  module _ (v : ℕ) (radio : v < g.n) (positive : 1 ≤ k) where
    -- a radio of number k that is not named yet names its own node
    pub own_covered : number g v ≡ k → covered g k v v ≡ false → own g k v ≡ true
    own_covered e h =
        let low = lead_lowest v v radio (omega arith) (in_core_here g v k) e in
        lead_own v radio positive e (go (bool_cases (ltb (lead v) v)) low)
      where
        go : (ltb (lead v) v ≡ true) ⊎ (ltb (lead v) v ≡ false) → lead v ≤ v → lead v ≡ v
        go (inl q) low = never (covered g k v v) (true_covered v v (omega arith) (ltb-true (lead v) v q)) h
        go (inr q) low = omega (arith, ltb-false (lead v) v q)

    pub not_covered_own : own g k v ≡ true → covered g k v v ≡ false
    not_covered_own o = go (bool_cases (covered g k v v))
      where
        go : (covered g k v v ≡ true) ⊎ (covered g k v v ≡ false) → covered g k v v ≡ false
        go (inl q) = absurd (omega (arith, covered_true v v q, own_lead v radio positive o))
        go (inr q) = q

    -- the core of a radio that names its own node
    own_core : (w : ℕ) → own g k v ≡ true → InCore g v k w → (k ≤ number g w) × (lead w ≡ v)
    own_core w o r =
        let q = own_lead v radio positive o in
        let h : k ≤ number g v = omega (arith, q.0) in (in_core_level g v k w h r, lead_same v w radio h r ∙ q.1)

    -- nobody of it is named yet
    pub core_not_covered : own g k v ≡ true → (w : ℕ) → InCore g v k w → covered g k v w ≡ false
    core_not_covered o w r = go (bool_cases (covered g k v w))
      where
        go : (covered g k v w ≡ true) ⊎ (covered g k v w ≡ false) → covered g k v w ≡ false
        go (inl q) = absurd (omega (arith, covered_true v w q, own_core w o r))
        go (inr q) = q

    -- its core comes in, and nobody else
    pub covered_next : (w : ℕ) → w < g.n → covered g k (suc v) w ≡ (covered g k v w || (own g k v && member w (core_of g v k)))
    covered_next w l = iff_eq (covered g k (suc v) w) (covered g k v w || (own g k v && member w (core_of g v k))) into out
      where
        new : Bool
        new = own g k v && member w (core_of g v k)

        first : k ≤ number g w → lead w ≡ v → new ≡ true
        first h e =
            let p = lead_in w l (rw e radio) in
            let r : InCore g w k v = rw e at p.0 in
            let q : number g v ≡ k = rw e at p.1 in
            and_both (own g k v) (member w (core_of g v k)) (lead_own v radio positive q (lead_same w v l h r ∙ e))
            ((core_of_iff g v k radio w).1 (in_core_sym g w k v l h r))

        pick : (k ≤ number g w) × (lead w < suc v) → (ltb (lead w) v ≡ true) ⊎ (ltb (lead w) v ≡ false) → (covered g k v w || new) ≡ true
        pick p (inl q) = or_left (covered g k v w) new (true_covered v w p.0 (ltb-true (lead w) v q))
        pick p (inr q) = or_right (covered g k v w) new (first p.0 (omega (arith, p.1, ltb-false (lead w) v q)))

        into : covered g k (suc v) w ≡ true → (covered g k v w || new) ≡ true
        into h = pick (covered_true (suc v) w h) (bool_cases (ltb (lead w) v))

        back : (covered g k v w ≡ true) ⊎ (new ≡ true) → covered g k (suc v) w ≡ true
        back (inl q) = let p = covered_true v w q in true_covered (suc v) w p.0 (omega (arith, p.1))
        back (inr q) =
            let r = (core_of_iff g v k radio w).0 (and_right (own g k v) (member w (core_of g v k)) q) in
            let p = own_core w (and_left (own g k v) (member w (core_of g v k)) q) r in true_covered (suc v) w p.0 (omega (arith, p.1))

        out : (covered g k v w || new) ≡ true → covered g k (suc v) w ≡ true
        out h = back (or_cases (covered g k v w) new h)

    -- ---- names, from one radio to the next

    pub present_next : (w : ℕ) → w < g.n → present g k (suc v) w ≡ cond (own g k v && member w (core_of g v k)) v (present g k v w)
    unfolding present
    present_next w l = go (bool_cases (own g k v && member w (core_of g v k)))
      where
        new : Bool
        new = own g k v && member w (core_of g v k)

        or_no : (b : Bool) → (b || false) ≡ b
        or_no true = refl
        or_no false = refl

        named : new ≡ true → head_or root_name (shell g w k) ≡ v
        named q =
            let o = and_left (own g k v) (member w (core_of g v k)) q in
            let r = (core_of_iff g v k radio w).0 (and_right (own g k v) (member w (core_of g v k)) q) in
            let e = (own_lead v radio positive o).0 in
            lead_any root_name w v l (in_core_sym g v k w radio (omega arith) r) e ∙ (own_core w o r).1

        go : (new ≡ true) ⊎ (new ≡ false) → present g k (suc v) w ≡ cond new v (present g k v w)
        go (inl q) = rw (covered_next w l ∙ or_right (covered g k v w) new q, q) (named q)
        go (inr q) = rw (covered_next w l ∙ ap (λ (b : Bool). covered g k v w || b) q ∙ or_no (covered g k v w), q)

    -- the name that v has before its node comes
    pub present_own : own g k v ≡ true → present g k v v ≡ parent_name g v k
    unfolding present name_before
    present_own o =
        let e : min k (suc (number g v)) ≡ k = omega (arith, (own_lead v radio positive o).0) in rw (not_covered_own o, e)

-- ---- names, from one level to the next

pub present_start : (g : Graph) (k w : ℕ) → present g k 0 w ≡ name_before g k w
unfolding present
present_start g k w = rw (covered_none g k w)

pub present_end : (g : Graph) (k w : ℕ) → 1 ≤ k → w < g.n → present g k g.n w ≡ name_before g (suc k) w
unfolding present name_before parent_name head_or covered
present_end g (suc k) w h l = go (bool_cases (leb (suc k) (number g w)))
  where
    go : (leb (suc k) (number g w) ≡ true) ⊎ (leb (suc k) (number g w) ≡ false) → present g (suc k) g.n w ≡ name_before g (suc (suc k)) w
    go (inr q) =
        let a : min (suc k) (suc (number g w)) ≡ suc (number g w) = omega (arith, leb-false (suc k) (number g w) q) in
        let b : min (suc (suc k)) (suc (number g w)) ≡ suc (number g w) = omega (arith, leb-false (suc k) (number g w) q) in
        rw (q, a, b)
    go (inl q) =
        let a : min (suc k) (suc (number g w)) ≡ suc k = omega (arith, leb-true (suc k) (number g w) q) in
        let b : min (suc (suc k)) (suc (number g w)) ≡ suc (suc k) = omega (arith, leb-true (suc k) (number g w) q) in
        rw (q, a, b) (at (shell g w (suc k)) refl)
      where
        at : (xs : List ℕ) → shell g w (suc k) ≡ xs
            → cond (ltb (head_or g.n (shell g w (suc k))) g.n) (head_or root_name (shell g w (suc k))) (parent_name g w (suc k))
            ≡ head_or (parent_name g w (suc k)) (shell g w (suc k))
        at [] e = rw (e, le-ltb g.n g.n (omega arith))
        at (x ∷ xs) e =
            let r = shell_in g w (suc k) x l (rw e (inl refl)) in
            rw (e, lt-ltb x g.n (in_core_below g w (suc k) x l r.0))
present_end g zero w h l = absurd (omega arith)
