-- Pairs tried by lower radio and then higher: the first that lifts, or none.
--   untried_start, untried_next   of the pairs with the lower radio a, ones that can lift
--   none_start, none_next         lower radios that are done
--   first_found, none_found       what `lifting` then is
--   lifted_first, lifted_none, none_lifted   what a pair of the list, and an empty list, say
use Rattle.std.specs.Prelude.{◌≡◌, ◌⊎◌, ◌&&◌, ◌∷◌, ◌++◌, ◌+◌, ◌-◌, ◌≤◌, ◌<◌}
use Rattle.lists.{specs.Kit.{refl, ap, ◌∙◌, inl, inr, Bool, true, false, List, [], map, flat_map, ℕ, zero, suc}}
use Rattle.lists.{specs.Kit.{arith, ltb, eqb, ltb-true, ltb-false, eqb-true, eqb-false}, specs.Lists.{range, filter}, proofs.Tests.{bool_cases, never}}
use Rattle.lists.{proofs.Tests.{and_left, and_right, or_cases}, proofs.Range.{range_append, range_in}, proofs.Filter.{filter_none, filter_append}}
use Rattle.lists.{proofs.Map.{flat_map_none, flat_map_append}}
use Rattle.mesh.specs.{Limits.{max_neighbours}, Graph.{Link, link_of, Graph, radios, link_before}, Cores.{number}, Valid.{Valid}}
use Rattle.calls.specs.Lift.{lifts, lifting_from, lifting, first_pair, is_lifted}
use Rattle.lifting.specs.{Search.{candidate, NoneBelow, Untried}, Results.{IsPair, FirstLift, NoLift}}
use Rattle.lifting.proofs.Pairs.{candidate_refutes}

-- ---- pairs with one lower radio

-- at the beginning, the candidates
pub untried_start : (g : Graph) (xs : List ℕ) → Valid max_neighbours g xs → (k r a : ℕ) → r < g.n → number g r ≡ k → (rest : ℕ → Bool)
    → ((c : ℕ) → a < c → c < g.n → rest c ≡ false → candidate g k a c ≡ false) → Untried g r a rest
untried_start g xs valid k r a lr kr rest h c l m e = candidate_refutes g xs valid k r a c lr kr (h c l m e)

module _ (g : Graph) (r : ℕ) where
  pub untried_next : (a : ℕ) (rest next : ℕ → Bool) → Untried g r a rest
      → ((c : ℕ) → a < c → c < g.n → next c ≡ false → (rest c ≡ false) ⊎ (lifts g r (link_of a c) ≡ false)) → Untried g r a next
  untried_next a rest next u h c l m e = go (h c l m e)
    where
      go : (rest c ≡ false) ⊎ (lifts g r (link_of a c) ≡ false) → lifts g r (link_of a c) ≡ false
      go (inl q) = u c l m q
      go (inr q) = q

  -- ---- lower radios

  pub none_start : NoneBelow g r 0
  none_start x y l = absurd (omega arith)

  pub none_next : (a : ℕ) (rest : ℕ → Bool) → NoneBelow g r a → Untried g r a rest
      → ((c : ℕ) → a < c → c < g.n → rest c ≡ false) → NoneBelow g r (a + 1)
  none_next a rest none u h x y l m k = go (bool_cases (eqb x a))
    where
      go : (eqb x a ≡ true) ⊎ (eqb x a ≡ false) → lifts g r (link_of x y) ≡ false
      go (inl e) = let q = eqb-true x a e in rw q (u y (omega (arith, q)) k (h y (omega (arith, q)) k))
      go (inr e) = none x y (omega (arith, eqb-false x a e)) m k

  -- ---- the list

  from_none : (a : ℕ) → ((c : ℕ) → a < c → c < g.n → lifts g r (link_of a c) ≡ false) → lifting_from g r a ≡ []
  unfolding lifting_from
  from_none a h = ap (map (link_of a)) (filter_none (λ b. lifts g r (link_of a b)) (range (suc a) (g.n - suc a))
      (λ c i. let l = range_in (suc a) (g.n - suc a) c i in h c l.0 (omega (arith, l.1))))

  pub none_found : NoneBelow g r g.n → lifting g r ≡ []
  unfolding lifting radios
  none_found none =
      flat_map_none (lifting_from g r) (range 0 g.n) (λ a i. from_none a (λ c l m. none a c (omega (arith, (range_in 0 g.n a i).1)) l m))

  module _ (a b : ℕ) (l : a < b) (m : b < g.n) (between : (c : ℕ) → a < c → c < b → lifts g r (link_of a c) ≡ false)
      (does : lifts g r (link_of a b) ≡ true) where
    from_first : (rest : List Link) × (lifting_from g r a ≡ link_of a b ∷ rest)
    unfolding lifting_from range filter
    from_first = (map (link_of a) later, ap (map (link_of a)) cut)
      where
        t : ℕ → Bool
        t c = lifts g r (link_of a c)

        later : List ℕ
        later = filter t (range (suc b) (g.n - suc b))

        parts : range (suc a) (g.n - suc a) ≡ range (suc a) (b - suc a) ++ (b ∷ range (suc b) (g.n - suc b))
        parts =
            let e : g.n - suc a ≡ (b - suc a) + suc (g.n - suc b) = omega arith in
            let f : suc a + (b - suc a) ≡ b = omega arith in
            ap (range (suc a)) e ∙ (range_append (suc a) (b - suc a) (suc (g.n - suc b))
            ∙ ap (λ (x : ℕ). range (suc a) (b - suc a) ++ range x (suc (g.n - suc b))) f)

        front : filter t (range (suc a) (b - suc a)) ≡ []
        front = filter_none t (range (suc a) (b - suc a))
            (λ c i. let q = range_in (suc a) (b - suc a) c i in between c q.0 (omega (arith, q.1)))

        cut : filter t (range (suc a) (g.n - suc a)) ≡ b ∷ later
        cut = ap (filter t) parts ∙ (filter_append t (range (suc a) (b - suc a)) (b ∷ range (suc b) (g.n - suc b)) ∙ rw (front, does) refl)

    list_first : NoneBelow g r a → (rest : List Link) × (lifting g r ≡ link_of a b ∷ rest)
    unfolding lifting radios range flat_map
    list_first none = go from_first
      where
        parts : range 0 g.n ≡ range 0 a ++ (a ∷ range (suc a) (g.n - suc a))
        parts =
            let e : g.n ≡ a + suc (g.n - suc a) = omega arith in
            let f : 0 + a ≡ a = omega arith in
            ap (range 0) e ∙ (range_append 0 a (suc (g.n - suc a)) ∙ ap (λ (x : ℕ). range 0 a ++ range x (suc (g.n - suc a))) f)

        front : flat_map (lifting_from g r) (range 0 a) ≡ []
        front = flat_map_none (lifting_from g r) (range 0 a) (λ x i. from_none x (λ c p q. none x c (omega (arith, (range_in 0 a x i).1)) p q))

        go : (rest : List Link) × (lifting_from g r a ≡ link_of a b ∷ rest) → (rest : List Link) × (lifting g r ≡ link_of a b ∷ rest)
        go (rest, e) = (
          rest ++ flat_map (lifting_from g r) (range (suc a) (g.n - suc a)),
          ap (flat_map (lifting_from g r)) parts ∙ (flat_map_append (lifting_from g r) (range 0 a) (a ∷ range (suc a) (g.n - suc a)) ∙ rw (front, e) refl),
        )

    pub pair_first : NoneBelow g r a → (is_lifted (lifting g r) ≡ true) × (first_pair (lifting g r) ≡ link_of a b)
    unfolding is_lifted first_pair
    pair_first none = go (list_first none)
      where
        go : (rest : List Link) × (lifting g r ≡ link_of a b ∷ rest) → (is_lifted (lifting g r) ≡ true) × (first_pair (lifting g r) ≡ link_of a b)
        go (rest, e) = (rw e, rw e)

  pub first_found : (a b : ℕ) (rest : ℕ → Bool) → NoneBelow g r a → Untried g r a rest → ((c : ℕ) → a < c → c < b → rest c ≡ false)
      → a < b → b < g.n → lifts g r (link_of a b) ≡ true → (is_lifted (lifting g r) ≡ true) × (first_pair (lifting g r) ≡ link_of a b)
  first_found a b rest none u h l m e = pair_first a b l m (λ c p q. u c p (omega arith) (h c p q)) e none

  -- ---- the first that lifts, or none

  -- the pair a-b lifts, and no pair before it does
  record Found : Type 0 where
    a : ℕ
    b : ℕ
    low : a < b
    high : b < g.n
    none : NoneBelow g r a
    between : (c : ℕ) → a < c → c < b → lifts g r (link_of a c) ≡ false
    does : lifts g r (link_of a b) ≡ true

  -- no pair of a with a radio below c lifts
  abbrev RowNone : (a c : ℕ) → Type 0
  RowNone a c = (x : ℕ) → a < x → x < c → lifts g r (link_of a x) ≡ false

  search_row : (a c : ℕ) → NoneBelow g r a → c ≤ g.n → RowNone a c ⊎ Found
  search_row a zero none l = inl (λ x p q. absurd (omega arith))
  search_row a (suc c) none l = go (search_row a c none (omega arith)) (bool_cases (ltb a c)) (bool_cases (lifts g r (link_of a c)))
    where
      more : RowNone a c → (a < c → lifts g r (link_of a c) ≡ false) → RowNone a (suc c)
      more h e x p q = at (bool_cases (eqb x c))
        where
          at : (eqb x c ≡ true) ⊎ (eqb x c ≡ false) → lifts g r (link_of a x) ≡ false
          at (inl z) = let y = eqb-true x c z in rw y (e (omega (arith, y)))
          at (inr z) = h x p (omega (arith, eqb-false x c z))

      go : RowNone a c ⊎ Found → (ltb a c ≡ true) ⊎ (ltb a c ≡ false) → (lifts g r (link_of a c) ≡ true) ⊎ (lifts g r (link_of a c) ≡ false)
          → RowNone a (suc c) ⊎ Found
      go (inr f) p q = inr f
      go (inl h) (inr p) q = inl (more h (λ m. absurd (omega (arith, ltb-false a c p))))
      go (inl h) (inl p) (inr q) = inl (more h (λ m. q))
      go (inl h) (inl p) (inl q) =
          inr (record { a = a; b = c; low = ltb-true a c p; high = omega arith; none = none; between = h; does = q })

  search_below : (a : ℕ) → a ≤ g.n → NoneBelow g r a ⊎ Found
  search_below zero l = inl (λ x y p. absurd (omega arith))
  search_below (suc a) l = go (search_below a (omega arith))
    where
      next : NoneBelow g r a → RowNone a g.n ⊎ Found → NoneBelow g r (suc a) ⊎ Found
      next none (inr f) = inr f
      next none (inl h) = inl (λ x y p q m. at x y p q m (bool_cases (eqb x a)))
        where
          at : (x y : ℕ) → x < suc a → x < y → y < g.n → (eqb x a ≡ true) ⊎ (eqb x a ≡ false) → lifts g r (link_of x y) ≡ false
          at x y p q m (inl z) = let e = eqb-true x a z in rw e (h y (omega (arith, e)) m)
          at x y p q m (inr z) = none x y (omega (arith, eqb-false x a z)) q m

      go : NoneBelow g r a ⊎ Found → NoneBelow g r (suc a) ⊎ Found
      go (inr f) = inr f
      go (inl none) = next none (search_row a g.n none (omega arith))

  found_first : (f : Found) → FirstLift g r (link_of f.a f.b)
  unfolding link_before
  found_first f = record {
    is_pair = (f.low, f.high);
    does = f.does;
    none_before = λ m p e. at m p (or_cases (ltb m.low f.a) (eqb m.low f.a && ltb m.high f.b) e);
  }
    where
      at : (m : Link) → IsPair g m → (ltb m.low f.a ≡ true) ⊎ ((eqb m.low f.a && ltb m.high f.b) ≡ true) → lifts g r m ≡ false
      at m p (inl e) = f.none m.low m.high (ltb-true m.low f.a e) p.0 p.1
      at m p (inr e) =
          let q = eqb-true m.low f.a (and_left (eqb m.low f.a) (ltb m.high f.b) e) in
          let h = ltb-true m.high f.b (and_right (eqb m.low f.a) (ltb m.high f.b) e) in
          ap (λ (x : ℕ). lifts g r (link_of x m.high)) q ∙ f.between m.high (omega (arith, p.0, q)) h

  -- where there is one, the first of the list
  pub lifted_first : is_lifted (lifting g r) ≡ true → FirstLift g r (first_pair (lifting g r))
  unfolding is_lifted
  lifted_first e = go (search_below g.n (omega arith))
    where
      go : NoneBelow g r g.n ⊎ Found → FirstLift g r (first_pair (lifting g r))
      go (inl none) = never (is_lifted (lifting g r)) e (ap is_lifted (none_found none))
      go (inr f) = rw (pair_first f.a f.b f.low f.high f.between f.does f.none).1 (found_first f)

  -- and else none
  pub lifted_none : is_lifted (lifting g r) ≡ false → NoLift g r
  lifted_none e = go (search_below g.n (omega arith))
    where
      go : NoneBelow g r g.n ⊎ Found → NoLift g r
      go (inl none) m p = none m.low m.high (omega (arith, p.0, p.1)) p.0 p.1
      go (inr f) m p = never (is_lifted (lifting g r)) (pair_first f.a f.b f.low f.high f.between f.does f.none).0 e

  pub none_lifted : NoLift g r → is_lifted (lifting g r) ≡ false
  unfolding is_lifted
  none_lifted h = ap is_lifted (none_found (λ x y l m k. h (link_of x y) (m, k)))
