-- A pair that lifts a radio, and pairs that a peel shows not to. Its graph with the link has a group of the radio's number and one more:
-- the radios whose number is then greater than k. Both ends are in it, since without the link it is none.
--   candidate_refutes   only a pair with lower number k, link down and room at both ends lifts a radio of number k
--   lift_group          a pair that lifts a radio has a group with it
--   radio_refutes .. high_refutes   pairs without such a group
--   peeling_lifts       what stays is such a group
use Rattle.std.specs.Prelude.{◌≡◌, ◌⊎◌, ◌&&◌, ◌+◌, ◌≤◌, ◌<◌}
use Rattle.lists.{specs.Kit.{sym, ap, ◌∙◌, inl, inr, Bool, true, false, List, ℕ, suc, arith, le_trans, le_of_eq, ltb, leb, eqb}}
use Rattle.lists.{specs.Kit.{get_or, ltb-true, lt-ltb, leb-true, le-leb, eqb-true, eqb-false, eq-eqb}, specs.Lists.{range, filter, member}}
use Rattle.lists.{proofs.Tests.{bool_cases, never, and_left, and_right, and_both}, proofs.Range.{in_range, distinct_range}, proofs.Count.{count_less}}
use Rattle.lists.{proofs.Filter.{distinct_filter}}
use Rattle.mesh.{specs.Limits.{max_neighbours}, specs.Graph.{Graph, link_of, radios, linked, neighbours_in, relinked, Allowed}, specs.Cores.{Group, number}}
use Rattle.mesh.{specs.Levels.{changed, lower_level}, specs.Valid.{Valid, smaller, larger}, proofs.GraphLaws.{Ends, Adds, linked_sym, relinked_adds}}
use Rattle.mesh.{proofs.GraphLaws.{adds_cases, adds_has, adds_keeps, neighbours_in_mono, neighbours_in_subset, neighbours_in_filter}}
use Rattle.mesh.{proofs.Links.Moves.{adds_most}, proofs.Cores.Certificate.{core_enough}, proofs.Cores.Peeling.{number_core}}
use Rattle.mesh.{proofs.Links.Call.{unchanged_number}, proofs.Links.Laws.{link_level, link_by_one}}
use Rattle.calls.{specs.Questions.{ends_refusal, can_switch, has_room}, specs.Lift.{lifts}, proofs.QuestionLaws.{true_can_switch, true_has_room}}
use Rattle.calls.{proofs.QuestionLaws.{can_switch_true, has_room_true}, proofs.ChainLaws.{ends_zero, ends_yes}}
use Rattle.lifting.specs.{Peeling.{left, stays, PairGroup, Peeling}, Search.{candidate}}
use Rattle.lifting.proofs.Peeling.{stays_above, stays_left, stays_cases, stays_not}

-- ---- what lifts a radio

-- what a link call would be asked, and a greater number
pub record Lifted (g : Graph) (r a c : ℕ) : Type 0 where
  pub allowed : Allowed max_neighbours true a c g
  pub greater : number g r < number (relinked true a c g) r

pub lifts_lifted : (g : Graph) (r a c : ℕ) → lifts g r (link_of a c) ≡ true → Lifted g r a c
unfolding lifts
lifts_lifted g r a c h =
    let asked = eqb (ends_refusal max_neighbours true g.n a c g) 0 in
    let more = ltb (number g r) (number (relinked true a c g) r) in
    record {
      allowed = ends_zero max_neighbours true a c g (eqb-true (ends_refusal max_neighbours true g.n a c g) 0 (and_left asked more h));
      greater = ltb-true (number g r) (number (relinked true a c g) r) (and_right asked more h);
    }

pub lifted_lifts : (g : Graph) (r a c : ℕ) → Lifted g r a c → lifts g r (link_of a c) ≡ true
unfolding lifts
lifted_lifts g r a c h =
    and_both (eqb (ends_refusal max_neighbours true g.n a c g) 0) (ltb (number g r) (number (relinked true a c g) r))
    (eq-eqb (ends_refusal max_neighbours true g.n a c g) 0 (ends_yes max_neighbours true a c g h.allowed))
    (lt-ltb (number g r) (number (relinked true a c g) r) h.greater)

-- a pair does not lift where that is absurd
pub refuted : (g : Graph) (r a c : ℕ) → (Lifted g r a c → ⊥) → lifts g r (link_of a c) ≡ false
refuted g r a c out = go (bool_cases (lifts g r (link_of a c)))
  where
    go : (lifts g r (link_of a c) ≡ true) ⊎ (lifts g r (link_of a c) ≡ false) → lifts g r (link_of a c) ≡ false
    go (inl e) = absurd (out (lifts_lifted g r a c e))
    go (inr e) = e

-- a candidate would be taken up
pub candidate_allowed : (g : Graph) (k a c : ℕ) → a < c → c < g.n → candidate g k a c ≡ true → Allowed max_neighbours true a c g
unfolding candidate
candidate_allowed g k a c l m e =
    let up = and_right (eqb (lower_level g a c) k) (can_switch true g a c && has_room max_neighbours true g a c) e in
    record {
      a_radio = omega arith;
      b_radio = m;
      differ = λ q. omega (arith, q);
      state = can_switch_true true g a c (and_left (can_switch true g a c) (has_room max_neighbours true g a c) up);
      room = has_room_true max_neighbours true g a c (and_right (can_switch true g a c) (has_room max_neighbours true g a c) up);
    }

-- ---- one pair

module _ (g : Graph) (xs : List ℕ) (valid : Valid max_neighbours g xs) (k r a c : ℕ) (lr : r < g.n) (kr : number g r ≡ k) where
  abbrev t : Graph
  t = relinked true a c g

  module _ (h : Lifted g r a c) where
    apart : Adds g t a c
    unfolding smaller larger
    apart = relinked_adds true a c g h.allowed.differ h.allowed.state

    r_changed : member r (changed true a c g) ≡ true
    r_changed = go (bool_cases (member r (changed true a c g)))
      where
        go : (member r (changed true a c g) ≡ true) ⊎ (member r (changed true a c g) ≡ false) → member r (changed true a c g) ≡ true
        go (inl e) = e
        go (inr e) = absurd (omega (arith, unchanged_number true a c g r lr e, h.greater))

    lift_level : lower_level g a c ≡ k
    lift_level = sym (link_level max_neighbours true a c g xs valid h.allowed r r_changed) ∙ kr

    -- with the link a number grows by one at most
    by_one : (x : ℕ) → x < g.n → number t x ≤ suc (number g x)
    unfolding smaller larger
    by_one x l = go (bool_cases (member x (changed true a c g)))
      where
        go : (member x (changed true a c g) ≡ true) ⊎ (member x (changed true a c g) ≡ false) → number t x ≤ suc (number g x)
        go (inl e) = le_of_eq (link_by_one max_neighbours true a c g xs valid h.allowed x e)
        go (inr e) = omega (arith, unchanged_number true a c g x l e)

    -- the radios whose number is then greater than k
    pub risen : ℕ → Bool
    risen x = ltb x g.n && leb (suc k) (number t x)

    risen_radio : (x : ℕ) → risen x ≡ true → x < g.n
    unfolding risen
    risen_radio x e = ltb-true x g.n (and_left (ltb x g.n) (leb (suc k) (number t x)) e)

    risen_number : (x : ℕ) → risen x ≡ true → suc k ≤ number t x
    unfolding risen
    risen_number x e = leb-true (suc k) (number t x) (and_right (ltb x g.n) (leb (suc k) (number t x)) e)

    in_risen : (x : ℕ) → x < g.n → suc k ≤ number t x → risen x ≡ true
    unfolding risen
    in_risen x l m = and_both (ltb x g.n) (leb (suc k) (number t x)) (lt-ltb x g.n l) (le-leb (suc k) (number t x) m)

    pub r_risen : risen r ≡ true
    r_risen = in_risen r lr (omega (arith, h.greater))

    -- with the link each has k + 1 among them
    group : (x : ℕ) → risen x ≡ true → suc k ≤ neighbours_in t x risen
    unfolding relinked
    group x e =
        le_trans (risen_number x e) (le_trans (core_enough t (number t) (number_core t) x (risen_radio x e))
        (neighbours_in_subset t x (λ w. leb (number t x) (number t w)) risen
        (λ w l m. in_risen w l (le_trans (risen_number x e) (leb-true (number t x) (number t w) m)))))

    -- where no link of theirs is the new one, they have as many without it
    without : (x : ℕ) → ((w : ℕ) → risen w ≡ true → Ends a c x w → ⊥) → neighbours_in t x risen ≤ neighbours_in g x risen
    without x out = neighbours_in_mono t g x risen risen (sym apart.same_n) (λ w l e m. (old w m (adds_cases apart x w e), m))
      where
        old : (w : ℕ) → risen w ≡ true → (linked g x w ≡ true) ⊎ Ends a c x w → linked g x w ≡ true
        old w m (inl e) = e
        old w m (inr e) = absurd (out w m e)

    -- so both ends are among them
    both : ((x w : ℕ) → risen x ≡ true → risen w ≡ true → Ends a c x w → ⊥) → ⊥
    unfolding Group
    both out =
        omega (arith, kr, (number_core g r lr).largest (suc k) risen (λ x l e. le_trans (group x e) (without x (λ w m. out x w e m))) r_risen)

    a_risen : risen a ≡ true
    a_risen = go (bool_cases (risen a))
      where
        go : (risen a ≡ true) ⊎ (risen a ≡ false) → risen a ≡ true
        go (inl e) = e
        go (inr e) = absurd (both (λ x w m n q. out x w m n q))
          where
            out : (x w : ℕ) → risen x ≡ true → risen w ≡ true → Ends a c x w → ⊥
            out x w m n (inl q) = never (risen a) (ap risen (sym q.0) ∙ m) e
            out x w m n (inr q) = never (risen a) (ap risen (sym q.1) ∙ n) e

    c_risen : risen c ≡ true
    c_risen = go (bool_cases (risen c))
      where
        go : (risen c ≡ true) ⊎ (risen c ≡ false) → risen c ≡ true
        go (inl e) = e
        go (inr e) = absurd (both (λ x w m n q. out x w m n q))
          where
            out : (x w : ℕ) → risen x ≡ true → risen w ≡ true → Ends a c x w → ⊥
            out x w m n (inl q) = never (risen c) (ap risen (sym q.1) ∙ n) e
            out x w m n (inr q) = never (risen c) (ap risen (sym q.0) ∙ m) e

    -- one neighbour less without the link
    one_less : (x : ℕ) → neighbours_in t x risen ≤ suc (neighbours_in g x risen)
    unfolding radios relinked
    one_less x =
        omega (
          arith,
          neighbours_in_filter t x risen,
          neighbours_in_filter g x risen,
          adds_most apart x (filter risen (range 0 g.n)) (distinct_filter risen (range 0 g.n) (distinct_range 0 g.n)),
        )

    pub lift_group : PairGroup g k a c risen
    lift_group = record {
      radio = risen_radio;
      high = λ x e. omega (arith, by_one x (risen_radio x e), risen_number x e);
      low_end = a_risen;
      high_end = c_risen;
      ends = λ x e. omega (arith, group x e, one_less x);
      others = λ x e na nc. le_trans (group x e) (without x (λ w m q. elsewhere x w na nc q));
    }
      where
        elsewhere : (x w : ℕ) → (x ≡ a → ⊥) → (x ≡ c → ⊥) → Ends a c x w → ⊥
        elsewhere x w na nc (inl q) = na q.0
        elsewhere x w na nc (inr q) = nc q.0

  -- a pair that lifts r is a candidate
  pub candidate_refutes : candidate g k a c ≡ false → lifts g r (link_of a c) ≡ false
  unfolding candidate
  candidate_refutes e = refuted g r a c (λ h. never (candidate g k a c) (is h) e)
    where
      is : Lifted g r a c → candidate g k a c ≡ true
      is h =
          and_both (eqb (lower_level g a c) k) (can_switch true g a c && has_room max_neighbours true g a c) (eq-eqb (lower_level g a c) k (lift_level h))
          (and_both (can_switch true g a c) (has_room max_neighbours true g a c) (true_can_switch true g a c h.allowed.state)
          (true_has_room max_neighbours true g a c h.allowed.room))

  -- ---- what a peel shows

  module _ (cs : List ℕ) (p : Peeling g k a cs) where
    -- r was taken, and c was not
    pub radio_refutes : left cs r ≡ false → stays g k cs c ≡ true → lifts g r (link_of a c) ≡ false
    radio_refutes e m = refuted g r a c (λ h.
        never (stays g k cs r) (p.avoided c (risen h) (lift_group h) m r (r_risen h)) (stays_not g k cs r (le_of_eq kr) e))

    -- c was taken with fewer than k neighbours
    pub few_refutes : 128 ≤ get_or cs c 255 → get_or cs c 255 < 128 + k → lifts g r (link_of a c) ≡ false
    few_refutes l m = refuted g r a c (λ h. p.few c (risen h) (lift_group h) l (omega (arith, m)))

    -- an end has fewer than k neighbours that stay
    short : (h : Lifted g r a c) → stays g k cs c ≡ true → (x : ℕ) → risen h x ≡ true → left cs x ≡ true → k ≤ get_or cs x 255
    short h m x i e =
        le_trans ((lift_group h).ends x i) (le_trans (neighbours_in_subset g x (risen h) (stays g k cs)
        (λ w l q. p.avoided c (risen h) (lift_group h) m w q)) (le_of_eq (sym (p.counted x e))))

    pub low_refutes : left cs a ≡ true → get_or cs a 255 < k → stays g k cs c ≡ true → lifts g r (link_of a c) ≡ false
    low_refutes e l m = refuted g r a c (λ h. omega (arith, short h m a (a_risen h) e))

    pub high_refutes : left cs c ≡ true → get_or cs c 255 < k → lifts g r (link_of a c) ≡ false
    high_refutes e l = refuted g r a c (λ h. omega (arith, short h (stays_left g k cs c e) c (c_risen h) e))

  -- ---- what stays is a group

  module _ (cs : List ℕ) (p : Peeling g k a cs) (ok : Allowed max_neighbours true a c g) (c_stays : stays g k cs c ≡ true)
      (a_fits : left cs a ≡ true → k ≤ get_or cs a 255) (c_fits : left cs c ≡ true → k ≤ get_or cs c 255)
      (full : (v : ℕ) → left cs v ≡ true → (v ≡ a → ⊥) → (v ≡ c → ⊥) → k < get_or cs v 255) where
    more : Adds g t a c
    unfolding smaller larger
    more = relinked_adds true a c g ok.differ ok.state

    as_many : (x : ℕ) → neighbours_in g x (stays g k cs) ≤ neighbours_in t x (stays g k cs)
    as_many x = neighbours_in_mono g t x (stays g k cs) (stays g k cs) more.same_n (λ w l e m. (adds_keeps more x w e, m))

    -- an end has the other end besides
    one_more : (x y : ℕ) → y < g.n → linked g x y ≡ false → linked t x y ≡ true → stays g k cs y ≡ true
        → neighbours_in g x (stays g k cs) < neighbours_in t x (stays g k cs)
    unfolding neighbours_in radios relinked
    one_more x y l out new m =
        count_less (λ b. linked g x b && stays g k cs b) (λ b. linked t x b && stays g k cs b) y (range 0 g.n)
        (in_range 0 g.n y (omega arith) (omega arith)) (rw out) (and_both (linked t x y) (stays g k cs y) new m)
        (λ b i e. and_both (linked t x b) (stays g k cs b) (adds_keeps more x b (and_left (linked g x b) (stays g k cs b) e))
        (and_right (linked g x b) (stays g k cs b) e))

    at_left : (x : ℕ) → left cs x ≡ true → (eqb x a ≡ true) ⊎ (eqb x a ≡ false) → (eqb x c ≡ true) ⊎ (eqb x c ≡ false)
        → suc k ≤ neighbours_in t x (stays g k cs)
    at_left x e (inl q) s = rw (eqb-true x a q) (low_end (rw (eqb-true x a q) at e))
      where
        low_end : left cs a ≡ true → suc k ≤ neighbours_in t a (stays g k cs)
        low_end m = omega (arith, one_more a c ok.b_radio ok.state (adds_has more) c_stays, a_fits m, p.counted a m)
    at_left x e (inr q) (inl s) = rw (eqb-true x c s) (high_end (rw (eqb-true x c s) at e))
      where
        high_end : left cs c ≡ true → suc k ≤ neighbours_in t c (stays g k cs)
        high_end m =
            omega (
              arith,
              one_more c a ok.a_radio (linked_sym g c a ∙ ok.state) (linked_sym t c a ∙ adds_has more) p.lower_end,
              c_fits m,
              p.counted c m,
            )
    at_left x e (inr q) (inr s) = omega (arith, full x e (eqb-false x a q) (eqb-false x c s), p.counted x e, as_many x)

    stays_group : (x : ℕ) → x < g.n → (k < number g x) ⊎ (left cs x ≡ true) → suc k ≤ neighbours_in t x (stays g k cs)
    stays_group x l (inr e) = at_left x e (bool_cases (eqb x a)) (bool_cases (eqb x c))
    stays_group x l (inl e) =
        le_trans e (le_trans (core_enough g (number g) (number_core g) x l)
        (le_trans (neighbours_in_subset g x (λ w. leb (number g x) (number g w)) (stays g k cs)
        (λ w lw m. stays_above g k cs w (le_trans e (leb-true (number g x) (number g w) m)))) (as_many x)))

    pub peeling_lifts : left cs r ≡ true → lifts g r (link_of a c) ≡ true
    unfolding Group relinked
    peeling_lifts e = lifted_lifts g r a c (record {
      allowed = ok;
      greater =
          le_trans (le_of_eq (ap suc kr))
          ((number_core t r lr).largest (suc k) (stays g k cs) (λ x l m. stays_group x l (stays_cases g k cs x m)) (stays_left g k cs r e));
    })
