-- A level peeled with one radio kept.
--   peeling_starts   the counters that the check found
--   peeling_takes    a radio with at most k neighbours that stay is taken
--   peeling_near     a neighbour of a radio that is left has one to lose
--   taken_fewer      fewer radios are left
-- Why a group of a pair keeps clear of the taken radios: the first one taken that it had would have had k + 1 neighbours in the group, and
-- all of them stayed.
use Rattle.std.specs.Prelude.{◌≡◌, ◌⊎◌, ◌&&◌, ◌||◌, ◌+◌, ◌≤◌, ◌<◌}
use Rattle.lists.{specs.Kit.{refl, sym, ap, ◌∙◌, inl, inr, Bool, true, false, and-false, List, ℕ, arith, le_antisymm}}
use Rattle.lists.{specs.Kit.{le_trans, le_of_eq, ltb, leb, eqb, get_or, ltb-true, ltb-false, lt-ltb, le-ltb, leb-true, le-leb, eqb-true, eqb-false}}
use Rattle.lists.{specs.Lists.{range, count}, proofs.Tests.{bool_cases, never, and_both, or_cases, or_left, or_right}, proofs.Range.{in_range, distinct_range}}
use Rattle.lists.{proofs.Count.{count_pos, count_less, count_ext}, proofs.Distinct.{count_plus_one}}
use Rattle.mesh.{specs.Limits.{max_neighbours}, specs.Graph.{Graph, radios, linked, neighbours_in}, specs.Cores.{number}, specs.Valid.{Valid}}
use Rattle.mesh.{proofs.GraphLaws.{linked_sym, neighbours_in_subset, degree_in}, proofs.Cores.Certificate.{core_enough}, proofs.Cores.Peeling.{number_core}}
use Rattle.lifting.specs.Peeling.{left, stays, PairGroup, Taken, Peeling}

-- ---- what is left

pub left_below : (cs : List ℕ) (v : ℕ) → left cs v ≡ true → get_or cs v 255 < 128
unfolding left
left_below cs v e = ltb-true (get_or cs v 255) 128 e

pub below_left : (cs : List ℕ) (v : ℕ) → get_or cs v 255 < 128 → left cs v ≡ true
unfolding left
below_left cs v l = lt-ltb (get_or cs v 255) 128 l

pub high_left : (cs : List ℕ) (v : ℕ) → 128 ≤ get_or cs v 255 → left cs v ≡ false
unfolding left
high_left cs v l = le-ltb (get_or cs v 255) 128 l

pub stays_above : (g : Graph) (k : ℕ) (cs : List ℕ) (v : ℕ) → k < number g v → stays g k cs v ≡ true
unfolding stays
stays_above g k cs v l = or_left (ltb k (number g v)) (left cs v) (lt-ltb k (number g v) l)

pub stays_left : (g : Graph) (k : ℕ) (cs : List ℕ) (v : ℕ) → left cs v ≡ true → stays g k cs v ≡ true
unfolding stays
stays_left g k cs v e = or_right (ltb k (number g v)) (left cs v) e

pub stays_cases : (g : Graph) (k : ℕ) (cs : List ℕ) (v : ℕ) → stays g k cs v ≡ true → (k < number g v) ⊎ (left cs v ≡ true)
unfolding stays
stays_cases g k cs v e = go (or_cases (ltb k (number g v)) (left cs v) e)
  where
    go : (ltb k (number g v) ≡ true) ⊎ (left cs v ≡ true) → (k < number g v) ⊎ (left cs v ≡ true)
    go (inl h) = inl (ltb-true k (number g v) h)
    go (inr h) = inr h

-- a radio of the level that is not left does not stay
pub stays_not : (g : Graph) (k : ℕ) (cs : List ℕ) (v : ℕ) → number g v ≤ k → left cs v ≡ false → stays g k cs v ≡ false
unfolding stays
stays_not g k cs v l e = rw (le-ltb k (number g v) l) e

-- ---- a radio taken

module _ (g : Graph) (cs ds : List ℕ) (v : ℕ) (now : left cs v ≡ true) (t : Taken g v cs ds) where
  taken_out : left ds v ≡ false
  taken_out = high_left ds v (omega (arith, t.own))

  -- of the others, the same radios are left
  taken_left : (w : ℕ) → (w ≡ v → ⊥) → left ds w ≡ left cs w
  unfolding left
  taken_left w ne = go (bool_cases (left cs w)) (bool_cases (linked g v w))
    where
      same : (left cs w && linked g v w) ≡ false → left ds w ≡ left cs w
      same e = ap (λ (x : ℕ). ltb x 128) (t.far w ne e)

      go : (left cs w ≡ true) ⊎ (left cs w ≡ false) → (linked g v w ≡ true) ⊎ (linked g v w ≡ false) → left ds w ≡ left cs w
      go (inl a) (inl b) = below_left ds w (omega (arith, left_below cs w a, t.near w ne a b)) ∙ sym a
      go (inl a) (inr b) = same (rw (a, b))
      go (inr a) b = same (rw a)

  pub taken_still : (w : ℕ) → left ds w ≡ true → (left cs w ≡ true) × (w ≡ v → ⊥)
  taken_still w e = (sym (taken_left w other) ∙ e, other)
    where
      other : w ≡ v → ⊥
      other q = never (left ds v) (ap (left ds) (sym q) ∙ e) taken_out

  pub taken_fewer : (m : ℕ) → v < m → count (left ds) (range 0 m) < count (left cs) (range 0 m)
  taken_fewer m l =
      count_less (left ds) (left cs) v (range 0 m) (in_range 0 m v (omega arith) (omega arith)) taken_out now (λ w i e. (taken_still w e).0)

-- ---- the peel

module _ (g : Graph) (xs : List ℕ) (valid : Valid max_neighbours g xs) (k a : ℕ) (cs : List ℕ) where
  -- the check's counts: neighbours that are not below the level
  pub peeling_starts : a < g.n → k ≤ number g a
      → ((v : ℕ) → v < g.n → number g v ≡ k → get_or cs v 255 ≡ neighbours_in g v (λ w. leb k (number g w)))
      → ((v : ℕ) → v < g.n → (number g v ≡ k → ⊥) → get_or cs v 255 ≡ 255) → ((v : ℕ) → g.n ≤ v → get_or cs v 255 ≡ 255) → Peeling g k a cs
  peeling_starts la ka own other past = record {
    level = λ v e. level v e;
    counted = λ v e. own v (level v e).0 (level v e).1 ∙ same v;
    avoided = λ c s p e x h. in_stays x (p.radio x h) (p.high x h);
    few = λ c s p l h. never (left cs c) (fits c (p.radio c p.high_end) (omega (arith, h))) (high_left cs c l);
    small = λ v e. small v e;
    lower_end = in_stays a la ka;
  }
    where
      level : (v : ℕ) → left cs v ≡ true → (v < g.n) × (number g v ≡ k)
      level v e = at (bool_cases (ltb v g.n)) (bool_cases (eqb (number g v) k))
        where
          at : (ltb v g.n ≡ true) ⊎ (ltb v g.n ≡ false) → (eqb (number g v) k ≡ true) ⊎ (eqb (number g v) k ≡ false) → (v < g.n) × (number g v ≡ k)
          at (inl p) (inl q) = (ltb-true v g.n p, eqb-true (number g v) k q)
          at (inl p) (inr q) = absurd (omega (arith, left_below cs v e, other v (ltb-true v g.n p) (eqb-false (number g v) k q)))
          at (inr p) q = absurd (omega (arith, left_below cs v e, past v (ltb-false v g.n p)))

      most : (v : ℕ) → v < g.n → number g v ≡ k → get_or cs v 255 ≤ max_neighbours
      most v l e =
          omega (
            arith,
            own v l e,
            neighbours_in_subset g v (λ w. leb k (number g w)) (λ w. true) (λ w lw h. refl),
            degree_in g v,
            valid.degrees v l,
          )

      small : (v : ℕ) → left cs v ≡ true → get_or cs v 255 ≤ max_neighbours
      small v e = most v (level v e).0 (level v e).1

      in_stays : (v : ℕ) → v < g.n → k ≤ number g v → stays g k cs v ≡ true
      in_stays v l h = at (bool_cases (eqb (number g v) k))
        where
          at : (eqb (number g v) k ≡ true) ⊎ (eqb (number g v) k ≡ false) → stays g k cs v ≡ true
          at (inl e) = stays_left g k cs v (below_left cs v (omega (arith, most v l (eqb-true (number g v) k e))))
          at (inr e) = stays_above g k cs v (omega (arith, eqb-false (number g v) k e))

      out_stays : (v : ℕ) → stays g k cs v ≡ true → k ≤ number g v
      out_stays v e = at (stays_cases g k cs v e)
        where
          at : (k < number g v) ⊎ (left cs v ≡ true) → k ≤ number g v
          at (inl h) = omega arith
          at (inr h) = le_of_eq (sym (level v h).1)

      same : (v : ℕ) → neighbours_in g v (λ w. leb k (number g w)) ≡ neighbours_in g v (stays g k cs)
      same v = le_antisymm
          (neighbours_in_subset g v (λ w. leb k (number g w)) (stays g k cs) (λ w l h. in_stays w l (leb-true k (number g w) h)))
          (neighbours_in_subset g v (stays g k cs) (λ w. leb k (number g w)) (λ w l h. le-leb k (number g w) (out_stays w h)))

      low : k ≤ max_neighbours
      low =
          omega (
            arith,
            core_enough g (number g) (number_core g) a la,
            neighbours_in_subset g a (λ w. leb (number g a) (number g w)) (λ w. true) (λ w lw h. refl),
            degree_in g a,
            valid.degrees a la,
          )

      -- an entry that is not 255 is a counter
      fits : (c : ℕ) → c < g.n → get_or cs c 255 ≤ 128 + k → left cs c ≡ true
      fits c l h = at (bool_cases (eqb (number g c) k))
        where
          at : (eqb (number g c) k ≡ true) ⊎ (eqb (number g c) k ≡ false) → left cs c ≡ true
          at (inl e) = below_left cs c (omega (arith, most c l (eqb-true (number g c) k e)))
          at (inr e) = absurd (omega (arith, other c l (eqb-false (number g c) k e), h, low))

  -- a radio with a neighbour that stays has one to lose
  pub peeling_near : (v w : ℕ) → Peeling g k a cs → left cs v ≡ true → left cs w ≡ true → linked g v w ≡ true → 1 ≤ get_or cs w 255
  unfolding neighbours_in radios
  peeling_near v w p hv hw e =
      le_trans
      (count_pos (λ b. linked g w b && stays g k cs b) v (range 0 g.n) (in_range 0 g.n v (omega arith) (omega (arith, (p.level v hv).0)))
      (and_both (linked g w v) (stays g k cs v) (linked_sym g w v ∙ e) (stays_left g k cs v hv)))
      (le_of_eq (sym (p.counted w hw)))

  module _ (ds : List ℕ) (v : ℕ) (p : Peeling g k a cs) (now : left cs v ≡ true) (ne : v ≡ a → ⊥) (fits : get_or cs v 255 ≤ k) (t : Taken g v cs ds) where
    gone : stays g k ds v ≡ false
    gone = stays_not g k ds v (le_of_eq (p.level v now).1) (taken_out g cs ds v now t)

    same_stays : (w : ℕ) → (w ≡ v → ⊥) → stays g k ds w ≡ stays g k cs w
    unfolding stays
    same_stays w o = ap (λ (x : Bool). ltb k (number g w) || x) (taken_left g cs ds v now t w o)

    still : (w : ℕ) → stays g k ds w ≡ true → (stays g k cs w ≡ true) × (w ≡ v → ⊥)
    still w e = (sym (same_stays w other) ∙ e, other)
      where
        other : w ≡ v → ⊥
        other q = never (stays g k ds v) (ap (stays g k ds) (sym q) ∙ e) gone

    -- one less where v is a neighbour
    one_less : (w : ℕ) → linked g v w ≡ true → neighbours_in g w (stays g k cs) ≡ neighbours_in g w (stays g k ds) + 1
    unfolding neighbours_in radios
    one_less w e =
        count_plus_one (λ b. linked g w b && stays g k ds b) (λ b. linked g w b && stays g k cs b) v (range 0 g.n) (distinct_range 0 g.n)
        (in_range 0 g.n v (omega arith) (omega (arith, (p.level v now).0))) (rw gone (and-false (linked g w v)))
        (and_both (linked g w v) (stays g k cs v) (linked_sym g w v ∙ e) (stays_left g k cs v now))
        (λ b o. ap (λ (x : Bool). linked g w b && x) (sym (same_stays b o)))

    as_many : (w : ℕ) → linked g v w ≡ false → neighbours_in g w (stays g k cs) ≡ neighbours_in g w (stays g k ds)
    unfolding neighbours_in radios
    as_many w e =
        count_ext (λ b. linked g w b && stays g k cs b) (λ b. linked g w b && stays g k ds b) (range 0 g.n) (λ b m. at b (bool_cases (eqb b v)))
      where
        at : (b : ℕ) → (eqb b v ≡ true) ⊎ (eqb b v ≡ false) → (linked g w b && stays g k cs b) ≡ (linked g w b && stays g k ds b)
        at b (inl q) = let none : linked g w b ≡ false = ap (linked g w) (eqb-true b v q) ∙ (linked_sym g w v ∙ e) in rw none
        at b (inr q) = ap (λ (x : Bool). linked g w b && x) (sym (same_stays b (eqb-false b v q)))

    counted : (w : ℕ) → left ds w ≡ true → get_or ds w 255 ≡ neighbours_in g w (stays g k ds)
    counted w e = at (taken_still g cs ds v now t w e) (bool_cases (linked g v w))
      where
        at : (left cs w ≡ true) × (w ≡ v → ⊥) → (linked g v w ≡ true) ⊎ (linked g v w ≡ false) → get_or ds w 255 ≡ neighbours_in g w (stays g k ds)
        at (h, o) (inl q) = omega (arith, t.near w o h q, p.counted w h, one_less w q)
        at (h, o) (inr q) = omega (arith, t.far w o (rw (h, q)), p.counted w h, as_many w q)

    smaller : (w : ℕ) → left ds w ≡ true → get_or ds w 255 ≤ get_or cs w 255
    smaller w e = at (taken_still g cs ds v now t w e) (bool_cases (linked g v w))
      where
        at : (left cs w ≡ true) × (w ≡ v → ⊥) → (linked g v w ≡ true) ⊎ (linked g v w ≡ false) → get_or ds w 255 ≤ get_or cs w 255
        at (h, o) (inl q) = omega (arith, t.near w o h q)
        at (h, o) (inr q) = omega (arith, t.far w o (rw (h, q)))

    -- v is in no group of a pair whose other end stays
    clear : (c : ℕ) (s : ℕ → Bool) → PairGroup g k a c s → stays g k cs c ≡ true → (c ≡ v → ⊥) → s v ≡ true → ⊥
    clear c s q e o h =
        omega (
          arith,
          q.others v h ne (λ z. o (sym z)),
          neighbours_in_subset g v s (stays g k cs) (λ x l m. p.avoided c s q e x m),
          p.counted v now,
          fits,
        )

    avoided : (c : ℕ) (s : ℕ → Bool) → PairGroup g k a c s → stays g k ds c ≡ true → (x : ℕ) → s x ≡ true → stays g k ds x ≡ true
    avoided c s q e x h = same_stays x other ∙ p.avoided c s q (still c e).0 x h
      where
        other : x ≡ v → ⊥
        other z = clear c s q (still c e).0 (still c e).1 (ap s (sym z) ∙ h)

    few : (c : ℕ) (s : ℕ → Bool) → PairGroup g k a c s → 128 ≤ get_or ds c 255 → get_or ds c 255 < 128 + k → ⊥
    few c s q l h = at (bool_cases (eqb c v))
      where
        -- v itself: the group gives it k neighbours, which all stayed
        own : c ≡ v → ⊥
        own z =
            let e : get_or ds c 255 ≡ 128 + get_or cs v 255 = ap (λ (x : ℕ). get_or ds x 255) z ∙ t.own in
            let has : s v ≡ true = ap s (sym z) ∙ q.high_end in
            let here : stays g k cs c ≡ true = ap (stays g k cs) z ∙ stays_left g k cs v now in
            omega (arith, e, h, q.ends v has, neighbours_in_subset g v s (stays g k cs) (λ x lx m. p.avoided c s q here x m), p.counted v now)

        other : (c ≡ v → ⊥) → (left cs c ≡ true) ⊎ (left cs c ≡ false) → ⊥
        other o (inl e) = never (left ds c) (taken_left g cs ds v now t c o ∙ e) (high_left ds c l)
        other o (inr e) = let same : get_or ds c 255 ≡ get_or cs c 255 = t.far c o (rw e) in p.few c s q (omega arith) (omega arith)

        at : (eqb c v ≡ true) ⊎ (eqb c v ≡ false) → ⊥
        at (inl e) = own (eqb-true c v e)
        at (inr e) = other (eqb-false c v e) (bool_cases (left cs c))

    pub peeling_takes : Peeling g k a ds
    peeling_takes = record {
      level = λ w e. p.level w (taken_still g cs ds v now t w e).0;
      counted = counted;
      avoided = avoided;
      few = λ c s q l h. few c s q l (omega (arith, h));
      small = λ w e. le_trans (smaller w e) (p.small w (taken_still g cs ds v now t w e).0);
      lower_end = same_stays a (λ z. ne (sym z)) ∙ p.lower_end;
    }
