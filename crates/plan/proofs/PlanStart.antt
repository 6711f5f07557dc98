-- What a plan starts from: the level's not-lower counts, changed at both ends, count the neighbours after the call among the level
-- and above; the marked places are the ones that fit. So the peel is ready.
use Rattle.std.specs.Prelude.{◌≡◌, ◌⊎◌, ◌&&◌, ◌||◌, ◌++◌, ◌+◌, ◌-◌, ◌≤◌, ◌<◌}
use Rattle.lists.{specs.Kit.{refl, sym, ap, ◌∙◌, inl, inr, Bool, true, false, not, cond, List, [], ℕ, min}}
use Rattle.lists.{specs.Kit.{arith, ltb, leb, eqb, length, get_or, ltb-true, eqb-true, eqb-false, le-leb, lt-leb}, specs.Lists.{range, count, member, In}}
use Rattle.lists.{specs.Facts.{Distinct}, proofs.Tests.{bool_cases, and_left, and_both}, proofs.Member.{in_cases, member_in, in_member}}
use Rattle.lists.{proofs.Count.{count_append, count_pos, count_none, count_ext}, proofs.Filter.{in_filter}, proofs.Range.{in_range, range_in, once_in}}
use Rattle.lists.{proofs.Range.{once_distinct}, proofs.Distinct.{distinct_right, count_plus_one}}
use Rattle.mesh.{specs.Limits.{max_radios, max_neighbours}, specs.Graph.{Graph, radios, linked, neighbours_in, relinked}, specs.Cores.{number}}
use Rattle.mesh.{specs.Levels.{lower_level}, specs.Tables.{tables, graph_in}, proofs.GraphLaws.{ends, ends_of, of_ends, linked_sym, neighbours_in_list}}
use Rattle.mesh.{proofs.GraphLaws.{neighbours_in_subset, degree_in}, proofs.Links.LevelCut.{lows, mids, highs, level_cut}, specs.Peel.{none}}
use Rattle.mesh.{proofs.Tables.Relinked.{linked_relinked}}
use Rattle.plan.specs.{Plans.{Ready}, Turns.{end_counted, ends_counted, places_fitting, BeginReady}, Places.{level_start, level_size}, Peels.{stretch}}
use Rattle.plan.specs.{Peels.{above, linked_after, Turning, PeelReady, stretch_at}}
use Rattle.plan.proofs.{TurnLoops.{length_end_counted, length_places_fitting}, BeginLaws.{get_d_end_other, get_d_end_same, marked_fitting}}
use Rattle.plan.proofs.{LevelLaws.{stretch_stands}, PlanLevel.{a_below, b_below, is_valid, certified, is_once, number_is, order_radios, level_is}}
use Rattle.plan.proofs.{PlanLevel.{stretch_is, above_is, stretch_fits, stretch_number, is_level, row_is}}
use Rattle.plan.specs.Turns.{call_of}
use Rattle.rows.specs.Sets.{in_set}

-- ---- laws of lists

module _ {u : Bool} {a b : ℕ} {ts ns os ps cs : List ℕ} (r : Ready u (length os) a b (tables ts ns os) ps cs) (k : ℕ) (ek : k ≡ min (get_or ns a 0) (get_or ns b 0))
  where
    abbrev n : ℕ
    n = length os

    abbrev g : Graph
    g = graph_in n ts

    abbrev after : Graph
    after = relinked u a b g

    abbrev num : ℕ → ℕ
    num = number g

    abbrev start : ℕ
    start = level_start ns k

    abbrev size : ℕ
    size = level_size ns k

    -- the level and what is above it
    abbrev zs : List ℕ
    zs = mids num k os ++ highs num k os

    low_a : k ≤ num a
    low_a = omega (arith, number_is r a (a_below r))

    low_b : k ≤ num b
    low_b = omega (arith, number_is r b (b_below r))

    cut : os ≡ lows num k os ++ zs
    cut = level_cut num k os (certified r).rising

    zs_distinct : Distinct zs
    zs_distinct = distinct_right (lows num k os) zs (rw cut at (once_distinct n os (is_once r)))

    zs_in : (v : ℕ) → v < n → k ≤ num v → In v zs
    zs_in v l h = go (in_cases v (lows num k os) zs (rw cut at (once_in n os (is_once r) v l)))
      where
        go : In v (lows num k os) ⊎ In v zs → In v zs
        go (inl i) = absurd (omega (arith, ltb-true (num v) k (in_filter (λ v. ltb (num v) k) os v i).1))
        go (inr i) = i

    zs_low : (v : ℕ) → In v zs → k ≤ num v
    zs_low v i = go (in_cases v (mids num k os) (highs num k os) i)
      where
        go : In v (mids num k os) ⊎ In v (highs num k os) → k ≤ num v
        go (inl m) = omega (arith, eqb-true (num v) k (in_filter (λ v. eqb (num v) k) os v m).1)
        go (inr m) = omega (arith, ltb-true k (num v) (in_filter (λ v. ltb k (num v)) os v m).1)

    -- ---- the counts of the level

    at_level : (v : ℕ) → num v ≡ k → num v ≡ lower_level g a b
    at_level v e = e ∙ ek ∙ level_is r

    counts_high : (v : ℕ) → v < n → num v ≡ k → get_or cs v 0 ≡ count (linked g v) zs
    unfolding graph_in
    counts_high v l e =
        let f : ℕ → Bool = λ w. linked g v w && leb (num v) (num w) in
        omega (
          arith,
          r.counted v l (at_level v e),
          neighbours_in_list g v (λ w. leb (num v) (num w)) os (certified r).once,
          ap (count f) cut,
          count_append f (lows num k os) zs,
          count_none f (lows num k os) (λ w i. below w (ltb-true (num w) k (in_filter (λ v. ltb (num v) k) os w i).1)),
          count_ext f (linked g v) zs (λ w i. level w (zs_low w i)),
        )
      where
        below : (w : ℕ) → num w < k → (linked g v w && leb (num v) (num w)) ≡ false
        below w h = rw (lt-leb (num v) (num w) (omega arith)) (and_no (linked g v w))
          where
            and_no : (t : Bool) → (t && false) ≡ false
            and_no true = refl
            and_no false = refl

        level : (w : ℕ) → k ≤ num w → (linked g v w && leb (num v) (num w)) ≡ linked g v w
        level w h = rw (le-leb (num v) (num w) (omega arith)) (and_yes (linked g v w))
          where
            and_yes : (t : Bool) → (t && true) ≡ t
            and_yes true = refl
            and_yes false = refl

    linked_is : (v w : ℕ) → linked after v w ≡ cond (ends a b v w) u (linked g v w)
    linked_is =
        linked_relinked u a b g (is_valid r).links_proper (is_valid r).links_ascending r.allowed.a_radio r.allowed.b_radio r.allowed.differ

    -- an end v of the link, whose other end is o
    module _ (v o : ℕ) (there : ends a b v o ≡ true) (only : (x : ℕ) → (x ≡ o → ⊥) → ends a b v x ≡ false) (state : linked g v o ≡ not u)
        (lo : o < n) (ko : k ≤ num o) where
      end_count : count (linked after v) zs ≡ cond u (count (linked g v) zs + 1) (count (linked g v) zs - 1)
      end_count = go u refl
        where
          elsewhere : (x : ℕ) → (x ≡ o → ⊥) → linked after v x ≡ linked g v x
          elsewhere x ne = linked_is v x ∙ ap (λ (t : Bool). cond t u (linked g v x)) (only x ne)

          at : linked after v o ≡ u
          at = linked_is v o ∙ ap (λ (t : Bool). cond t u (linked g v o)) there

          go : (w : Bool) → u ≡ w → count (linked after v) zs ≡ cond w (count (linked g v) zs + 1) (count (linked g v) zs - 1)
          go true e = count_plus_one (linked g v) (linked after v) o zs zs_distinct (zs_in o lo ko) (state ∙ ap not e) (at ∙ e) elsewhere
          go false e =
              omega (
                arith,
                count_plus_one (linked after v) (linked g v) o zs zs_distinct (zs_in o lo ko) (at ∙ e) (state ∙ ap not e)
                    (λ x ne. sym (elsewhere x ne)),
              )

    abbrev cs1 : List ℕ
    cs1 = ends_counted u a b k ns cs

    pub counter_a : num a ≡ k → get_or cs1 a 0 ≡ cond u (get_or cs a 0 + 1) (get_or cs a 0 - 1)
    unfolding ends_counted
    counter_a e =
        get_d_end_other u k ns b (end_counted u k ns a cs) a r.allowed.differ
        ∙ get_d_end_same u k ns a cs (omega (arith, a_below r, r.not_lower_length)) (number_is r a (a_below r) ∙ e)

    pub counter_b : num b ≡ k → get_or cs1 b 0 ≡ cond u (get_or cs b 0 + 1) (get_or cs b 0 - 1)
    unfolding ends_counted
    counter_b e =
        let kept = get_d_end_other u k ns a cs b (λ q. r.allowed.differ (sym q)) in
        get_d_end_same u k ns b (end_counted u k ns a cs) (omega (arith, b_below r, r.not_lower_length, length_end_counted u k ns a cs))
        (number_is r b (b_below r) ∙ e)
        ∙ rw kept

    pub counter_other : (v : ℕ) → (v ≡ a → ⊥) → (v ≡ b → ⊥) → get_or cs1 v 0 ≡ get_or cs v 0
    unfolding ends_counted
    counter_other v na nb = get_d_end_other u k ns b (end_counted u k ns a cs) v nb ∙ get_d_end_other u k ns a cs v na

    only_b : (x : ℕ) → (x ≡ b → ⊥) → ends a b a x ≡ false
    only_b x ne = go (bool_cases (ends a b a x))
      where
        no : ((a ≡ a) × (x ≡ b)) ⊎ ((a ≡ b) × (x ≡ a)) → ⊥
        no (inl q) = ne q.1
        no (inr q) = r.allowed.differ q.0

        go : (ends a b a x ≡ true) ⊎ (ends a b a x ≡ false) → ends a b a x ≡ false
        go (inl e) = absurd (no (ends_of a b a x e))
        go (inr e) = e

    only_a : (x : ℕ) → (x ≡ a → ⊥) → ends a b b x ≡ false
    only_a x ne = go (bool_cases (ends a b b x))
      where
        no : ((b ≡ a) × (x ≡ b)) ⊎ ((b ≡ b) × (x ≡ a)) → ⊥
        no (inl q) = r.allowed.differ (sym q.0)
        no (inr q) = ne q.1

        go : (ends a b b x ≡ true) ⊎ (ends a b b x ≡ false) → ends a b b x ≡ false
        go (inl e) = absurd (no (ends_of a b b x e))
        go (inr e) = e

    pub counted_level : (v : ℕ) → v < n → num v ≡ k → get_or cs1 v 0 ≡ count (linked after v) zs
    counted_level v l e = go (bool_cases (eqb v a)) (bool_cases (eqb v b))
      where
        at_a : num a ≡ k → get_or cs1 a 0 ≡ count (linked after a) zs
        at_a q =
            counter_a q ∙ rw (counts_high a (a_below r) q)
            (sym (end_count a b (of_ends a b a b (inl (refl, refl))) only_b r.allowed.state (b_below r) low_b))

        at_b : num b ≡ k → get_or cs1 b 0 ≡ count (linked after b) zs
        at_b q =
            counter_b q ∙ rw (counts_high b (b_below r) q)
            (sym (end_count b a (of_ends a b b a (inr (refl, refl))) only_a (linked_sym g b a ∙ r.allowed.state) (a_below r) low_a))

        neither : (v ≡ a → ⊥) → (v ≡ b → ⊥) → (x : ℕ) → linked g v x ≡ linked after v x
        neither na nb x = sym (linked_is v x ∙ ap (λ (t : Bool). cond t u (linked g v x)) (out (bool_cases (ends a b v x))))
          where
            no : ((v ≡ a) × (x ≡ b)) ⊎ ((v ≡ b) × (x ≡ a)) → ⊥
            no (inl q) = na q.0
            no (inr q) = nb q.0

            out : (ends a b v x ≡ true) ⊎ (ends a b v x ≡ false) → ends a b v x ≡ false
            out (inl q) = absurd (no (ends_of a b v x q))
            out (inr q) = q

        go : (eqb v a ≡ true) ⊎ (eqb v a ≡ false) → (eqb v b ≡ true) ⊎ (eqb v b ≡ false) → get_or cs1 v 0 ≡ count (linked after v) zs
        go (inl q) s = let same = eqb-true v a q in rw same (at_a (rw same at e))
        go (inr q) (inl s) = let same = eqb-true v b s in rw same (at_b (rw same at e))
        go (inr q) (inr s) =
            counter_other v (eqb-false v a q) (eqb-false v b s) ∙ counts_high v l e
            ∙ count_ext (linked g v) (linked after v) zs (λ x i. neither (eqb-false v a q) (eqb-false v b s) x)

    -- ---- before the first turn

    few_high : (v : ℕ) → v < n → num v ≡ k → get_or cs v 0 ≤ max_neighbours
    unfolding graph_in
    few_high v l e =
        omega (
          arith,
          r.counted v l (at_level v e),
          neighbours_in_subset g v (λ w. leb (num v) (num w)) (λ w. true) (λ w lw q. refl),
          degree_in g v,
          (is_valid
              r).degrees v l,
        )

    linked_high : (v o : ℕ) → v < n → o < n → linked g v o ≡ true → num v ≡ k → num v ≤ num o → 1 ≤ get_or cs v 0
    unfolding graph_in neighbours_in radios
    linked_high v o lv lo h e q =
        omega (
          arith,
          r.counted v lv (at_level v e),
          count_pos (λ w. linked g v w && leb (num v) (num w)) o (range 0 n) (in_range 0 n o (omega arith) (omega arith))
              (and_both (linked g v o) (leb (num v) (num o)) h (le-leb (num v) (num o) q)),
        )

    pub begin_ready : (m : ℕ) → BeginReady (call_of u a b k m) start size ns os cs
    begin_ready m = record {
      differ = r.allowed.differ;
      known_a = (omega (arith, a_below r, r.numbers_length), omega (arith, a_below r, r.small));
      known_b = (omega (arith, b_below r, r.numbers_length), omega (arith, b_below r, r.small));
      above_zero = positive;
      small = λ v l e. (let h : v < n = omega (arith, r.numbers_length) in omega (arith, few_high v h (sym (number_is r v h) ∙ e)));
      fits = (stretch_fits r k, omega (arith, stretch_fits r k, r.small));
      radios = λ p l. omega (arith, order_radios r p l, r.small);
    }
      where
        positive : (v : ℕ) → (v ≡ a) ⊎ (v ≡ b) → u ≡ false → get_or ns v 0 ≡ k → 1 ≤ get_or cs v 0
        positive v (inl e) d q =
            let h : num a ≡ k = sym (number_is r a (a_below r)) ∙ rw e at q in
            rw e (linked_high a b (a_below r) (b_below r) (r.allowed.state ∙ ap not d) h (omega (arith, low_b)))
        positive v (inr e) d q =
            let h : num b ≡ k = sym (number_is r b (b_below r)) ∙ rw e at q in
            rw e (linked_high b a (b_below r) (a_below r) (linked_sym g b a ∙ r.allowed.state ∙ ap not d) h (omega (arith, low_a)))

    -- the counters of the level, by its stretch and what is above
    pub counted_stretch : (v : ℕ) → In v (stretch os start size)
        → get_or cs1 v 0 ≡ count (linked_after u a b n ts v) (stretch os start size) + count (linked_after u a b n ts v) (above os start size)
    counted_stretch v i =
        let s = stretch_number r k v i in
        counted_level v s.0 s.1 ∙ count_append (linked after v) (mids num k os) (highs num k os) ∙ rw (stretch_is r k, above_is r k)

    -- counters and fitting places before the first turn
    pub turning_ready : (m : ℕ) (counters fits : List ℕ) → Turning (linked_after u a b n ts) m os ps (stretch_at start size) [] counters fits
        → PeelReady (call_of u a b k m) ts ns os ps counters fits
    turning_ready m counters fits turning = record {
      level = is_level r k ek;
      differ = r.allowed.differ;
      ends = (a_below r, b_below r);
      links_length = r.links_length;
      row_is = row_is r k;
      turning = turning;
    }

    module _ (m : ℕ) (fs0 : List ℕ) (long : length fs0 ≡ 8) (zero_row : (q : ℕ) → q < max_radios → in_set fs0 q ≡ false) where
      abbrev fs1 : List ℕ
      fs1 = places_fitting os cs1 m (range start size) fs0

      marks : (q : ℕ) → q < max_radios → in_set fs1 q ≡ (member q (range start size) && leb (get_or cs1 (get_or os q 0) 0) m)
      marks q l =
          marked_fitting os cs1 m (range start size) fs0 long (λ p i. omega (arith, range_in start size p i, stretch_fits r k, r.small)) q l
          ∙ ap (λ (t : Bool). t || (member q (range start size) && leb (get_or cs1 (get_or os q 0) 0) m)) (zero_row q l)

      pub begin_turning : Turning (linked_after u a b n ts) m os ps (stretch_at start size) [] cs1 fs1
      unfolding ends_counted
      begin_turning = record {
        rest = stretch os start size;
        takes = none;
        counted = counted_stretch;
        fitting = fitting;
        standing = λ p l h. (let i = range_in start size p
            (member_in p (range start size) (and_left (member p (range start size)) (leb (get_or cs1 (get_or os p 0) 0) m) (sym (marks p l) ∙ h))) in (i.0, i.1));
        spent = λ v i. absurd i;
        counters_long = omega (arith, r.not_lower_length, length_end_counted u k ns b (end_counted u k ns a cs), length_end_counted u k ns a cs);
        fits_long = length_places_fitting os cs1 m (range start size) fs0 ∙ long;
      }
        where
          fitting : (v : ℕ) → In v (stretch os start size) → in_set fs1 (get_or ps v 0) ≡ (member v (stretch os start size) && leb (get_or cs1 v 0) m)
          fitting v i =
              let s = stretch_stands (is_level r k ek) v i in
              marks (get_or ps v 0) (omega (arith, s.high, stretch_fits r k, r.small))
              ∙ rw (
                s.entry,
                in_member (get_or ps v 0) (range start size) (in_range start size (get_or ps v 0) s.low s.high),
                in_member v
                    (stretch os start size) i,
              )

      pub peel_ready : PeelReady (call_of u a b k m) ts ns os ps cs1 fs1
      peel_ready = turning_ready m cs1 fs1 begin_turning
