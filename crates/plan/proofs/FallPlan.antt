-- The plan of a link going down: both ends are released. Before the call each radio of the level has K neighbours or more that are not
-- below it, so that only an end's place can fit before the first turn. So the peel is ready.
use Rattle.std.specs.Prelude.{◌≡◌, ◌⊎◌, ◌&&◌, ◌||◌, ◌∷◌, ◌+◌, ◌-◌, ◌≤◌, ◌<◌}
use Rattle.lists.{specs.Kit.{refl, sym, ap, ◌∙◌, inl, inr, Bool, true, false, List, [], ℕ, min, arith, leb, eqb}}
use Rattle.lists.{specs.Kit.{length, get_or, replicate, length-replicate, lt-leb}, specs.Lists.{member, In}, proofs.Tests.{never}, proofs.Member.{in_member}}
use Rattle.mesh.{specs.Limits.{max_radios}, specs.Graph.{Graph}, specs.Cores.{number}, specs.Tables.{tables, graph_in}}
use Rattle.mesh.{specs.Peel.{bound, none}}
use Rattle.plan.specs.{Plans.{Ready, Planned, plan_of}, Turns.{end_counted, ends_counted, counter_less, released, places_released, Releasable, call_of}}
use Rattle.plan.specs.{Places.{level_start, level_size}, Peels.{stretch, linked_after, Level, Turning, PeelReady, PeelDone, stretch_at}}
use Rattle.plan.proofs.{TurnLoops.{length_released, length_places_released}, TurnLaws.{get_d_released_level, fits_released, marked_released}}
use Rattle.plan.proofs.{TurnLaws.{marked_released_place}, LevelLaws.{stretch_stands, place_apart, place_small}, PlanLevel.{a_below, b_below, certified}}
use Rattle.plan.proofs.{PlanLevel.{number_is, level_is, is_level}, PlanStart.{begin_ready, counted_stretch, turning_ready}, PlanEnd.{plan_unmoved}}
use Rattle.plan.proofs.{PlanCall.{plan_level}}
use Rattle.rows.proofs.SetLaws.{in_set_zeros}
use Rattle.rows.specs.Sets.{in_set}

module _ {a b : ℕ} {ts ns os ps cs : List ℕ} (r : Ready false (length os) a b (tables ts ns os) ps cs) where
  abbrev n : ℕ
  n = length os

  abbrev g : Graph
  g = graph_in n ts

  -- the ends, as the code lists them
  abbrev near : List ℕ
  near = a ∷ b ∷ []

  module _ (k : ℕ) (ek : k ≡ min (get_or ns a 0) (get_or ns b 0)) where
    abbrev start : ℕ
    start = level_start ns k

    abbrev size : ℕ
    size = level_size ns k

    lv : Level (linked_after false a b n ts) ns os ps k start size
    lv = is_level r k ek

    pub ends_releasable : Releasable ns ps k near cs
    ends_releasable = record { once = (apart, (λ i. i, tt)); known = known; above_zero = above }
      where
        apart : (b ≡ a) ⊎ ⊥ → ⊥
        apart (inl e) = r.allowed.differ (sym e)
        apart (inr e) = e

        known : (v : ℕ) → In v near → (v < length ns) × (v < length ps) × (v < length cs) × (v < max_radios)
        known v (inl e) = (
          omega (arith, a_below r, r.numbers_length),
          omega (arith, a_below r, r.places_length),
          omega
              (arith, a_below r, r.not_lower_length),
          omega (arith, a_below r, r.small),
        )
        known v (inr (inl e)) = (
          omega (arith, b_below r, r.numbers_length),
          omega (arith, b_below r, r.places_length),
          omega
              (arith, b_below r, r.not_lower_length),
          omega (arith, b_below r, r.small),
        )
        known v (inr (inr e)) = absurd e

        above : (v : ℕ) → In v near → get_or ns v 0 ≡ k → 1 ≤ get_or cs v 0
        above v (inl e) q = (begin_ready r k ek 0).above_zero v (inl (sym e)) refl q
        above v (inr (inl e)) q = (begin_ready r k ek 0).above_zero v (inr (sym e)) refl q
        above v (inr (inr e)) q = absurd e

    abbrev cs1 : List ℕ
    cs1 = released ns k near cs

    released_is : cs1 ≡ ends_counted false a b k ns cs
    unfolding released counter_less ends_counted end_counted
    released_is = refl

    -- before the call nobody of the level falls short
    enough : (v : ℕ) → v < n → get_or ns v 0 ≡ k → k ≤ get_or cs v 0
    unfolding graph_in
    enough v l e =
        let at : number g v ≡ k = sym (number_is r v l) ∙ e in
        omega (arith, at, r.counted v l (at ∙ ek ∙ level_is r), (certified r).enough v l)

    module _ (m : ℕ) (em : m ≡ k - 1) (fs0 : List ℕ) (long : length fs0 ≡ 8) (zero_row : (q : ℕ) → q < max_radios → in_set fs0 q ≡ false) where
      abbrev fs1 : List ℕ
      fs1 = places_released ns ps k m near cs fs0

      fitting : (v : ℕ) → In v (stretch os start size) → in_set fs1 (get_or ps v 0) ≡ (member v (stretch os start size) && leb (get_or cs1 v 0) m)
      fitting v i =
          let s = stretch_stands lv v i in
          let low : v < length ns = omega (arith, s.below, r.numbers_length) in
          let small : get_or ps v 0 < max_radios = place_small lv v low s.level in
          let full : leb (get_or cs v 0) m ≡ false = lt-leb (get_or cs v 0) m (omega (arith, enough v s.below s.level, (plan_level r).2 refl)) in
          marked_released_place ns ps k m (place_small lv) (place_apart lv) near cs fs0 long ends_releasable v low s.level
          ∙ ap (λ (t : Bool). t || (member v near && eqb (get_or cs1 v 0) m)) (zero_row (get_or ps v 0) small ∙ sym full)
          ∙ fits_released m (member v near) (get_or cs v 0) (get_or cs1 v 0) (get_d_released_level ns k ps near cs ends_releasable v s.level)
          ∙ ap (λ (t : Bool). t && leb (get_or cs1 v 0) m) (sym (in_member v (stretch os start size) i))

      standing : (p : ℕ) → p < max_radios → in_set fs1 p ≡ true → (start ≤ p) × (p < start + size)
      standing p l t = go (marked_released ns ps k m (place_small lv) near cs fs0 long ends_releasable p l t)
        where
          go : (in_set fs0 p ≡ true) ⊎ ((w : ℕ) × (w < length ns) × (get_or ns w 0 ≡ k) × (get_or ps w 0 ≡ p)) → (start ≤ p) × (p < start + size)
          go (inl u) = never (in_set fs0 p) u (zero_row p l)
          go (inr w) =
              let s = lv.stands w.0 (omega (arith, w.1, lv.numbers_length)) w.2 in (omega (arith, s.0, w.3), omega (arith, s.1, w.3))

      turning : Turning (linked_after false a b n ts) m os ps (stretch_at start size) [] cs1 fs1
      turning = record {
        rest = stretch os start size;
        takes = none;
        counted = λ v i. ap (λ (xs : List ℕ). get_or xs v 0) released_is ∙ counted_stretch r k ek v i;
        fitting = fitting;
        standing = standing;
        spent = λ v i. absurd i;
        counters_long = omega (arith, r.not_lower_length, length_released ns k near cs);
        fits_long = length_places_released ns ps k m near cs fs0 ∙ long;
      }

  -- as the code names its values
  module _ {w : Bool} {x y k m : ℕ}
      (call : (w ≡ false) × (x ≡ a) × (y ≡ b) × (k ≡ min (get_or ns a 0) (get_or ns b 0)) × (m ≡ bound false (min (get_or ns a 0) (get_or ns b 0)))) where
    pub fall_release : Releasable ns ps k near cs
    fall_release = ends_releasable k call.3

    pub fall_peel : (cs1 fs1 : List ℕ) → cs1 ≡ released ns k near cs → fs1 ≡ places_released ns ps k m near cs (replicate 8 0)
        → PeelReady (call_of w x y k m) ts ns os ps cs1 fs1
    fall_peel cs1 fs1 ec ef =
        rw (ec, ef, call.0, call.1, call.2)
        (turning_ready r k call.3 m _ _ (turning k call.3 m (call.4 ∙ ap (λ (z : ℕ). z - 1) (sym call.3)) (replicate 8 0)
        (length-replicate {A = ℕ} 8 0) (λ q lq. in_set_zeros 8 q)))

    pub fall_unmoved : (taken : ℕ) (cs2 list1 : List ℕ) → PeelDone (call_of w x y k m) ts ns os taken cs2 list1 → length list1 ≡ max_radios → taken ≡ 0
        → Planned false a b g os (plan_of 0 0 0) list1
    fall_unmoved taken cs2 list1 done room z =
        rw z at
        (plan_unmoved r w x y k m taken cs2 list1 call.0 call.1 call.2 (call.3 ∙ level_is r) (call.4 ∙ ap (bound false) (level_is r)) done room z refl)
