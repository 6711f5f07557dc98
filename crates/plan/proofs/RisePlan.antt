-- The plan of a level that rises whole: no radio of it fits with the link, so the peel takes nobody and the stretch stands as it stood.
-- In order: which radios fit with the link, the loop over the stretch, the plan.
use Rattle.std.specs.Prelude.{◌≡◌, ◌⊎◌, ◌||◌, ◌++◌, ◌+◌, ◌-◌, ◌≤◌, ◌<◌}
use Rattle.lists.{specs.Kit.{refl, sym, ap, ◌∙◌, inl, inr, Bool, true, false, cond, List, ℕ, min, arith, add-zero}}
use Rattle.lists.{specs.Kit.{ltb, leb, eqb, length, get_or, drop, take, paste, sets, sets-eq, ltb-true, leb-true, leb-false, eqb-true, eqb-false, lt-ltb, le-leb}}
use Rattle.lists.{specs.Kit.{eq-eqb, ne_eqb, not-true}, specs.Lists.{all, filter, In}, proofs.All.{all_in}, proofs.Filter.{filter_all}}
use Rattle.lists.{proofs.Tests.{bool_cases, iff_eq}}
use Rattle.mesh.specs.{Limits.{max_radios}, Graph.{Graph}, Cores.{number}, Tables.{tables, graph_in}, Peel.{none}}
use Rattle.plan.specs.{Plans.{Ready, Planned}, Turns.{ends_counted, fits_linked, stays_linked}, Places.{level_start, level_size}, Peels.{stretch}}
use Rattle.plan.specs.{Peels.{PeelDone}}
use Rattle.plan.proofs.{StretchLoops.{length_stretch}, PlanLevel.{level_is, stretch_fits, stretch_number, order_radios}, PlanStart.{counter_a}}
use Rattle.plan.proofs.{PlanStart.{counter_b, counter_other, counted_stretch}, PlanEnd.{plan_end}}
use Rattle.plan.specs.Turns.{call_of}
use Rattle.plan.specs.Plans.{plan_of}

-- ---- which radios fit with the link

module _ (a b m v c : ℕ) where
  one_more : ltb c m ≡ leb (c + 1) m
  one_more =
      iff_eq (ltb c m) (leb (c + 1) m) (λ h. le-leb (c + 1) m (omega (arith, ltb-true c m h))) (λ h. lt-ltb c m (omega (arith, leb-true (c + 1) m h)))

  pub fits_a : v ≡ a → ltb c m ≡ fits_linked a b m v c
  unfolding fits_linked
  fits_a e = rw (eq-eqb v a e) one_more

  pub fits_b : (v ≡ a → ⊥) → v ≡ b → ltb c m ≡ fits_linked a b m v c
  unfolding fits_linked
  fits_b d e = rw (ne_eqb v a d, eq-eqb v b e) one_more

  pub fits_other : (v ≡ a → ⊥) → (v ≡ b → ⊥) → leb c m ≡ fits_linked a b m v c
  unfolding fits_linked
  fits_other d e = rw (ne_eqb v a d, ne_eqb v b e, add-zero c)

-- ---- the plan

module _ {a b : ℕ} {ts ns os ps cs : List ℕ} (r : Ready true (length os) a b (tables ts ns os) ps cs) (k : ℕ) (ek : k ≡ min (get_or ns a 0) (get_or ns b 0)) where
  abbrev n : ℕ
  n = length os

  abbrev g : Graph
  g = graph_in n ts

  abbrev start : ℕ
  start = level_start ns k

  abbrev size : ℕ
  size = level_size ns k

  abbrev level : List ℕ
  level = stretch os start size

  -- the counters once both ends are counted up
  abbrev cs1 : List ℕ
  cs1 = ends_counted true a b k ns cs

  counter_linked : (v : ℕ) → In v level → stays_linked a b k cs v ≡ true → k < get_or cs1 v 0
  unfolding stays_linked fits_linked
  counter_linked v i h = go (bool_cases (eqb v a)) (bool_cases (eqb v b)) (leb-false (get_or cs v 0 + cond (eqb v a || eqb v b) 1 0) k (not-true _ h))
    where
      at_level : (v < n) × (number g v ≡ k)
      at_level = stretch_number r k v i

      go : (eqb v a ≡ true) ⊎ (eqb v a ≡ false) → (eqb v b ≡ true) ⊎ (eqb v b ≡ false) → k < get_or cs v 0 + cond (eqb v a || eqb v b) 1 0 → k < get_or cs1 v 0
      go (inl e) y l =
          let same = eqb-true v a e in
          omega (arith, rw e at l, counter_a r k ek (rw same at at_level.1), ap (λ (x : ℕ). get_or cs1 x 0) same, ap (λ (x : ℕ). get_or cs x 0) same)
      go (inr e) (inl d) l =
          let same = eqb-true v b d in
          omega (arith, rw (e, d) at l, counter_b r k ek (rw same at at_level.1), ap (λ (x : ℕ). get_or cs1 x 0) same, ap (λ (x : ℕ). get_or cs x 0) same)
      go (inr e) (inr d) l = omega (arith, rw (e, d) at l, counter_other r k ek v (eqb-false v a e) (eqb-false v b d))

  module _ (whole : all (stays_linked a b k cs) level ≡ true) where
    above : (v : ℕ) → In v level → k < get_or cs1 v 0
    above v i = counter_linked v i (all_in (stays_linked a b k cs) level whole v i)

    stuck_all : filter (λ v. ltb k (get_or cs1 v 0)) level ≡ level
    stuck_all = filter_all (λ v. ltb k (get_or cs1 v 0)) level (λ v i. lt-ltb k (get_or cs1 v 0) (above v i))

    done : (list : List ℕ) → PeelDone (call_of true a b k k) ts ns os 0 cs1 list
    done list = record {
      fits = omega arith;
      peels = rw stuck_all (record { takes = none; full = λ v i. omega (arith, above v i, counted_stretch r k ek v i) });
    }

    whole_plan : (list1 list2 : List ℕ) → length list1 ≡ max_radios → list2 ≡ paste list1 0 (drop start os) size
        → Planned true a b g os (plan_of start size 0) list2
    whole_plan list1 list2 room e =
        plan_end r true a b k k start size 0 cs1 list1 list2 refl refl refl (ek ∙ level_is r) (ek ∙ level_is r) refl refl (done list1) room (e ∙ written)
      where
        written : paste list1 0 (drop start os) size ≡ sets list1 0 (filter (λ v. ltb k (get_or cs1 v 0)) level)
        written =
            rw stuck_all
            (ap (λ (x : ℕ). take 0 list1 ++ level ++ drop (0 + x) list1) (sym (length_stretch os start size (stretch_fits r k)))
            ∙ sym (sets-eq level list1 0 (omega (arith, length_stretch os start size (stretch_fits r k), stretch_fits r k, r.small, room))))

  -- as the code names its values
  pub whole_lent : (from many : ℕ) → (from ≡ level_start ns k) × (many ≡ level_size ns k) → (t : Bool)
      → t ≡ all (stays_linked a b k cs) (stretch os from many) → t ≡ true → (list1 list2 : List ℕ) → length list1 ≡ max_radios
      → list2 ≡ paste list1 0 (drop from os) (from + many - from) → Planned true a b g os (plan_of from many 0) list2
  whole_lent from many at t et h list1 list2 room e =
      let same : from + many - from ≡ many = omega arith in
      rw (at.0, at.1)
      (whole_plan (rw (at.0, at.1) at (sym et ∙ h)) list1 list2 room (rw (at.0, at.1) at (e ∙ ap (λ (x : ℕ). paste list1 0 (drop from os) x) same)))

  -- the stretch has its entries, and room in a list
  pub stretch_known : (from many : ℕ) → (from ≡ level_start ns k) × (many ≡ level_size ns k)
      → (from + many ≤ length os) × (from + many ≤ max_radios) × ((p : ℕ) → p < length os → get_or os p 0 < max_radios)
  stretch_known from many at = (
    omega (arith, at.0, at.1, stretch_fits r k),
    omega (arith, at.0, at.1, stretch_fits r k, r.small),
    λ p l. omega (arith, order_radios r p l, r.small),
  )
