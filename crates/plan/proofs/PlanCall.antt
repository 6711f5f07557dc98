-- The facts that a plan's code hands from call to call, as the code names its values.
use Rattle.std.specs.Prelude.{◌≡◌, ◌+◌, ◌≤◌, ◌<◌}
use Rattle.lists.specs.{Kit.{ap, ◌∙◌, Bool, true, false, not, List, ℕ, min, arith, ltb, length, get_or, replicate, length-replicate, sets}}
use Rattle.lists.specs.{Lists.{range, filter}}
use Rattle.mesh.{specs.Limits.{max_radios}, specs.Graph.{linked}, specs.Tables.{tables, graph_in}, proofs.GraphLaws.{linked_sym}}
use Rattle.mesh.{proofs.Links.Call.{linked_positive}, specs.Peel.{bound}}
use Rattle.plan.specs.{Plans.{Ready, Planned}, Turns.{ends_counted, places_fitting, BeginReady}, Places.{level_start, level_size}, Peels.{stretch}}
use Rattle.plan.specs.{Peels.{PeelReady, PeelDone}}
use Rattle.plan.proofs.{PlanLevel.{a_below, b_below, number_is, order_radios, level_is, stretch_fits}, PlanStart.{begin_ready, peel_ready}}
use Rattle.plan.proofs.{PlanEnd.{plan_end}}
use Rattle.plan.specs.Turns.{call_of}
use Rattle.plan.specs.Plans.{plan_of}
use Rattle.rows.proofs.SetLaws.{in_set_zeros}

module _ {u : Bool} {a b : ℕ} {ts ns os ps cs : List ℕ} (r : Ready u (length os) a b (tables ts ns os) ps cs) where
  abbrev lower : ℕ
  lower = min (get_or ns a 0) (get_or ns b 0)

  pub plan_level : (a < length ns) × (b < length ns) × (u ≡ false → 1 ≤ lower)
  unfolding graph_in
  plan_level = (omega (arith, a_below r, r.numbers_length), omega (arith, b_below r, r.numbers_length), positive)
    where
      positive : u ≡ false → 1 ≤ lower
      positive e =
          let h : linked (graph_in (length os) ts) a b ≡ true = r.allowed.state ∙ ap not e in
          omega (
            arith,
            number_is r a (a_below r),
            number_is r b (b_below r),
            linked_positive (graph_in (length os) ts) a b (a_below r) (b_below r) h,
            linked_positive (graph_in (length os) ts) b a (b_below r) (a_below r) (linked_sym (graph_in (length os) ts) b a ∙ h),
          )

  -- the call and its stretch, as `call_at` and `stretch_of` say them
  module _ {w : Bool} {x y k m from many : ℕ} (call : (w ≡ u) × (x ≡ a) × (y ≡ b) × (k ≡ lower) × (m ≡ bound u lower))
      (at : (from ≡ level_start ns k) × (many ≡ level_size ns k)) where
    pub plan_begin : BeginReady (call_of w x y k m) from many ns os cs
    plan_begin = rw (call.0, call.1, call.2, at.0, at.1) (begin_ready r k call.3 m)

    pub plan_peel : (cs1 fs1 : List ℕ) → (cs1 ≡ ends_counted w x y k ns cs)
        × (fs1 ≡ places_fitting os (ends_counted w x y k ns cs) m (range from many) (replicate 8 0))
        → PeelReady (call_of w x y k m) ts ns os ps cs1 fs1
    plan_peel cs1 fs1 e =
        rw (e.0, e.1, call.0, call.1, call.2, at.0, at.1)
        (peel_ready r k call.3 m (replicate 8 0) (length-replicate {A = ℕ} 8 0) (λ q lq. in_set_zeros 8 q))

    pub plan_stuck : (taken : ℕ) (cs2 list1 : List ℕ) → PeelDone (call_of w x y k m) ts ns os taken cs2 list1
        → (from + many ≤ length os) × (from + many ≤ max_radios) × (taken ≤ max_radios) × ((p : ℕ) → p < length os → get_or os p 0 < max_radios)
    plan_stuck taken cs2 list1 done =
        let fits : from + many ≤ length os = omega (arith, at.0, at.1, stretch_fits r k) in (
          fits,
          omega (arith, fits, r.small),
          omega (arith, done.fits, stretch_fits r k, r.small),
          λ p l. omega (arith, order_radios r p l, r.small),
        )

    pub plan_done : (taken : ℕ) (cs2 list1 list2 : List ℕ) → PeelDone (call_of w x y k m) ts ns os taken cs2 list1 → length list1 ≡ max_radios
        → list2 ≡ sets list1 taken (filter (λ v. ltb m (get_or cs2 v 0)) (stretch os from many))
        → Planned u a b (graph_in (length os) ts) os (plan_of from many taken) list2
    plan_done taken cs2 list1 list2 done room written =
        plan_end r w x y k m from many taken cs2 list1 list2 call.0 call.1 call.2 (call.3 ∙ level_is r) (call.4 ∙ ap (bound u) (level_is r)) at.0
        at.1
        done room written
