-- What a plan comes to: the taken, then the stuck, are document 01's layout of the stretch, and one part of them the changed radios.
use Rattle.std.specs.Prelude.{◌≡◌, ◌⊎◌, ◌++◌, ◌+◌, ◌≤◌, ◌<◌}
use Rattle.lists.{specs.Kit.{refl, sym, ap, ap₂, subst, ◌∙◌, inl, inr, Bool, true, false, cond, List, [], append_assoc, ℕ}}
use Rattle.lists.{specs.Kit.{arith, ltb, length, get_or, take, drop, length-append, take-append-drop, paste, paste-zero, drop-drop, sets, sets-eq, length-sets}}
use Rattle.lists.{specs.Kit.{take_at, drop_at, take-take, get_or-take, length-take-le}, specs.Lists.{filter, member, In}, proofs.Member.{in_cases, in_get_d}}
use Rattle.lists.{proofs.Count.{count_all}}
use Rattle.mesh.{specs.Limits.{max_neighbours, max_radios}, specs.Graph.{Graph, linked, relinked}, specs.Cores.{number}, specs.Levels.{changed, lower_level}}
use Rattle.mesh.{specs.Levels.{new_stretch, with_stretch, new_order}, specs.Tables.{tables, graph_in}, proofs.Links.LevelCut.{mids, highs}, specs.Peel.{bound}}
use Rattle.mesh.{specs.Peel.{Takes, none, Peels}, proofs.Links.Peel.{Peeling, takes_permutation, takes_taken_in, takes_now_in}}
use Rattle.plan.specs.{Plans.{Ready, Planned, plan_of}, Planned.{changed_part}, Places.{level_start, level_size}, Peels.{stretch, above, PeelDone}}
use Rattle.plan.proofs.{StretchLoops.{length_stretch}, PlanLevel.{is_valid, start_is, size_is, stretch_is, above_is, stretch_fits, stretch_number}}
use Rattle.plan.specs.Turns.{call_of}
use Rattle.mesh.proofs.Links.Call as link_call

module _ {u : Bool} {a b : ℕ} {ts ns os ps cs : List ℕ} (r : Ready u (length os) a b (tables ts ns os) ps cs) where
  abbrev n : ℕ
  n = length os

  abbrev g : Graph
  g = graph_in n ts

  abbrev after : Graph
  after = relinked u a b g

  abbrev K : ℕ
  K = lower_level g a b

  abbrev start : ℕ
  start = level_start ns K

  abbrev size : ℕ
  size = level_size ns K

  abbrev level : List ℕ
  level = stretch os start size

  module _ (taken : ℕ) (cs1 list1 list2 : List ℕ) (done : PeelDone (call_of u a b K (bound u K)) ts ns os taken cs1 list1) (room : length list1 ≡ max_radios)
      (written : list2 ≡ sets list1 taken (filter (λ v. ltb (bound u K) (get_or cs1 v 0)) level)) where
    abbrev first : List ℕ
    first = take taken list1

    abbrev stuck : List ℕ
    stuck = filter (λ v. ltb (bound u K) (get_or cs1 v 0)) level

    peel : Peeling (linked after) (bound u K) (highs (number g) K os) (mids (number g) K os)
    peel = record {
      taken = first;
      stuck = stuck;
      peels = subst (λ (z : List ℕ). Peels (linked after) (bound u K) z (mids (number g) K os) first stuck) (above_is r K)
          (subst (λ (z : List ℕ). Peels (linked after) (bound u K) (above os start size) z first stuck) (stretch_is r K) done.peels);
    }

    first_length : length first ≡ taken
    first_length = length-take-le taken list1 (omega (arith, done.fits, stretch_fits r K))

    both_length : length (first ++ stuck) ≡ size
    both_length =
        omega (
          arith,
          takes_permutation (linked after) (bound u K) (above os start size) done.peels.takes (λ x. true),
          count_all level,
          count_all (first ++ stuck),
          length_stretch os start size (stretch_fits r K),
        )

    front : take size list2 ≡ first ++ stuck
    front =
        ap (take size) (written ∙ sets-eq stuck list1 taken (omega (arith, both_length, length-append first stuck, first_length, stretch_fits r K)))
        ∙ take_at (first ++ stuck) (drop (taken + length stuck) list1) size both_length

    front_taken : take taken list2 ≡ first
    front_taken = sym (take-take taken size list2 done.fits) ∙ ap (take taken) front ∙ take_at first stuck taken first_length

    front_stuck : drop taken (take size list2) ≡ stuck
    front_stuck = ap (drop taken) front ∙ drop_at first stuck taken first_length

    part_is : (w : Bool) → cond w stuck first ≡ cond w (drop taken (take size list2)) (take taken list2)
    part_is true = sym front_stuck
    part_is false = sym front_taken

    front_in : (v : ℕ) → In v (first ++ stuck) → v < n
    front_in v i = go (in_cases v first stuck i)
      where
        go : In v first ⊎ In v stuck → v < n
        go (inl m) = (stretch_number r K v (takes_taken_in (linked after) (bound u K) (above os start size) done.peels.takes v m)).0
        go (inr m) = (stretch_number r K v (takes_now_in (linked after) (bound u K) (above os start size) done.peels.takes v m)).0

    room_after : length list2 ≡ max_radios
    room_after = ap length written ∙ length-sets list1 taken stuck ∙ room

    long_list : n ≤ length list2
    long_list = omega (arith, room_after, r.small)

    stretch_laid : take size list2 ≡ new_stretch u after K (changed u a b g) level (above os start size)
    unfolding peel
    stretch_laid =
        front
        ∙ sym (link_call.new_stretch_is max_neighbours u a b g os (is_valid r) r.allowed peel)
        ∙ sym (ap₂ (λ (xs ys : List ℕ). new_stretch u after K (changed u a b g) xs ys) (stretch_is r K) (above_is r K))

    plan_at : Planned u a b g os (plan_of start size taken) list2
    unfolding changed_part graph_in peel new_order with_stretch
    plan_at = record {
      fits = stretch_fits r K;
      room = room_after;
      long = omega (arith, stretch_fits r K, long_list);
      taken_fits = done.fits;
      laid = rw (← start_is r K, ← size_is r K, ← stretch_laid) (append_assoc (take start os) (take size list2) (drop (start + size) os));
      changed_is = λ v l. link_call.changed_part max_neighbours u a b g os (is_valid r) r.allowed peel v l ∙ ap (member v) (part_is u);
      radios = λ i l. rw (sym (get_or-take size list2 i 0 l) ∙ ap (λ (xs : List ℕ). get_or xs i 0) front)
          (front_in (get_or (first ++ stuck) i 0) (in_get_d (first ++ stuck) i (omega (arith, both_length))));
    }

    -- ---- nothing taken going down: nothing moves, nothing falls

    level_stuck : taken ≡ 0 → level ≡ stuck
    level_stuck z = takes_none (subst (λ (x : ℕ). Takes (linked after) (bound u K) (above os start size) level (take x list1) stuck) z done.peels.takes)
      where
        takes_none : {f : ℕ → ℕ → Bool} {m : ℕ} {others left now : List ℕ} → Takes f m others left [] now → left ≡ now
        takes_none none = refl

    laid_unmoved : taken ≡ 0 → paste os start list2 size ≡ os
    laid_unmoved z =
        ap (λ (xs : List ℕ). take start os ++ xs ++ drop (start + size) os) (front ∙ ap (λ (x : ℕ). take x list1 ++ stuck) z ∙ sym (level_stuck z))
        ∙ append_assoc (take start os) level (drop (start + size) os)
        ∙ ap (λ (xs : List ℕ). take start os ++ (level ++ xs)) (sym (drop-drop size start os))
        ∙ ap (λ (xs : List ℕ). take start os ++ xs) (take-append-drop size (drop start os))
        ∙ take-append-drop start os

    unmoved_at : taken ≡ 0 → u ≡ false → Planned u a b g os (plan_of 0 0 taken) list1
    unfolding changed_part
    unmoved_at z d = record {
      fits = omega arith;
      room = room;
      long = omega arith;
      taken_fits = omega (arith, z);
      laid = sym (paste-zero os 0 list1) ∙ sym (laid_unmoved z) ∙ plan_at.laid;
      changed_is = λ v l. plan_at.changed_is v l ∙ ap (member v) (nobody u taken z d);
      radios = λ i l. absurd (omega arith);
    }
      where
        nobody : (w : Bool) (t : ℕ) → t ≡ 0 → w ≡ false → changed_part w t size list2 ≡ changed_part w t 0 list1
        nobody w t z d = rw (d, z)

  -- as the code names its values
  pub plan_end : (w : Bool) (x y k m from many taken : ℕ) (cs1 list1 list2 : List ℕ) → w ≡ u → x ≡ a → y ≡ b → k ≡ K → m ≡ bound u K
      → from ≡ level_start ns k → many ≡ level_size ns k → PeelDone (call_of w x y k m) ts ns os taken cs1 list1 → length list1 ≡ max_radios
      → list2 ≡ sets list1 taken (filter (λ v. ltb m (get_or cs1 v 0)) (stretch os from many)) → Planned u a b g os (plan_of from many taken) list2
  plan_end w x y k m from many taken cs1 list1 list2 ew ex ey ek em es ez done room written =
      let fs : from ≡ start = es ∙ ap (level_start ns) ek in
      let fz : many ≡ size = ez ∙ ap (level_size ns) ek in
      rw (fs, fz) (plan_at taken cs1 list1 list2 (rw (ew, ex, ey, em, ek) at done) room (rw (fs, fz, em) at written))

  pub plan_unmoved : (w : Bool) (x y k m taken : ℕ) (cs1 list1 : List ℕ) → w ≡ u → x ≡ a → y ≡ b → k ≡ K → m ≡ bound u K
      → PeelDone (call_of w x y k m) ts ns os taken cs1 list1 → length list1 ≡ max_radios → taken ≡ 0 → u ≡ false
      → Planned u a b g os (plan_of 0 0 taken) list1
  plan_unmoved w x y k m taken cs1 list1 ew ex ey ek em done room z d =
      unmoved_at taken cs1 list1 (sets list1 taken (filter (λ v. ltb (bound u K) (get_or cs1 v 0)) level)) (rw (ew, ex, ey, em, ek) at done) room refl z d
