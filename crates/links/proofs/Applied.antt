-- A plan applied, on plain values: what is written is what an accepted link call comes to.
-- In order: laws of lists, a bound on numbers, the changed radios, the numbers, the order, the call.
use Rattle.std.specs.Prelude.{◌≡◌, ◌⊎◌, ◌&&◌, ◌∷◌, ◌+◌, ◌-◌, ◌≤◌, ◌<◌}
use Rattle.lists.{specs.Kit.{sym, ap, ap₂, ◌∙◌, inl, inr, Bool, true, false, not, List, [], ℕ, suc, arith, le_trans}}
use Rattle.lists.{specs.Kit.{eqb, ℤ, length, get_or, take, drop, length-drop, length-take-le, take_all, ext_get_or, get_or-take, get_or-drop}}
use Rattle.lists.{specs.Lists.{range, filter, member, overwrite, In, EntriesBelow}, specs.Facts.{Distinct}, proofs.Tests.{bool_cases, never, and_left}}
use Rattle.lists.{proofs.Member.{in_member, member_in, not_member, get_d_of_in}, proofs.Range.{range_in, length_range, distinct_range}}
use Rattle.lists.{proofs.Count.{count_mono, count_le_length}, proofs.Filter.{length_filter, filter_ext, distinct_filter, filter_range_within}}
use Rattle.lists.{proofs.Filter.{filter_member_filter}, proofs.Overwrite.{take_overwrite}}
use Rattle.mesh.{specs.Limits.{max_radios, max_neighbours}, specs.Graph.{Graph, radios, linked, degree, neighbours_among, neighbours_in, relinked, Allowed}}
use Rattle.mesh.{specs.Cores.{Group, number, numbers}, specs.Levels.{changed, step_of}, specs.Tables.{Tables, graph_in}, proofs.Cores.Peeling.{number_core}}
use Rattle.mesh.{proofs.Cores.Peeling.{length_numbers, get_d_numbers}, proofs.Links.Call.{unchanged_number}, proofs.Links.Laws.{link_by_one, link_valid}}
use Rattle.mesh.{specs.Valid.{Valid, smaller, larger}}
use Rattle.std.specs.Prelude.{Ok}
use Rattle.calls.specs.{Answers.{link_reply}, Switches.{switch, switched}, Outcomes.{reply, linked_with}, declared.Change.{Change}}
use Rattle.tables.{specs.Steps.{stepped, all_stepped}, proofs.StepLaws.{length_all_stepped, get_d_all_stepped_other, get_d_all_stepped_listed}}
use Rattle.plan.specs.{Plans.{Planned, Applicable, plan_of}, Planned.{changed_part}}
use Rattle.links.specs.Changes.{in_order, counted_step, PlanFits, Applied}
use Rattle.links.proofs.ChangeLaws.{counted_step_length}

-- ---- a bound on numbers

pub number_le_degree : (g : Graph) (v : ℕ) → v < g.n → number g v ≤ degree g v
unfolding Group neighbours_in degree neighbours_among radios linked
number_le_degree g v l =
    let c = number_core g v l in
    le_trans (c.is_group v l c.has)
    (count_mono (λ w. linked g v w && c.group w) (linked g v) (range 0 g.n) (λ w m h. and_left (linked g v w) (c.group w) h))

-- ---- the changed radios

pub entries_changed_part : (up : Bool) (k m : ℕ) (xs : List ℕ) (n : ℕ) → k ≤ m → m ≤ length xs → ((i : ℕ) → i < m → get_or xs i 0 < n)
    → EntriesBelow n (changed_part up k m xs)
unfolding changed_part
entries_changed_part true k m xs n h l small i p =
    let long : length (drop k (take m xs)) ≡ m - k = length-drop k (take m xs) ∙ ap (λ (x : ℕ). x - k) (length-take-le m xs l) in
    rw (get_or-drop k (take m xs) i 0, get_or-take m xs (k + i) 0 (omega arith)) (small (k + i) (omega arith))
entries_changed_part false k m xs n h l small i p =
    let q : i < k = omega (arith, length-take-le k xs (omega arith)) in rw (get_or-take k xs i 0 q) (small i (omega arith))

pub length_changed : (up : Bool) (a b : ℕ) (g : Graph) → length (changed up a b g) ≤ g.n
unfolding changed radios
length_changed up a b g =
    let f : ℕ → Bool = λ v. not (eqb (number g v) (number (relinked up a b g) v)) in
    omega (arith, length_filter f (range 0 g.n), count_le_length f (range 0 g.n), length_range 0 g.n)

distinct_changed : (up : Bool) (a b : ℕ) (g : Graph) → Distinct (changed up a b g)
unfolding changed radios
distinct_changed up a b g = distinct_filter (λ v. not (eqb (number g v) (number (relinked up a b g) v))) (range 0 g.n) (distinct_range 0 g.n)

-- radios below n of which the same are members
in_order_changed : (up : Bool) (a b : ℕ) (g : Graph) (cs : List ℕ) → g.n ≤ max_radios → EntriesBelow g.n cs
    → ((v : ℕ) → v < g.n → member v (changed up a b g) ≡ member v cs) → in_order cs ≡ changed up a b g
unfolding in_order changed radios
in_order_changed up a b g cs small below same =
    let f : ℕ → Bool = λ v. not (eqb (number g v) (number (relinked up a b g) v)) in
    filter_range_within (λ v. member v cs) g.n max_radios small
    (λ v h. not_member v cs (λ m. let r = get_d_of_in v cs m in omega (arith, below r.0 r.1, r.2)))
    ∙ filter_ext (λ v. member v cs) (λ v. member v (filter f (range 0 g.n))) (range 0 g.n)
    (λ v m. sym (same v (omega (arith, range_in 0 g.n v m))))
    ∙ filter_member_filter f (range 0 g.n)

-- ---- the numbers

stepped_by_one : (up : Bool) (a b : ℕ) (g : Graph) (v : ℕ) (cs : List ℕ) → In v cs → number (relinked up a b g) v ≤ 255
    → number (larger up a b g) v ≡ suc (number (smaller up a b g) v) → stepped (number g v) (step_of up cs) ≡ number (relinked up a b g) v
unfolding stepped step_of larger smaller
stepped_by_one up a b g v [] m h e = absurd m
stepped_by_one true a b g v (c ∷ cs) m h e = omega arith
stepped_by_one false a b g v (c ∷ cs) m h e = omega arith

numbers_stepped : (up : Bool) (a b : ℕ) (g : Graph) (xs : List ℕ) → Valid max_neighbours g xs → Allowed max_neighbours up a b g
    → all_stepped (changed up a b g) (step_of up (changed up a b g)) (numbers g) ≡ numbers (relinked up a b g)
unfolding relinked
numbers_stepped up a b g xs valid ok =
    ext_get_or 0 (all_stepped cs z (numbers g)) (numbers after)
    (length_all_stepped cs z (numbers g) ∙ length_numbers g ∙ sym (length_numbers after))
    (λ v h. let l : v < g.n = omega (arith, length_all_stepped cs z (numbers g), length_numbers g) in
    at v l (bool_cases (member v cs)) ∙ sym (get_d_numbers after v l))
  where
    cs : List ℕ
    cs = changed up a b g

    z : ℤ
    z = step_of up cs

    after : Graph
    after = relinked up a b g

    bounded : (v : ℕ) → v < g.n → number after v ≤ 255
    bounded v l = omega (arith, number_le_degree after v l, (link_valid max_neighbours up a b g xs valid ok).degrees v l)

    at : (v : ℕ) → v < g.n → (member v cs ≡ true) ⊎ (member v cs ≡ false) → get_or (all_stepped cs z (numbers g)) v 0 ≡ number after v
    at v l (inl e) =
        get_d_all_stepped_listed v cs z (numbers g) (distinct_changed up a b g) (member_in v cs e) (omega (arith, length_numbers g))
        ∙ ap (λ (x : ℕ). stepped x z) (get_d_numbers g v l)
        ∙ stepped_by_one up a b g v cs (member_in v cs e) (bounded v l) (link_by_one max_neighbours up a b g xs valid ok v e)
    at v l (inr e) =
        get_d_all_stepped_other v cs z (numbers g) (λ m. never (member v cs) (in_member v cs m) e)
        ∙ get_d_numbers g v l ∙ unchanged_number up a b g v l e

-- ---- the call

module _ (up : Bool) (n a b : ℕ) (t : Tables) (answer : List ℕ) (ok : Applicable up n a b t answer)
    (start size taken : ℕ) (stretch : List ℕ) (plan : Planned up a b (graph_in n t.links) t.order (plan_of start size taken) stretch) where
  abbrev g : Graph
  g = graph_in n t.links

  abbrev cs : List ℕ
  cs = changed up a b g

  entries_planned : EntriesBelow n (changed_part up taken size stretch)
  unfolding graph_in
  entries_planned = entries_changed_part up taken size stretch n plan.taken_fits plan.long plan.radios

  pub planned_fits : n ≤ length t.order → PlanFits start size taken (length stretch) (length t.order)
  unfolding graph_in
  planned_fits long = record { taken_fits = plan.taken_fits; long = plan.long; fits = omega (arith, plan.fits) }

  pub in_order_planned : in_order (changed_part up taken size stretch) ≡ cs
  unfolding graph_in
  in_order_planned = in_order_changed up a b g (changed_part up taken size stretch) ok.small entries_planned plan.changed_is

  pub fits_answer : take (length answer) cs ≡ cs
  unfolding graph_in
  fits_answer = take_all (length answer) cs (omega (arith, ok.room, length_changed up a b g))

  -- what is applied of the plan, r what it changed, v the tables after, x the answer table after
  pub applied_accepted : (r : Change) (v : Tables) (x : List ℕ) → Applied up a b start size taken stretch t answer r v x
      → linked_with (link_reply (Ok r)) v x ≡ linked_with (reply 0 (step_of up cs) (length cs)) (switched n (switch up a b) t) (overwrite cs answer)
  unfolding switched
  applied_accepted r v x d =
      let many : r.count ≡ length cs = d.count ∙ ap length in_order_planned in
      let way : r.step ≡ step_of up cs = d.step ∙ ap (counted_step up) many ∙ counted_step_length up cs in
      let listed : x ≡ overwrite cs answer =
      d.answer_is ∙ ap (λ (ys : List ℕ). overwrite ys answer) (ap (take (length answer)) in_order_planned ∙ fits_answer) in
      let front : take r.count x ≡ cs = ap₂ take many listed ∙ take_overwrite cs answer in
      let numbered : v.numbers ≡ numbers (relinked up a b g) =
      d.numbers ∙ rw (front, way, ok.numbered) (numbers_stepped up a b g t.order ok.valid ok.allowed) in
      rw (way, many, d.links, numbered, d.order ∙ plan.laid, listed)
