-- A link taken up or down on tables that are known to be sound, on plain values.
-- In order: what is known of prepared tables, the plan, what it is applied to, the counts that stay, the tables after.
use Rattle.std.specs.Prelude.{◌≡◌, ◌⊎◌, ◌&&◌, ◌+◌, ◌*◌, ◌≤◌, ◌<◌}
use Rattle.lists.{specs.Kit.{refl, sym, ap, subst, ◌∙◌, inl, inr, Bool, true, false, cond, List, ℕ, arith, ltb, leb}}
use Rattle.lists.{specs.Kit.{length, get_or, take, ltb-true, ltb-false}, specs.Lists.{range, count, member, In}, specs.Facts.{EachOnce}}
use Rattle.lists.{proofs.Tests.{bool_cases, never, and_left, and_right}, proofs.Member.{in_get_d, in_member, not_member, member_in}, proofs.Count.{count_ext}}
use Rattle.lists.{proofs.Range.{once_below, once_distinct}, proofs.Overwrite.{take_overwrite}}
use Rattle.mesh.{specs.Limits.{max_radios, max_neighbours, row_bytes}, specs.Graph.{Graph, relinked, Allowed}}
use Rattle.mesh.{specs.Levels.{changed}, specs.Tables.{Tables, marked, graph_in}, specs.Sound.{number_in, rows_proper, sound}}
use Rattle.mesh.{proofs.Cores.Peeling.{get_d_numbers}, proofs.Cores.KOrders.{k_order_certificate}, proofs.Links.Call.{changed_below, unchanged_number}}
use Rattle.mesh.{proofs.Tables.Rows.{symmetric_of, within_of, few_of}}
use Rattle.calls.{specs.Questions.{lengths_of, size_good, site_lengths, ends_refusal}, specs.Switches.{switch, switched}}
use Rattle.calls.specs.declared.{Reply.{Reply}, Change.{Change}}
use Rattle.calls.{proofs.QuestionLaws.{size_good_true, site_lengths_true}, proofs.ChainLaws.{site_zero, ends_zero}, specs.Outcomes.{Linked}}
use Rattle.calls.{proofs.SoundSwitches.{Good}}
use Rattle.calls.{proofs.SoundSwitches.{good_valid, switched_good}}
use Rattle.rows.{specs.Rows.{neighbours_of}, proofs.RowListLaws.{in_neighbours_of, member_neighbours_of, length_neighbours_of}}
use Rattle.conditions.specs.Conditions.{Placed, NotLower, high_count}
use Rattle.soundness.{specs.Checks.{fits_sound, Asked}, proofs.SoundSite.{SoundSite, fits_sound_site, site_good_fits}}
use Rattle.soundness.{proofs.SoundSite.{site_good_sound, number_entry}}
use Rattle.links.specs.{Changes.{PlanFits, Applied}, Steps.{Prepared, StepReady, ChangedBy, Carried, Stepped, places_put, around, touched, recounted}}
use Rattle.links.specs.{Steps.{RowsKnown}}
use Rattle.plan.{specs.Plans.{Ready, Planned, Applicable, plan_of}, proofs.Asking.{right_of, ready_of}, proofs.NearLaws.{neighbours_of_other}}
use Rattle.links.proofs.{Applied.{applied_accepted, length_changed}, PlacesLaws.{get_d_paste_outside, length_places_put, placed_again}}
use Rattle.links.proofs.{CountLaws.{touched_ends, touched_around, get_d_recounted, length_recounted}}

-- ---- what is known of prepared tables

pub fits_good : (n : ℕ) (t : Tables) → fits_sound n t ≡ true → Good n t
unfolding fits_sound
fits_good n t h =
    let size = and_left (size_good n) (site_lengths n (lengths_of t) && sound n t) h in
    let rest = and_right (size_good n) (site_lengths n (lengths_of t) && sound n t) h in
    record {
      lent = record {
        least = (size_good_true n size).0;
        most = (size_good_true n size).1;
        lengths = site_lengths_true n (lengths_of t) (and_left (site_lengths n (lengths_of t)) (sound n t) rest);
        further = refl;
      };
      is_sound = and_right (site_lengths n (lengths_of t)) (sound n t) rest;
    }

-- questions 1 to 3 got yes, and what they found is at hand
pub prepared_asked : (n : ℕ) (t : Tables) (others : Bool) (ps hs : List ℕ) (q : ℕ) → Asked n t others ps hs q → q ≡ 0 → length ps ≡ max_radios
    → length hs ≡ max_radios → Prepared n t ps hs
prepared_asked n t others ps hs q asked zero lp lh = record {
  good = site_good_fits n t others (site_zero n (lengths_of t) others (sound n t) 0 (sym asked.number ∙ zero)).0;
  places_length = lp;
  not_lower_length = lh;
  placed = asked.placed zero;
  counted = asked.counts zero;
}

-- rows that can be counted
pub rows_known : (n : ℕ) (t : Tables) → SoundSite n t → RowsKnown n t.links t.numbers
rows_known n t s = record {
  small = s.small;
  links_length = s.links_long;
  numbers_length = s.numbers_long;
  few = λ v l. omega (arith, length_neighbours_of t.links v, few_of max_neighbours n t.links s.few v l);
  radios = λ v w l i. let m = in_neighbours_of t.links v w i in below v w l m.0 m.1 (bool_cases (ltb w n));
}
  where
    below : (v w : ℕ) → v < n → w < max_radios → marked t.links v w ≡ true → (ltb w n ≡ true) ⊎ (ltb w n ≡ false) → w < n
    below v w l lw m (inl e) = ltb-true w n e
    below v w l lw m (inr e) = never (marked t.links v w) m (within_of n t.links s.within v w l (ltb-false w n e) lw)

module _ {up : Bool} {n a b : ℕ} {t : Tables} {places not_lower : List ℕ} (k : StepReady up n a b t places not_lower) where
  abbrev g : Graph
  g = graph_in n t.links

  good : Good n t
  good = fits_good n t k.prepared.good

  site : SoundSite n t
  site = fits_sound_site n t k.prepared.good

  allowed : Allowed max_neighbours up a b g
  unfolding graph_in
  allowed = ends_zero max_neighbours up a b g k.asked

  -- ---- the plan

  pub step_plan : Ready up n a b t places not_lower
  step_plan =
      let p = k.prepared in
      let lp : max_radios ≤ length places = omega (arith, p.places_length) in
      let lh : max_radios ≤ length not_lower = omega (arith, p.not_lower_length) in
      ready_of up n a b t true good places not_lower p.placed p.counted lp lh k.asked

  -- a site is small
  pub step_small : n ≤ max_radios
  step_small = good.lent.most

  -- ---- what it is applied to

  applicable : (answer : List ℕ) → length answer ≡ max_radios → Applicable up n a b t answer
  applicable answer room = record {
    small = good.lent.most;
    valid = good_valid n t good;
    numbered = site.numbers;
    allowed = allowed;
    room = omega (arith, good.lent.most);
  }

  -- what applying the plan wants
  pub step_fits : (start size taken : ℕ) (stretch : List ℕ) → Planned up a b g t.order (plan_of start size taken) stretch
      → PlanFits start size taken (length stretch) (length t.order)
  unfolding lengths_of graph_in
  step_fits start size taken stretch plan =
      record { taken_fits = plan.taken_fits; long = plan.long; fits = omega (arith, plan.fits, good.lent.lengths.order) }

  pub step_changed : (start size taken : ℕ) (stretch : List ℕ) → Planned up a b g t.order (plan_of start size taken) stretch → (answer : List ℕ) → length
      answer ≡ max_radios
      → (r : Change) (v : Tables) (x : List ℕ) → Applied up a b start size taken stretch t answer r v x → ChangedBy up n a b t v r.count x start size
  unfolding switched lengths_of graph_in
  step_changed start size taken stretch plan answer room r v x d =
      let ok = applicable answer room in
      let l = applied_accepted up n a b t answer ok start size taken stretch plan r v x d in
      record {
        tables = ap (λ (o : Linked Reply). o.tables) l;
        counted = ap (λ (o : Linked Reply). o.reply.count) l;
        listed = ap (λ (o : Linked Reply). take o.reply.count o.lent) l ∙ take_overwrite (changed up a b g) answer;
        part_fits = plan.fits;
        unmoved = λ p o. ap (λ (xs : List ℕ). get_or xs p 0) (ap (λ (o : Linked Reply). o.tables.order) l ∙ sym plan.laid)
            ∙ get_d_paste_outside t.order start stretch size p (omega (arith, plan.fits, good.lent.lengths.order)) plan.long o;
      }

  -- ---- the tables after

  abbrev after : Tables
  after = switched n (switch up a b) t

  good_after : Good n after
  good_after = switched_good n t good (switch up a b) allowed

  site_after : SoundSite n after
  site_after = site_good_sound n after true good_after

  abbrev cs : List ℕ
  cs = changed up a b g

  -- a radio that is no end, has not changed and is no neighbour of one that has keeps its count
  kept_count : (v : ℕ) → v < n → (v ≡ a → ⊥) → (v ≡ b → ⊥) → ((w : ℕ) → In w cs → In v (around after.links w) → ⊥)
      → high_count t.numbers v (neighbours_of t.links v) ≡ high_count after.numbers v (neighbours_of after.links v)
  unfolding high_count switched graph_in relinked
  kept_count v l na nb far =
      count_ext (λ w. leb (number_in t.numbers v) (number_in t.numbers w)) (λ w. leb (number_in after.numbers v) (number_in after.numbers w))
      (neighbours_of t.links v)
      (λ w i. rw (same v l (λ m. far v m (inl refl)), same w (near w i) (λ m. far w m (inr (mirrored w i)))))
      ∙ ap (count (λ w. leb (number_in after.numbers v) (number_in after.numbers w))) rows
    where
      rows : neighbours_of t.links v ≡ neighbours_of after.links v
      rows =
          neighbours_of_other up a b t.links allowed.differ (omega (arith, allowed.a_radio, site.small)) (omega (arith, allowed.b_radio, site.small))
          (omega (arith, allowed.a_radio, site.links_long)) (omega (arith, allowed.b_radio, site.links_long)) v na nb

      near : (w : ℕ) → In w (neighbours_of t.links v) → w < n
      near w i = (rows_known n t site).radios v w l i

      mirrored : (w : ℕ) → In w (neighbours_of t.links v) → In v (neighbours_of after.links w)
      mirrored w i =
          let m = in_neighbours_of after.links v w (subst (In w) rows i) in
          let lv : v < max_radios = omega (arith, site.small) in
          member_in v (neighbours_of after.links w)
          (member_neighbours_of after.links w v lv ∙ symmetric_of n after.links site_after.symmetric w v (near w i) l ∙ m.1)

      same : (w : ℕ) → w < n → (In w cs → ⊥) → number_in t.numbers w ≡ number_in after.numbers w
      same w lw not =
          number_entry n t site w lw
          ∙ unchanged_number up a b g w lw (not_member w cs not)
          ∙ sym (get_d_numbers (relinked up a b g) w lw)

  counts_after : (new : List ℕ) → new ≡ recounted after.links after.numbers (touched a b cs after.links) not_lower
      → NotLower n after.links after.numbers new
  unfolding graph_in
  counts_after new e = record { at = λ v l. ap (λ (hs : List ℕ). get_or hs v 0) e ∙ count_of v l }
    where
      ts : List ℕ
      ts = after.links

      untouched : (v : ℕ) → v < max_radios → (member v (touched a b cs ts) ≡ false)
          → (v ≡ a → ⊥) × (v ≡ b → ⊥) × ((w : ℕ) → In w cs → In v (around ts w) → ⊥)
      untouched v lv f = (
        λ q. never (member v (touched a b cs ts)) (touched_ends a b cs ts v lv (inl q)) f,
        λ q. never (member v (touched a b cs ts)) (touched_ends a b cs ts v lv (inr q)) f,
        λ w i j. never (member v (touched a b cs ts)) (touched_around a b cs ts w v lv i j) f,
      )

      either : (v : ℕ) → v < n → (m : Bool) → member v (touched a b cs ts) ≡ m
          → cond m (high_count after.numbers v (neighbours_of ts v)) (get_or not_lower v 0) ≡ high_count after.numbers v (neighbours_of ts v)
      either v l true f = refl
      either v l false f =
          let u = untouched v (omega (arith, site.small)) f in
          k.prepared.counted.at v l ∙ kept_count v l u.0 u.1 u.2

      count_of : (v : ℕ) → v < n
          → get_or (recounted ts after.numbers (touched a b cs ts) not_lower) v 0 ≡ high_count after.numbers v (neighbours_of ts v)
      count_of v l =
          get_d_recounted ts after.numbers v (touched a b cs ts) not_lower (omega (arith, k.prepared.not_lower_length, site.small))
          ∙ either v l (member v (touched a b cs ts)) refl

  -- as the code names its values: v are the tables after the change, k the count of changed radios, which stand in front of `list`
  module _ (v : Tables) (many : ℕ) (list : List ℕ) (start size : ℕ) (d : ChangedBy up n a b t v many list start size) where
    list_is : take many list ≡ cs
    list_is = d.listed

    -- as many radios as a site may have at most
    pub changed_few : many ≤ max_radios
    unfolding graph_in
    changed_few = omega (arith, d.counted, length_changed up a b g, site.small)

    changed_radios : (i : ℕ) → i < length (take many list) → get_or (take many list) i 0 < n
    unfolding graph_in
    changed_radios i l = rw list_is (changed_below up a b g _ (in_member _ cs (in_get_d cs i (rw list_is at l))))

    numbers_length : length v.numbers ≡ n
    numbers_length = ap (λ (o : Tables). length o.numbers) d.tables ∙ site_after.numbers_long

    -- what counting anew wants
    pub renew_ready : RowsKnown (length v.numbers) v.links v.numbers × (length v.numbers ≤ length not_lower) × (a < length v.numbers) ×
        (b < length v.numbers)
        × ((i : ℕ) → i < length (take many list) → get_or (take many list) i 0 < length v.numbers)
    unfolding graph_in
    renew_ready =
        let rows : RowsKnown n v.links v.numbers = subst (λ (o : Tables). RowsKnown n o.links o.numbers) (sym d.tables)
        (rows_known n after site_after) in (
          subst (λ (m : ℕ). RowsKnown m v.links v.numbers) (sym numbers_length) rows,
          omega (arith, numbers_length, k.prepared.not_lower_length, site.small),
          omega (arith, numbers_length, allowed.a_radio),
          omega (arith, numbers_length, allowed.b_radio),
          λ i l. omega (arith, numbers_length, changed_radios i l),
        )

    order_once : EachOnce n v.order
    unfolding graph_in
    order_once =
        rw (ap (λ (o : Tables). o.order) d.tables)
        (k_order_certificate (graph_in n after.links) after.order (good_valid n after good_after).k_order).once

    order_length : length v.order ≡ n
    unfolding lengths_of
    order_length = ap (λ (o : Tables). length o.order) d.tables ∙ good_after.lent.lengths.order

    order_known : (p : ℕ) → p < n → get_or v.order p 0 < max_radios
    order_known p l =
        omega (arith, once_below n v.order order_once (get_or v.order p 0) (in_get_d v.order p (omega (arith, order_length))), site.small)

    -- what putting places wants
    pub put_ready : (start + size ≤ length v.order) × (length v.order ≤ max_radios) × ((p : ℕ) → p < length v.order → get_or v.order p 0 < max_radios)
    put_ready = (omega (arith, d.part_fits, order_length), omega (arith, order_length, site.small), λ p l. order_known p (omega (arith, order_length)))

    -- the tables after, prepared again
    pub step_carried : (p : List ℕ) → p ≡ places_put v.order (range start size) places
        → (h : List ℕ) → h ≡ recounted v.links v.numbers (touched a b (take many list) v.links) not_lower → Carried up n a b t v p h
    step_carried p f h e =
        let again : Placed n v.order p =
        rw f (placed_again n t.order v.order places start size (once_distinct n v.order order_once) order_length d.part_fits
        (λ q l. omega (arith, order_known q l, k.prepared.places_length)) d.unmoved k.prepared.placed) in
        let is : h ≡ recounted after.links after.numbers (touched a b cs after.links) not_lower =
        e ∙ rw (list_is, d.tables) in
        record {
          tables = d.tables;
          prepared = subst (λ (o : Tables). Prepared n o p h) (sym d.tables) (record {
            good = site_good_fits n after true good_after;
            places_length = ap length f ∙ length_places_put v.order (range start size) places ∙ k.prepared.places_length;
            not_lower_length = ap length is ∙ length_recounted after.links after.numbers _ not_lower ∙ k.prepared.not_lower_length;
            placed = subst (λ (o : Tables). Placed n o.order p) d.tables again;
            counted = counts_after h is;
          });
        }

-- ---- a step

module _ (up : Bool) (n a b : ℕ) (t : Tables) (places not_lower : List ℕ) (k : Prepared n t places not_lower) (r : ℕ)
    (asked : r ≡ ends_refusal max_neighbours up n a b (graph_in n t.links)) where
  order_long : length t.order ≡ n
  unfolding lengths_of
  order_long = (fits_good n t k.good).lent.lengths.order

  pub step_refused : (r ≡ 0 → ⊥) → Stepped up n a b t r t places not_lower
  step_refused h = record { number = asked; done = λ z. absurd (h z); refused = λ z. refl; prepared = k }

  pub step_ready : r ≡ 0 → StepReady up (length t.order) a b t places not_lower
  step_ready z = subst (λ (m : ℕ). StepReady up m a b t places not_lower) (sym order_long) (record { prepared = k; asked = sym asked ∙ z })

  pub step_done : r ≡ 0 → (v : Tables) (p h : List ℕ) → Carried up (length t.order) a b t v p h → Stepped up n a b t 0 v p h
  step_done z v p h d =
      let c : Carried up n a b t v p h = subst (λ (m : ℕ). Carried up m a b t v p h) order_long d in
      record { number = sym z ∙ asked; done = λ y. c.tables; refused = λ y. absurd (y refl); prepared = c.prepared }

-- questions 4 to 7 are put to rows that are proper
pub step_asked : {n : ℕ} {t : Tables} {places not_lower : List ℕ} → Prepared n t places not_lower
    → (n ≤ max_radios) × (length t.links ≡ row_bytes * n) × (rows_proper max_neighbours n t.links ≡ true)
unfolding lengths_of
step_asked {n} {t} k =
    let s = fits_good n t k.good in (s.lent.most, s.lent.lengths.links, (right_of n t s.lent.lengths.numbers s.is_sound).rows)
