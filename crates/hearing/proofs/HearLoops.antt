-- The loops of a hearing, on plain values: the links of a row, and the rows of a phase.
use Rattle.std.specs.Prelude.{◌≡◌, ◌&&◌, ◌∷◌, ◌+◌, ◌*◌, ◌-◌, ◌≤◌, ◌<◌}
use Rattle.lists.{specs.Kit.{refl, sym, ap, subst, ◌∙◌, Bool, true, false, not, cond, List, ℕ, suc, arith, add-one}}
use Rattle.lists.{specs.Kit.{leb}}
use Rattle.lists.{specs.Kit.{length, get_or, take, drop, drop_of_length-le, drop-cons, length-take-le, leb-true}, specs.Lists.{range, count, filter, In}}
use Rattle.lists.{proofs.Tests.{and_left, and_right}, proofs.Count.{count_mono, count_append}, proofs.Range.{range_in, range_append}, proofs.All.{all_below}}
use Rattle.lists.{proofs.Filter.{filter_all, filter_ext, in_filter, length_filter}, proofs.Ascending.{ascending_range, ascending_filter}}
use Rattle.mesh.{specs.Limits.{max_radios, max_neighbours, row_bytes}, specs.Tables.{Tables, marked, graph_in}, specs.Sound.{sound, within, row_degree}}
use Rattle.mesh.{specs.Sound.{rows_proper, few}}
use Rattle.mesh.{specs.Sound.{symmetric, irreflexive}, proofs.Tables.Rows.{few_of}, proofs.Tables.Soundness.{sound_certificate}}
use Rattle.calls.{specs.Questions.{lengths_of, ends_refusal}, specs.Switches.{switch, switched}, specs.Heard.{agreed, agreed_degree, agreed_few}}
use Rattle.calls.{specs.Hearing.{Phase, RowsLeft, RowLeft}, proofs.SoundSwitches.{Good}, proofs.HearingLaws.{row_first, row_next, row_end}}
use Rattle.conditions.{specs.Hearing.{IsPrefix, wanted, above_from, ListedFrom}, proofs.WantLaws.{length_one_sided, wanted_front}}
use Rattle.links.{specs.Steps.{Prepared, Stepped}, proofs.StepLaws.{fits_good}}
use Rattle.hearing.specs.Hearings.{PhaseBy, MarkedHearing, RowSwitched, RowsSwitched}

-- ---- the links of a row

-- i of the listed links are done, which brought the tables t to u
pub record RowSwitching (up : Bool) (n a : ℕ) (bs : List ℕ) (t u : Tables) (places not_lower : List ℕ) (i : ℕ) : Type 0 where
  pub prepared : Prepared n u places not_lower
  pub left : (p : Phase) (s : Tables) → p.up ≡ up → RowLeft n p s a (λ b. true) bs t → RowLeft n p s a (λ b. true) (drop i bs) u

pub switching_none : (up : Bool) (n a : ℕ) (bs : List ℕ) {t : Tables} {places not_lower : List ℕ} → Prepared n t places not_lower
    → RowSwitching up n a bs t t places not_lower 0
switching_none up n a bs k = record { prepared = k; left = λ p s e r. r }

module _ {up : Bool} {n a : ℕ} {bs : List ℕ} {t u : Tables} {places not_lower : List ℕ} {i : ℕ} (w : RowSwitching up n a bs t u places not_lower i) where
  pub switching_turn : i < length bs → (r : ℕ) (v : Tables) (qs is : List ℕ) → Stepped up n a (get_or bs i 0) u r v qs is
      → RowSwitching up n a bs t v qs is (i + 1)
  switching_turn l r v qs is d = record { prepared = d.prepared; left = next }
    where
      b : ℕ
      b = get_or bs i 0

      rest : drop i bs ≡ b ∷ drop (i + 1) bs
      rest = drop-cons bs i 0 l ∙ ap (λ (j : ℕ). b ∷ drop j bs) (sym (add-one i))

      next : (p : Phase) (s : Tables) → p.up ≡ up → RowLeft n p s a (λ x. true) bs t → RowLeft n p s a (λ x. true) (drop (i + 1) bs) v
      next p s e o =
          let q : RowLeft n p s a (λ x. true) (b ∷ drop (i + 1) bs) u = subst (λ (xs : List ℕ). RowLeft n p s a (λ x. true) xs u) rest (w.left p s e o) in
          let y = row_next q (fits_good n u w.prepared.good) refl in
          let z : r ≡ 0 = d.number ∙ subst (λ (x : Bool). ends_refusal max_neighbours x n a b (graph_in n u.links) ≡ 0) e y.0 in
          let f : switched n (switch p.up a b) u ≡ v = ap (λ (x : Bool). switched n (switch x a b) u) e ∙ sym (d.done z) in
          subst (λ (x : Tables). RowLeft n p s a (λ x. true) (drop (i + 1) bs) x) f y.1

  pub switching_end : length bs ≤ i → RowSwitched up n a bs t u places not_lower
  switching_end l = record {
    ready = w.prepared;
    left = λ p s e o. row_end (subst (λ (xs : List ℕ). RowLeft n p s a (λ b. true) xs u) (drop_of_length-le bs l) (w.left p s e o));
  }

-- ---- the rows of a phase

-- the rows before row a are done
pub record RowsSwitching (up : Bool) (n : ℕ) (hs ws : List ℕ) (t u : Tables) (places not_lower : List ℕ) (a : ℕ) : Type 0 where
  pub low : a ≤ n
  pub hearing : MarkedHearing n hs ws
  pub ready : Prepared n u places not_lower
  pub left : (p : Phase) (s : Tables) → p.up ≡ up → PhaseBy n hs p → RowsLeft n p s 0 t → RowsLeft n p s a u

pub rows_none : (up : Bool) (n : ℕ) (hs ws : List ℕ) {t : Tables} {places not_lower : List ℕ} → Prepared n t places not_lower → MarkedHearing n hs ws
    → RowsSwitching up n hs ws t t places not_lower 0
rows_none up n hs ws k h = record { low = omega arith; hearing = h; ready = k; left = λ p s e y r. r }

good_few : (n : ℕ) (t : Tables) → Good n t → few max_neighbours n t.links ≡ true
unfolding rows_proper sound
good_few n t k =
    and_right (within n t.links) (few max_neighbours n t.links)
    (and_right (symmetric n t.links && irreflexive n t.links) _ (sound_certificate max_neighbours n t k.is_sound).0)

good_within : (n : ℕ) (t : Tables) → Good n t → within n t.links ≡ true
unfolding rows_proper sound
good_within n t k =
    and_left (within n t.links) (few max_neighbours n t.links)
    (and_right (symmetric n t.links && irreflexive n t.links) _ (sound_certificate max_neighbours n t k.is_sound).0)

module _ {up : Bool} {n : ℕ} {hs ws : List ℕ} {t u : Tables} {places not_lower : List ℕ} {a : ℕ} (w : RowsSwitching up n hs ws t u places not_lower a) where
  good : Good n u
  good = fits_good n u w.ready.good

  abbrev radios : List ℕ
  radios = range (suc a) (n - suc a)

  abbrev chosen : List ℕ
  chosen = filter (wanted up hs u.links a) radios

  module _ (l : a < n) where
    -- row a is whole in the three tables
    pub rows_whole : (row_bytes * a + row_bytes ≤ length hs) × (row_bytes * a + row_bytes ≤ length ws) × (row_bytes * a + row_bytes ≤ length u.links)
    unfolding lengths_of
    rows_whole = (
      omega (arith, l, w.hearing.size.long),
      omega (arith, l, length_one_sided n hs ws w.hearing.one_sided),
      omega (arith, l, good.lent.lengths.links),
    )

    -- a part of the radios has at most as many that pass a test
    part_count : (f : ℕ → Bool) (m : ℕ) → n ≤ m → count f radios ≤ count f (range 0 m)
    part_count f m h =
        let e : m ≡ (suc a + (n - suc a)) + (m - n) = omega (arith, l, h) in
        let z : 0 + suc a ≡ suc a = omega arith in
        let y : count f (range 0 m) ≡ (count f (range 0 (suc a)) + count f radios) + count f (range (0 + (suc a + (n - suc a))) (m - n)) =
        ap (λ (j : ℕ). count f (range 0 j)) e
        ∙ ap (count f) (range_append 0 (suc a + (n - suc a)) (m - n)) ∙ count_append f (range 0 (suc a + (n - suc a))) _
        ∙ ap (λ (j : ℕ). j + count f (range (0 + (suc a + (n - suc a))) (m - n)))
        (ap (count f) (range_append 0 (suc a) (n - suc a) ∙ rw z) ∙ count_append f (range 0 (suc a)) radios) in
        omega (arith, y)

    few_up : count (λ b. agreed hs a b && not (marked u.links a b)) radios ≤ max_neighbours
    unfolding agreed_few agreed_degree
    few_up =
        omega (
          arith,
          count_mono (λ b. agreed hs a b && not (marked u.links a b)) (agreed hs a) radios (λ b i h. and_left (agreed hs a b) _ h),
          part_count (agreed hs a) n (omega arith),
          leb-true (agreed_degree n hs a) max_neighbours (all_below (λ x. leb (agreed_degree n hs x) max_neighbours) n w.hearing.few a l),
        )

    few_down : count (λ b. marked u.links a b && not (agreed hs a b)) radios ≤ max_neighbours
    unfolding row_degree
    few_down =
        omega (
          arith,
          count_mono (λ b. marked u.links a b && not (agreed hs a b)) (marked u.links a) radios (λ b i h. and_left (marked u.links a b) _ h),
          part_count (marked u.links a) max_radios w.hearing.size.most,
          few_of max_neighbours n u.links (good_few n u good) a l,
        )

    few_chosen : length chosen ≤ max_neighbours
    unfolding wanted
    few_chosen = omega (arith, length_filter (wanted up hs u.links a) radios, go up)
      where
        go : (x : Bool) → count (λ b. cond x (agreed hs a b && not (marked u.links a b)) (marked u.links a b && not (agreed hs a b))) radios ≤
            max_neighbours
        go true = few_up
        go false = few_down

  module _ (l : a < n) (old new : List ℕ) (k : ℕ) (room : length old ≡ suc max_neighbours)
      (d : ListedFrom (above_from up hs ws u.links a) 0 old k new) where
    front : IsPrefix chosen k new
    front =
        wanted_front up hs ws u.links a n w.hearing.size w.hearing.one_sided (good_within n u good) l old new k d (omega (arith, few_chosen l, room))

    -- they fit the list
    pub rows_fit : length new ≡ length old → k ≤ length new
    rows_fit e = omega (arith, front.counted, few_chosen l, e, room)

    pub rows_long : length new ≡ length old → k ≡ length (take k new)
    rows_long e = sym (length-take-le k new (rows_fit e))

    pub rows_short : length (take k new) ≤ max_radios
    rows_short = omega (arith, ap length front.listed, few_chosen l)

    inside : (b : ℕ) → In b chosen → (a < b) × (b < n)
    inside b i =
        let o = range_in (suc a) (n - suc a) b (in_filter (wanted up hs u.links a) radios b i).0 in (omega (arith, o.0), omega (arith, o.0, o.1, l))

    -- by what the rows mark, these are the pairs of the phase
    chosen_is : (p : Phase) (s : Tables) → p.up ≡ up → PhaseBy n hs p → RowsLeft n p s a u → filter (λ b. true) chosen ≡ filter (p.test a) radios
    unfolding PhaseBy wanted
    chosen_is p s e y r =
        filter_all (λ b. true) chosen (λ b i. refl)
        ∙ filter_ext (wanted up hs u.links a) (p.test a) radios
        (λ b i.
        let o = range_in (suc a) (n - suc a) b i in
        let lb : a < b = omega (arith, o.0) in
        let ln : b < n = omega (arith, o.0, o.1, l) in
        ap (λ (m : Bool). cond up (agreed hs a b && not m) (m && not (agreed hs a b))) (r.kept a b (omega arith) lb ln)
        ∙ ap (λ (x : Bool). cond x (agreed hs a b && not (p.marks a b)) (p.marks a b && not (agreed hs a b))) (sym e)
        ∙ sym (y a b lb ln))

    pub rows_turn : (v : Tables) (qs is : List ℕ) → RowSwitched up n a (take k new) u v qs is → RowsSwitching up n hs ws t v qs is (a + 1)
    rows_turn v qs is c = record {
      low = omega (arith, l);
      hearing = w.hearing;
      ready = c.ready;
      left = λ p s e y o.
          let r = w.left p s e y o in
          let f : RowLeft n p s a (λ b. true) chosen u =
          row_first l r (λ b. true) chosen (chosen_is p s e y r) inside (ascending_filter (wanted up hs u.links a) radios
          (ascending_range (suc a) (n - suc a))) in
          subst (λ (j : ℕ). RowsLeft n p s j v) (sym (add-one a))
          (c.left p s e (subst (λ (xs : List ℕ). RowLeft n p s a (λ b. true) xs u) (sym front.listed) f));
    }

  pub rows_done : n ≤ a → RowsSwitched up n hs t u places not_lower
  rows_done h = record {
    ready = w.ready;
    left = λ p s e y o. let q : a ≡ n = omega (arith, h, w.low) in subst (λ (j : ℕ). RowsLeft n p s j u) q (w.left p s e y o);
  }
