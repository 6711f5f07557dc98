-- Turns of the peel: a radio that is due is taken, and the counters say the same of the graph after as before.
--   SoundLinks    what sound links say of the graph that they mark
--   state_takes    the state after a turn, and that fewer radios are left
use Rattle.std.specs.Prelude.{◌≡◌, ◌⊎◌, ◌&&◌, ◌||◌, ◌+◌, ◌-◌, ◌/◌, ◌≤◌, ◌<◌, ◌*◌, ◌^◌, ◌%◌}
use Rattle.lists.{specs.Kit.{refl, sym, ap, subst, ◌∙◌, inl, inr, Bool, true, false, not, cond, List, ℕ, suc}}
use Rattle.lists.{specs.Kit.{min, arith, ltb, leb, eqb, length, get_or, set, take, length-set, List·getD-eq-default, get_or-set_same, get_or-set_other, eqb-true}}
use Rattle.lists.{specs.Kit.{eqb-false, eq-eqb, ne_eqb, ltb-true, ltb-false, lt-ltb, leb-true, leb-false, le-leb, lt-leb, not-true, not-false}}
use Rattle.lists.{specs.Lists.{member, count, range, overwrite}, proofs.Tests.{bool_cases, never, and_left, and_right, and_both}}
use Rattle.lists.{proofs.Tests.{or_cases, or_left, or_right, cond_false, cond_true}}
use Rattle.lists.{proofs.Parts.{get_d_any}, proofs.Filter.{member_filter}, proofs.Range.{in_range}, proofs.All.{all_in}}
use Rattle.lists.{specs.Kit.{bit_and, and_le_l, count_trailing_zeros, replicate, get_or-replicate}, specs.Lists.{all}}
use Rattle.mesh.{specs.Limits.{max_radios, max_neighbours, row_bytes}, specs.Graph.{linked}, specs.Cores.{number}, specs.Tables.{Tables, tables, digit}}
use Rattle.mesh.{specs.Tables.{graph_in}, specs.Sound.{sound}, specs.Valid.{Valid}}
use Rattle.mesh.{proofs.Tables.Rows.{few_of}, proofs.Images.Tables.{valid_graph_in}}
use Rattle.calls.specs.Questions.{size_good, site_lengths, lengths_of}
use Rattle.rows.{specs.Sets.{in_set, common, RowJoined}}
use Rattle.rows.{proofs.SetLaws.{digit_and, in_set_zeros, common_filter}}
use Rattle.rows.{specs.Rows.{neighbours_of, row_listed, row_count}, proofs.RowListLaws.{member_neighbours_of}}
use Rattle.rows.{proofs.RowListLaws.{length_neighbours_of, row_listed_fits}}
use Rattle.soundness.{specs.Checks.{fits_sound}, proofs.SoundSite.{SoundSite, fits_sound_site, linked_marked, row_listed_neighbours}}
use Rattle.lifting.{specs.Peeling.{left, stays, Taken}, proofs.Peeling.{left_below, high_left, below_left, stays_above, stays_left, stays_cases, taken_fewer}}
use Rattle.lifting.{proofs.Peeling.{taken_still, peeling_near, peeling_takes}}
use Rattle.lift.specs.Peels.{graph_of, SoundLinks, is_due, Due, gone_of, Lowered, NextDue, PeelState, PeelBegin, PeelEnd}
use Rattle.lift.proofs.PeelLaws.{or_no, lowest_bit}
use Rattle.std.specs.Prelude.{Option, None, Some}
use Rattle.rows.specs.Rows.{first_in}
use Rattle.lift.proofs.SetLaws.{lowest_none, lowest_some}
use Rattle.rows.proofs.SetLaws.{member_word}
use Rattle.lift.specs.Peels.{EarlyDue}

-- ---- sound links

module _ (links : List ℕ) (s : SoundLinks links) where
  abbrev n : ℕ
  n = length links / row_bytes

  abbrev t : Tables
  t = tables links s.numbers s.order

  pub links_site : SoundSite n t
  links_site = fits_sound_site n t s.is_sound

  pub links_valid : Valid max_neighbours (graph_of links) s.order
  unfolding fits_sound sound
  links_valid =
      valid_graph_in max_neighbours n t links_site.small
      (and_right (site_lengths n (lengths_of t)) (sound n t) (and_right (size_good n) (site_lengths n (lengths_of t) && sound n t) s.is_sound))

  pub member_linked : (v w : ℕ) → v < n → w < n → member w (neighbours_of links v) ≡ linked (graph_of links) v w
  member_linked v w lv lw = member_neighbours_of links v w (omega (arith, links_site.small)) ∙ sym (linked_marked n t links_site v w lv lw)

  few_neighbours : (v : ℕ) → v < n → length (neighbours_of links v) ≤ max_neighbours
  few_neighbours v lv = omega (arith, length_neighbours_of links v, few_of max_neighbours n links links_site.few v lv)

  -- what `row_neighbours` lists of a radio's row
  pub row_taken : (v r : ℕ) (old new : List ℕ) → v < n → length old ≡ max_neighbours → r ≡ min (length old) (row_count max_neighbours links v)
      → new ≡ overwrite (take (min (length old) (suc max_neighbours)) (row_listed links v)) old → length new ≡ length old
      → (r ≤ length new) × (take r new ≡ neighbours_of links v)
  row_taken v r old new lv room e f long =
      let listed : row_listed links v ≡ neighbours_of links v = row_listed_neighbours n t links_site v lv in
      let fits = row_listed_fits max_neighbours links v old new r (omega (arith, ap length listed, few_neighbours v lv)) e f in
      (omega (arith, e, long), fits.1 ∙ listed)

  pub row_own : (v : ℕ) → v < n → row_listed links v ≡ neighbours_of links v
  row_own v lv = row_listed_neighbours n t links_site v lv

-- ---- a radio that is due

-- a radio that is left has an entry
pub inside_left : (cs : List ℕ) (w : ℕ) → length cs ≡ max_radios → left cs w ≡ true → w < max_radios
inside_left cs w long l = by_test (bool_cases (ltb w max_radios))
  where
    by_test : (ltb w max_radios ≡ true) ⊎ (ltb w max_radios ≡ false) → w < max_radios
    by_test (inl q) = ltb-true w max_radios q
    by_test (inr q) =
        absurd (omega (arith, left_below cs w l, List·getD-eq-default cs 255 {n = w} (omega (arith, long, ltb-false w max_radios q))))

module _ (links held : List ℕ) (k a : ℕ) (stay cs due : List ℕ) (s : SoundLinks links) (h : PeelState links held k a stay cs due) (v : ℕ)
    (lv : v < max_radios) (m : in_set due v ≡ true) where
  own_due : is_due k a held cs v ≡ true
  own_due = sym (h.due_is v lv) ∙ m

  -- the part of the test after the first
  abbrev rest_of : Bool
  rest_of = not (eqb v a) && (ltb (get_or cs v 255) k || not (in_set held v))

  own_low : get_or cs v 255 ≤ k
  unfolding is_due
  own_low = leb-true (get_or cs v 255) k (and_left (leb (get_or cs v 255) k) rest_of own_due)

  not_low_end : v ≡ a → ⊥
  unfolding is_due
  not_low_end =
      eqb-false v a (not-true (eqb v a)
      (and_left (not (eqb v a)) (ltb (get_or cs v 255) k || not (in_set held v)) (and_right (leb (get_or cs v 255) k) rest_of own_due)))

  own_short : in_set held v ≡ true → get_or cs v 255 < k
  unfolding is_due
  own_short on =
      at (or_cases (ltb (get_or cs v 255) k) (not (in_set held v))
      (and_right (not (eqb v a)) (ltb (get_or cs v 255) k || not (in_set held v)) (and_right (leb (get_or cs v 255) k) rest_of own_due)))
    where
      at : (ltb (get_or cs v 255) k ≡ true) ⊎ (not (in_set held v) ≡ true) → get_or cs v 255 < k
      at (inl q) = ltb-true (get_or cs v 255) k q
      at (inr q) = never (in_set held v) on (not-true (in_set held v) q)

  own_left : left cs v ≡ true
  own_left = below_left cs v (omega (arith, own_low, h.low))

  left_radio : (w : ℕ) → left cs w ≡ true → w < length links / row_bytes
  unfolding graph_in
  left_radio w q = (h.peeling.level w q).0

  pub own_radio : v < length links / row_bytes
  own_radio = left_radio v own_left

  pub own_small : get_or cs v 0 < 128
  own_small = omega (arith, get_d_any cs v 0 255 (omega (arith, h.long)), own_low, h.low)

  -- its own counter first
  abbrev cs1 : List ℕ
  cs1 = set cs v (get_or cs v 0 + 128)

  pub own_long : length cs1 ≡ max_radios
  own_long = length-set cs v (get_or cs v 0 + 128) ∙ h.long

  own_counter : get_or cs1 v 255 ≡ 128 + get_or cs v 255
  own_counter =
      let inside : v < length cs = omega (arith, h.long) in
      omega (arith, get_or-set_same cs v (get_or cs v 0 + 128) 255 inside, get_d_any cs v 0 255 inside)

  own_gone : left cs1 v ≡ false
  own_gone = high_left cs1 v (omega (arith, own_counter))

  other_counter : (w : ℕ) → (w ≡ v → ⊥) → get_or cs1 w 255 ≡ get_or cs w 255
  other_counter w ne = get_or-set_other cs v w (get_or cs v 0 + 128) 255 ne

  other_left : (w : ℕ) → (w ≡ v → ⊥) → left cs1 w ≡ left cs w
  unfolding left
  other_left w ne = ap (λ (x : ℕ). ltb x 128) (other_counter w ne)

  -- then its neighbours', of which those that are left stand in both sets
  module _ (due1 ds new near stay1 : List ℕ) (out : (w : ℕ) → in_set due1 w ≡ cond (eqb v w) false (in_set due w))
      (out_stay : (w : ℕ) → in_set stay1 w ≡ cond (eqb v w) false (in_set stay w))
      (row : RowJoined links v (replicate 8 0) near) (masked : Lowered k a held (common near stay1) cs1 due1 ds new) where
    abbrev xs : List ℕ
    xs = neighbours_of links v

    stay_other : (w : ℕ) → (w ≡ v → ⊥) → in_set stay1 w ≡ in_set stay w
    stay_other w ne = out_stay w ∙ cond_false (eqb v w) false (in_set stay w) (ne_eqb v w (λ e. ne (sym e)))

    in_row : (w : ℕ) → in_set near w ≡ member w xs
    in_row w = row.bits w ∙ rw (in_set_zeros 8 w) (ap (member w) (row_own links s v own_radio))

    -- a radio that is left stands in the sets as in the row
    same_near : (w : ℕ) → (left cs1 w ≡ true) ⊎ (left cs1 w ≡ false) → (left cs1 w && member w (common near stay1)) ≡ (left cs1 w && member w xs)
    same_near w (inr q) = rw q
    same_near w (inl q) =
        let ne : w ≡ v → ⊥ = λ e. never (left cs1 v) (ap (left cs1) (sym e) ∙ q) own_gone in
        let small : w < max_radios = inside_left cs1 w own_long q in
        let has : in_set stay1 w ≡ true = stay_other w ne ∙ h.stay_has w (sym (other_left w ne) ∙ q) in
        ap (λ (b : Bool). left cs1 w && b)
        (ap (member w) (common_filter near stay1)
        ∙ member_filter (λ x. in_set near x && in_set stay1 x) (range 0 max_radios) w (in_range 0 max_radios w (omega arith) (omega arith))
        ∙ rw has (and-true (in_set near w)) ∙ in_row w)
      where
        and-true : (b : Bool) → (b && true) ≡ b
        and-true true = refl
        and-true false = refl

    lower : Lowered k a held xs cs1 due1 ds new
    lower = record {
      long = masked.long;
      counter_after = λ w. masked.counter_after w
          ∙ ap (λ (b : Bool). cond b (get_or cs1 w 255 - 1) (get_or cs1 w 255)) (same_near w (bool_cases (left cs1 w)));
      due_after = λ w lw. masked.due_after w lw
          ∙ ap (λ (b : Bool). in_set due1 w || (b && is_due k a held ds w)) (same_near w (bool_cases (left cs1 w)));
    }

    own_after : get_or ds v 255 ≡ 128 + get_or cs v 255
    own_after =
        lower.counter_after v ∙ cond_false (left cs1 v && member v xs) (get_or cs1 v 255 - 1) (get_or cs1 v 255) (rw own_gone) ∙ own_counter

    touched : (w : ℕ) → (w ≡ v → ⊥) → (left cs1 w && member w xs) ≡ (left cs w && linked (graph_of links) v w)
    touched w ne = rw (other_left w ne) (by_test (bool_cases (left cs w)))
      where
        by_test : (left cs w ≡ true) ⊎ (left cs w ≡ false) → (left cs w && member w xs) ≡ (left cs w && linked (graph_of links) v w)
        by_test (inl q) = ap (λ (b : Bool). left cs w && b) (member_linked links s v w own_radio (left_radio w q))
        by_test (inr q) = rw q

    after_other : (w : ℕ) → (w ≡ v → ⊥) → get_or ds w 255 ≡ cond (left cs w && linked (graph_of links) v w) (get_or cs w 255 - 1) (get_or cs w 255)
    after_other w ne = lower.counter_after w ∙ rw (touched w ne, other_counter w ne)

    pub taken : Taken (graph_of links) v cs ds
    taken = record {
      own = own_after;
      near = λ w ne l q.
          let above = peeling_near (graph_of links) s.order (links_valid links s) k a cs v w h.peeling own_left l q in
          let less = after_other w ne ∙ cond_true (left cs w && linked (graph_of links) v w) (get_or cs w 255 - 1) (get_or cs w 255) (and_both (left cs w)
          (linked (graph_of links) v w) l q) in
          omega (arith, above, less);
      far = λ w ne q. after_other w ne ∙ cond_false (left cs w && linked (graph_of links) v w) (get_or cs w 255 - 1) (get_or cs w 255) q;
    }

    never_more : (w : ℕ) → (w ≡ v → ⊥) → get_or ds w 255 ≤ get_or cs w 255
    never_more w ne = by_test (bool_cases (left cs w && linked (graph_of links) v w))
      where
        by_test : ((left cs w && linked (graph_of links) v w) ≡ true) ⊎ ((left cs w && linked (graph_of links) v w) ≡ false) → get_or ds w 255 ≤ get_or cs w 255
        by_test (inl q) = omega (arith, after_other w ne ∙ cond_true (left cs w && linked (graph_of links) v w) (get_or cs w 255 - 1) (get_or cs w 255) q)
        by_test (inr q) = omega (arith, after_other w ne ∙ cond_false (left cs w && linked (graph_of links) v w) (get_or cs w 255 - 1) (get_or cs w 255) q)

    -- ---- who is due then

    due_own_after : is_due k a held ds v ≡ false
    unfolding is_due
    due_own_after = rw (lt-leb (get_or ds v 255) k (omega (arith, own_after, h.low)))

    due_less : (w : ℕ) → (w ≡ v → ⊥) → is_due k a held cs w ≡ true → is_due k a held ds w ≡ true
    unfolding is_due
    due_less w ne q =
        let tail = and_right (leb (get_or cs w 255) k) (not (eqb w a) && (ltb (get_or cs w 255) k || not (in_set held w))) q in
        and_both (leb (get_or ds w 255) k) (not (eqb w a) && (ltb (get_or ds w 255) k || not (in_set held w)))
        (le-leb (get_or ds w 255) k (omega (
          arith,
          never_more w ne,
          leb-true (get_or cs w 255) k (and_left (leb (get_or cs w 255) k) (not (eqb w a) && (ltb (get_or cs w 255) k || not (in_set held w))) q),
        )))
        (and_both (not (eqb w a)) (ltb (get_or ds w 255) k || not (in_set held w))
        (and_left (not (eqb w a)) (ltb (get_or cs w 255) k || not (in_set held w)) tail)
        (less (or_cases (ltb (get_or cs w 255) k) (not (in_set held w)) (and_right (not (eqb w a)) (ltb (get_or cs w 255) k || not (in_set held w)) tail))))
      where
        less : (ltb (get_or cs w 255) k ≡ true) ⊎ (not (in_set held w) ≡ true) → (ltb (get_or ds w 255) k || not (in_set held w)) ≡ true
        less (inl h) =
            or_left (ltb (get_or ds w 255) k) (not (in_set held w))
            (lt-ltb (get_or ds w 255) k (omega (arith, never_more w ne, ltb-true (get_or cs w 255) k h)))
        less (inr h) = or_right (ltb (get_or ds w 255) k) (not (in_set held w)) h

    due_same : (w : ℕ) → get_or ds w 255 ≡ get_or cs w 255 → is_due k a held cs w ≡ is_due k a held ds w
    unfolding is_due
    due_same w e = rw e

    due_other_after : (w : ℕ) → (w ≡ v → ⊥) → (b : Bool) → (left cs w && linked (graph_of links) v w) ≡ b
        → (is_due k a held cs w || (b && is_due k a held ds w)) ≡ is_due k a held ds w
    due_other_after w ne true q = absorbed (is_due k a held cs w) (is_due k a held ds w) (due_less w ne)
      where
        absorbed : (x y : Bool) → (x ≡ true → y ≡ true) → (x || y) ≡ y
        absorbed true y f = sym (f refl)
        absorbed false y f = refl
    due_other_after w ne false q =
        or_no (is_due k a held cs w) false refl
        ∙ due_same w (after_other w ne ∙ cond_false (left cs w && linked (graph_of links) v w) (get_or cs w 255 - 1) (get_or cs w 255) q)

    due_after : (w : ℕ) → w < max_radios → (eqb v w ≡ true) ⊎ (eqb v w ≡ false) → in_set new w ≡ is_due k a held ds w
    due_after w lw (inl q) =
        subst (λ (x : ℕ). in_set new x ≡ is_due k a held ds x) (eqb-true v w q)
        (lower.due_after v lv ∙ rw (out v, eq-eqb v v refl, own_gone) (sym due_own_after))
    due_after w lw (inr q) =
        let ne : w ≡ v → ⊥ = λ e. eqb-false v w q (sym e) in
        lower.due_after w lw
        ∙ rw (out w, q, touched w ne, h.due_is w lw) (due_other_after w ne (left cs w && linked (graph_of links) v w) refl)

    -- ---- what is held stays, or is taken with fewer than k

    kept_after : (w : ℕ) → in_set held w ≡ true
        → (stays (graph_of links) k cs w ≡ true) ⊎ ((128 ≤ get_or cs w 255) × (get_or cs w 255 < 128 + k))
        → (stays (graph_of links) k ds w ≡ true) ⊎ ((128 ≤ get_or ds w 255) × (get_or ds w 255 < 128 + k))
    kept_after w on (inr (p, q)) = let e = same_gone in inr (omega arith, omega arith)
      where
        gone : left cs w ≡ false
        gone = high_left cs w p

        other : w ≡ v → ⊥
        other e = never (left cs w) (subst (λ (x : ℕ). left cs x ≡ true) (sym e) own_left) gone

        same_gone : get_or ds w 255 ≡ get_or cs w 255
        same_gone = after_other w other ∙ cond_false (left cs w && linked (graph_of links) v w) (get_or cs w 255 - 1) (get_or cs w 255) (rw gone)
    kept_after w on (inl q) = at (stays_cases (graph_of links) k cs w q) (bool_cases (eqb w v))
      where
        at : (k < number (graph_of links) w) ⊎ (left cs w ≡ true) → (eqb w v ≡ true) ⊎ (eqb w v ≡ false)
            → (stays (graph_of links) k ds w ≡ true) ⊎ ((128 ≤ get_or ds w 255) × (get_or ds w 255 < 128 + k))
        at (inl h) z = inl (stays_above (graph_of links) k ds w h)
        at (inr h) (inl z) =
            let e = eqb-true w v z in
            let few = own_short (subst (λ (x : ℕ). in_set held x ≡ true) e on) in
            let is : get_or ds w 255 ≡ 128 + get_or cs v 255 = ap (λ (x : ℕ). get_or ds x 255) e ∙ own_after in
            inr (omega arith, omega arith)
        at (inr h) (inr z) =
            inl (stays_left (graph_of links) k ds w (below_left ds w (omega (arith, never_more w (eqb-false w v z), left_below cs w h))))

    pub state_takes : PeelState links held k a stay1 ds new
    state_takes = record {
      peeling = peeling_takes (graph_of links) s.order (links_valid links s) k a cs ds v h.peeling own_left not_low_end own_low taken;
      low = h.low;
      long = lower.long ∙ own_long;
      due_is = λ w lw. due_after w lw (bool_cases (eqb v w));
      kept = λ w lw on. kept_after w on (h.kept w lw on);
      stay_has = λ w q. let was = taken_still (graph_of links) cs ds v own_left taken w q in stay_other w was.1 ∙ h.stay_has w was.0;
    }

    pub state_fewer : count (left ds) (range 0 max_radios) < count (left cs) (range 0 max_radios)
    state_fewer = taken_fewer (graph_of links) cs ds v own_left taken max_radios lv

-- ---- who is due first

-- the lowest bit of what is left of word k of the set when another word masks it
pub early_due : (due : List ℕ) (k x y : ℕ) → k < 8 → x < 2 ^ 64 → x ≡ get_or due k 0 → (bit_and x y ≡ 0 → ⊥)
    → EarlyDue due (Some (64 * k + count_trailing_zeros 64 (bit_and x y)))
early_due due k x y h small e some = lowest (lowest_bit (bit_and x y) some (omega (arith, and_le_l x y, small)))
  where
    lowest : (count_trailing_zeros 64 (bit_and x y) < 64) × (digit (bit_and x y) (count_trailing_zeros 64 (bit_and x y)) ≡ true)
        → EarlyDue due (Some (64 * k + count_trailing_zeros 64 (bit_and x y)))
    lowest (less, on) =
        let m = count_trailing_zeros 64 (bit_and x y) in (
          omega arith,
          member_word due k m less ∙ ap (λ (z : ℕ). digit z m) (sym e) ∙ and_left (digit x m) (digit y m) (sym (digit_and x y m) ∙ on),
        )

-- the lowest is one that may be next
pub next_first : (due : List ℕ) (v : Option ℕ) → v ≡ first_in (common due due) → NextDue due v
next_first due None e = lowest_none due e
next_first due (Some v) e = let low = lowest_some due e in (low.0, low.1)

-- ---- the whole peel

due_again : (k a : ℕ) (held cs : List ℕ) (w : ℕ) → leb (get_or cs w 255) k ≡ true → (w ≡ a → ⊥) → in_set held w ≡ false → is_due k a held cs w ≡ true
unfolding is_due
due_again k a held cs w q ne out = rw (q, ne_eqb w a ne) (or_right (ltb (get_or cs w 255) k) (not (in_set held w)) (rw out))

due_short_again : (k a : ℕ) (held cs : List ℕ) (w : ℕ) → get_or cs w 255 < k → (w ≡ a → ⊥) → is_due k a held cs w ≡ true
unfolding is_due
due_short_again k a held cs w l ne = rw (le-leb (get_or cs w 255) k (omega arith), ne_eqb w a ne, lt-ltb (get_or cs w 255) k l)

-- the set of all radios, as the peel begins with it
full_bits : all (digit 18446744073709551615) (range 0 64) ≡ true
unfolding digit all range
full_bits = refl

all_stay : (w : ℕ) → w < max_radios → in_set (replicate 8 18446744073709551615) w ≡ true
unfolding in_set
all_stay w l =
    ap (λ (x : ℕ). digit x (w % 64)) (get_or-replicate 8 (w / 64) 18446744073709551615 0 (omega arith))
    ∙ all_in (digit 18446744073709551615) (range 0 64) full_bits (w % 64) (in_range 0 64 (w % 64) (omega arith) (omega arith))

-- r and b are left so far, and a has enough neighbours that stay
pub record PeelingOn (links held : List ℕ) (k a r b : ℕ) (stay cs due : List ℕ) : Type 0 where
  pub state : PeelState links held k a stay cs due
  pub there : left cs r ≡ true
  pub stop_there : left cs b ≡ true
  pub fits : k ≤ get_or cs a 255

module _ (links held : List ℕ) (k a r b : ℕ) (cs due : List ℕ) where
  pub peel_starts : Due k a held cs due → PeelBegin links held k a r b cs → PeelingOn links held k a r b (replicate 8 18446744073709551615) cs due
  peel_starts d h = record {
    state = record {
      peeling = h.base.peeling;
      low = h.base.low;
      long = h.base.long;
      due_is = d;
      kept = h.kept;
      stay_has = λ w q. all_stay w (inside_left cs w h.base.long q);
    };
    there = h.base.there;
    stop_there = h.stop_there;
    fits = h.base.fits;
  }

  module _ (stay : List ℕ) (h : PeelState links held k a stay cs due) where
    -- it goes on
    pub peel_on : (gone_of k a r cs || not (left cs b)) ≡ false → PeelingOn links held k a r b stay cs due
    unfolding gone_of
    peel_on q =
        let both = or_none (gone_of k a r cs) (not (left cs b)) q in
        let own = or_none (not (left cs r)) (ltb (get_or cs a 255) k) both.0 in
        record {
          state = h;
          there = not-false (left cs r) own.0;
          stop_there = not-false (left cs b) both.1;
          fits = ltb-false (get_or cs a 255) k own.1;
        }
      where
        or_none : (x y : Bool) → (x || y) ≡ false → (x ≡ false) × (y ≡ false)
        or_none true y z = never true refl z
        or_none false y z = (refl, z)

  -- nothing is due
  pub peel_done : (stay : List ℕ) → NextDue due None → PeelingOn links held k a r b stay cs due → PeelEnd links held k a r b cs true
  peel_done stay none h = record {
    peeling = h.state.peeling;
    long = h.state.long;
    kept = h.state.kept;
    base = λ yes. record { peeling = h.state.peeling; low = h.state.low; long = h.state.long; there = h.there; fits = h.fits };
    stop_left = λ yes. h.stop_there;
    held_fit = λ yes w l ne. fit w l ne (bool_cases (ltb (get_or cs w 255) k));
    full = λ yes w l ne out. more w l ne out (bool_cases (leb (get_or cs w 255) k));
    ended = λ no. never true refl no;
  }
    where
      none_due : (w : ℕ) → left cs w ≡ true → is_due k a held cs w ≡ true → ⊥
      none_due w l q =
          let small : w < max_radios = inside_left cs w h.state.long l in
          never (is_due k a held cs w) q (sym (h.state.due_is w small) ∙ none w small)

      fit : (w : ℕ) → left cs w ≡ true → (w ≡ a → ⊥) → (ltb (get_or cs w 255) k ≡ true) ⊎ (ltb (get_or cs w 255) k ≡ false) → k ≤ get_or cs w 255
      fit w l ne (inr q) = ltb-false (get_or cs w 255) k q
      fit w l ne (inl q) = absurd (none_due w l (due_short_again k a held cs w (ltb-true (get_or cs w 255) k q) ne))

      more : (w : ℕ) → left cs w ≡ true → (w ≡ a → ⊥) → in_set held w ≡ false → (leb (get_or cs w 255) k ≡ true) ⊎ (leb (get_or cs w 255) k ≡ false)
          → k < get_or cs w 255
      more w l ne out (inr q) = leb-false (get_or cs w 255) k q
      more w l ne out (inl q) = absurd (none_due w l (due_again k a held cs w q ne out))
