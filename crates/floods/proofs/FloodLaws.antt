-- The flood's invariant: what came in is what the flood spreads to over the radios done so far.
-- In order: a layer, the queue after it, the start, the end.
use Rattle.std.specs.Prelude.{◌≡◌, ◌⊎◌, ◌&&◌, ◌||◌, ◌∷◌, ◌++◌, ◌+◌, ◌≤◌, ◌<◌}
use Rattle.lists.{specs.Kit.{refl, sym, ap, ◌∙◌, inl, inr, Bool, true, false, not, cond, List, [], ℕ, arith}}
use Rattle.lists.specs.Kit.{ltb, eqb, length, get_or, take, drop, set, length-append, length-set, List·getD-append, sets, sets-eq, length-sets, length-take-le}
use Rattle.lists.{specs.Kit.{take_at, take-suc-set, get_or-take, ltb-true, ltb-false}, specs.Lists.{range, member, In}, specs.Facts.{Distinct}}
use Rattle.lists.{proofs.Tests.{bool_cases, never, and_left, and_right, and_both}, proofs.Member.{member_append, in_left, in_right, in_cases, member_in}}
use Rattle.lists.{proofs.Member.{in_member, in_get_d, get_d_of_in}, proofs.Range.{in_range, length_range, distinct_range}, proofs.Filter.{in_filter, filter_in}}
use Rattle.lists.{proofs.Filter.{distinct_filter}, proofs.Distinct.{distinct_one, length_sub}}
use Rattle.mesh.specs.Limits.{max_radios}
use Rattle.rows.{specs.Rows.{row_listed}, specs.Sets.{in_set, take_out, common}, proofs.SetLaws.{in_set_radio, length_take_out, in_take_out}}
use Rattle.floods.specs.Floods.{Spread, start, onward, Flood, flood_at, came_in, MarkedBy, LayerTaken, Floodable, FloodDone}

distinct_both : (xs ys : List ℕ) → Distinct xs → Distinct ys → ((w : ℕ) → In w xs → In w ys → ⊥) → Distinct (xs ++ ys)
distinct_both [] ys d e apart = e
distinct_both (x ∷ xs) ys d e apart = (
  λ m. either (in_cases x xs ys m),
  distinct_both xs ys d.1 e (λ w m n. apart w (inr m) n),
)
  where
    either : In x xs ⊎ In x ys → ⊥
    either (inl m) = d.0 m
    either (inr m) = apart x (inl refl) m

-- ---- the invariant

module _ (ts : List ℕ) (v : ℕ) (old : List ℕ) where
  abbrev Spreads : ℕ → Type 0
  Spreads w = Spread ts old v w

  -- the set s lacks the radios xs of the old one; whom the first i of these lead to has come in
  pub record Spreading (i : ℕ) (s xs : List ℕ) : Type 0 where
    pub long : length s ≡ 8
    pub distinct : Distinct xs
    pub below : (w : ℕ) → In w xs → w < max_radios
    pub bits : (w : ℕ) → in_set s w ≡ (in_set old w && not (member w xs))
    pub spread : (w : ℕ) → In w xs → Spreads w
    pub from : In v xs
    pub closed : (j : ℕ) → j < i → (x : ℕ) → In x (row_listed ts (get_or xs j 0)) → in_set old x ≡ true → In x xs

  spreading_few : (i : ℕ) (s xs : List ℕ) → Spreading i s xs → length xs ≤ max_radios
  spreading_few i s xs h =
      omega (
        arith,
        length_range 0 max_radios,
        length_sub xs (range 0 max_radios) h.distinct (λ w m. in_range 0 max_radios w (omega arith) (omega (arith, h.below w m))),
      )

  -- ---- a layer: the neighbours of the radios from place i on

  module _ (i : ℕ) (s xs : List ℕ) (h : Spreading i s xs) (reach : List ℕ) where
    abbrev new : List ℕ
    new = common reach s

    abbrev test : ℕ → Bool
    test x = in_set reach x && in_set s x

    in_new : (x : ℕ) → In x new → (in_set reach x ≡ true) × (in_set s x ≡ true)
    unfolding common
    in_new x m =
        let e = (in_filter test (range 0 max_radios) x m).1 in
        (and_left (in_set reach x) (in_set s x) e, and_right (in_set reach x) (in_set s x) e)

    new_in : (x : ℕ) → in_set reach x ≡ true → in_set s x ≡ true → In x new
    unfolding common
    new_in x r e =
        filter_in test (range 0 max_radios) x (in_range 0 max_radios x (omega arith) (omega (arith, in_set_radio s x h.long e)))
        (and_both (in_set reach x) (in_set s x) r e)

    -- a radio of the set is of the old one, and has not come in
    fresh : (x : ℕ) → in_set s x ≡ true → (in_set old x ≡ true) × (In x xs → ⊥)
    fresh x e = (and_left (in_set old x) (not (member x xs)) (sym (h.bits x) ∙ e), λ m. never (in_set s x) e (gone (in_member x xs m)))
      where
        and_no : (b : Bool) → (b && false) ≡ false
        and_no true = refl
        and_no false = refl

        gone : member x xs ≡ true → in_set s x ≡ false
        gone q = h.bits x ∙ ap (λ (b : Bool). in_set old x && not b) q ∙ and_no (in_set old x)

    spreading_layer : (u : List ℕ) → length u ≡ 8 → ((w : ℕ) → in_set u w ≡ (in_set s w && not (member w new)))
        → ((x : ℕ) → in_set reach x ≡ true → MarkedBy ts xs i (length xs) x) → ((x : ℕ) → MarkedBy ts xs i (length xs) x → in_set reach x ≡ true)
        → Spreading (length xs) u (xs ++ new)
    unfolding common
    spreading_layer u lu left some all = record {
      long = lu;
      distinct = distinct_both xs new h.distinct (distinct_filter test (range 0 max_radios) (distinct_range 0 max_radios))
          (λ w m n. (fresh w (in_new w n).1).1 m);
      below = λ w m. below w (in_cases w xs new m);
      bits = λ w. left w ∙ ap (λ (b : Bool). b && not (member w new)) (h.bits w) ∙ both (in_set old w) (member w xs) (member w new)
          ∙ ap (λ (b : Bool). in_set old w && not b) (sym (member_append w xs new));
      spread = λ w m. spread w (in_cases w xs new m);
      from = in_left v xs new h.from;
      closed = λ j l x m o. closed j l x (rw (List·getD-append xs new 0 j l) at m) o (bool_cases (ltb j i));
    }
      where
        both : (a b c : Bool) → ((a && not b) && not c) ≡ (a && not (b || c))
        both true true c = refl
        both true false c = refl
        both false b c = refl

        below : (w : ℕ) → In w xs ⊎ In w new → w < max_radios
        below w (inl m) = h.below w m
        below w (inr m) = in_set_radio s w h.long (in_new w m).1

        onto : (w : ℕ) → In w new → MarkedBy ts xs i (length xs) w → Spreads w
        onto w m b = onward (h.spread (get_or xs b.place 0) (in_get_d xs b.place b.high)) b.marks (fresh w (in_new w m).1).0

        spread : (w : ℕ) → In w xs ⊎ In w new → Spreads w
        spread w (inl m) = h.spread w m
        spread w (inr m) = onto w m (some w (in_new w m).0)

        taken : (j : ℕ) → i ≤ j → j < length xs → (x : ℕ) → In x (row_listed ts (get_or xs j 0)) → in_set old x ≡ true
            → (member x xs ≡ true) ⊎ (member x xs ≡ false) → In x (xs ++ new)
        taken j g l x m o (inl e) = in_left x xs new (member_in x xs e)
        taken j g l x m o (inr e) =
            in_right x xs new (new_in x (all x (record { place = j; low = g; high = l; marks = in_member x (row_listed ts (get_or xs j 0)) m }))
            (h.bits x ∙ rw (o, e)))

        closed : (j : ℕ) → j < length xs → (x : ℕ) → In x (row_listed ts (get_or xs j 0)) → in_set old x ≡ true → (ltb j i ≡ true) ⊎ (ltb j i ≡ false)
            → In x (xs ++ new)
        closed j l x m o (inl e) = in_left x xs new (h.closed j (ltb-true j i e) x m o)
        closed j l x m o (inr e) = taken j (ltb-false j i e) l x m o (bool_cases (member x xs))

  -- ---- the queue, layer by layer

  -- the first i radios of the queue are done
  pub record Walking (i : ℕ) (f : Flood) : Type 0 where
    pub room : max_radios ≤ length f.queue
    pub few : f.count ≤ max_radios
    pub reached : i ≤ f.count
    pub spreading : Spreading i f.set (came_in f)

  pub walking_turn : (i : ℕ) (f e : Flood) → LayerTaken ts i f e → Walking i f → Walking f.count e
  walking_turn i f e t h = record {
    room = rw (queue, length-sets f.queue f.count more) h.room;
    few = omega (arith, all_few, came);
    reached = omega (arith, came);
    spreading = rw behind (rw long at next);
  }
    where
      more : List ℕ
      more = common t.reach f.set

      queue : e.queue ≡ sets f.queue f.count more
      queue = t.queued

      long : length (came_in f) ≡ f.count
      long = length-take-le f.count f.queue (omega (arith, h.few, h.room))

      -- a place of the queue before the count is one of the radios that came in
      here : (j : ℕ) → j < f.count → get_or (came_in f) j 0 ≡ get_or f.queue j 0
      here j l = get_or-take f.count f.queue j 0 l

      inside : (x : ℕ) → MarkedBy ts f.queue i f.count x → MarkedBy ts (came_in f) i (length (came_in f)) x
      inside x m = record {
        place = m.place;
        low = m.low;
        high = omega (arith, m.high, long);
        marks = ap (λ (a : ℕ). member x (row_listed ts a)) (here m.place m.high) ∙ m.marks;
      }

      outside : (x : ℕ) → MarkedBy ts (came_in f) i (length (came_in f)) x → MarkedBy ts f.queue i f.count x
      outside x m =
          let l : m.place < f.count = omega (arith, m.high, long) in
          record { place = m.place; low = m.low; high = l; marks = ap (λ (a : ℕ). member x (row_listed ts a)) (sym (here m.place l)) ∙ m.marks }

      next : Spreading (length (came_in f)) e.set (came_in f ++ more)
      next = spreading_layer i f.set (came_in f) h.spreading t.reach e.set t.long t.left
          (λ x r. inside x (t.some x r)) (λ x m. t.all x (outside x m))

      all_few : f.count + length more ≤ max_radios
      all_few = omega (arith, spreading_few (length (came_in f)) e.set (came_in f ++ more) next, length-append (came_in f) more, long)

      came : e.count ≡ f.count + length more
      came = omega (arith, t.counted, all_few, h.room)

      parts : e.queue ≡ (came_in f ++ more) ++ drop (f.count + length more) f.queue
      parts = queue ∙ sets-eq more f.queue f.count (omega (arith, all_few, h.room))

      behind : came_in e ≡ came_in f ++ more
      behind =
          ap (λ (k : ℕ). take k e.queue) came ∙ ap (take (f.count + length more)) parts
          ∙ take_at (came_in f ++ more) (drop (f.count + length more) f.queue) (f.count + length more)
          (omega (arith, length-append (came_in f) more, long))

  -- the radio that the flood starts from
  pub walking_start : (queue : List ℕ) → v < max_radios → length (take_out v old) ≡ 8 → max_radios ≤ length queue
      → Walking 0 (flood_at (take_out v old) (set queue 0 v) 1)
  unfolding member
  walking_start queue lv long room =
      let one : take 1 (set queue 0 v) ≡ v ∷ [] = take-suc-set queue 0 v (omega arith) in
      record {
        room = rw (length-set queue 0 v) room;
        few = omega arith;
        reached = omega arith;
        spreading = rw one (record {
          long = long;
          distinct = (λ m. m, tt);
          below = below;
          bits = λ w. in_take_out v w old (omega (arith, long, length_take_out v old)) ∙ bit (eqb v w) (in_set old w);
          spread = spread;
          from = inl refl;
          closed = λ j l. absurd (omega arith);
        });
      }
    where
      below : (w : ℕ) → In w (v ∷ []) → w < max_radios
      below w (inr x') = elim x' [ ]
      below w (inl e) = rw (← e) lv

      spread : (w : ℕ) → In w (v ∷ []) → Spreads w
      spread w (inr x') = elim x' [ ]
      spread w (inl e) = rw (← e) start

      bit : (a b : Bool) → cond a false b ≡ (b && not (a || false))
      bit true true = refl
      bit true false = refl
      bit false true = refl
      bit false false = refl

  -- the queue's end
  pub walking_end : (i : ℕ) (f : Flood) → f.count ≤ i → Walking i f → FloodDone ts v old f.count f.set f.queue
  walking_end i f l h =
      let s = h.spreading in
      record {
        long = s.long;
        few = h.few;
        once = λ w. distinct_one w (came_in f) s.distinct;
        radios = λ w. (λ m. s.spread w (member_in w (came_in f) m), λ r. in_member w (came_in f) (spread_in r));
        bits = s.bits;
      }
    where
      long : length (came_in f) ≡ f.count
      long = length-take-le f.count f.queue (omega (arith, h.few, h.room))

      closed : (w x : ℕ) → (j : ℕ) × (j < length (came_in f)) × (get_or (came_in f) j 0 ≡ w) → In x (row_listed ts w) → in_set old x ≡ true → In x (came_in f)
      closed w x p m o = h.spreading.closed p.0 (omega (arith, p.1, long)) x (rw p.2 m) o

      spread_in : {w : ℕ} → Spreads w → In w (came_in f)
      spread_in start = h.spreading.from
      spread_in (onward {w} {x} r e t) = closed w x (get_d_of_in w (came_in f) (spread_in r)) (member_in x (row_listed ts w) e) t

-- ---- the flood as the code has it

pub flood_starts : (ts : List ℕ) (v : ℕ) (s q t : List ℕ) → Floodable v (length q) → t ≡ take_out v s → length t ≡ 8
    → Walking ts v s 0 (flood_at t (set q 0 v) 1)
flood_starts ts v s q t sizes out long = rw out (walking_start ts v s q sizes.radio (ap length (sym out) ∙ long) sizes.room)
