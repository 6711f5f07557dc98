-- The leaves of the walk by words.
-- In order: counters lowered, one by one and list by list; the neighbours after the call put into a set; listed radios as a set.
use Rattle.std.specs.Prelude.{◌≡◌, ◌⊎◌, ◌&&◌, ◌||◌, ◌∷◌, ◌++◌, ◌+◌, ◌*◌, ◌-◌, ◌^◌, ◌≤◌, ◌<◌}
use Rattle.lists.{specs.Kit.{refl, sym, ap, ◌∙◌, inl, inr, Bool, true, false, cond, List, [], ℕ}}
use Rattle.lists.{specs.Kit.{arith, add-one, bit_and, and_le_l, count_trailing_zeros, ltb, eqb, length, get_or, set, take, replicate, length-set}}
use Rattle.lists.{specs.Kit.{length-replicate, get_or-set_same, get_or-set_other, take-suc, ltb-true, ltb-false, eqb-true}}
use Rattle.lists.{specs.Kit.{eqb-false, eq-eqb, ne_eqb}, specs.Lists.{count, member, In}}
use Rattle.lists.{proofs.Count.{count_append, count_none}}
use Rattle.lists.{proofs.Distinct.{distinct_left, distinct_right, distinct_apart}, proofs.Member.{in_left, in_right}}
use Rattle.lists.{proofs.Member.{in_cases, member_append}, proofs.Tests.{bool_cases}}
use Rattle.mesh.{specs.Limits.{max_radios}, proofs.GraphLaws.{ends}, specs.Tables.{marked, put_link}, proofs.Tables.Laws.{marked_put_link}}
use Rattle.rows.{specs.Rows.{set_bits}, proofs.RowListLaws.{member_neighbours_of}, proofs.RowWords.{row_listed_whole, words_from, words_end}}
use Rattle.rows.{proofs.WordLaws.{set_bits_lowest}, specs.Sets.{in_set, put_in, common, RowJoined}, proofs.SetLaws.{in_set_zeros, in_put_in}}
use Rattle.rows.{proofs.SetLaws.{length_put_in, put_in_past, both_from, both_word, common_filter}}
use Rattle.plan.specs.{Places.{other_end}, WideSteps.{EndsKnown, JoinedAfter, Lowerable, Lowered}}

-- ---- counters lowered

pub no_count : (w : ℕ) (xs : List ℕ) → (In w xs → ⊥) → count (λ x. eqb x w) xs ≡ 0
no_count w xs out = count_none (λ x. eqb x w) xs (λ x m. ne_eqb x w (λ e. out (rw (← e) m)))

module _ (most : ℕ) (ps : List ℕ) where
  pub lowered_none : (cs ds : List ℕ) → Lowered most ps [] cs ds cs ds
  unfolding count
  lowered_none cs ds = record {
    counters_long = refl;
    due_long = refl;
    less = λ w. omega arith;
    kept = λ q e. e;
    falls = λ w m e. absurd m;
    only = λ q e. inl e;
  }

  -- one counter
  module _ (v : ℕ) (cs ds : List ℕ) (lv : v < length cs) (some : 1 ≤ get_or cs v 0) where
    abbrev cs1 : List ℕ
    cs1 = set cs v (get_or cs v 0 - 1)

    own : get_or cs1 v 0 ≡ get_or cs v 0 - 1
    own = get_or-set_same cs v (get_or cs v 0 - 1) 0 lv

    less_at : (w : ℕ) → (eqb v w ≡ true) ⊎ (eqb v w ≡ false) → get_or cs1 w 0 + count (λ x. eqb x w) (v ∷ []) ≡ get_or cs w 0
    unfolding count
    less_at w (inl e) = let same = eqb-true v w e in rw (e, ← same) (omega (arith, own))
    less_at w (inr e) = let ne = eqb-false v w e in rw e (omega (arith, get_or-set_other cs v w (get_or cs v 0 - 1) 0 (λ q. ne (sym q))))

    pub lowered_due : get_or ps v 0 < max_radios → (ds1 : List ℕ) → get_or cs1 v 0 ≡ most → ds1 ≡ put_in (get_or ps v 0) ds → length ds1 ≡ 8
        → Lowered most ps (v ∷ []) cs ds cs1 ds1
    lowered_due lp ds1 e made long = record {
      counters_long = length-set cs v (get_or cs v 0 - 1);
      due_long = ap length made ∙ length_put_in (get_or ps v 0) ds;
      less = λ w. less_at w (bool_cases (eqb v w));
      kept = λ q t. bits q ∙ keeps q t (eqb (get_or ps v 0) q);
      falls = λ w m q. at w m;
      only = λ q t. new q t (bool_cases (eqb (get_or ps v 0) q));
    }
      where
        bits : (q : ℕ) → in_set ds1 q ≡ cond (eqb (get_or ps v 0) q) true (in_set ds q)
        bits q = ap (λ (z : List ℕ). in_set z q) made ∙ in_put_in (get_or ps v 0) q ds (omega (arith, long, ap length made, length_put_in (get_or ps v 0) ds))

        keeps : (q : ℕ) → in_set ds q ≡ true → (b : Bool) → cond b true (in_set ds q) ≡ true
        keeps q t true = refl
        keeps q t false = t

        at : (w : ℕ) → In w (v ∷ []) → in_set ds1 (get_or ps w 0) ≡ true
        at w (inl q) = rw (← q) (bits (get_or ps v 0) ∙ rw (eq-eqb (get_or ps v 0) (get_or ps v 0) refl))
        at w (inr q) = absurd q

        new : (q : ℕ) → in_set ds1 q ≡ true → (eqb (get_or ps v 0) q ≡ true) ⊎ (eqb (get_or ps v 0) q ≡ false)
            → (in_set ds q ≡ true) ⊎ ((w : ℕ) × In w (v ∷ []) × (get_or cs1 w 0 ≡ most) × (get_or ps w 0 ≡ q))
        new q t (inl s) = inr (v, inl refl, e, eqb-true (get_or ps v 0) q s)
        new q t (inr s) = inl (sym (bits q ∙ rw s) ∙ t)

    pub lowered_only : (get_or cs1 v 0 ≡ most → ⊥) → Lowered most ps (v ∷ []) cs ds cs1 ds
    lowered_only ne = record {
      counters_long = length-set cs v (get_or cs v 0 - 1);
      due_long = refl;
      less = λ w. less_at w (bool_cases (eqb v w));
      kept = λ q t. t;
      falls = λ w m q. absurd (at w m q);
      only = λ q t. inl t;
    }
      where
        at : (w : ℕ) → In w (v ∷ []) → get_or cs1 w 0 ≡ most → ⊥
        at w (inl s) q = ne (ap (λ (x : ℕ). get_or cs1 x 0) s ∙ q)
        at w (inr s) q = s

  -- one list after another
  pub lowered_append : (xs ys cs ds cs1 ds1 cs2 ds2 : List ℕ) → ((w : ℕ) → In w xs → In w ys → ⊥) → Lowered most ps xs cs ds cs1 ds1
      → Lowered most ps ys cs1 ds1 cs2 ds2 → Lowered most ps (xs ++ ys) cs ds cs2 ds2
  lowered_append xs ys cs ds cs1 ds1 cs2 ds2 apart h i = record {
    counters_long = i.counters_long ∙ h.counters_long;
    due_long = i.due_long ∙ h.due_long;
    less = λ w. omega (arith, h.less w, i.less w, count_append (λ x. eqb x w) xs ys);
    kept = λ q t. i.kept q (h.kept q t);
    falls = λ w m e. falls w e (in_cases w xs ys m);
    only = λ q t. only q (i.only q t);
  }
    where
      same : (w : ℕ) → In w xs → get_or cs2 w 0 ≡ get_or cs1 w 0
      same w m = omega (arith, i.less w, no_count w ys (apart w m))

      falls : (w : ℕ) → get_or cs2 w 0 ≡ most → In w xs ⊎ In w ys → in_set ds2 (get_or ps w 0) ≡ true
      falls w e (inl m) = i.kept (get_or ps w 0) (h.falls w m (sym (same w m) ∙ e))
      falls w e (inr m) = i.falls w m e

      first : (q : ℕ) → (in_set ds q ≡ true) ⊎ ((w : ℕ) × In w xs × (get_or cs1 w 0 ≡ most) × (get_or ps w 0 ≡ q))
          → (in_set ds q ≡ true) ⊎ ((w : ℕ) × In w (xs ++ ys) × (get_or cs2 w 0 ≡ most) × (get_or ps w 0 ≡ q))
      first q (inl t) = inl t
      first q (inr (w, m, e, s)) = inr (w, in_left w xs ys m, same w m ∙ e, s)

      only : (q : ℕ) → (in_set ds1 q ≡ true) ⊎ ((w : ℕ) × In w ys × (get_or cs2 w 0 ≡ most) × (get_or ps w 0 ≡ q))
          → (in_set ds q ≡ true) ⊎ ((w : ℕ) × In w (xs ++ ys) × (get_or cs2 w 0 ≡ most) × (get_or ps w 0 ≡ q))
      only q (inl t) = first q (h.only q t)
      only q (inr (w, m, e, s)) = inr (w, in_right w xs ys m, e, s)

  -- what the rest leaves, the whole leaves
  pub record Lowering (whole cs0 ds0 rest cs ds : List ℕ) : Type 0 where
    pub ready : Lowerable ps rest cs
    pub due_long : length ds ≡ length ds0
    pub on : (cs2 ds2 : List ℕ) → Lowered most ps rest cs ds cs2 ds2 → Lowered most ps whole cs0 ds0 cs2 ds2

  pub lowering_none : (whole cs ds : List ℕ) → Lowerable ps whole cs → Lowering whole cs ds whole cs ds
  lowering_none whole cs ds h = record { ready = h; due_long = refl; on = λ cs2 ds2 l. l }

  pub lowering_part : (whole cs0 ds0 xs rest cs ds cs1 ds1 : List ℕ) → Lowering whole cs0 ds0 (xs ++ rest) cs ds → Lowered most ps xs cs ds cs1 ds1
      → Lowering whole cs0 ds0 rest cs1 ds1
  lowering_part whole cs0 ds0 xs rest cs ds cs1 ds1 h l = record {
    ready = record {
      once = distinct_right xs rest h.ready.once;
      known = λ w m. (let k = h.ready.known w (in_right w xs rest m) in
          (k.0, k.1, omega (arith, k.2, l.counters_long), k.3, omega (arith, k.4, l.less w, no_count w xs (λ i. apart w i m))));
    };
    due_long = l.due_long ∙ h.due_long;
    on = λ cs2 ds2 i. h.on cs2 ds2 (lowered_append xs rest cs ds cs1 ds1 cs2 ds2 apart l i);
  }
    where
      apart : (w : ℕ) → In w xs → In w rest → ⊥
      apart = distinct_apart xs rest h.ready.once

  pub lowering_first : (whole cs0 ds0 xs rest cs ds : List ℕ) → Lowering whole cs0 ds0 (xs ++ rest) cs ds → Lowerable ps xs cs
  lowering_first whole cs0 ds0 xs rest cs ds h = record {
    once = distinct_left xs rest h.ready.once;
    known = λ w m. h.ready.known w (in_left w xs rest m);
  }

  pub lowering_end : (whole cs0 ds0 rest cs ds : List ℕ) → rest ≡ [] → Lowering whole cs0 ds0 rest cs ds → Lowered most ps whole cs0 ds0 cs ds
  lowering_end whole cs0 ds0 rest cs ds e h = h.on cs ds (rw e (lowered_none cs ds))

  -- the set bits of a word, the lowest first
  pub record WordLowering (first word : ℕ) (cs0 ds0 : List ℕ) (rest : ℕ) (cs ds : List ℕ) : Type 0 where
    pub small : rest < 2 ^ 64
    pub lowering : Lowering (set_bits 64 first word) cs0 ds0 (set_bits 64 first rest) cs ds

  module _ (first word : ℕ) (cs0 ds0 : List ℕ) (rest : ℕ) (cs ds : List ℕ) (h : WordLowering first word cs0 ds0 rest cs ds) (some : rest ≡ 0 → ⊥) where
    abbrev v : ℕ
    v = first + count_trailing_zeros 64 rest

    step : set_bits 64 first rest ≡ (v ∷ []) ++ set_bits 64 first (bit_and rest (rest - 1))
    step = set_bits_lowest 64 first rest (omega (arith, some)) h.small

    pub word_known : (v < length ps) × (v < max_radios) × (v < length cs) × (get_or ps v 0 < max_radios) × (1 ≤ get_or cs v 0)
    word_known = h.lowering.ready.known v (rw step (inl refl))

    pub word_lowered : (cs1 ds1 : List ℕ) → Lowered most ps (v ∷ []) cs ds cs1 ds1 → WordLowering first word cs0 ds0 (bit_and rest (rest - 1)) cs1 ds1
    word_lowered cs1 ds1 l = record {
      small = omega (arith, and_le_l rest (rest - 1), h.small);
      lowering = lowering_part (set_bits 64 first word) cs0 ds0 (v ∷ []) (set_bits 64 first (bit_and rest (rest - 1))) cs ds cs1 ds1 (rw step at h.lowering)
          l;
    }

  -- the words of two sets
  pub record WordsLowering (x y cs0 ds0 : List ℕ) (k : ℕ) (cs ds : List ℕ) : Type 0 where
    pub low : k ≤ 8
    pub lowering : Lowering (common x y) cs0 ds0 (both_from x y k) cs ds

  module _ (x y : List ℕ) where
    pub words_lowering_none : (cs ds : List ℕ) → Lowerable ps (common x y) cs → WordsLowering x y cs ds 0 cs ds
    words_lowering_none cs ds h =
        let all = common_filter x y in
        record { low = omega arith; lowering = rw all (lowering_none (both_from x y 0) cs ds (rw all at h)) }

    module _ (cs0 ds0 : List ℕ) (k : ℕ) (cs ds : List ℕ) (h : WordsLowering x y cs0 ds0 k cs ds) where
      pub words_lowering_end : 8 ≤ k → Lowered most ps (common x y) cs0 ds0 cs ds
      words_lowering_end l = lowering_end (common x y) cs0 ds0 (both_from x y k) cs ds (words_end _ k l) h.lowering

      module _ (l : k < 8) where
        abbrev here : List ℕ
        here = set_bits 64 (64 * k) (bit_and (get_or x k 0) (get_or y k 0))

        cut : both_from x y k ≡ here ++ both_from x y (k + 1)
        cut = words_from _ k (bit_and (get_or x k 0) (get_or y k 0)) l (both_word x y k)

        split : Lowering (common x y) cs0 ds0 (here ++ both_from x y (k + 1)) cs ds
        split = rw cut at h.lowering

        pub words_ready : Lowerable ps here cs
        words_ready = lowering_first (common x y) cs0 ds0 here (both_from x y (k + 1)) cs ds split

        pub words_lowered : (cs1 ds1 : List ℕ) → Lowered most ps here cs ds cs1 ds1 → WordsLowering x y cs0 ds0 (k + 1) cs1 ds1
        words_lowered cs1 ds1 i = record {
          low = omega arith;
          lowering = lowering_part (common x y) cs0 ds0 here (both_from x y (k + 1)) cs ds cs1 ds1 split i;
        }

-- ---- the neighbours after the call

module _ {a b v n : ℕ} {ts : List ℕ} (ready : EndsKnown a b v n ts) (ws us : List ℕ) (joined : RowJoined ts v ws us) where
  abbrev after : ℕ → Bool
  after x = marked (put_link true a b ts) v x

  bits_row : (x : ℕ) → x < max_radios → in_set us x ≡ (in_set ws x || marked ts v x)
  bits_row x l =
      joined.bits x
      ∙ ap (λ (z : Bool). in_set ws x || z)
      (ap (member x) (row_listed_whole ts v (omega (arith, ready.radio, ready.whole))) ∙ member_neighbours_of ts v x l)

  after_is : (x : ℕ) → x < max_radios → after x ≡ cond (ends a b v x) true (marked ts v x)
  after_is x l = marked_put_link true n a b ts v x ready.small ready.whole ready.first ready.second l

  module _ (w : ℕ) (ew : w ≡ other_end a b v) where
    which : ((v ≡ a) × (w ≡ b)) ⊎ (((v ≡ b) × (w ≡ a)) ⊎ ((v ≡ a → ⊥) × (v ≡ b → ⊥) × (w ≡ v)))
    unfolding other_end
    which = go (bool_cases (eqb v a)) (bool_cases (eqb v b)) ew
      where
        go : (eqb v a ≡ true) ⊎ (eqb v a ≡ false) → (eqb v b ≡ true) ⊎ (eqb v b ≡ false) → w ≡ cond (eqb v a) b (cond (eqb v b) a v)
            → ((v ≡ a) × (w ≡ b)) ⊎ (((v ≡ b) × (w ≡ a)) ⊎ ((v ≡ a → ⊥) × (v ≡ b → ⊥) × (w ≡ v)))
        go (inl e) f q = inl (eqb-true v a e, rw e at q)
        go (inr e) (inl f) q = inr (inl (eqb-true v b f, rw (e, f) at q))
        go (inr e) (inr f) q = inr (inr (eqb-false v a e, eqb-false v b f, rw (e, f) at q))

    pub joined_row : w ≡ v → JoinedAfter a b v ts ws us
    unfolding ends
    joined_row e = record { long = joined.long; bits = λ x l. bits_row x l ∙ ap (λ (z : Bool). in_set ws x || z) (sym (after_is x l ∙ plain x which)) }
      where
        plain : (x : ℕ) → ((v ≡ a) × (w ≡ b)) ⊎ (((v ≡ b) × (w ≡ a)) ⊎ ((v ≡ a → ⊥) × (v ≡ b → ⊥) × (w ≡ v)))
            → cond (ends a b v x) true (marked ts v x) ≡ marked ts v x
        plain x (inl q) = absurd (ready.differ (sym q.0 ∙ sym e ∙ q.1))
        plain x (inr (inl q)) = absurd (ready.differ (sym q.1 ∙ e ∙ q.0))
        plain x (inr (inr q)) = rw (ne_eqb a v (λ s. q.0 (sym s)), ne_eqb b v (λ s. q.1 (sym s))) (no_other (eqb a x))
          where
            no_other : (s : Bool) → cond (s && false) true (marked ts v x) ≡ marked ts v x
            no_other true = refl
            no_other false = refl

    pub joined_end : (w ≡ v → ⊥) → (us1 : List ℕ) → us1 ≡ put_in w us → JoinedAfter a b v ts ws us1
    unfolding ends
    joined_end ne us1 made = record {
      long = ap length made ∙ length_put_in w us ∙ joined.long;
      bits = λ x l. at x l which;
    }
      where
        bits : (x : ℕ) → w < max_radios → in_set us1 x ≡ cond (eqb w x) true (in_set us x)
        bits x lw = ap (λ (z : List ℕ). in_set z x) made ∙ in_put_in w x us (omega (arith, joined.long))

        one : (e s p m : Bool) → cond e true (p || m) ≡ (p || cond (e || (s && false)) true m)
        one true s true m = refl
        one true s false m = refl
        one false true p m = refl
        one false false p m = refl

        two : (e p m : Bool) → cond e true (p || m) ≡ (p || cond (e && true) true m)
        two true true m = refl
        two true false m = refl
        two false p m = refl

        at : (x : ℕ) → x < max_radios → ((v ≡ a) × (w ≡ b)) ⊎ (((v ≡ b) × (w ≡ a)) ⊎ ((v ≡ a → ⊥) × (v ≡ b → ⊥) × (w ≡ v)))
            → in_set us1 x ≡ (in_set ws x || after x)
        at x l (inl q) =
            bits x (omega (arith, q.1, ready.second, ready.small))
            ∙ rw (bits_row x l, after_is x l, q.1, eq-eqb a v (sym q.0), ne_eqb b v (λ s. ready.differ (sym q.0 ∙ sym s)))
            (one (eqb b x) (eqb a x) (in_set ws x) (marked ts v x))
        at x l (inr (inl q)) =
            bits x (omega (arith, q.1, ready.first, ready.small))
            ∙ rw (bits_row x l, after_is x l, q.1, ne_eqb a v (λ s. ready.differ (s ∙ q.0)), eq-eqb b v (sym q.0))
            (two (eqb a x) (in_set ws x) (marked ts v x))
        at x l (inr (inr q)) = absurd (ne q.2)

-- ---- listed radios as a set

-- the radios before place i are in the set
pub record Setting (list : List ℕ) (i : ℕ) (ws : List ℕ) : Type 0 where
  pub long : length ws ≡ 8
  pub is : (w : ℕ) → w < max_radios → in_set ws w ≡ member w (take i list)

pub setting_none : (list : List ℕ) → Setting list 0 (replicate 8 0)
unfolding member
setting_none list = record { long = length-replicate {A = ℕ} 8 0; is = λ w l. in_set_zeros 8 w }

pub setting_turn : (list : List ℕ) (i : ℕ) (ws us : List ℕ) → i < length list → us ≡ put_in (get_or list i 0) ws → Setting list i ws → Setting list (i + 1) us
unfolding member
setting_turn list i ws us l made h = record {
  long = ap length made ∙ length_put_in (get_or list i 0) ws ∙ h.long;
  is = λ w lw. ap (λ (z : List ℕ). in_set z w) made ∙ at w lw (bool_cases (ltb (get_or list i 0) max_radios))
      ∙ sym (ap (λ (k : ℕ). member w (take k list)) (add-one i) ∙ ap (member w) (take-suc list i 0 l) ∙ member_append w (take i list) (get_or list i 0 ∷ []));
}
  where
    v : ℕ
    v = get_or list i 0

    either : (e p : Bool) → cond e true p ≡ (p || (e || false))
    either true true = refl
    either true false = refl
    either false true = refl
    either false false = refl

    at : (w : ℕ) → w < max_radios → (ltb v max_radios ≡ true) ⊎ (ltb v max_radios ≡ false) → in_set (put_in v ws) w ≡
        (member w (take i list) || member w (v ∷ []))
    at w lw (inl e) = in_put_in v w ws (omega (arith, h.long, ltb-true v max_radios e)) ∙ rw (h.is w lw) (either (eqb v w) (member w (take i list)))
    at w lw (inr e) =
        let far = ltb-false v max_radios e in
        ap (λ (z : List ℕ). in_set z w) (put_in_past ws v (omega (arith, h.long))) ∙ h.is w lw
        ∙ rw (ne_eqb v w (λ z. omega arith)) (no (member w (take i list)))
      where
        no : (p : Bool) → p ≡ (p || false)
        no true = refl
        no false = refl
