-- The leaves of the peel, as laws of counters and sets.
--   is_due        what each test of the code says of it
--   Lowered       of nobody, of one radio, of some radios and then others
--   Lowering      what the rest leaves, the whole leaves; the bits of a word and the words of two sets in turn
use Rattle.std.specs.Prelude.{◌≡◌, ◌⊎◌, ◌&&◌, ◌||◌, ◌∷◌, ◌+◌, ◌-◌, ◌≤◌, ◌<◌, ◌++◌, ◌*◌, ◌^◌}
use Rattle.lists.{specs.Kit.{refl, sym, ap, subst, ◌∙◌, inl, inr, Bool, true, false, not, cond, List, [], ℕ}}
use Rattle.lists.{specs.Kit.{arith, ltb, leb, eqb, length, get_or, set, length-set}}
use Rattle.lists.{specs.Kit.{get_or-set_same, get_or-set_other, eqb-true, eqb-false, eq-eqb, ne_eqb, ltb-true, ltb-false, le-leb, lt-leb, lt-ltb}}
use Rattle.lists.{specs.Kit.{le-ltb}, specs.Lists.{In, member}, specs.Facts.{Distinct}, proofs.Tests.{bool_cases, cond_false}}
use Rattle.lists.{proofs.Member.{not_member}, proofs.Parts.{get_d_any}}
use Rattle.mesh.{specs.Limits.{max_radios}}
use Rattle.lifting.{specs.Peeling.{left}, proofs.Peeling.{below_left, high_left}}
use Rattle.lists.{specs.Kit.{bit_and, and_le_l, count_trailing_zeros}, specs.Lists.{range, filter}, proofs.Range.{range_in, distinct_range}}
use Rattle.lists.{proofs.Filter.{in_filter, distinct_filter}, proofs.Member.{member_append, member_in}, proofs.Distinct.{distinct_right, distinct_apart}}
use Rattle.mesh.specs.Tables.{digit}
use Rattle.rows.{specs.Rows.{set_bits}, specs.Sets.{common}, proofs.WordLaws.{set_bits_filter, set_bits_lowest, set_bits_nothing}}
use Rattle.rows.{proofs.RowWords.{words_from, words_end}, proofs.SetLaws.{both_from, both_word, common_filter}}
use Rattle.lift.specs.Peels.{is_due, gone_of, Lowered}
use Rattle.rows.specs.Sets.{in_set}

-- ---- tests

pub and_no : (a b : Bool) → b ≡ false → (a && b) ≡ false
and_no true b e = e
and_no false b e = refl

pub or_no : (a b : Bool) → b ≡ false → (a || b) ≡ a
or_no true b e = refl
or_no false b e = e

-- ---- is_due

module _ (k a : ℕ) (held cs : List ℕ) (v : ℕ) (l : v < length cs) where
  pub due_high : k < get_or cs v 0 → false ≡ is_due k a held cs v
  unfolding is_due
  due_high h = rw (lt-leb (get_or cs v 255) k (omega (arith, get_d_any cs v 0 255 l)))

  pub due_own : get_or cs v 0 ≤ k → v ≡ a → false ≡ is_due k a held cs v
  unfolding is_due
  due_own h e = rw (le-leb (get_or cs v 255) k (omega (arith, get_d_any cs v 0 255 l)), eq-eqb v a e)

  pub due_short : get_or cs v 0 < k → (v ≡ a → ⊥) → true ≡ is_due k a held cs v
  unfolding is_due
  due_short h ne =
      let e = get_d_any cs v 0 255 l in rw (le-leb (get_or cs v 255) k (omega (arith, e)), ne_eqb v a ne, lt-ltb (get_or cs v 255) k (omega (arith, e)))

  pub due_other : (t : Bool) → get_or cs v 0 ≤ k → (v ≡ a → ⊥) → k ≤ get_or cs v 0 → t ≡ in_set held v → not t ≡ is_due k a held cs v
  unfolding is_due
  due_other t h ne m e =
      let q = get_d_any cs v 0 255 l in
      rw (le-leb (get_or cs v 255) k (omega (arith, q)), ne_eqb v a ne, le-ltb (get_or cs v 255) k (omega (arith, q)), e)

-- ---- the end of a peel

pub gone_taken : (k a r : ℕ) (cs : List ℕ) → r < length cs → 128 ≤ get_or cs r 0 → true ≡ gone_of k a r cs
unfolding gone_of
gone_taken k a r cs l h = rw (high_left cs r (omega (arith, h, get_d_any cs r 0 255 l)))

pub gone_short : (k a r : ℕ) (cs : List ℕ) → r < length cs → a < length cs → get_or cs r 0 < 128 → ltb (get_or cs a 0) k ≡ gone_of k a r cs
unfolding gone_of
gone_short k a r cs l m h = rw (below_left cs r (omega (arith, h, get_d_any cs r 0 255 l)), get_d_any cs a 0 255 m)

pub over_stop : (k a r b : ℕ) (cs : List ℕ) (t : Bool) → b < length cs → t ≡ gone_of k a r cs → t ≡ false
    → leb 128 (get_or cs b 0) ≡ (gone_of k a r cs || not (left cs b))
unfolding left
over_stop k a r b cs t l e q = rw (sym e ∙ q, get_d_any cs b 0 255 l) (turn (get_or cs b 255))
  where
    turn : (x : ℕ) → leb 128 x ≡ not (ltb x 128)
    turn x = at (bool_cases (ltb x 128))
      where
        at : (ltb x 128 ≡ true) ⊎ (ltb x 128 ≡ false) → leb 128 x ≡ not (ltb x 128)
        at (inl z) = rw z (lt-leb 128 x (ltb-true x 128 z))
        at (inr z) = rw z (le-leb 128 x (ltb-false x 128 z))

-- ---- nobody lowered

pub lowered_none : (k a : ℕ) (held cs due : List ℕ) → Lowered k a held [] cs due cs due
unfolding member
lowered_none k a held cs due = record {
  long = refl;
  counter_after = λ w. sym (cond_false (left cs w && false) (get_or cs w 255 - 1) (get_or cs w 255) (and_no (left cs w) false refl));
  due_after = λ w l. sym (or_no (in_set due w) ((left cs w && false) && is_due k a held cs w) (rw (and_no (left cs w) false refl)));
}

-- ---- one radio lowered

one_other : (w v : ℕ) → (w ≡ v → ⊥) → member v (w ∷ []) ≡ false
unfolding member
one_other w v ne = rw (ne_eqb w v ne)

one_same : (w v : ℕ) → w ≡ v → member v (w ∷ []) ≡ true
unfolding member
one_same w v e = rw (eq-eqb w v e)

module _ (k a w : ℕ) (held cs due : List ℕ) (l : w < length cs) where
  untouched : (v : ℕ) → left cs w ≡ false → (left cs v && member v (w ∷ [])) ≡ false
  untouched v gone = by_test (bool_cases (eqb w v))
    where
      by_test : (eqb w v ≡ true) ⊎ (eqb w v ≡ false) → (left cs v && member v (w ∷ [])) ≡ false
      by_test (inl q) = rw (ap (left cs) (sym (eqb-true w v q)) ∙ gone)
      by_test (inr q) = and_no (left cs v) (member v (w ∷ [])) (one_other w v (eqb-false w v q))

  gone : 128 ≤ get_or cs w 0 → left cs w ≡ false
  unfolding left
  gone h = le-ltb (get_or cs w 255) 128 (omega (arith, get_d_any cs w 0 255 l))

  pub lowered_gone : 128 ≤ get_or cs w 0 → Lowered k a held (w ∷ []) cs due cs due
  lowered_gone h = record {
    long = refl;
    counter_after = λ v. sym (cond_false (left cs v && member v (w ∷ [])) (get_or cs v 255 - 1) (get_or cs v 255) (untouched v (gone h)));
    due_after = λ v lv. sym (or_no (in_set due v) ((left cs v && member v (w ∷ [])) && is_due k a held cs v) (rw (untouched v (gone h))));
  }

  is_left : get_or cs w 0 < 128 → left cs w ≡ true
  unfolding left
  is_left h = lt-ltb (get_or cs w 255) 128 (omega (arith, get_d_any cs w 0 255 l))

  -- y is the counter after, t whether w is then due
  module _ (y : ℕ) (t : Bool) (new : List ℕ) (h : get_or cs w 0 < 128) (less : y ≡ get_or cs w 0 - 1)
      (test : t ≡ is_due k a held (set cs w y) w) (put : (v : ℕ) → in_set new v ≡ (in_set due v || (eqb w v && t))) where
    abbrev ds : List ℕ
    ds = set cs w y

    counter_at : (v : ℕ) → (eqb w v ≡ true) ⊎ (eqb w v ≡ false) → get_or ds v 255 ≡ cond (left cs v && member v (w ∷ [])) (get_or cs v 255 - 1) (get_or cs v 255)
    counter_at v (inl q) =
        let e : w ≡ v = eqb-true w v q in
        subst (λ (x : ℕ). get_or ds x 255 ≡ cond (left cs x && member x (w ∷ [])) (get_or cs x 255 - 1) (get_or cs x 255)) e
        (rw (is_left h, one_same w w refl) (get_or-set_same cs w y 255 l ∙ less ∙ ap (λ (x : ℕ). x - 1) (get_d_any cs w 0 255 l)))
    counter_at v (inr q) =
        get_or-set_other cs w v y 255 (λ e. eqb-false w v q (sym e))
        ∙ sym (cond_false (left cs v && member v (w ∷ [])) (get_or cs v 255 - 1) (get_or cs v 255) (and_no (left cs v) (member v (w ∷ [])) (one_other w v
        (eqb-false w v q))))

    due_at : (v : ℕ) → (eqb w v ≡ true) ⊎ (eqb w v ≡ false) → (eqb w v && t) ≡ ((left cs v && member v (w ∷ [])) && is_due k a held ds v)
    due_at v (inl q) =
        let e : w ≡ v = eqb-true w v q in
        subst (λ (x : ℕ). (eqb w x && t) ≡ ((left cs x && member x (w ∷ [])) && is_due k a held ds x)) e (rw
        (is_left h, one_same w w refl, eq-eqb w w refl) test)
    due_at v (inr q) = rw (q, and_no (left cs v) (member v (w ∷ [])) (one_other w v (eqb-false w v q)))

    pub lowered_one : Lowered k a held (w ∷ []) cs due ds new
    lowered_one = record {
      long = length-set cs w y;
      counter_after = λ v. counter_at v (bool_cases (eqb w v));
      due_after = λ v lv. put v ∙ ap (λ (b : Bool). in_set due v || b) (due_at v (bool_cases (eqb w v)));
    }

-- ---- some radios lowered, and then others

module _ (k a : ℕ) (held xs ys cs due cs1 due1 ds new : List ℕ) (apart : (w : ℕ) → In w xs → In w ys → ⊥) (one : Lowered k a held xs cs due cs1 due1)
    (rest : Lowered k a held ys cs1 due1 ds new) where
  more_same : (w : ℕ) → member w xs ≡ true → member w ys ≡ false
  more_same w e = not_member w ys (apart w (member_in w xs e))

  more_other : (w : ℕ) → member w xs ≡ false → member w (xs ++ ys) ≡ member w ys
  more_other w e = member_append w xs ys ∙ rw e

  both_same : (w : ℕ) → member w xs ≡ true → member w xs ≡ member w (xs ++ ys)
  both_same w e = e ∙ sym (member_append w xs ys ∙ ap (λ (b : Bool). b || member w ys) e)

  counter_same : (w : ℕ) → member w xs ≡ true → get_or ds w 255 ≡ get_or cs1 w 255
  counter_same w e =
      rest.counter_after w ∙ cond_false (left cs1 w && member w ys) (get_or cs1 w 255 - 1) (get_or cs1 w 255) (and_no (left cs1 w) (member w ys) (more_same w e))

  counter_other : (w : ℕ) → member w xs ≡ false → get_or cs1 w 255 ≡ get_or cs w 255
  counter_other w e =
      one.counter_after w ∙ cond_false (left cs w && member w xs) (get_or cs w 255 - 1) (get_or cs w 255) (and_no (left cs w) (member w xs) e)

  left_other : (w : ℕ) → member w xs ≡ false → left cs1 w ≡ left cs w
  unfolding left
  left_other w e = ap (λ (y : ℕ). ltb y 128) (counter_other w e)

  due_like : (w : ℕ) → member w xs ≡ true → is_due k a held cs1 w ≡ is_due k a held ds w
  unfolding is_due
  due_like w e = rw (counter_same w e)

  counter_both : (w : ℕ) → (member w xs ≡ true) ⊎ (member w xs ≡ false)
      → get_or ds w 255 ≡ cond (left cs w && member w (xs ++ ys)) (get_or cs w 255 - 1) (get_or cs w 255)
  counter_both w (inl e) =
      counter_same w e ∙ one.counter_after w ∙ ap (λ (b : Bool). cond (left cs w && b) (get_or cs w 255 - 1) (get_or cs w 255)) (both_same w e)
  counter_both w (inr e) = rw (more_other w e, sym (left_other w e), sym (counter_other w e)) (rest.counter_after w)

  due_both : (w : ℕ) → w < max_radios → (member w xs ≡ true) ⊎ (member w xs ≡ false)
      → in_set new w ≡ (in_set due w || ((left cs w && member w (xs ++ ys)) && is_due k a held ds w))
  due_both w l (inl e) =
      rest.due_after w l
      ∙ or_no (in_set due1 w) ((left cs1 w && member w ys) && is_due k a held ds w) (rw (and_no (left cs1 w) (member w ys) (more_same w e)))
      ∙ one.due_after w l
      ∙ rw (both_same w e, due_like w e)
  due_both w l (inr e) =
      rest.due_after w l
      ∙ ap (λ (b : Bool). b || ((left cs1 w && member w ys) && is_due k a held ds w))
      (one.due_after w l ∙ or_no (in_set due w) ((left cs w && member w xs) && is_due k a held cs1 w) (rw (and_no (left cs w) (member w xs) e)))
      ∙ rw (more_other w e, left_other w e)

  pub lowered_append : Lowered k a held (xs ++ ys) cs due ds new
  lowered_append = record {
    long = rest.long ∙ one.long;
    counter_after = λ w. counter_both w (bool_cases (member w xs));
    due_after = λ w l. due_both w l (bool_cases (member w xs));
  }

-- ---- the radios of words lowered

-- rest is left
pub record Lowering (k a : ℕ) (held xs old old_due rest cs due : List ℕ) : Type 0 where
  pub once : Distinct rest
  pub whole : (ds new : List ℕ) → Lowered k a held rest cs due ds new → Lowered k a held xs old old_due ds new

module _ (k a : ℕ) (held xs old old_due : List ℕ) where
  pub lowering_none : Distinct xs → Lowering k a held xs old old_due xs old old_due
  lowering_none d = record { once = d; whole = λ ds new h. h }

  lowering_part : (ys rest cs due ds new : List ℕ) → Lowering k a held xs old old_due (ys ++ rest) cs due → Lowered k a held ys cs due ds new
      → Lowering k a held xs old old_due rest ds new
  lowering_part ys rest cs due ds new h one = record {
    once = distinct_right ys rest h.once;
    whole = λ es end r. h.whole es end (lowered_append k a held ys rest cs due ds new es end (distinct_apart ys rest h.once) one r);
  }

  lowering_end : (rest cs due : List ℕ) → rest ≡ [] → Lowering k a held xs old old_due rest cs due → Lowered k a held xs old old_due cs due
  lowering_end rest cs due e h = h.whole cs due (rw e (lowered_none k a held cs due))

-- where the lowest set bit of a word stands
pub lowest_bit : (w : ℕ) → (w ≡ 0 → ⊥) → w < 2 ^ 64 → (count_trailing_zeros 64 w < 64) × (digit w (count_trailing_zeros 64 w) ≡ true)
lowest_bit w some small = go (in_filter (digit w) (range 0 64) (0 + count_trailing_zeros 64 w) listed)
  where
    listed : In (0 + count_trailing_zeros 64 w) (filter (digit w) (range 0 64))
    listed =
        subst (In (0 + count_trailing_zeros 64 w))
        (sym (set_bits_lowest 64 0 w (omega arith) small) ∙ set_bits_filter 64 0 w (digit w) (λ m l. ap (digit w) (omega arith))) (inl refl)

    go : In (0 + count_trailing_zeros 64 w) (range 0 64) × (digit w (0 + count_trailing_zeros 64 w) ≡ true)
        → (count_trailing_zeros 64 w < 64) × (digit w (count_trailing_zeros 64 w) ≡ true)
    go (there, on) = let same : 0 + count_trailing_zeros 64 w ≡ count_trailing_zeros 64 w = omega arith in
        (omega (arith, (range_in 0 64 (0 + count_trailing_zeros 64 w) there).1), ap (digit w) (sym same) ∙ on)

-- the set bits of a word, the lowest first
pub record WordLowering (k a : ℕ) (held : List ℕ) (first word : ℕ) (old old_due : List ℕ) (rest : ℕ) (cs due : List ℕ) : Type 0 where
  pub small : rest < 2 ^ 64
  pub lowering : Lowering k a held (set_bits 64 first word) old old_due (set_bits 64 first rest) cs due

module _ (k a : ℕ) (held : List ℕ) (first word : ℕ) (old old_due : List ℕ) where
  distinct_bits : (w : ℕ) → Distinct (set_bits 64 first w)
  distinct_bits w =
      let f : ℕ → Bool = λ v. digit w (v - first) in
      subst Distinct (sym (set_bits_filter 64 first w f (λ m l. ap (digit w) (omega arith)))) (distinct_filter f (range first 64) (distinct_range first 64))

  pub word_none : word < 2 ^ 64 → WordLowering k a held first word old old_due word old old_due
  word_none l = record { small = l; lowering = lowering_none k a held (set_bits 64 first word) old old_due (distinct_bits word) }

  pub word_turn : (rest : ℕ) (cs due ds new : List ℕ) → (rest ≡ 0 → ⊥) → WordLowering k a held first word old old_due rest cs due
      → Lowered k a held ((first + count_trailing_zeros 64 rest) ∷ []) cs due ds new
      → WordLowering k a held first word old old_due (bit_and rest (rest - 1)) ds new
  word_turn rest cs due ds new some h one = record {
    small = omega (arith, and_le_l rest (rest - 1), h.small);
    lowering = lowering_part k a held (set_bits 64 first word) old old_due ((first + count_trailing_zeros 64 rest) ∷ [])
        (set_bits 64 first (bit_and rest (rest - 1))) cs due ds new (rw (set_bits_lowest 64 first rest (omega arith) h.small) at h.lowering) one;
  }

  pub word_end : (rest : ℕ) (cs due : List ℕ) → rest ≡ 0 → WordLowering k a held first word old old_due rest cs due
      → Lowered k a held (set_bits 64 first word) old old_due cs due
  word_end rest cs due e h =
      lowering_end k a held (set_bits 64 first word) old old_due (set_bits 64 first rest) cs due
      (ap (set_bits 64 first) e ∙ set_bits_nothing 64 first) h.lowering

-- the words of two sets
pub record WordsLowering (k a : ℕ) (held x y old old_due : List ℕ) (i : ℕ) (cs due : List ℕ) : Type 0 where
  pub low : i ≤ 8
  pub lowering : Lowering k a held (common x y) old old_due (both_from x y i) cs due

module _ (k a : ℕ) (held x y old old_due : List ℕ) where
  pub words_none : WordsLowering k a held x y old old_due 0 old old_due
  words_none = record {
    low = omega arith;
    lowering = rw (common_filter x y) (lowering_none k a held (both_from x y 0) old old_due
        (distinct_filter _ (range 0 max_radios) (distinct_range 0 max_radios)));
  }

  pub words_turn : (i : ℕ) (cs due ds new : List ℕ) → i < 8 → WordsLowering k a held x y old old_due i cs due
      → Lowered k a held (set_bits 64 (64 * i) (bit_and (get_or x i 0) (get_or y i 0))) cs due ds new
      → WordsLowering k a held x y old old_due (i + 1) ds new
  words_turn i cs due ds new l h one = record {
    low = omega arith;
    lowering = lowering_part k a held (common x y) old old_due (set_bits 64 (64 * i) (bit_and (get_or x i 0) (get_or y i 0))) (both_from x y (i + 1)) cs due ds new
        (rw (words_from _ i (bit_and (get_or x i 0) (get_or y i 0)) l (both_word x y i)) at h.lowering) one;
  }

  pub words_over : (i : ℕ) (cs due : List ℕ) → 8 ≤ i → WordsLowering k a held x y old old_due i cs due → Lowered k a held (common x y) old old_due cs due
  words_over i cs due l h = lowering_end k a held (common x y) old old_due (both_from x y i) cs due (words_end _ i l) h.lowering
