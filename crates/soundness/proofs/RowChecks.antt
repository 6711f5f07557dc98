-- One row of the check on plain values: its ends good or not, the row good or not.
use Rattle.std.specs.Prelude.{◌≡◌, ◌⊎◌, ◌&&◌, ◌%◌, ◌*◌, ◌≤◌, ◌<◌}
use Rattle.lists.{specs.Kit.{refl, sym, ap, ◌∙◌, inl, inr, Bool, true, false, not, and-false, List, [], ℕ, arith, ltb, leb}}
use Rattle.lists.{specs.Kit.{eqb, length, ltb-true, ltb-false, lt-ltb, le-leb, lt-leb, eq-eqb, ne_eqb}, specs.Lists.{range, count, all, In}}
use Rattle.lists.{proofs.Tests.{bool_cases, never, iff_eq}, proofs.All.{all_in, in_all}, proofs.Filter.{filter_in}, proofs.Range.{in_range}}
use Rattle.mesh.specs.{Limits.{max_radios, max_neighbours, row_bytes}, Tables.{marked}, Sound.{number_in}}
use Rattle.rows.{specs.Rows.{neighbours_of}, proofs.MaskLaws.{marked_past}, proofs.RowListLaws.{in_neighbours_of}}
use Rattle.conditions.specs.Conditions.{first_key, later_count, high_count, ends_good, row_good}
use Rattle.soundness.specs.Checks.{ends_mark, Tally, tally, Tallied, HighestWords, EndsRoom, EndsCounted, RowsRoom, RowChecked}
use Rattle.soundness.proofs.Tallies.{first_key_most}

-- only a radio of the site has a row that marks
pub marked_radio : (n : ℕ) (ts : List ℕ) → length ts ≡ row_bytes * n → (b a : ℕ) → marked ts b a ≡ true → b < n
marked_radio n ts e b a h = go (bool_cases (ltb b n))
  where
    go : (ltb b n ≡ true) ⊎ (ltb b n ≡ false) → b < n
    go (inl q) = ltb-true b n q
    go (inr q) = never (marked ts b a) h (marked_past ts b a (omega (arith, ltb-false b n q)))

-- ---- the ends of a row

module _ (n : ℕ) (links numbers places : List ℕ) (a : ℕ) where
  abbrev near : List ℕ
  near = neighbours_of links a

  abbrev few : Bool
  few = leb (length near) max_neighbours

  abbrev end_good : ℕ → Bool
  end_good b = ltb b n && (not (eqb b a) && marked links b a)

  ends_bad : (few && ends_good n links a near) ≡ false → EndsCounted n links numbers places a false 0 0 0
  ends_bad e = record { answer = sym e; later_is = λ f. never false f refl; first_is = λ f. never false f refl; high_is = λ f. never false f refl }

  -- the radio itself
  pub ends_own : a < max_radios → marked links a a ≡ true → EndsCounted n links numbers places a false 0 0 0
  unfolding ends_good neighbours_of
  ends_own l m = ends_bad (go (bool_cases (ends_good n links a near)))
    where
      here : In a near
      here = filter_in (λ b. marked links a b) (range 0 max_radios) a (in_range 0 max_radios a (omega arith) (omega arith)) m

      own : end_good a ≡ false
      own = rw (eq-eqb a a refl) (and-false (ltb a n))

      go : (ends_good n links a near ≡ true) ⊎ (ends_good n links a near ≡ false) → (few && ends_good n links a near) ≡ false
      go (inl e) = never (end_good a) (all_in end_good near e a here) own
      go (inr e) = rw e (and-false few)

  pub ends_many : max_neighbours < length near → EndsCounted n links numbers places a false 0 0 0
  ends_many l = ends_bad (rw (lt-leb (length near) max_neighbours l))

  module _ (long : length links ≡ row_bytes * n) (own : marked links a a ≡ false) where
    -- a radio that marks a has a row, and is not a
    end_marks : (b : ℕ) → In b near → end_good b ≡ marked links b a
    end_marks b m = go (bool_cases (marked links b a))
      where
        other : b ≡ a → ⊥
        other e = never (marked links a a) (rw e at (in_neighbours_of links a b m).1) own

        go : (marked links b a ≡ true) ⊎ (marked links b a ≡ false) → end_good b ≡ marked links b a
        go (inl e) = rw (lt-ltb b n (marked_radio n links long b a e), ne_eqb b a other)
        go (inr e) = rw (e, and-false (not (eqb b a)), and-false (ltb b n))

    ends_marked : ends_good n links a near ≡ ends_mark links a near
    unfolding ends_good ends_mark
    ends_marked =
        let mark : ℕ → Bool = λ b. marked links b a in
        iff_eq (all end_good near) (all mark near)
        (λ h. in_all mark near (λ b m. sym (end_marks b m) ∙ all_in end_good near h b m))
        (λ h. in_all end_good near (λ b m. end_marks b m ∙ all_in mark near h b m))

    pub ends_alone : ends_mark links a near ≡ false → EndsCounted n links numbers places a false 0 0 0
    ends_alone e = ends_bad (rw (ends_marked ∙ e, and-false few))

    pub ends_right : (t : Tally) → t.count ≤ max_neighbours → (ends_mark links a near ≡ true) × Tallied numbers places a (tally 0 0 0 4294967295) near [] t
        → EndsCounted n links numbers places a true t.later t.high (t.key % 65536)
    unfolding later_count high_count count first_key
    ends_right t l w = record {
      answer = sym (rw (le-leb (length near) max_neighbours (omega (arith, w.1.count_is)), ends_marked ∙ w.0));
      later_is = λ _. omega (arith, w.1.later_is);
      high_is = λ _. omega (arith, w.1.high_is);
      first_is = λ _. ap (λ (x : ℕ). x % 65536) (omega (arith, w.1.first_is, w.1.few_key, first_key_most places a near));
    }

-- ---- one row

pub row_room : (n links numbers places a : ℕ) (words : List ℕ) → RowsRoom n links numbers places → HighestWords n words → a < n
    → EndsRoom a links numbers places × HighestWords numbers words
row_room n links numbers places a words r h l = (
  record {
    linked = omega (arith, r.linked, r.numbered);
    placed = omega (arith, r.placed, r.numbered);
    radio = omega (arith, r.numbered);
    small = omega (arith, r.small, r.numbered);
  },
  rw r.numbered h,
)

module _ (n : ℕ) (links numbers places : List ℕ) (a : ℕ) (room : RowsRoom n (length links) (length numbers) (length places)) where
  abbrev xs : List ℕ
  xs = neighbours_of links a

  row_bad : row_good max_neighbours n links numbers places a ≡ false → RowChecked n links numbers places a false 0
  row_bad e = record { answer = sym e; high_is = λ f. never false f refl }

  module _ (good : Bool) (later high first : ℕ) (counted : EndsCounted (length numbers) links numbers places a good later high first) where
    ends : EndsCounted n links numbers places a good later high first
    ends = rw room.numbered at counted

    abbrev counts : Bool
    counts = leb (later_count places a xs) (number_in numbers a) && leb (number_in numbers a) (high_count numbers a xs)

    row_is : row_good max_neighbours n links numbers places a ≡ (good && counts)
    unfolding row_good
    row_is =
        go (leb (length xs) max_neighbours) (ends_good n links a xs) counts ∙ ap (λ (g : Bool). g && counts) (sym ends.answer)
      where
        go : (p q r : Bool) → (p && (q && r)) ≡ ((p && q) && r)
        go true q r = refl
        go false q r = refl

    pub row_ends_bad : good ≡ false → RowChecked n links numbers places a false 0
    row_ends_bad g = row_bad (row_is ∙ rw g)

    module _ (g : good ≡ true) where
      pub row_later_bad : number_in numbers a < later → RowChecked n links numbers places a false 0
      row_later_bad l = row_bad (row_is ∙ rw (g, lt-leb (later_count places a xs) (number_in numbers a) (omega (arith, ends.later_is g))))

      module _ (l : later ≤ number_in numbers a) where
        low : leb (later_count places a xs) (number_in numbers a) ≡ true
        low = le-leb (later_count places a xs) (number_in numbers a) (omega (arith, ends.later_is g))

        pub row_high_bad : high < number_in numbers a → RowChecked n links numbers places a false 0
        row_high_bad h = row_bad (row_is ∙ rw (g, low, lt-leb (number_in numbers a) (high_count numbers a xs) (omega (arith, ends.high_is g))))

        pub row_right : number_in numbers a ≤ high → RowChecked n links numbers places a true high
        row_right h = record {
          answer = sym (row_is ∙ rw (g, low, le-leb (number_in numbers a) (high_count numbers a xs) (omega (arith, ends.high_is g))));
          high_is = λ _. ends.high_is g;
        }
