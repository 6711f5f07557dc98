-- The loop of the peel, as its invariant: the entries written so far are taken. A turn takes the radio at p, the lowest place that fits.
use Rattle.std.specs.Prelude.{None, Some, ◌≡◌, ◌⊎◌, ◌∷◌, ◌++◌, ◌+◌, ◌/◌, ◌%◌, ◌≤◌, ◌<◌}
use Rattle.lists.{specs.Kit.{refl, sym, ap, ◌∙◌, inl, inr, Bool, true, false, not, cond, List, [], ℕ, arith}}
use Rattle.lists.{specs.Kit.{add-one, eqb, length, get_or, set, take, replicate, length-set, length-replicate, get_or-replicate, length-take-le, take-suc-set}}
use Rattle.lists.{specs.Kit.{eqb-true, eqb-false}, specs.Lists.{head_or, member, all, range, In}, proofs.All.{all_in}, proofs.Tests.{bool_cases, never}}
use Rattle.lists.{proofs.Member.{in_left, in_right, in_cases, member_in, in_member, not_member}, proofs.Range.{in_range}}
use Rattle.mesh.specs.{Limits.{max_radios}, Tables.{digit, marked, put_link}}
use Rattle.rows.{specs.Rows.{first_in}, specs.Sets.{in_set, take_out}, proofs.SetLaws.{length_take_out}, proofs.FirstLaws.{common_none, common_some}}
use Rattle.rows.{proofs.SetLaws.{in_take_out}}
use Rattle.plan.specs.{Turns.{released, places_released, near_left, Releasable, RowReady}, Places.{level_start, level_size}, Peels.{linked_after}}
use Rattle.plan.specs.{Peels.{Turning, LeftSet, PeelReady, PeelDone, stretch_at}}
use Rattle.plan.proofs.{LevelLaws.{first_marked_least}, PeelTurns.{turns_end, taken_below, taken_room}}
use Rattle.plan.proofs.{PeelTurns.{left_releasable, left_turns}}
use Rattle.plan.specs.Turns.{call_of}
use Rattle.rows.specs.Sets.{common}

pub record PeelFrom (up : Bool) (a b k m : ℕ) (links numbers order places cs fs list : List ℕ) (taken : ℕ) : Type 0 where
  pub long_list : length list ≡ max_radios
  pub room : taken ≤ level_size numbers k
  pub turning : Turning (linked_after up a b (length order) links) m order places (stretch_at (level_start numbers k) (level_size numbers k))
      (take taken list) cs fs

-- a set of what is not taken
abbrev pub MaskedFrom : (up : Bool) → (a b k m : ℕ) → (links numbers order places left cs fs list : List ℕ) → (taken : ℕ) → Type 0
MaskedFrom up a b k m links ns os ps left cs fs list taken =
    PeelFrom up a b k m links ns os ps cs fs list taken × LeftSet (take taken list) left

-- ---- what is not taken, as a set

-- all bits of the word are set
full_bits : all (digit 18446744073709551615) (range 0 64) ≡ true
unfolding all digit range
full_bits = refl

full_word : (i : ℕ) → i < 64 → digit 18446744073709551615 i ≡ true
full_word i l = all_in (digit 18446744073709551615) (range 0 64) full_bits i (in_range 0 64 i (omega arith) (omega arith))

left_set_none : LeftSet [] (replicate 8 18446744073709551615)
unfolding in_set member
left_set_none = record {
  long = length-replicate {A = ℕ} 8 18446744073709551615;
  has = λ v l. ap (λ (w : ℕ). digit w (v % 64)) (get_or-replicate 8 (v / 64) 18446744073709551615 0 (omega arith)) ∙ full_word (v % 64) (omega arith);
}

left_set_more : {taken left : List ℕ} (v : ℕ) → v < max_radios → LeftSet taken left → LeftSet (taken ++ (v ∷ [])) (take_out v left)
left_set_more {taken} {left} v l h = record {
  long = length_take_out v left ∙ h.long;
  has = λ w lw. in_take_out v w left (omega (arith, h.long)) ∙ rw (h.has w lw) (go w (bool_cases (eqb v w)));
}
  where
    go : (w : ℕ) → (eqb v w ≡ true) ⊎ (eqb v w ≡ false) → cond (eqb v w) false (not (member w taken)) ≡ not (member w (taken ++ (v ∷ [])))
    go w (inl e) = rw e (ap not (sym (in_member w (taken ++ (v ∷ [])) (in_right w taken (v ∷ []) (inl (eqb-true v w e))))))
    go w (inr e) = rw e (ap not (sym (member_last w e (bool_cases (member w taken)))))
      where
        member_last : (w : ℕ) → eqb v w ≡ false → (member w taken ≡ true) ⊎ (member w taken ≡ false) → member w (taken ++ (v ∷ [])) ≡ member w taken
        member_last w e (inl t) = in_member w (taken ++ (v ∷ [])) (in_left w taken (v ∷ []) (member_in w taken t)) ∙ sym t
        member_last w e (inr t) = not_member w (taken ++ (v ∷ [])) (λ i. out (in_cases w taken (v ∷ []) i)) ∙ sym t
          where
            out : In w taken ⊎ In w (v ∷ []) → ⊥
            out (inl i) = never (member w taken) (in_member w taken i) t
            out (inr (inl q)) = eqb-false v w e q
            out (inr (inr q)) = q

module _ {up : Bool} {a b k m : ℕ} {links ns os ps cs0 fs0 : List ℕ}
    (ready : PeelReady (call_of up a b k m) links ns os ps cs0 fs0) where
  peel_none : (list : List ℕ) → length list ≡ max_radios → PeelFrom up a b k m links ns os ps cs0 fs0 list 0
  peel_none list e = record {
    long_list = e;
    room = omega arith;
    turning = ready.turning;
  }

  pub masked_none : (list : List ℕ) → length list ≡ max_radios
      → MaskedFrom up a b k m links ns os ps (replicate 8 18446744073709551615) cs0 fs0 list 0
  masked_none list e = (peel_none list e, left_set_none)

  module _ {cs fs list : List ℕ} {taken : ℕ} (h : PeelFrom up a b k m links ns os ps cs fs list taken) where
    long_taken : length (take taken list) ≡ taken
    long_taken = length-take-le taken list (omega (arith, h.room, ready.level.fits, ready.level.small, h.long_list))

    module _ {p : ℕ} (found : Some p ≡ first_in (common fs fs)) where
      some : p < max_radios
      some = (common_some fs fs found).0

      next : p ≡ head_or max_radios (common fs fs)
      next = sym (common_some fs fs found).1

      abbrev v : ℕ
      v = get_or os p 0

      pub peel_below : p < length os
      peel_below = taken_below ready.level m h.turning p next some

      pub peel_room : taken < level_size ns k
      peel_room = omega (arith, taken_room ready.level m h.turning p next some, long_taken)

      pub peel_few : taken < max_radios
      peel_few = omega (arith, peel_room, ready.level.fits, ready.level.small)

      peel_write : taken < length list
      peel_write = omega (arith, peel_few, h.long_list)

      v_below : v < length os
      v_below = ready.level.radios p peel_below

      written : take (taken + 1) (set list taken v) ≡ take taken list ++ (v ∷ [])
      written = ap (λ (x : ℕ). take x (set list taken v)) (add-one taken) ∙ take-suc-set list taken v peel_write

      row_marks : (w : ℕ) → w < max_radios → marked (put_link up a b links) v w ≡ linked_after up a b (length os) links v w
      row_marks w l = ready.row_is v w v_below l

      pub peel_row : RowReady a b v links
      peel_row = record {
        differ = ready.differ;
        radios = (omega (arith, ready.ends.0, ready.level.small), omega (arith, ready.ends.1, ready.level.small));
        rows = (omega (arith, ready.ends.0, ready.links_length), omega (arith, ready.ends.1, ready.links_length));
        row = omega (arith, v_below, ready.links_length);
      }

      -- one radio more, with what its turn released
      peel_turn : (near cs1 fs1 : List ℕ)
          → Turning (linked_after up a b (length os) links) m os ps (stretch_at (level_start ns k) (level_size ns k)) (take taken list ++ (v ∷ []))
          (released ns k near cs) (places_released ns ps k m near cs (take_out p fs))
          → cs1 ≡ released ns k near cs → fs1 ≡ places_released ns ps k m near cs (take_out p fs)
          → PeelFrom up a b k m links ns os ps cs1 fs1 (set list taken v) (taken + 1)
      peel_turn near cs1 fs1 more ec ef =
          let turned : Turning (linked_after up a b (length os) links) m os ps (stretch_at (level_start ns k) (level_size ns k))
          (take (taken + 1) (set list taken v)) cs1 fs1 =
          rw (written, ec, ef) more in
          record {
            long_list = length-set list taken v ∙ h.long_list;
            room = omega (arith, peel_room);
            turning = turned;
          }

      -- ---- the ones released that are left

      module _ {left : List ℕ} (is : LeftSet (take taken list) left) where
        less_set : LeftSet (take taken list ++ (v ∷ [])) (take_out v left)
        less_set = left_set_more v (omega (arith, v_below, ready.level.small)) is

        pub masked_releasable : Releasable ns ps k (near_left (put_link up a b links) v left) cs
        masked_releasable = left_releasable ready.level m h.turning p next some (put_link up a b links) row_marks left is

        pub masked_turn : (left1 cs1 fs1 : List ℕ) → left1 ≡ take_out v left → cs1 ≡ released ns k (near_left (put_link up a b links) v left) cs
            → fs1 ≡ places_released ns ps k m (near_left (put_link up a b links) v left) cs (take_out p fs)
            → MaskedFrom up a b k m links ns os ps left1 cs1 fs1 (set list taken v) (taken + 1)
        masked_turn left1 cs1 fs1 el ec ef = (
          peel_turn (near_left (put_link up a b links) v left) cs1 fs1
              (left_turns ready.level m h.turning p next some (put_link up a b links) row_marks left is) ec ef,
          rw (written, el) less_set,
        )

    pub peel_end : None ≡ first_in (common fs fs) → PeelDone (call_of up a b k m) links ns os taken cs list
    peel_end none = record {
      fits = h.room;
      peels = turns_end ready.level m h.turning (λ q lq. first_marked_least fs max_radios (sym (common_none fs fs none)) q lq lq);
    }
