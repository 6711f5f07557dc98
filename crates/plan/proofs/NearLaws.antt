-- The neighbours of a radio after a link went up or down: by the row's own bits where the radio is no end of the link, else by
-- a copy of the row with one bit put.
use Rattle.std.specs.Prelude.{◌≡◌, ◌⊎◌, ◌&&◌, ◌+◌, ◌*◌, ◌/◌, ◌≤◌, ◌<◌}
use Rattle.lists.{specs.Kit.{refl, sym, ap, ◌∙◌, inl, inr, Bool, true, false, cond, List, ℕ, suc, min, arith, eqb}}
use Rattle.lists.{specs.Kit.{length, take, drop, length-drop, take_all, get_or-take, get_or-drop, length-take-le, eqb-true, eqb-false, eq-eqb, ne_eqb}}
use Rattle.lists.{specs.Lists.{range, overwrite}, proofs.Tests.{bool_cases}, proofs.Range.{range_in}, proofs.Filter.{filter_ext}}
use Rattle.lists.{proofs.Overwrite.{overwrite_all}}
use Rattle.mesh.{specs.Limits.{max_radios, max_neighbours, row_bytes}, specs.Tables.{byte_at, marked, put_bit, put_link}, proofs.Tables.Laws.{length_put_bit}}
use Rattle.mesh.{proofs.Tables.Laws.{marked_put_bit}}
use Rattle.rows.{specs.Rows.{neighbours_of, row_listed, row_count}, proofs.RowListLaws.{row_listed_fits}, proofs.RowWords.{row_listed_whole}}
use Rattle.plan.specs.{Places.{other_end}, Turns.{released, places_released, near_left, Releasable, RowReady, NearReady, ListsNeighbours}}

-- rows that mark alike list alike
pub neighbours_of_ext : (ts us : List ℕ) (v w : ℕ) → ((x : ℕ) → x < max_radios → marked ts v x ≡ marked us w x) → neighbours_of ts v ≡ neighbours_of us w
unfolding neighbours_of
neighbours_of_ext ts us v w h =
    filter_ext (λ x. marked ts v x) (λ x. marked us w x) (range 0 max_radios) (λ x m. h x (omega (arith, range_in 0 max_radios x m)))

-- what `row_neighbours` writes, where there is room
pub lists_row : (ts : List ℕ) (v r : ℕ) (old new : List ℕ) → row_bytes * v + row_bytes ≤ length ts → length (neighbours_of ts v) ≤ min (length old)
    (suc max_neighbours)
    → r ≡ min (length old) (row_count max_neighbours ts v)
    → new ≡ overwrite (take (min (length old) (suc max_neighbours)) (row_listed ts v)) old → ListsNeighbours ts v r new
lists_row ts v r old new whole room e f =
    let is = row_listed_whole ts v whole in
    let all = row_listed_fits max_neighbours ts v old new r (omega (arith, ap length is, room)) e f in
    record { counted = all.0 ∙ ap length is; listed = all.1 ∙ is }

-- other rows that mark alike
pub lists_same : {ts us : List ℕ} {v w : ℕ} (r : ℕ) (new : List ℕ) → neighbours_of ts v ≡ neighbours_of us w → ListsNeighbours ts v r new → ListsNeighbours us
    w r new
lists_same r new e h = record { counted = h.counted ∙ ap length e; listed = h.listed ∙ e }

-- the same radios, listed another way
pub releasable_same : {xs ys : List ℕ} (ns ps : List ℕ) (k : ℕ) (cs : List ℕ) → xs ≡ ys → Releasable ns ps k ys cs → Releasable ns ps k xs cs
releasable_same ns ps k cs e h = rw e h

-- and the same places fitting before
pub released_same : {xs ys : List ℕ} (ns ps : List ℕ) (k m : ℕ) (cs put fs cs1 fs1 : List ℕ) → xs ≡ ys → put ≡ fs → cs1 ≡ released ns k xs cs
    → fs1 ≡ places_released ns ps k m xs cs put → (cs1 ≡ released ns k ys cs) × (fs1 ≡ places_released ns ps k m ys cs fs)
released_same ns ps k m cs put fs cs1 fs1 e p f g = rw (← e, ← p) (f, g)

-- rows that list alike, and the same set
pub near_left_same : (ts us : List ℕ) (v w : ℕ) (set other : List ℕ) → neighbours_of ts v ≡ neighbours_of us w → set ≡ other
    → near_left ts v set ≡ near_left us w other
unfolding near_left
near_left_same ts us v w set other e f = rw (e, f)

-- ---- a row lent as a part of the table: its m bytes from its start on

module _ (ts : List ℕ) (v m : ℕ) (long : m ≡ row_bytes) (whole : row_bytes * v + row_bytes ≤ length ts) where
  abbrev part : List ℕ
  part = take m (drop (row_bytes * v) ts)

  pub length_part : length part ≡ row_bytes
  length_part = length-take-le m (drop (row_bytes * v) ts) (omega (arith, length-drop (row_bytes * v) ts)) ∙ long

  marked_part : (x : ℕ) → x < max_radios → marked part 0 x ≡ marked ts v x
  unfolding marked byte_at
  marked_part x l =
      let e : row_bytes * 0 + x / 8 ≡ x / 8 = omega arith in
      rw (e, get_or-take m (drop (row_bytes * v) ts) (x / 8) 0 (omega arith), get_or-drop (row_bytes * v) ts (x / 8) 0)

  neighbours_of_part : neighbours_of part 0 ≡ neighbours_of ts v
  neighbours_of_part = neighbours_of_ext part ts 0 v marked_part

  -- with one bit put
  neighbours_of_put : (u : Bool) (w : ℕ) → w < max_radios → neighbours_of (put_bit u 0 w part) 0 ≡ neighbours_of (put_bit u v w ts) v
  unfolding byte_at
  neighbours_of_put u w small = neighbours_of_ext (put_bit u 0 w part) (put_bit u v w ts) 0 v (λ x l.
      marked_put_bit u 0 w part 0 x small l (omega (arith, length_part))
      ∙ ap (λ (t : Bool). cond (eqb w x) u t) (marked_part x l)
      ∙ ap (λ (t : Bool). cond (t && eqb w x) u (marked ts v x)) (sym (eq-eqb v v refl))
      ∙ sym (marked_put_bit u v w ts v x small l (omega arith)))

  -- copied, and one bit put
  pub row_copied : (u : Bool) (w : ℕ) (row0 row1 row2 : List ℕ) → w < max_radios → length row0 ≡ row_bytes
      → row1 ≡ overwrite (take (length row0) part) row0 → row2 ≡ put_bit u 0 w row1 → neighbours_of row2 0 ≡ neighbours_of (put_bit u v w ts) v
  row_copied u w row0 row1 row2 small l e f =
      let is : row1 ≡ part =
      e ∙ ap (λ (z : List ℕ). overwrite z row0) (take_all (length row0) part (omega (arith, length_part))) ∙ overwrite_all part row0
      (omega (arith, length_part)) in
      ap (λ (z : List ℕ). neighbours_of z 0) (f ∙ ap (put_bit u 0 w) is) ∙ neighbours_of_put u w small

-- a row that marks as another does, listed
pub lists_copy : {ts : List ℕ} {v : ℕ} (row : List ℕ) (r : ℕ) (old new : List ℕ) → length row ≡ row_bytes → neighbours_of row 0 ≡ neighbours_of ts v
    → length (neighbours_of ts v) ≤ min (length old) (suc max_neighbours) → r ≡ min (length old) (row_count max_neighbours row 0)
    → new ≡ overwrite (take (min (length old) (suc max_neighbours)) (row_listed row 0)) old → ListsNeighbours ts v r new
lists_copy row r old new long same room g h = lists_same r new same (lists_row row 0 r old new (omega arith) (omega (arith, ap length same)) g h)

-- ---- the rows of both ends, and the others

module _ (u : Bool) (a b : ℕ) (ts : List ℕ) (ne : a ≡ b → ⊥) (la : a < max_radios) (lb : b < max_radios)
    (ra : row_bytes * a + row_bytes ≤ length ts) (rb : row_bytes * b + row_bytes ≤ length ts) where
  put_a : (v x : ℕ) → x < max_radios → marked (put_bit u a b ts) v x ≡ cond (eqb a v && eqb b x) u (marked ts v x)
  unfolding byte_at
  put_a v x l = marked_put_bit u a b ts v x lb l (omega arith)

  put_b : (us : List ℕ) (v x : ℕ) → length us ≡ length ts → x < max_radios → marked (put_bit u b a us) v x ≡ cond (eqb b v && eqb a x) u (marked us v x)
  unfolding byte_at
  put_b us v x e l = marked_put_bit u b a us v x la l (omega arith)

  both : (v x : ℕ) → x < max_radios → marked (put_link u a b ts) v x ≡ cond (eqb b v && eqb a x) u (cond (eqb a v && eqb b x) u (marked ts v x))
  unfolding put_link
  both v x l = put_b (put_bit u a b ts) v x (length_put_bit u a b ts) l ∙ rw (put_a v x l)

  pub neighbours_of_a : neighbours_of (put_bit u a b ts) a ≡ neighbours_of (put_link u a b ts) a
  neighbours_of_a = neighbours_of_ext (put_bit u a b ts) (put_link u a b ts) a a (λ x l.
      put_a a x l ∙ sym (both a x l ∙ ap (λ (t : Bool). cond (t && eqb a x) u (cond (eqb a a && eqb b x) u (marked ts a x))) (ne_eqb b a (λ e. ne (sym e)))))

  pub neighbours_of_b : neighbours_of (put_bit u b a ts) b ≡ neighbours_of (put_link u a b ts) b
  neighbours_of_b = neighbours_of_ext (put_bit u b a ts) (put_link u a b ts) b b (λ x l.
      put_b ts b x refl l
      ∙ sym (both b x l ∙ ap (λ (t : Bool). cond (eqb b b && eqb a x) u (cond (t && eqb b x) u (marked ts b x))) (ne_eqb a b ne)))

  pub neighbours_of_other : (v : ℕ) → (v ≡ a → ⊥) → (v ≡ b → ⊥) → neighbours_of ts v ≡ neighbours_of (put_link u a b ts) v
  neighbours_of_other v na nb = neighbours_of_ext ts (put_link u a b ts) v v (λ x l.
      sym (both v x l ∙ rw (ne_eqb b v (λ e. nb (sym e)), ne_eqb a v (λ e. na (sym e)))))

-- ---- the cases of the code

module _ (u : Bool) (a b v : ℕ) (ts : List ℕ) where
  -- what `end_neighbours` asks of the row of v with bit w put
  abbrev EndReady : (w k : ℕ) → Type 0
  EndReady w k =
      (row_bytes * v + row_bytes ≤ length ts) × (w < max_radios) × (length (neighbours_of (put_bit u v w ts) v) ≤ min k (suc max_neighbours))

  -- w is the other end, or v itself
  module _ (w : ℕ) (is : w ≡ other_end a b v) where
    which : ((v ≡ a) × (w ≡ b)) ⊎ (((v ≡ b) × (w ≡ a)) ⊎ ((v ≡ a → ⊥) × (v ≡ b → ⊥) × (w ≡ v)))
    unfolding other_end
    which = go (bool_cases (eqb v a)) (bool_cases (eqb v b)) is
      where
        go : (eqb v a ≡ true) ⊎ (eqb v a ≡ false) → (eqb v b ≡ true) ⊎ (eqb v b ≡ false) → w ≡ cond (eqb v a) b (cond (eqb v b) a v)
            → ((v ≡ a) × (w ≡ b)) ⊎ (((v ≡ b) × (w ≡ a)) ⊎ ((v ≡ a → ⊥) × (v ≡ b → ⊥) × (w ≡ v)))
        go (inl e) f q = inl (eqb-true v a e, rw e at q)
        go (inr e) (inl f) q = inr (inl (eqb-true v b f, rw (e, f) at q))
        go (inr e) (inr f) q = inr (inr (eqb-false v a e, eqb-false v b f, rw (e, f) at q))

    -- the row of an end, with the bit of the other end put, and any other row as it is
    pub neighbours_of_end : (w ≡ v → ⊥) → RowReady a b v ts
        → (w < max_radios) × (neighbours_of (put_bit u v w ts) v ≡ neighbours_of (put_link u a b ts) v)
    neighbours_of_end ne h = go which
      where
        go : ((v ≡ a) × (w ≡ b)) ⊎ (((v ≡ b) × (w ≡ a)) ⊎ ((v ≡ a → ⊥) × (v ≡ b → ⊥) × (w ≡ v)))
            → (w < max_radios) × (neighbours_of (put_bit u v w ts) v ≡ neighbours_of (put_link u a b ts) v)
        go (inl q) = rw (q.0, q.1) (h.radios.1, neighbours_of_a u a b ts h.differ h.radios.0 h.radios.1 h.rows.0 h.rows.1)
        go (inr (inl q)) = rw (q.0, q.1) (h.radios.0, neighbours_of_b u a b ts h.differ h.radios.0 h.radios.1 h.rows.0 h.rows.1)
        go (inr (inr q)) = absurd (ne q.2)

    neighbours_of_same : w ≡ v → RowReady a b v ts → neighbours_of ts v ≡ neighbours_of (put_link u a b ts) v
    neighbours_of_same e h = go which
      where
        go : ((v ≡ a) × (w ≡ b)) ⊎ (((v ≡ b) × (w ≡ a)) ⊎ ((v ≡ a → ⊥) × (v ≡ b → ⊥) × (w ≡ v))) → neighbours_of ts v ≡ neighbours_of (put_link u a b ts) v
        go (inl q) = absurd (h.differ (sym q.0 ∙ sym e ∙ q.1))
        go (inr (inl q)) = absurd (h.differ (sym q.1 ∙ e ∙ q.0))
        go (inr (inr q)) = neighbours_of_other u a b ts h.differ h.radios.0 h.radios.1 h.rows.0 h.rows.1 v q.0 q.1

    -- any other row, lent by itself
    pub neighbours_of_lent : (m : ℕ) → m ≡ row_bytes → w ≡ v → RowReady a b v ts
        → neighbours_of (take m (drop (row_bytes * v) ts)) 0 ≡ neighbours_of (put_link u a b ts) v
    neighbours_of_lent m long e h = neighbours_of_part ts v m long h.row ∙ neighbours_of_same e h

    pub end_ready : (k : ℕ) → (w ≡ v → ⊥) → NearReady u a b v ts k → EndReady w k
    end_ready k ne h = let r = neighbours_of_end ne h.ready in (h.ready.row, r.0, omega (arith, ap length r.1, h.near_long))

    pub lists_end : (r : ℕ) {k : ℕ} (new : List ℕ) → (w ≡ v → ⊥) → NearReady u a b v ts k → ListsNeighbours (put_bit u v w ts) v r new
        → ListsNeighbours (put_link u a b ts) v r new
    lists_end r new ne h = lists_same r new (neighbours_of_end ne h.ready).1

    pub lists_other : (r : ℕ) (old new : List ℕ) → w ≡ v → NearReady u a b v ts (length old) → r ≡ min (length old) (row_count max_neighbours ts v)
        → new ≡ overwrite (take (min (length old) (suc max_neighbours)) (row_listed ts v)) old → ListsNeighbours (put_link u a b ts) v r new
    lists_other r old new e h counted listed =
        let same = neighbours_of_same e h.ready in
        lists_same r new same (lists_row ts v r old new h.ready.row (omega (arith, ap length same, h.near_long)) counted listed)
