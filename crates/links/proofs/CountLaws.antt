-- The not-lower counts after a link: the loops that count radios anew, and which radios keep theirs.
-- In order: a listed row, radios put into a set, the touched radios, counts anew, of a word, of a set.
use Rattle.std.specs.Prelude.{◌≡◌, ◌⊎◌, ◌||◌, ◌∷◌, ◌++◌, ◌+◌, ◌*◌, ◌-◌, ◌/◌, ◌%◌, ◌^◌, ◌≤◌, ◌<◌}
use Rattle.lists.{specs.Kit.{refl, sym, ap, subst, ◌∙◌, inl, inr, Bool, true, false, cond, or-false, List, [], ℕ, suc}}
use Rattle.lists.{specs.Kit.{min, arith, add-one, bit_and, and_le_l, count_trailing_zeros, leb, eqb, length, get_or, set, take, drop}}
use Rattle.lists.{specs.Kit.{replicate, length-set, drop_of_length-le, get_or-set_same, get_or-set_other, drop-cons, eqb-true}}
use Rattle.lists.{specs.Kit.{eqb-false, eq-eqb}, specs.Facts.{folded}, specs.Lists.{range, count, filter, member, overwrite, In, EntriesBelow}}
use Rattle.lists.{proofs.Tests.{bool_cases}}
use Rattle.lists.{proofs.Tests.{or_cases, or_left, or_right}, proofs.Member.{in_get_d, get_d_of_in, member_in, in_member, member_append, in_left, in_right}}
use Rattle.lists.{proofs.Member.{in_cases}, proofs.Filter.{in_filter, member_filter, filter_ext}, proofs.Range.{in_range}}
use Rattle.lists.{proofs.Loops.{folded_append, length_folded}}
use Rattle.mesh.specs.{Limits.{max_radios, max_neighbours, row_bytes}, Tables.{digit}}
use Rattle.rows.{specs.Rows.{neighbours_of, row_listed, row_count, set_bits}, proofs.RowListLaws.{row_listed_fits}, proofs.RowWords.{row_listed_whole}}
use Rattle.rows.{proofs.RowWords.{words_from, words_end}, proofs.WordLaws.{set_bits_nothing, set_bits_lowest}, specs.Sets.{in_set, put_in, members, RowJoined}}
use Rattle.rows.{proofs.SetLaws.{in_set_zeros, in_put_in, length_put_in}}
use Rattle.conditions.specs.Conditions.{high_count}
use Rattle.links.specs.Steps.{around, all_around, Joined, touched, recounted, RowsKnown}

-- ---- a listed row

-- what `row_neighbours` writes of a row that is whole and has no more neighbours than a radio may have
module _ (n : ℕ) (ts : List ℕ) (v r : ℕ) (old new : List ℕ) (whole : row_bytes * v + row_bytes ≤ length ts)
    (few : length (neighbours_of ts v) ≤ max_neighbours) (room : length old ≡ max_neighbours)
    (e : r ≡ min (length old) (row_count max_neighbours ts v))
    (f : new ≡ overwrite (take (min (length old) (suc max_neighbours)) (row_listed ts v)) old) where
  all : (r ≡ length (row_listed ts v)) × (take r new ≡ row_listed ts v)
  all =
      row_listed_fits max_neighbours ts v old new r (omega (arith, ap length (row_listed_whole ts v whole), few, room)) e f

  pub near_listed : take r new ≡ neighbours_of ts v
  near_listed = all.1 ∙ row_listed_whole ts v whole

  pub near_many : r ≤ max_neighbours
  near_many = omega (arith, all.0, ap length (row_listed_whole ts v whole), few)

  pub near_radios : ((w : ℕ) → In w (neighbours_of ts v) → w < n) → EntriesBelow n (take r new)
  near_radios h i l = h (get_or (take r new) i 0) (subst (In (get_or (take r new) i 0)) near_listed (in_get_d (take r new) i l))

-- as the code names its values: a row of known rows
pub near_asked : (n : ℕ) (ts : List ℕ) {ns : List ℕ} (v r : ℕ) (old new : List ℕ) → RowsKnown n ts ns → v < n → length old ≡ max_neighbours
    → r ≡ min (length old) (row_count max_neighbours ts v) → new ≡ overwrite (take (min (length old) (suc max_neighbours)) (row_listed ts v)) old
    → (length (take r new) ≤ max_neighbours) × EntriesBelow n (take r new)
near_asked n ts v r old new k l room e f =
    let whole : row_bytes * v + row_bytes ≤ length ts = omega (arith, k.links_length) in (
      omega (arith, ap length (near_listed n ts v r old new whole (k.few v l) room e f), k.few v l),
      near_radios n ts v r old new whole (k.few v l) room e f (λ w i. k.radios v w l i),
    )

pub near_fits : (n : ℕ) (ts : List ℕ) {ns : List ℕ} (v r : ℕ) (old new : List ℕ) → RowsKnown n ts ns → v < n → length old ≡ max_neighbours
    → r ≡ min (length old) (row_count max_neighbours ts v) → new ≡ overwrite (take (min (length old) (suc max_neighbours)) (row_listed ts v)) old
    → r ≤ max_neighbours
near_fits n ts v r old new k l room e f = near_many n ts v r old new (omega (arith, k.links_length)) (k.few v l) room e f

pub high_listed : (n : ℕ) (ts ns : List ℕ) (v r : ℕ) (old new : List ℕ) → RowsKnown n ts ns → v < n → length old ≡ max_neighbours
    → r ≡ min (length old) (row_count max_neighbours ts v) → new ≡ overwrite (take (min (length old) (suc max_neighbours)) (row_listed ts v)) old
    → (q : ℕ) → q ≡ count (λ b. leb (get_or ns v 0) (get_or ns b 0)) (take r new) → q ≡ high_count ns v (neighbours_of ts v)
unfolding high_count
high_listed n ts ns v r old new k l room e f q h =
    h ∙ ap (count (λ b. leb (get_or ns v 0) (get_or ns b 0))) (near_listed n ts v r old new (omega (arith, k.links_length)) (k.few v l) room e f)

-- ---- radios put into a set

-- a radio and its row
pub joined_around : (ts : List ℕ) (v : ℕ) (s0 s1 s2 : List ℕ) → row_bytes * v + row_bytes ≤ length ts → v < max_radios → s1 ≡ put_in v s0
    → length s1 ≡ 8 → RowJoined ts v s1 s2 → Joined (around ts v) s0 s2
unfolding member
joined_around ts v s0 s1 s2 whole l e long j = record {
  has = λ w.
      j.bits w
      ∙ rw (row_listed_whole ts v whole, e, in_put_in v w s0 (omega (arith, long, ap length e, length_put_in v s0)))
      (go (eqb v w) (in_set s0 w) (member w (neighbours_of ts v)));
}
  where
    go : (t x y : Bool) → (cond t true x || y) ≡ (x || (t || y))
    go true true y = refl
    go true false y = refl
    go false true y = refl
    go false false y = refl

or_assoc : (x y z : Bool) → ((x || y) || z) ≡ (x || (y || z))
or_assoc true y z = refl
or_assoc false y z = refl

-- from place i of the list on is left
module _ (ts xs old : List ℕ) where
  abbrev pub Joining : (i : ℕ) → (now : List ℕ) → Type 0
  Joining i now =
      (i ≤ length xs) × ((w : ℕ) → (in_set now w || member w (all_around ts (drop i xs))) ≡ (in_set old w || member w (all_around ts xs)))

  pub joining_none : Joining 0 old
  joining_none = (omega arith, λ w. refl)

  pub joining_turn : (i v : ℕ) (now new : List ℕ) → i < length xs → v ≡ get_or xs i 0 → Joined (around ts v) now new → Joining i now → Joining (i + 1) new
  unfolding all_around
  joining_turn i v now new l e j h = (
    omega arith,
    λ w.
        rw (j.has w) (or_assoc (in_set now w) (member w (around ts v)) (member w (all_around ts (drop (i + 1) xs))))
        ∙ ap (λ (t : Bool). in_set now w || t) (sym (member_append w (around ts v) (all_around ts (drop (i + 1) xs))))
        ∙ ap (λ (ys : List ℕ). in_set now w || member w (all_around ts ys)) (sym cut)
        ∙ h.1 w,
  )
    where
      cut : drop i xs ≡ v ∷ drop (i + 1) xs
      cut = drop-cons xs i 0 l ∙ rw (e, add-one i)

  pub joining_end : (i : ℕ) (now : List ℕ) → length xs ≤ i → Joining i now → Joined (all_around ts xs) old now
  unfolding all_around member
  joining_end i now l h = record {
    has = λ w. sym (or-false (in_set now w)) ∙ ap (λ (ys : List ℕ). in_set now w || member w (all_around ts ys)) (sym (drop_of_length-le xs l)) ∙ h.1 w;
  }

-- ---- the touched radios

module _ (a b : ℕ) (cs ts : List ℕ) where
  abbrev is_touched : ℕ → Bool
  is_touched w = eqb b w || (eqb a w || member w (all_around ts cs))

  in_around : (v w : ℕ) (xs : List ℕ) → In v xs → In w (around ts v) → In w (all_around ts xs)
  unfolding all_around
  in_around v w [] x'' i = elim x'' [ ]
  in_around v w (x ∷ xs) (inl q) i = in_left w (around ts x) (all_around ts xs) (subst (λ (y : ℕ). In w (around ts y)) (sym q) i)
  in_around v w (x ∷ xs) (inr m) i = in_right w (around ts x) (all_around ts xs) (in_around v w xs m i)

  around_of : (w : ℕ) (xs : List ℕ) → In w (all_around ts xs) → (v : ℕ) × In v xs × In w (around ts v)
  unfolding all_around
  around_of w [] i = absurd i
  around_of w (x ∷ xs) i = go (around_of w xs) (in_cases w (around ts x) (all_around ts xs) i)
    where
      go : (In w (all_around ts xs) → (v : ℕ) × In v xs × In w (around ts v)) → In w (around ts x) ⊎ In w (all_around ts xs)
          → (v : ℕ) × In v (x ∷ xs) × In w (around ts v)
      go later (inl j) = (x, inl refl, j)
      go later (inr j) = let r = later j in (r.0, inr r.1, r.2)

  member_touched : (w : ℕ) → w < max_radios → member w (touched a b cs ts) ≡ is_touched w
  unfolding touched
  member_touched w l = member_filter is_touched (range 0 max_radios) w (in_range 0 max_radios w (omega arith) (omega arith))

  -- both ends, the changed radios and their neighbours
  pub touched_ends : (w : ℕ) → w < max_radios → (w ≡ a) ⊎ (w ≡ b) → member w (touched a b cs ts) ≡ true
  touched_ends w l (inl e) =
      member_touched w l ∙ or_right (eqb b w) (eqb a w || member w (all_around ts cs)) (or_left (eqb a w) (member w (all_around ts cs)) (eq-eqb a w (sym e)))
  touched_ends w l (inr e) = member_touched w l ∙ or_left (eqb b w) (eqb a w || member w (all_around ts cs)) (eq-eqb b w (sym e))

  pub touched_around : (v w : ℕ) → w < max_radios → In v cs → In w (around ts v) → member w (touched a b cs ts) ≡ true
  touched_around v w l i j =
      member_touched w l
      ∙ or_right (eqb b w) (eqb a w || member w (all_around ts cs))
      (or_right (eqb a w) (member w (all_around ts cs)) (in_member w (all_around ts cs) (in_around v w cs i j)))

  -- and no others
  touched_of : (w : ℕ) → In w (touched a b cs ts) → ((w ≡ a) ⊎ (w ≡ b)) ⊎ ((v : ℕ) × In v cs × In w (around ts v))
  unfolding touched
  touched_of w i = go (or_cases (eqb b w) (eqb a w || member w (all_around ts cs)) (in_filter is_touched (range 0 max_radios) w i).1)
    where
      other : (eqb a w ≡ true) ⊎ (member w (all_around ts cs) ≡ true) → ((w ≡ a) ⊎ (w ≡ b)) ⊎ ((v : ℕ) × In v cs × In w (around ts v))
      other (inl e) = inl (inl (sym (eqb-true a w e)))
      other (inr m) = inr (around_of w cs (member_in w (all_around ts cs) m))

      go : (eqb b w ≡ true) ⊎ ((eqb a w || member w (all_around ts cs)) ≡ true) → ((w ≡ a) ⊎ (w ≡ b)) ⊎ ((v : ℕ) × In v cs × In w (around ts v))
      go (inl e) = inl (inr (sym (eqb-true b w e)))
      go (inr e) = other (or_cases (eqb a w) (member w (all_around ts cs)) e)

  -- the set as the code makes it, in three steps
  module _ (s1 s2 s3 : List ℕ) (la : a < max_radios) (lb : b < max_radios) (e1 : Joined (all_around ts cs) (replicate 8 0) s1) (e2 : s2 ≡ put_in a s1)
      (long : length s2 ≡ 8) (e3 : s3 ≡ put_in b s2) where
    touched_set : (w : ℕ) → in_set s3 w ≡ is_touched w
    touched_set w =
        ap (λ (s : List ℕ). in_set s w) e3 ∙ in_put_in b w s2 (omega (arith, long))
        ∙ ap (cond (eqb b w) true)
        (ap (λ (s : List ℕ). in_set s w) e2 ∙ in_put_in a w s1 (omega (arith, long, ap length e2, length_put_in a s1)) ∙ ap (cond (eqb a w) true) inner)
        ∙ go (eqb b w) (eqb a w) (member w (all_around ts cs))
      where
        inner : in_set s1 w ≡ member w (all_around ts cs)
        inner = e1.has w ∙ rw (in_set_zeros 8 w)

        go : (s t x : Bool) → cond s true (cond t true x) ≡ (s || (t || x))
        go true t x = refl
        go false true x = refl
        go false false x = refl

    pub touched_listed : members s3 ≡ touched a b cs ts
    unfolding members touched
    touched_listed = filter_ext (in_set s3) is_touched (range 0 max_radios) (λ w i. touched_set w)

-- ---- counts anew

module _ (ts ns : List ℕ) (v : ℕ) where
  pub get_d_recounted : (vs hs : List ℕ) → v < length hs → get_or (recounted ts ns vs hs) v 0 ≡ cond (member v vs) (high_count ns v (neighbours_of ts v))
      (get_or hs v 0)
  unfolding recounted folded member
  get_d_recounted [] hs l = refl
  get_d_recounted (x ∷ vs) hs l =
      get_d_recounted vs (set hs x (high_count ns x (neighbours_of ts x))) (omega (arith, length-set hs x (high_count ns x (neighbours_of ts x))))
      ∙ go (bool_cases (eqb x v)) (member v vs)
    where
      go : (eqb x v ≡ true) ⊎ (eqb x v ≡ false) → (t : Bool)
          → cond t (high_count ns v (neighbours_of ts v)) (get_or (set hs x (high_count ns x (neighbours_of ts x))) v 0)
          ≡ cond (eqb x v || t) (high_count ns v (neighbours_of ts v)) (get_or hs v 0)
      go (inl e) true = rw e refl
      go (inl e) false =
          rw e
          (subst (λ (y : ℕ). get_or (set hs y (high_count ns y (neighbours_of ts y))) v 0 ≡ high_count ns v (neighbours_of ts v)) (sym (eqb-true x v e))
          (get_or-set_same hs v (high_count ns v (neighbours_of ts v)) 0 l))
      go (inr e) true = rw e refl
      go (inr e) false = rw e (get_or-set_other hs x v (high_count ns x (neighbours_of ts x)) 0 (λ q. eqb-false x v e (sym q)))

pub length_recounted : (ts ns vs hs : List ℕ) → length (recounted ts ns vs hs) ≡ length hs
unfolding recounted
length_recounted ts ns vs hs =
    length_folded (λ v now. set now v (high_count ns v (neighbours_of ts v))) (λ v now. length-set now v (high_count ns v (neighbours_of ts v))) vs hs

-- what is left of the radios brings the counts to what all of them bring them to
pub record Recounting (n : ℕ) (links numbers radios old rest not_lower : List ℕ) : Type 0 where
  pub long : length not_lower ≡ length old
  pub known : (v : ℕ) → In v rest → v < n
  pub is : recounted links numbers rest not_lower ≡ recounted links numbers radios old

module _ (n : ℕ) (ts ns near old : List ℕ) where
  pub recounting_none : ((v : ℕ) → In v near → v < n) → Recounting n ts ns near old near old
  recounting_none h = record { long = refl; known = h; is = refl }

  pub recounting_one : (v : ℕ) (rest now new : List ℕ) → new ≡ set now v (high_count ns v (neighbours_of ts v))
      → Recounting n ts ns near old (v ∷ rest) now → Recounting n ts ns near old rest new
  unfolding recounted folded
  recounting_one v rest now new e h = record {
    long = ap length e ∙ length-set now v (high_count ns v (neighbours_of ts v)) ∙ h.long;
    known = λ w i. h.known w (inr i);
    is = rw e h.is;
  }

  pub recounting_part : (xs rest now new : List ℕ) → new ≡ recounted ts ns xs now → Recounting n ts ns near old (xs ++ rest) now
      → Recounting n ts ns near old rest new
  unfolding recounted
  recounting_part xs rest now new e h = record {
    long = ap length e ∙ length_recounted ts ns xs now ∙ h.long;
    known = λ w i. h.known w (in_right w xs rest i);
    is = rw e (sym (folded_append (λ v now. set now v (high_count ns v (neighbours_of ts v))) xs rest now) ∙ h.is);
  }

  pub recounting_end : (rest now : List ℕ) → rest ≡ [] → Recounting n ts ns near old rest now → now ≡ recounted ts ns near old
  unfolding recounted folded
  recounting_end rest now e h = rw e at h.is

-- the set bits of a word: each turn takes the lowest off
module _ (n : ℕ) (ts ns : List ℕ) (first word : ℕ) (old : List ℕ) where
  abbrev pub WordRecounting : (rest : ℕ) → (not_lower : List ℕ) → Type 0
  WordRecounting rest now = (rest < 2 ^ 64) × Recounting n ts ns (set_bits 64 first word) old (set_bits 64 first rest) now

  module _ (rest : ℕ) (now : List ℕ) (some : rest ≡ 0 → ⊥) (h : WordRecounting rest now) where
    abbrev lowest : ℕ
    lowest = first + count_trailing_zeros 64 rest

    bits_next : Recounting n ts ns (set_bits 64 first word) old (lowest ∷ set_bits 64 first (bit_and rest (rest - 1))) now
    bits_next = rw (set_bits_lowest 64 first rest (omega arith) h.0) at h.1

    pub lowest_known : lowest < n
    lowest_known = bits_next.known lowest (inl refl)

    pub word_recounted : (new : List ℕ) → new ≡ set now lowest (high_count ns lowest (neighbours_of ts lowest)) → WordRecounting (bit_and rest (rest - 1)) new
    word_recounted new e = (
      omega (arith, and_le_l rest (rest - 1), h.0),
      recounting_one n ts ns (set_bits 64 first word) old lowest (set_bits 64 first (bit_and rest (rest - 1))) now new e bits_next,
    )

  pub word_recounted_end : (rest : ℕ) (now : List ℕ) → rest ≡ 0 → WordRecounting rest now → now ≡ recounted ts ns (set_bits 64 first word) old
  word_recounted_end rest now e h =
      recounting_end n ts ns (set_bits 64 first word) old (set_bits 64 first rest) now (ap (set_bits 64 first) e ∙ set_bits_nothing 64 first) h.1

-- the words of a set: from word j on is left
abbrev pub radios_from : (words : List ℕ) → (j : ℕ) → List ℕ
radios_from ws j = filter (in_set ws) (range (64 * j) (max_radios - 64 * j))

module _ (n : ℕ) (ts ns ws old : List ℕ) where
  abbrev pub SetRecounting : (j : ℕ) → (not_lower : List ℕ) → Type 0
  SetRecounting j now = (j ≤ 8) × Recounting n ts ns (members ws) old (radios_from ws j) now

  pub set_none : ((v : ℕ) → In v (members ws) → v < n) → SetRecounting 0 old
  unfolding members
  set_none h = (omega arith, recounting_none n ts ns (members ws) old h)

  module _ (j : ℕ) (now : List ℕ) (l : j < 8) (h : SetRecounting j now) where
    abbrev bits : List ℕ
    bits = set_bits 64 (64 * j) (get_or ws j 0)

    set_next : Recounting n ts ns (members ws) old (bits ++ radios_from ws (j + 1)) now
    unfolding in_set
    set_next = rw (words_from (in_set ws) j (get_or ws j 0) l tells) at h.1
      where
        tells : (b : ℕ) → b < 64 → digit (get_or ws ((64 * j + b) / 64) 0) ((64 * j + b) % 64) ≡ digit (get_or ws j 0) b
        tells b lb =
            let q : (64 * j + b) / 64 ≡ j = omega arith in
            let r : (64 * j + b) % 64 ≡ b = omega arith in
            rw (q, r)

    pub bits_known : (v : ℕ) → In v bits → v < n
    bits_known v i = set_next.known v (in_left v bits (radios_from ws (j + 1)) i)

    pub set_turn : (new : List ℕ) → new ≡ recounted ts ns bits now → SetRecounting (j + 1) new
    set_turn new e = (omega arith, recounting_part n ts ns (members ws) old bits (radios_from ws (j + 1)) now new e set_next)

  pub set_end : (j : ℕ) (now : List ℕ) → 8 ≤ j → SetRecounting j now → now ≡ recounted ts ns (members ws) old
  set_end j now l h = recounting_end n ts ns (members ws) old (radios_from ws j) now (words_end (in_set ws) j l) h.1

-- ---- what the functions want

module _ (n a b : ℕ) (cs ts : List ℕ) {ns : List ℕ} (k : RowsKnown n ts ns) (la : a < n) (lb : b < n)
    (known : (i : ℕ) → i < length cs → get_or cs i 0 < n) where
  pub around_asked : (i : ℕ) → i < length cs → (row_bytes * get_or cs i 0 + row_bytes ≤ length ts) × (get_or cs i 0 < max_radios)
  around_asked i l = (omega (arith, known i l, k.links_length), omega (arith, known i l, k.small))

  changed_radio : (v : ℕ) → In v cs → v < n
  changed_radio v i =
      let m = get_d_of_in v cs i in subst (λ (x : ℕ). x < n) m.2 (known m.0 m.1)

  pub touched_radio : (w : ℕ) → In w (touched a b cs ts) → w < n
  touched_radio w i = go (touched_of a b cs ts w i)
    where
      go : ((w ≡ a) ⊎ (w ≡ b)) ⊎ ((v : ℕ) × In v cs × In w (around ts v)) → w < n
      go (inl (inl e)) = omega (arith, e)
      go (inl (inr e)) = omega (arith, e)
      go (inr (v, j, inl e)) = omega (arith, e, changed_radio v j)
      go (inr (v, j, inr m)) = k.radios v w (changed_radio v j) m
