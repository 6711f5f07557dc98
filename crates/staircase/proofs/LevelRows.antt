-- The rows of a level have all links of its weight.
--   above-..          the radios of higher levels as a set
--   level_sets        the radios of a level as sets
--   radios-putting-.., neighbours-putting-..   listed radios, and their neighbours, put into a set
--   level_rows        the rows listed
--   level_links       the links of the listed rows are the links of the level's weight
use Rattle.std.specs.Prelude.{◌≡◌, ◌⊎◌, ◌&&◌, ◌∷◌, ◌++◌, ◌+◌, ◌*◌, ◌-◌, ◌≤◌, ◌<◌}
use Rattle.lists.{specs.Kit.{refl, sym, ap, ap₂, ◌∙◌, inl, inr, Bool, true, false, not, cond, List, [], flat_map, append-nil, ℕ}}
use Rattle.lists.{specs.Kit.{min, arith, ltb, leb, eqb, length, get_or, take, replicate, length-replicate, length-take, List·getD-eq-default, take_all}}
use Rattle.lists.{specs.Kit.{ltb-true, lt-ltb, leb-true, leb-false, le-leb, lt-leb, eqb-true, eqb-false, eq-eqb, ne_eqb}, specs.Lists.{range, filter, member}}
use Rattle.lists.{specs.Lists.{overwrite, In, EntriesBelow}, proofs.Tests.{bool_cases, never, and_left, and_right, and_both, or_left, or_right, iff_eq}}
use Rattle.lists.{proofs.Range.{range_in, in_range, range_append, length_range}, proofs.Filter.{in_filter, filter_in, filter_none, filter_ext, filter_le}}
use Rattle.lists.{proofs.Member.{in_get_d, get_d_of_in}, proofs.Map.{flat_map_none, flat_map_append}, proofs.Overwrite.{take_overwrite}}
use Rattle.mesh.{specs.Limits.{max_radios, row_bytes}, specs.Connected.{greatest}, specs.Graph.{Link, link_of}, specs.Tables.{marked}}
use Rattle.mesh.{specs.Staircase.{filter_links, of_weight}, proofs.Trees.Listed.{get_d_le_greatest}}
use Rattle.rows.{specs.Rows.{row_listed, neighbours_above}, proofs.RowListLaws.{in_neighbours_of, member_neighbours_of}, proofs.RowWords.{row_listed_whole}}
use Rattle.rows.{proofs.RowWords.{row_listed_short}, specs.Sets.{in_set, put_in, RowJoined, common, CommonTaken, SetTaken, members, Listed}}
use Rattle.rows.{proofs.SetLaws.{in_set_zeros, in_set_radio, in_put_in, length_put_in}, specs.Links.{links_to, links_above, links_from}}
use Rattle.floods.specs.Floods.{of_level, LevelSet}
use Rattle.forests.{proofs.Forests.{filter_links_append}, specs.Growing.{table_weight}}
use Rattle.staircase.specs.{Taking.{greatest_below}, Rows.{row_among, level_row, RowsWhole, RadiosPut, NeighboursPut, LevelSets, LevelRows, Mutual}}
use Rattle.staircase.proofs.SkipLaws.{number_radio, number_below}

-- ---- the radios of a level

-- the radios of levels above k
abbrev pub AboveSet : (ns : List ℕ) → (k : ℕ) → (set : List ℕ) → Type 0
AboveSet ns k s = (x : ℕ) → x < max_radios → in_set s x ≡ of_level ns (k + 1) x

pub above_none : (ns : List ℕ) (k : ℕ) → k ≡ greatest ns → AboveSet ns k (replicate 8 0)
unfolding of_level
above_none ns k e x l = in_set_zeros 8 x ∙ sym (go (bool_cases (ltb x (length ns))))
  where
    go : (ltb x (length ns) ≡ true) ⊎ (ltb x (length ns) ≡ false) → (ltb x (length ns) && leb (k + 1) (get_or ns x 0)) ≡ false
    go (inl q) = rw q (lt-leb (k + 1) (get_or ns x 0) (omega (arith, e, get_d_le_greatest ns x (ltb-true x (length ns) q))))
    go (inr q) = rw q

-- no radio is between a level and the next
pub above_next : (ns : List ℕ) (k next : ℕ) (reach : List ℕ) → next ≡ greatest_below k ns → next < k
    → ((x : ℕ) → x < max_radios → in_set reach x ≡ of_level ns k x) → AboveSet ns next reach
unfolding of_level
above_next ns k next reach e less h x l = h x l ∙ ap (λ (b : Bool). ltb x (length ns) && b) (iff_eq (leb k (get_or ns x 0)) (leb (next + 1) (get_or ns x 0))
    (λ q. le-leb (next + 1) (get_or ns x 0) (omega (arith, leb-true k (get_or ns x 0) q)))
    (λ q. le-leb k (get_or ns x 0) (high (number_below k ns x) (leb-true (next + 1) (get_or ns x 0) q))))
  where
    high : (get_or ns x 0 ≤ greatest_below k ns) ⊎ (k ≤ get_or ns x 0) → next + 1 ≤ get_or ns x 0 → k ≤ get_or ns x 0
    high (inl a) b = absurd (omega (arith, e))
    high (inr a) b = a

-- the radios of higher levels taken out
pub level_sets : (ns : List ℕ) (k : ℕ) (higher reach own : List ℕ) → AboveSet ns k higher → LevelSet ns k reach → SetTaken higher reach own → LevelSets ns k own reach
unfolding of_level
level_sets ns k higher reach own above level taken = record {
  own_long = taken.long;
  own_radios = λ v l. taken.bits v ∙ ap₂ (λ (a b : Bool). a && not b) (level v l) (above v l)
      ∙ rest v (ltb v (length ns)) (bool_cases (eqb (get_or ns v 0) k));
  reach_radios = level;
}
  where
    rest : (v : ℕ) (a : Bool) → (eqb (get_or ns v 0) k ≡ true) ⊎ (eqb (get_or ns v 0) k ≡ false)
        → ((a && leb k (get_or ns v 0)) && not (a && leb (k + 1) (get_or ns v 0))) ≡ (a && eqb (get_or ns v 0) k)
    rest v false q = refl
    rest v true (inl q) =
        let e = eqb-true (get_or ns v 0) k q in
        rw (q, le-leb k (get_or ns v 0) (omega arith), lt-leb (k + 1) (get_or ns v 0) (omega arith))
    rest v true (inr q) = go (bool_cases (leb (k + 1) (get_or ns v 0)))
      where
        go : (leb (k + 1) (get_or ns v 0) ≡ true) ⊎ (leb (k + 1) (get_or ns v 0) ≡ false)
            → (leb k (get_or ns v 0) && not (leb (k + 1) (get_or ns v 0))) ≡ eqb (get_or ns v 0) k
        go (inl e) = rw (e, q) (and_no (leb k (get_or ns v 0)))
          where
            and_no : (b : Bool) → (b && false) ≡ false
            and_no true = refl
            and_no false = refl
        go (inr e) =
            let d = eqb-false (get_or ns v 0) k q in
            let h = leb-false (k + 1) (get_or ns v 0) e in
            rw (q, lt-leb k (get_or ns v 0) (omega (arith, d, h)))

-- ---- listed radios and their neighbours put into a set

pub record RadiosPutting (list : List ℕ) (i : ℕ) (set : List ℕ) : Type 0 where
  pub low : i ≤ length list
  pub long : length set ≡ 8
  pub own : (j : ℕ) → j < i → in_set set (get_or list j 0) ≡ true

pub radios_putting_none : (list set : List ℕ) → set ≡ replicate 8 0 → RadiosPutting list 0 set
radios_putting_none list set e = record { low = omega arith; long = ap length e ∙ length-replicate {A = ℕ} 8 0; own = λ j h. absurd (omega arith) }

pub radios_putting_turn : (list : List ℕ) (i : ℕ) (set put : List ℕ) → i < length list → get_or list i 0 < max_radios → put ≡ put_in (get_or list i 0) set
    → RadiosPutting list i set → RadiosPutting list (i + 1) put
radios_putting_turn list i set put l small e h = record {
  low = omega arith;
  long = ap length e ∙ length_put_in (get_or list i 0) set ∙ h.long;
  own = λ j r. put_has (get_or list j 0) ∙ go j (bool_cases (eqb j i)) r;
}
  where
    put_has : (x : ℕ) → in_set put x ≡ cond (eqb (get_or list i 0) x) true (in_set set x)
    put_has x = ap (λ (ws : List ℕ). in_set ws x) e ∙ in_put_in (get_or list i 0) x set (omega (arith, h.long))

    always : (b : Bool) → cond b true true ≡ true
    always true = refl
    always false = refl

    go : (j : ℕ) → (eqb j i ≡ true) ⊎ (eqb j i ≡ false) → j < i + 1 → cond (eqb (get_or list i 0) (get_or list j 0)) true (in_set set (get_or list j 0)) ≡ true
    go j (inl q) r = let z = eqb-true j i q in rw (z, eq-eqb (get_or list i 0) (get_or list i 0) refl)
    go j (inr q) r = let d = eqb-false j i q in rw (h.own j (omega (arith, d))) (always (eqb (get_or list i 0) (get_or list j 0)))

pub radios_putting_end : (list : List ℕ) (i : ℕ) (set : List ℕ) → length list ≤ i → RadiosPutting list i set → RadiosPut list set
radios_putting_end list i set l h = record { own = λ j r. h.own j (omega arith) }

pub record NeighboursPutting (ts list old : List ℕ) (i : ℕ) (set : List ℕ) : Type 0 where
  pub low : i ≤ length list
  pub kept : (x : ℕ) → in_set old x ≡ true → in_set set x ≡ true
  pub near : (j x : ℕ) → j < i → member x (row_listed ts (get_or list j 0)) ≡ true → in_set set x ≡ true

pub neighbours_putting_none : (ts list old : List ℕ) → NeighboursPutting ts list old 0 old
neighbours_putting_none ts list old = record { low = omega arith; kept = λ x m. m; near = λ j x h m. absurd (omega arith) }

pub neighbours_putting_turn : (ts list old : List ℕ) (i : ℕ) (set after : List ℕ) → i < length list
    → RowJoined ts (get_or list i 0) set after → NeighboursPutting ts list old i set → NeighboursPutting ts list old (i + 1) after
neighbours_putting_turn ts list old i set after l joined h = record {
  low = omega arith;
  kept = λ x m. stays x (h.kept x m);
  near = λ j x r m. go j x (bool_cases (eqb j i)) r m;
}
  where
    stays : (x : ℕ) → in_set set x ≡ true → in_set after x ≡ true
    stays x m = joined.bits x ∙ or_left (in_set set x) (member x (row_listed ts (get_or list i 0))) m

    go : (j x : ℕ) → (eqb j i ≡ true) ⊎ (eqb j i ≡ false) → j < i + 1 → member x (row_listed ts (get_or list j 0)) ≡ true → in_set after x ≡ true
    go j x (inl q) r m =
        let z = eqb-true j i q in
        joined.bits x
        ∙ or_right (in_set set x) (member x (row_listed ts (get_or list i 0))) (ap (λ (u : ℕ). member x (row_listed ts (get_or list u 0))) (sym z) ∙ m)
    go j x (inr q) r m = let d = eqb-false j i q in stays x (h.near j x (omega (arith, d)) m)

pub neighbours_putting_end : (ts list old : List ℕ) (i : ℕ) (set : List ℕ) → length list ≤ i → NeighboursPutting ts list old i set → NeighboursPut ts list old
    set
neighbours_putting_end ts list old i set l h = record { kept = h.kept; near = λ j x r m. h.near j x (omega arith) m }

-- ---- the rows listed

-- entries written in front, where all fit
listed_front : (xs old list : List ℕ) (r : ℕ) → length xs ≤ length old → r ≡ min (length old) (length xs) → list ≡ overwrite (take (length old) xs) old
    → take r list ≡ xs
listed_front xs old list r fits counted listed =
    let all : r ≡ length xs = omega arith in
    ap (λ (k : ℕ). take k list) all ∙ ap (take (length xs)) (listed ∙ ap (λ (ys : List ℕ). overwrite ys old) (take_all (length old) xs fits)) ∙ take_overwrite
    xs old

few_radios : (f : ℕ → Bool) → length (filter f (range 0 max_radios)) ≤ max_radios
few_radios f = filter_le f (range 0 max_radios) max_radios (length_range 0 max_radios)

module _ (ts own : List ℕ) (old list : List ℕ) (r : ℕ) (room : length old ≡ max_radios)
    (first : Listed own old r list) where
  own_listed : take r list ≡ filter (in_set own) (range 0 max_radios)
  unfolding members
  own_listed = listed_front (members own) old list r (omega (arith, few_radios (in_set own), room)) first.counted first.listed

  pub own_fits : length list ≡ length old → r ≤ length list
  own_fits same = omega (arith, first.counted, same)

  own_place : (v : ℕ) → v < max_radios → in_set own v ≡ true → (j : ℕ) × (j < length (take r list)) × (get_or (take r list) j 0 ≡ v)
  own_place v l e =
      get_d_of_in v (take r list) (rw own_listed (filter_in (in_set own) (range 0 max_radios) v (in_range 0 max_radios v (omega arith) (omega arith)) e))

  pub own_entries : EntriesBelow max_radios (take r list)
  own_entries j l =
      below (get_or (take r list) j 0) (take r list) own_listed (in_get_d (take r list) j l)
    where
      below : (v : ℕ) (xs : List ℕ) → xs ≡ filter (in_set own) (range 0 max_radios) → In v xs → v < max_radios
      below v xs e i =
          let m : In v (filter (in_set own) (range 0 max_radios)) = rw e at i in
          omega (arith, (range_in 0 max_radios v (in_filter (in_set own) (range 0 max_radios) v m).0).1)

  -- all of a set listed
  pub all_rows : (less : List ℕ) → length list ≡ length old → LevelRows ts less own r list
  all_rows less same = record {
    rows = λ a. true;
    fits = own_fits same;
    listed = own_listed ∙ filter_ext (in_set own) (λ a. in_set own a && true) (range 0 max_radios) (λ a i. and_yes (in_set own a));
    own_row = λ a e. refl;
    near_row = λ a b e i. refl;
  }
    where
      and_yes : (b : Bool) → b ≡ (b && true)
      and_yes true = refl
      and_yes false = refl

  -- the rows that the set has of reach
  pub level_rows : (reach put set after end : List ℕ) (m : ℕ) → length own ≡ 8 → length list ≡ max_radios
      → RadiosPut (take r list) put → NeighboursPut ts (take r list) put set
      → CommonTaken reach set list m after end → LevelRows ts own reach m end
  unfolding common
  level_rows reach put set after end m long list_room owns nears taken =
      let few = few_radios (λ v. in_set reach v && in_set set v) in
      let front = listed_front (common reach set) list end m (omega arith) taken.counted taken.listed in
      record {
        rows = in_set set;
        fits = fits end front;
        listed = front;
        own_row = λ a e. place a e (own_place a (in_set_radio own a long e) e);
        near_row = λ a b e i. near a b i (own_place b (in_set_radio own b long e) e);
      }
    where
      fits : (xs : List ℕ) → take m xs ≡ common reach set → m ≤ length xs
      fits xs e =
          omega (
            arith,
            length-take m xs,
            ap length e,
            taken.counted,
            few_radios (λ v. in_set reach v && in_set set v),
            list_room,
          )

      place : (a : ℕ) → in_set own a ≡ true → (j : ℕ) × (j < length (take r list)) × (get_or (take r list) j 0 ≡ a) → in_set set a ≡ true
      place a e h = ap (in_set set) (sym h.2) ∙ nears.kept (get_or (take r list) h.0 0) (owns.own h.0 h.1)

      near : (a b : ℕ) → member a (row_listed ts b) ≡ true → (j : ℕ) × (j < length (take r list)) × (get_or (take r list) j 0 ≡ b) → in_set set a ≡ true
      near a b i h = nears.near h.0 a h.1 (ap (λ (v : ℕ). member a (row_listed ts v)) h.2 ∙ i)

-- ---- the links of the level

in_above : (ts : List ℕ) (a b : ℕ) → In b (neighbours_above ts a) → (b < max_radios) × (marked ts a b ≡ true)
unfolding neighbours_above
in_above ts a b i = go (bool_cases (leb (row_bytes * a + row_bytes) (length ts))) (in_filter (ltb a) (row_listed ts a) b i).0
  where
    go : (leb (row_bytes * a + row_bytes) (length ts) ≡ true) ⊎ (leb (row_bytes * a + row_bytes) (length ts) ≡ false) → In b (row_listed ts a)
        → (b < max_radios) × (marked ts a b ≡ true)
    go (inl e) m = in_neighbours_of ts a b (rw (row_listed_whole ts a (leb-true (row_bytes * a + row_bytes) (length ts) e)) at m)
    go (inr e) m = absurd (rw (row_listed_short ts a (leb-false (row_bytes * a + row_bytes) (length ts) e)) at m)

filter_links_row : (f : Link → Bool) (a : ℕ) (bs : List ℕ) → filter_links f (links_to a bs) ≡ links_to a (filter (λ b. f (link_of a b)) bs)
unfolding filter_links filter
filter_links_row f a [] = refl
filter_links_row f a (b ∷ bs) = rw (filter_links_row f a bs) (go (f (link_of a b)))
  where
    go : (t : Bool) → cond {A = List Link} t (link_of a b ∷ links_to a (filter (λ c. f (link_of a c)) bs)) (links_to a (filter (λ c. f (link_of a c)) bs))
        ≡ links_to a (cond t (b ∷ filter (λ c. f (link_of a c)) bs) (filter (λ c. f (link_of a c)) bs))
    go true = refl
    go false = refl

filter_links_flat_map : (f : Link → Bool) (h : ℕ → List Link) (xs : List ℕ) → filter_links f (flat_map h xs) ≡ flat_map (λ a. filter_links f (h a)) xs
unfolding filter_links flat_map
filter_links_flat_map f h [] = refl
filter_links_flat_map f h (x ∷ xs) =
    filter_links_append f (h x) (flat_map h xs) ∙ ap {B = List Link} (λ ls. filter_links f (h x) ++ ls) (filter_links_flat_map f h xs)

-- entries that give nothing may be left out
flat_map_filter : (g : ℕ → Bool) (h k : ℕ → List Link) (xs : List ℕ) → ((a : ℕ) → In a xs → g a ≡ false → h a ≡ []) →
    ((a : ℕ) → In a xs → g a ≡ true → k a ≡ h a)
    → flat_map k (filter g xs) ≡ flat_map h xs
unfolding flat_map filter
flat_map_filter g h k [] none same = refl
flat_map_filter g h k (x ∷ xs) none same = go (bool_cases (g x)) (flat_map_filter g h k xs (λ a i. none a (inr i)) (λ a i. same a (inr i)))
  where
    go : (g x ≡ true) ⊎ (g x ≡ false) → flat_map k (filter g xs) ≡ flat_map h xs → flat_map k (cond (g x) (x ∷ filter g xs) (filter g xs)) ≡ h x ++ flat_map h xs
    go (inl e) rec = rw e (ap₂ {C = List Link} (λ ls ms. ls ++ ms) (same x (inl refl) e) rec)
    go (inr e) rec = rw (e, none x (inl refl) e) rec

module _ (ts ns : List ℕ) (k : ℕ) (some : 1 ≤ k) (rows : Mutual (length ns) ts) (own reach : List ℕ) (sets : LevelSets ns k own reach) where
  abbrev heavy : ℕ → List Link
  heavy a = of_weight (table_weight ns) k (links_above ts a)

  abbrev n : ℕ
  n = length ns

  radio : (v : ℕ) → 1 ≤ get_or ns v 0 → v < n
  radio v h = number_radio ns v h

  heavy_row : (a : ℕ) → heavy a ≡ links_to a (filter (λ b. eqb (min (get_or ns a 0) (get_or ns b 0)) k) (neighbours_above ts a))
  unfolding links_above
  heavy_row a = filter_links_row (λ l. eqb (table_weight ns l) k) a (neighbours_above ts a)

  -- a set that has the radios to which a link of a weighs k
  row_heavy : (a : ℕ) (s : List ℕ) → ((b : ℕ) → b < max_radios → in_set s b ≡ eqb (min (get_or ns a 0) (get_or ns b 0)) k) → row_among ts s a ≡ heavy a
  unfolding row_among
  row_heavy a s tells =
      ap (links_to a) (filter_ext (in_set s) (λ b. eqb (min (get_or ns a 0) (get_or ns b 0)) k) (neighbours_above ts a) (λ b i. tells b (in_above ts a b i).0))
      ∙ sym (heavy_row a)

  of_own : (x : ℕ) → x < max_radios → in_set own x ≡ eqb (get_or ns x 0) k
  of_own x l = sets.own_radios x l ∙ iff_eq (ltb x n && eqb (get_or ns x 0) k) (eqb (get_or ns x 0) k) (λ e. and_right (ltb x n) (eqb (get_or ns x 0) k) e)
      (λ e. and_both (ltb x n) (eqb (get_or ns x 0) k) (lt-ltb x n (radio x (omega (arith, eqb-true (get_or ns x 0) k e)))) e)

  of_reach : (x : ℕ) → x < max_radios → in_set reach x ≡ leb k (get_or ns x 0)
  unfolding of_level
  of_reach x l = sets.reach_radios x l ∙ iff_eq (ltb x n && leb k (get_or ns x 0)) (leb k (get_or ns x 0)) (λ e. and_right (ltb x n) (leb k (get_or ns x 0)) e)
      (λ e. and_both (ltb x n) (leb k (get_or ns x 0)) (lt-ltb x n (radio x (omega (arith, leb-true k (get_or ns x 0) e)))) e)

  level_row_heavy : (a : ℕ) → a < max_radios → in_set reach a ≡ true → level_row ts own reach a ≡ heavy a
  unfolding level_row
  level_row_heavy a l e = go (bool_cases (in_set own a))
    where
      high : k ≤ get_or ns a 0
      high = leb-true k (get_or ns a 0) (sym (of_reach a l) ∙ e)

      go : (in_set own a ≡ true) ⊎ (in_set own a ≡ false) → row_among ts (cond (in_set own a) reach own) a ≡ heavy a
      go (inl q) =
          let is = eqb-true (get_or ns a 0) k (sym (of_own a l) ∙ q) in
          rw q (row_heavy a reach (λ b r. of_reach b r ∙ iff_eq (leb k (get_or ns b 0)) (eqb (min (get_or ns a 0) (get_or ns b 0)) k)
          (λ z. eq-eqb (min (get_or ns a 0) (get_or ns b 0)) k (omega (arith, is, leb-true k (get_or ns b 0) z)))
          (λ z. le-leb k (get_or ns b 0) (omega (arith, is, eqb-true (min (get_or ns a 0) (get_or ns b 0)) k z)))))
      go (inr q) =
          let not = eqb-false (get_or ns a 0) k (sym (of_own a l) ∙ q) in
          rw q (row_heavy a own (λ b r. of_own b r ∙ iff_eq (eqb (get_or ns b 0) k) (eqb (min (get_or ns a 0) (get_or ns b 0)) k)
          (λ z. eq-eqb (min (get_or ns a 0) (get_or ns b 0)) k (omega (arith, high, eqb-true (get_or ns b 0) k z)))
          (λ z. eq-eqb (get_or ns b 0) k (omega (arith, high, not, eqb-true (min (get_or ns a 0) (get_or ns b 0)) k z)))))

  heavy_low : (a : ℕ) → get_or ns a 0 < k → heavy a ≡ []
  unfolding filter
  heavy_low a h =
      heavy_row a ∙ ap (links_to a) (filter_none (λ b. eqb (min (get_or ns a 0) (get_or ns b 0)) k) (neighbours_above ts a)
      (λ b i. ne_eqb (min (get_or ns a 0) (get_or ns b 0)) k (λ q. omega arith)))

  -- past the radios no row has a link of the level
  heavy_radios : flat_map heavy (range 0 max_radios) ≡ flat_map heavy (range 0 n)
  heavy_radios =
      let parts : max_radios ≡ n + (max_radios - n) = omega (arith, rows.most) in
      ap (λ (m : ℕ). flat_map heavy (range 0 m)) parts ∙ ap (flat_map heavy) (range_append 0 n (max_radios - n))
      ∙ flat_map_append heavy (range 0 n) (range (0 + n) (max_radios - n))
      ∙ ap {B = List Link} (λ ls. flat_map heavy (range 0 n) ++ ls)
      (flat_map_none heavy (range (0 + n) (max_radios - n)) (λ a i. heavy_low a (past a (range_in (0 + n) (max_radios - n) a i).0)))
      ∙ append-nil (flat_map heavy (range 0 n))
    where
      past : (a : ℕ) → 0 + n ≤ a → get_or ns a 0 < k
      past a h = omega (arith, List·getD-eq-default ns 0 {n = a} (let l : length ns ≤ a = omega arith in l))

  module _ (r : ℕ) (list : List ℕ) (found : LevelRows ts own reach r list) where
    abbrev taken : ℕ → Bool
    taken a = in_set reach a && found.rows a

    -- a link of the level leads to a row that is found
    row_found : (a b : ℕ) → a < max_radios → b < max_radios → marked ts a b ≡ true → min (get_or ns a 0) (get_or ns b 0) ≡ k → found.rows a ≡ true
    row_found a b la lb m q = go (bool_cases (eqb (get_or ns a 0) k))
      where
        go : (eqb (get_or ns a 0) k ≡ true) ⊎ (eqb (get_or ns a 0) k ≡ false) → found.rows a ≡ true
        go (inl e) = found.own_row a (of_own a la ∙ e)
        go (inr e) =
            let d = eqb-false (get_or ns a 0) k e in
            let is : get_or ns b 0 ≡ k = omega (arith, d, q) in
            let ra = radio a (omega arith) in
            let rb = radio b (omega arith) in
            let whole : row_bytes * b + row_bytes ≤ length ts = omega (arith, rows.whole) in
            found.near_row a b (of_own b lb ∙ eq-eqb (get_or ns b 0) k is)
            (ap (member a) (row_listed_whole ts b whole) ∙ member_neighbours_of ts b a la ∙ rows.both b a rb ra ∙ m)

    heavy_none : (a : ℕ) → a < max_radios → taken a ≡ false → heavy a ≡ []
    unfolding filter
    heavy_none a l e =
        heavy_row a ∙ ap (links_to a) (filter_none (λ b. eqb (min (get_or ns a 0) (get_or ns b 0)) k) (neighbours_above ts a)
        (λ b i. ne_eqb (min (get_or ns a 0) (get_or ns b 0)) k (λ q. none b (in_above ts a b i) q)))
      where
        none : (b : ℕ) → (b < max_radios) × (marked ts a b ≡ true) → min (get_or ns a 0) (get_or ns b 0) ≡ k → ⊥
        none b m q =
            never (taken a) (and_both (in_set reach a) (found.rows a) (of_reach a l ∙ le-leb k (get_or ns a 0) (omega arith)) (row_found a b l m.0 m.1 q))
            e

    pub level_links : flat_map (level_row ts own reach) (take r list) ≡ of_weight (table_weight ns) k (links_from n ts 0 0)
    unfolding links_from
    level_links =
        let z : n - 0 ≡ n = omega arith in
        ap (flat_map (level_row ts own reach)) found.listed
        ∙ flat_map_filter taken heavy (level_row ts own reach) (range 0 max_radios) (λ a i e. heavy_none a (below a i) e)
        (λ a i e. level_row_heavy a (below a i) (and_left (in_set reach a) (found.rows a) e))
        ∙ heavy_radios
        ∙ sym (filter_links_flat_map (λ l. eqb (table_weight ns l) k) (links_above ts) (range 0 n))
        ∙ ap (λ (m : ℕ). of_weight (table_weight ns) k (flat_map (links_above ts) (range 0 m))) (sym z)
      where
        below : (a : ℕ) → In a (range 0 max_radios) → a < max_radios
        below a i = omega (arith, range_in 0 max_radios a i)

    pub level_whole : RowsWhole ts (take r list)
    level_whole i l = whole (get_or (take r list) i 0) (take r list) found.listed (in_get_d (take r list) i l)
      where
        whole : (v : ℕ) (xs : List ℕ) → xs ≡ filter taken (range 0 max_radios) → In v xs → (v < max_radios) × (row_bytes * v + row_bytes ≤ length ts)
        whole v xs e i =
            let m : In v (filter taken (range 0 max_radios)) = rw e at i in
            let f = in_filter taken (range 0 max_radios) v m in
            let small : v < max_radios = omega (arith, range_in 0 max_radios v f.0) in
            let high = leb-true k (get_or ns v 0) (sym (of_reach v small) ∙ and_left (in_set reach v) (found.rows v) f.1) in
            (small, omega (arith, radio v (omega (arith, high)), rows.whole))
