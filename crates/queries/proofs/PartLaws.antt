-- Parts taken in turn: the set so far has the backbone of the parts taken.
-- In order: the greatest number of listed radios; their bits; one part; the radios as a loop; the backbone's contract, met.
use Rattle.std.specs.Prelude.{◌≡◌, ◌⊎◌, ◌&&◌, ◌||◌, ◌∷◌, ◌+◌, ◌≤◌, ◌<◌}
use Rattle.lists.{specs.Kit.{refl, sym, ap, ◌∙◌, inl, inr, Bool, true, false, not, cond, List, [], map, ℕ, suc, max}}
use Rattle.lists.{specs.Kit.{arith, add-one, ltb, leb, eqb, length, get_or, take, replicate, length-replicate, take_all, leb-true, le-leb, ltb-true, ltb-false}}
use Rattle.lists.{specs.Kit.{eqb-true, eqb-false, lt-ltb, le-ltb, eq-eqb, ne_eqb}, specs.Facts.{folded}, specs.Lists.{range, member, In, overwrite}}
use Rattle.lists.{proofs.Tests.{bool_cases, never, and_left, or_right}, proofs.Member.{member_in, in_member}, proofs.Filter.{filter_le, filter_ext}}
use Rattle.lists.{proofs.Filter.{filter_range_within}, proofs.Range.{length_range, range_in}, proofs.Loops.{Folding, folding_end, length_folded}}
use Rattle.mesh.{specs.Limits.{max_radios}, specs.Graph.{Graph, radios}, specs.Cores.{number}, specs.Connected.{at_least, InCore, core_of, greatest, backbone}}
use Rattle.mesh.{specs.Tables.{Tables, tables, graph_in}, specs.Sound.{sound}, proofs.Trees.Reach.{core_of_iff}, proofs.Trees.CoreLevels.{in_core_here}}
use Rattle.mesh.{proofs.Trees.CoreLevels.{in_core_below, in_core_sym, in_core_trans, core_of_same}, proofs.Trees.Listed.{number_le_greatest, greatest_map_le}}
use Rattle.mesh.{proofs.Trees.Listed.{part_top, tops_part, number_le_part_top, part_top_le}}
use Rattle.calls.{specs.Questions.{lengths_of, answer_length, site_refusal}, specs.CallContracts.{BackboneContract}}
use Rattle.calls.{proofs.ChainLaws.{SiteGood, site_zero}, specs.Outcomes.{value, backbone_outcome}, proofs.ContractLaws.{listing_refused, listing_answered}}
use Rattle.soundness.{specs.Checks.{fits_sound}, proofs.SoundSite.{SoundSite, fits_sound_site, site_good_fits, number_entry, site_good_sound}}
use Rattle.rows.{specs.Sets.{in_set, put_in, members, Listed}, proofs.SetLaws.{in_set_zeros, in_set_past, in_put_in, length_put_in}}
use Rattle.floods.{specs.Floods.{LevelSet, FloodDone}, proofs.FloodCore.{level_radios, member_flood}}
use Rattle.queries.specs.Parts.{part_greatest, top_put, tops_put, part_put, PartTaken, PartVisited, BackbonePut}

-- ---- the greatest number of listed radios, as a loop

-- the greatest so far, after radio w
abbrev pub greatest_with : (numbers : List ℕ) → (w top : ℕ) → ℕ
greatest_with ns w top = max top (get_or ns w 0)

folded_greatest : (ns xs : List ℕ) (top : ℕ) → folded (greatest_with ns) xs top ≡ max top (part_greatest ns xs)
unfolding folded part_greatest greatest
folded_greatest ns [] top = omega arith
folded_greatest ns (x ∷ xs) top = omega (arith, folded_greatest ns xs (max top (get_or ns x 0)))

pub part_greatest_end : (ns list : List ℕ) (top i : ℕ) → length list ≤ i → Folding (greatest_with ns) list 0 top i → top ≡ part_greatest ns list
part_greatest_end ns list top i l h = omega (arith, folding_end (greatest_with ns) list 0 top i h l, folded_greatest ns list 0)

-- ---- bits of listed radios

pub length_top_put : (ns : List ℕ) (k w : ℕ) (s : List ℕ) → length (top_put ns k w s) ≡ length s
unfolding top_put
length_top_put ns k w s = go (eqb (get_or ns w 0) k)
  where
    go : (t : Bool) → length (cond t (put_in w s) s) ≡ length s
    go true = length_put_in w s
    go false = refl

length_part_put : (ns xs s : List ℕ) → length (part_put ns xs s) ≡ length s
unfolding part_put tops_put
length_part_put ns xs s = go (eqb (part_greatest ns xs) 0)
  where
    go : (t : Bool) → length (cond t s (folded (top_put ns (part_greatest ns xs)) xs s)) ≡ length s
    go true = refl
    go false = length_folded (top_put ns (part_greatest ns xs)) (length_top_put ns (part_greatest ns xs)) xs s

or_none : (b : Bool) → b ≡ (b || false)
or_none true = refl
or_none false = refl

module _ (ns : List ℕ) (k w : ℕ) (l : w < max_radios) where
  in_top_put : (x : ℕ) (s : List ℕ) → x < max_radios → length s ≡ 8
      → in_set (top_put ns k x s) w ≡ (in_set s w || (eqb x w && eqb (get_or ns w 0) k))
  unfolding top_put
  in_top_put x s lx long = go (bool_cases (eqb x w))
    where
      bit : in_set (put_in x s) w ≡ cond (eqb x w) true (in_set s w)
      bit = in_put_in x w s (omega arith)

      other : (c : Bool) → eqb x w ≡ false → in_set (cond c (put_in x s) s) w ≡ in_set s w
      other true e = bit ∙ rw e
      other false e = refl

      same : (c : Bool) → eqb x w ≡ true → in_set (cond c (put_in x s) s) w ≡ (in_set s w || c)
      same true e = bit ∙ rw e (sym (or_right (in_set s w) true refl))
      same false e = or_none (in_set s w)

      go : (eqb x w ≡ true) ⊎ (eqb x w ≡ false)
          → in_set (cond (eqb (get_or ns x 0) k) (put_in x s) s) w ≡ (in_set s w || (eqb x w && eqb (get_or ns w 0) k))
      go (inl e) = same (eqb (get_or ns x 0) k) e ∙ rw (e, eqb-true x w e)
      go (inr e) = other (eqb (get_or ns x 0) k) e ∙ rw e (or_none (in_set s w))

  in_tops_put : (xs s : List ℕ) → ((x : ℕ) → In x xs → x < max_radios) → length s ≡ 8
      → in_set (tops_put ns k xs s) w ≡ (in_set s w || (member w xs && eqb (get_or ns w 0) k))
  unfolding tops_put folded member
  in_tops_put [] s h long = or_none (in_set s w)
  in_tops_put (x ∷ xs) s h long =
      in_tops_put xs (top_put ns k x s) (λ y m. h y (inr m)) (length_top_put ns k x s ∙ long)
      ∙ ap (λ (b : Bool). b || (member w xs && eqb (get_or ns w 0) k)) (in_top_put x s (h x (inl refl)) long)
      ∙ either (in_set s w) (eqb x w) (member w xs) (eqb (get_or ns w 0) k)
    where
      either : (a b c d : Bool) → ((a || (b && d)) || (c && d)) ≡ (a || ((b || c) && d))
      either true b c d = refl
      either false true c true = refl
      either false true true false = refl
      either false true false false = refl
      either false false c d = refl

-- ---- one part

-- the radios below v are taken, and with a radio its part; the set has the backbone of the parts taken
pub record Parted (g : Graph) (v : ℕ) (rest set : List ℕ) : Type 0 where
  pub rest_long : length rest ≡ 8
  pub set_long : length set ≡ 8
  pub below : (w : ℕ) → w < v → in_set rest w ≡ false
  pub radios : (w : ℕ) → in_set rest w ≡ true → w < g.n
  pub whole : (w x : ℕ) → w < g.n → in_set rest w ≡ false → InCore g w 0 x → in_set rest x ≡ false
  pub tops : (w : ℕ) → w < max_radios → in_set set w ≡ ((ltb w g.n && not (in_set rest w)) && tops_part g w)

module _ (n : ℕ) (t : Tables) (s : SoundSite n t) (v : ℕ) (radio : v < n) where
  abbrev g : Graph
  g = graph_in n t.links

  in_part_below : (w : ℕ) → InCore g v 0 w → w < n
  unfolding graph_in
  in_part_below w r = in_core_below g v 0 w radio r

  module _ (xs : List ℕ) (is_part : (w : ℕ) → member w xs ≡ member w (core_of g v 0)) where
    part_in : (w : ℕ) → In w xs → InCore g v 0 w
    unfolding graph_in
    part_in w m = (core_of_iff g v 0 radio w).0 (sym (is_part w) ∙ in_member w xs m)

    in_part : (w : ℕ) → InCore g v 0 w → In w xs
    unfolding graph_in
    in_part w r = member_in w xs (is_part w ∙ (core_of_iff g v 0 radio w).1 r)

    -- the entries give the part's greatest number
    part_greatest_top : part_greatest t.numbers xs ≡ part_top g v
    unfolding part_greatest graph_in
    part_greatest_top =
        let entry : ℕ → ℕ = λ w. get_or t.numbers w 0 in
        omega (
          arith,
          greatest_map_le entry xs (part_top g v) (λ w m.
              let r = part_in w m in omega (arith, number_entry n t s w (in_part_below w r), number_le_part_top g v radio w r)),
          part_top_le g v radio (greatest (map entry xs)) (λ w r.
              omega (arith, number_entry n t s w (in_part_below w r), number_le_greatest entry xs w (in_part w r))),
        )

    -- radios of one part have the same greatest number
    part_top_same : (w : ℕ) → InCore g v 0 w → part_top g w ≡ part_top g v
    unfolding graph_in
    part_top_same w r = ap (λ (ys : List ℕ). greatest (map (number g) ys)) (core_of_same g v 0 w radio (omega arith) r)

    in_part_put : (set : List ℕ) → length set ≡ 8 → (w : ℕ) → w < max_radios
        → in_set (part_put t.numbers xs set) w ≡ (in_set set w || (member w xs && tops_part g w))
    unfolding part_put graph_in
    in_part_put set long w l = go (bool_cases (eqb top 0))
      where
        top : ℕ
        top = part_greatest t.numbers xs

        -- what two tests say of the part's radios alike
        of_part : (a b : Bool) → (InCore g v 0 w → a ≡ b) → (in_set set w || (member w xs && a)) ≡ (in_set set w || (member w xs && b))
        of_part a b h = by_member (bool_cases (member w xs))
          where
            by_member : (member w xs ≡ true) ⊎ (member w xs ≡ false)
                → (in_set set w || (member w xs && a)) ≡ (in_set set w || (member w xs && b))
            by_member (inl e) = rw (e, h (part_in w (member_in w xs e)))
            by_member (inr e) = rw e

        nothing : (a b : Bool) → a ≡ (a || (b && false))
        nothing a true = or_none a
        nothing a false = or_none a

        -- no radio of the part has a number but 0
        none : top ≡ 0 → InCore g v 0 w → false ≡ tops_part g w
        none e r = rw (le-ltb 0 (number g w) (omega (arith, part_greatest_top, number_le_part_top g v radio w r)))

        same : (top ≡ 0 → ⊥) → InCore g v 0 w → eqb (get_or t.numbers w 0) top ≡ tops_part g w
        same h r =
            rw (number_entry n t s w (in_part_below w r), part_top_same w r, ← part_greatest_top) (not_zero (number g w) top h)
          where
            not_zero : (x y : ℕ) → (y ≡ 0 → ⊥) → eqb x y ≡ (ltb 0 x && eqb x y)
            not_zero x y z = by_eqb (bool_cases (eqb x y))
              where
                and_none : (b : Bool) → false ≡ (b && false)
                and_none true = refl
                and_none false = refl

                by_eqb : (eqb x y ≡ true) ⊎ (eqb x y ≡ false) → eqb x y ≡ (ltb 0 x && eqb x y)
                by_eqb (inl e) = rw (lt-ltb 0 x (omega (arith, eqb-true x y e)))
                by_eqb (inr e) = rw e (and_none (ltb 0 x))

        go : (eqb top 0 ≡ true) ⊎ (eqb top 0 ≡ false)
            → in_set (cond (eqb top 0) set (tops_put t.numbers top xs set)) w ≡ (in_set set w || (member w xs && tops_part g w))
        go (inl e) = rw e (nothing (in_set set w) (member w xs) ∙ of_part false (tops_part g w) (none (eqb-true top 0 e)))
        go (inr e) =
            rw e (in_tops_put t.numbers top w l xs set (λ x m. omega (arith, in_part_below x (part_in x m), s.small)) long
            ∙ of_part (eqb (get_or t.numbers w 0) top) (tops_part g w) (same (λ z. never (eqb top 0) (eq-eqb top 0 z) e)))

  module _ (rest set u p : List ℕ) (parted : Parted g v rest set) where
    -- a radio whose part is taken
    parted_passed : in_set rest v ≡ false → (u ≡ rest) × (p ≡ set) → Parted g (suc v) u p
    parted_passed e h = rw (h.0, h.1) (record {
      rest_long = parted.rest_long;
      set_long = parted.set_long;
      below = λ w l. below w (bool_cases (eqb w v)) l;
      radios = parted.radios;
      whole = parted.whole;
      tops = parted.tops;
    })
      where
        below : (w : ℕ) → (eqb w v ≡ true) ⊎ (eqb w v ≡ false) → w < suc v → in_set rest w ≡ false
        below w (inl q) l = rw (eqb-true w v q) e
        below w (inr q) l = parted.below w (omega (arith, eqb-false w v q))

    module _ (fresh : in_set rest v ≡ true) (h : PartTaken t.links t.numbers v rest set u p) where
      -- all of its part is among the rest
      part_in_rest : (w : ℕ) → InCore g v 0 w → in_set rest w ≡ true
      unfolding graph_in
      part_in_rest w r = go (bool_cases (in_set rest w))
        where
          go : (in_set rest w ≡ true) ⊎ (in_set rest w ≡ false) → in_set rest w ≡ true
          go (inl e) = e
          go (inr e) = never (in_set rest v) fresh (parted.whole w v (in_part_below w r) e (in_core_sym g v 0 w radio (omega arith) r))

      inside : (w : ℕ) → in_set rest w ≡ true → (w < n) × (at_least g 0 w ≡ true)
      unfolding graph_in at_least
      inside w e = (parted.radios w e, le-leb 0 (number g w) (omega arith))

      done : FloodDone t.links v rest h.came u h.queue_after
      done = h.flooded

      abbrev part : List ℕ
      part = take h.came h.queue_after

      is_part : (w : ℕ) → member w part ≡ member w (core_of g v 0)
      is_part w = member_flood n t s 0 v rest radio inside part_in_rest h.came u h.queue_after done w

      rest_after : (w : ℕ) → in_set u w ≡ (in_set rest w && not (member w part))
      rest_after w = done.bits w

      -- a radio that is not left was not left before, or is of the part
      gone_cases : (w : ℕ) → in_set u w ≡ false → (in_set rest w ≡ false) ⊎ InCore g v 0 w
      gone_cases w e = go (bool_cases (in_set rest w)) (bool_cases (member w part))
        where
          go : (in_set rest w ≡ true) ⊎ (in_set rest w ≡ false) → (member w part ≡ true) ⊎ (member w part ≡ false) → (in_set rest w ≡ false) ⊎ InCore g v 0 w
          go (inr q) m = inl q
          go (inl q) (inl m) = inr (part_in part is_part w (member_in w part m))
          go (inl q) (inr m) = never (in_set u w) (rest_after w ∙ rw (q, m)) e

      still_gone : (w : ℕ) → in_set rest w ≡ false → in_set u w ≡ false
      still_gone w e = rest_after w ∙ rw e

      part_gone : (w : ℕ) → InCore g v 0 w → in_set u w ≡ false
      part_gone w r = rest_after w ∙ rw (in_member w part (in_part part is_part w r)) (and_no (in_set rest w))
        where
          and_no : (b : Bool) → (b && false) ≡ false
          and_no true = refl
          and_no false = refl

      parted_taken : Parted g (suc v) u p
      unfolding graph_in
      parted_taken = record {
        rest_long = done.long;
        set_long = ap length h.put ∙ length_part_put t.numbers part set ∙ parted.set_long;
        below = λ w l. below w (bool_cases (eqb w v)) l;
        radios = λ w e. parted.radios w (and_left (in_set rest w) (not (member w part)) (sym (rest_after w) ∙ e));
        whole = λ w x l e r. whole w x l (gone_cases w e) r;
        tops = λ w l. ap (λ (z : List ℕ). in_set z w) h.put ∙ in_part_put part is_part set parted.set_long w l
            ∙ ap (λ (b : Bool). b || (member w part && tops_part g w)) (parted.tops w l)
            ∙ both (ltb w n) (in_set rest w) (member w part) (tops_part g w) (λ m. lt-ltb w n (in_part_below w (part_in part is_part w (member_in w part m))))
            ∙ ap (λ (b : Bool). (ltb w n && not b) && tops_part g w) (sym (rest_after w));
      }
        where
          below : (w : ℕ) → (eqb w v ≡ true) ⊎ (eqb w v ≡ false) → w < suc v → in_set u w ≡ false
          below w (inl q) l = rw (eqb-true w v q) (part_gone v (in_core_here (graph_in n t.links) v 0))
          below w (inr q) l = still_gone w (parted.below w (omega (arith, eqb-false w v q)))

          whole : (w x : ℕ) → w < n → (in_set rest w ≡ false) ⊎ InCore (graph_in n t.links) v 0 w → InCore (graph_in n t.links) w 0 x
              → in_set u x ≡ false
          whole w x l (inl e) r = still_gone x (parted.whole w x l e r)
          whole w x l (inr q) r = part_gone x (in_core_trans (graph_in n t.links) v 0 w x q r)

          both : (a b m c : Bool) → (m ≡ true → a ≡ true) → (((a && not b) && c) || (m && c)) ≡ ((a && not (b && not m)) && c)
          both true true true c i = refl
          both true true false true i = refl
          both true true false false i = refl
          both true false true true i = refl
          both true false true false i = refl
          both true false false true i = refl
          both true false false false i = refl
          both false b true c i = never false (i refl) refl
          both false b false c i = refl

    parted_next : PartVisited t.links t.numbers v rest set u p → Parted g (suc v) u p
    parted_next h = go (bool_cases (in_set rest v))
      where
        go : (in_set rest v ≡ true) ⊎ (in_set rest v ≡ false) → Parted (graph_in n t.links) (suc v) u p
        go (inl e) = parted_taken e (h.taken e)
        go (inr e) = parted_passed e (h.passed e)

-- ---- the radios as a loop

parted_none : (n : ℕ) (t : Tables) → SoundSite n t → (rest set : List ℕ) → length rest ≡ 8 → LevelSet t.numbers 0 rest
    → set ≡ replicate 8 0 → Parted (graph_in n t.links) 0 rest set
unfolding graph_in
parted_none n t s rest set words level e = record {
  rest_long = words;
  set_long = ap length e ∙ length-replicate {A = ℕ} 8 0;
  below = λ w l. absurd (omega arith);
  radios = λ w m. ltb-true w n (sym (all w) ∙ m);
  whole = λ w x l m r. never (in_set rest w) (all w ∙ lt-ltb w n l) m;
  tops = λ w l. ap (λ (z : List ℕ). in_set z w) e ∙ in_set_zeros 8 w
      ∙ sym (ap (λ (b : Bool). (ltb w n && not b) && tops_part (graph_in n t.links) w) (all w) ∙ nobody (ltb w n) (tops_part (graph_in n t.links) w));
}
  where
    and-true : (b : Bool) → (b && true) ≡ b
    and-true true = refl
    and-true false = refl

    all : (w : ℕ) → in_set rest w ≡ ltb w n
    all w =
        level_radios n t s 0 rest words level w
        ∙ ap (λ (b : Bool). ltb w n && b) (le-leb 0 (number (graph_in n t.links) w) (omega arith)) ∙ and-true (ltb w n)

    nobody : (a b : Bool) → ((a && not a) && b) ≡ false
    nobody true b = refl
    nobody false b = refl

-- all radios are taken: the set is the backbone
parted_all : (g : Graph) (rest set : List ℕ) → g.n ≤ max_radios → Parted g g.n rest set → members set ≡ backbone g
unfolding backbone radios members
parted_all g rest set small h =
    filter_range_within (in_set set) g.n max_radios small (λ w l. none w l (bool_cases (ltb w max_radios)))
    ∙ filter_ext (in_set set) (tops_part g) (range 0 g.n) (λ w m.
    let l : w < g.n = omega (arith, (range_in 0 g.n w m).1) in
    h.tops w (omega arith) ∙ rw (lt-ltb w g.n l, h.below w l))
  where
    none : (w : ℕ) → g.n ≤ w → (ltb w max_radios ≡ true) ⊎ (ltb w max_radios ≡ false) → in_set set w ≡ false
    none w l (inl e) = h.tops w (ltb-true w max_radios e) ∙ rw (le-ltb w g.n l)
    none w l (inr e) = in_set_past set w (omega (arith, ltb-false w max_radios e, h.set_long))

-- before radio v: for sound tables the parts are right if they were so at the start
pub record Parting (ts ns rest₀ queue₀ set₀ : List ℕ) (v : ℕ) (rest queue set : List ℕ) : Type 0 where
  pub within : v ≤ length ns
  pub queue_long : length queue ≡ length queue₀
  pub right : (order : List ℕ) → fits_sound (length ns) (tables ts ns order) ≡ true → Parted (graph_in (length ns) ts) 0 rest₀ set₀
      → Parted (graph_in (length ns) ts) v rest set

pub parting_none : (ts ns rest queue set : List ℕ) → Parting ts ns rest queue set 0 rest queue set
parting_none ts ns rest queue set =
    record { within = omega arith; queue_long = refl; right = λ order e h. h }

pub parting_turn : (ts ns rest₀ queue₀ set₀ : List ℕ) (v : ℕ) (rest queue set u q p : List ℕ) → v < length ns
    → length q ≡ length queue → PartVisited ts ns v rest set u p
    → Parting ts ns rest₀ queue₀ set₀ v rest queue set → Parting ts ns rest₀ queue₀ set₀ (v + 1) u q p
parting_turn ts ns rest₀ queue₀ set₀ v rest queue set u q p l qq h a = record {
  within = omega arith;
  queue_long = qq ∙ a.queue_long;
  right = λ order e start. rw (add-one v) (
      parted_next (length ns) (tables ts ns order) (fits_sound_site (length ns) (tables ts ns order) e) v l rest set u p (a.right order e start) h);
}

pub parting_end : (ts ns rest₀ queue₀ set₀ : List ℕ) (v : ℕ) (rest queue set : List ℕ) → length ns ≤ max_radios → length rest₀ ≡ 8
    → LevelSet ns 0 rest₀ → set₀ ≡ replicate 8 0 → length ns ≤ v → Parting ts ns rest₀ queue₀ set₀ v rest queue set → BackbonePut ts ns set
unfolding BackbonePut graph_in
parting_end ts ns rest₀ queue₀ set₀ v rest queue set small words level f l a order h =
    let g = graph_in (length ns) ts in
    let site = fits_sound_site (length ns) (tables ts ns order) h in
    let all : v ≡ length ns = omega (arith, a.within) in
    let start = parted_none (length ns) (tables ts ns order) site rest₀ set₀ words level f in
    let last : Parted g (length ns) rest set = rw all at (a.right order h start) in
    parted_all g rest set small last

-- ---- one radio, as the code has it

module _ (ts ns : List ℕ) (v : ℕ) (rest set : List ℕ) where
  pub visited_gone : in_set rest v ≡ false → PartVisited ts ns v rest set rest set
  visited_gone e = record { taken = λ q. never _ q e; passed = λ q. (refl, refl) }

  module _ (fresh : in_set rest v ≡ true) (k : ℕ) (u p : List ℕ) (flooded : FloodDone ts v rest k u p) (top : ℕ)
      (is_top : top ≡ part_greatest ns (take k p)) where
    visited_part : (z : List ℕ) → z ≡ part_put ns (take k p) set → PartVisited ts ns v rest set u z
    visited_part z h = record { taken = λ q. record { came = k; queue_after = p; flooded = flooded; put = h }; passed = λ q. never _ fresh q }

    pub visited_none : top ≡ 0 → PartVisited ts ns v rest set u set
    unfolding part_put
    visited_none e = visited_part set (rw (← is_top, e))

    pub visited_tops : (top ≡ 0 → ⊥) → (z : List ℕ) → z ≡ tops_put ns top (take k p) set → PartVisited ts ns v rest set u z
    unfolding part_put
    visited_tops h z e = visited_part z (e ∙ rw (← is_top, ne_eqb top 0 h))

-- ---- the backbone's contract, met

module _ (n : ℕ) (t : Tables) (old : List ℕ) (q : ℕ) (asked : q ≡ site_refusal n (lengths_of t) (leb n (length old)) (sound n t) 0) where
  pub backbone_refused : (q ≡ 0 → ⊥) → BackboneContract n t old (value q 0) old
  unfolding BackboneContract backbone_outcome sound answer_length
  backbone_refused h = listing_refused _ _ _ old q asked h

  module _ (e : q ≡ 0) where
    good : SiteGood n (lengths_of t) (leb n (length old)) (sound n t)
    good = (site_zero n (lengths_of t) (leb n (length old)) (sound n t) 0 (sym asked ∙ e)).0

    site : SoundSite n t
    site = site_good_sound n t (leb n (length old)) good

    pub backbone_small : length t.numbers ≤ max_radios
    backbone_small = omega (arith, site.small, site.numbers_long)

    length_backbone : length (backbone (graph_in n t.links)) ≤ n
    unfolding backbone radios graph_in
    length_backbone = filter_le _ (range 0 n) n (length_range 0 n)

    pub backbone_listed : (set : List ℕ) (c : ℕ) (now : List ℕ) → BackbonePut t.links t.numbers set → Listed set old c now
        → BackboneContract n t old (value 0 c) now
    unfolding BackboneContract backbone_outcome sound answer_length BackbonePut
    backbone_listed set c now h listed =
        let long = site.numbers_long in
        let is : members set ≡ backbone (graph_in n t.links) =
        rw long at (h t.order (rw long (site_good_fits n t (leb n (length old)) good))) in
        let room = leb-true n (length old) good.lent.further in
        listing_answered _ _ _ old c now (sym asked ∙ e) (omega (arith, listed.counted, ap length is, length_backbone, room))
        (listed.listed ∙ ap (λ (xs : List ℕ). overwrite (take (length old) xs) old) is
        ∙ ap (λ (xs : List ℕ). overwrite xs old) (take_all (length old) (backbone (graph_in n t.links)) (omega (arith, length_backbone))))
