-- The radios of each level as sets.
-- In order: the set of one number, the level after it, the lowest radio of a level that the set still has.
use Rattle.std.specs.Prelude.{Some, ◌≡◌, ◌⊎◌, ◌&&◌, ◌∷◌, ◌+◌, ◌≤◌, ◌<◌}
use Rattle.lists.{specs.Kit.{refl, sym, ap, ap₂, ◌∙◌, inl, inr, Bool, true, false, not, cond, List, [], ℕ, zero, suc}}
use Rattle.lists.{specs.Kit.{arith, ltb, leb, eqb, length, get_or, take, replicate, length-replicate, ltb-true, ltb-false, lt-ltb, leb-true, le-leb, lt-leb}}
use Rattle.lists.{specs.Kit.{eqb-true, eqb-false, eq-eqb}, specs.Facts.{EachOnce, Rising}, specs.Lists.{range, filter, head_or, member}}
use Rattle.lists.{proofs.Tests.{bool_cases, never, and_left, and_right, and_both, iff_eq}, proofs.Member.{head_or_below, in_get_d, get_d_of_in}}
use Rattle.lists.{proofs.Filter.{in_filter, filter_in}, proofs.Range.{in_range, once_in, once_below}, proofs.Ascending.{head_or_lowest, ascending_filter}}
use Rattle.lists.{proofs.Ascending.{ascending_range}}
use Rattle.mesh.{specs.Limits.{max_radios, max_neighbours}, specs.Orders.{each_once, rising, few_later}, specs.Tables.{Tables, marked}}
use Rattle.mesh.{specs.Sound.{rows_proper, enough, sound, sound_within}, proofs.Cores.Orders.{each_once_of, rising_of}}
use Rattle.calls.specs.Questions.{lengths_of, size_good, site_lengths}
use Rattle.rows.{specs.Rows.{first_in}, proofs.FirstLaws.{common_some}}
use Rattle.rows.{specs.Sets.{in_set, put_in, common, SetTaken}, proofs.SetLaws.{in_set_zeros, in_set_radio, in_put_in, length_put_in}}
use Rattle.floods.specs.Floods.{of_level, LevelSet, start}
use Rattle.soundness.{specs.Checks.{fits_sound, SoundSite}, proofs.SoundSite.{fits_sound_site}}
use Rattle.tree.specs.Trees.{Stand, has_number, ShellSet, LevelFrom}
use Rattle.tree.proofs.VisitSteps.{takes_node, Visited}

-- ---- the set of one number, from the order

-- the radios from `from` on and before place i have number k, and are in the set
pub record ShellPutting (ns order : List ℕ) (k from i : ℕ) (set : List ℕ) : Type 0 where
  pub low : from ≤ i
  pub high : i ≤ length order
  pub long : length set ≡ 8
  pub own : (j : ℕ) → from ≤ j → j < i → get_or ns (get_or order j 0) 0 ≡ k
  pub some : (x : ℕ) → in_set set x ≡ true → (j : ℕ) × (from ≤ j) × (j < i) × (get_or order j 0 ≡ x)
  pub every : (j : ℕ) → from ≤ j → j < i → in_set set (get_or order j 0) ≡ true

module _ (ns order : List ℕ) (k from : ℕ) (start : LevelFrom ns order k from) where
  abbrev num : ℕ → ℕ
  num j = get_or ns (get_or order j 0) 0

  pub shell_putting_none : (set : List ℕ) → set ≡ replicate 8 0 → ShellPutting ns order k from from set
  shell_putting_none set e = record {
    low = omega arith;
    high = start.within;
    long = ap length e ∙ length-replicate {A = ℕ} 8 0;
    own = λ j l h. absurd (omega arith);
    some = λ x h. never (in_set set x) h (ap (λ (s : List ℕ). in_set s x) e ∙ in_set_zeros 8 x);
    every = λ j l h. absurd (omega arith);
  }

  pub shell_putting_turn : (i : ℕ) (set after : List ℕ) → i < length order → num i ≡ k → after ≡ put_in (get_or order i 0) set
      → ShellPutting ns order k from i set
      → ShellPutting ns order k from (i + 1) after
  shell_putting_turn i set after l is e h = record {
    low = omega (arith, h.low);
    high = omega arith;
    long = ap length e ∙ length_put_in (get_or order i 0) set ∙ h.long;
    own = λ j a b. own j a b (bool_cases (eqb j i));
    some = λ x z. some x (bool_cases (eqb (get_or order i 0) x)) (sym (bits x) ∙ z);
    every = λ j a b. every j a b (bool_cases (eqb j i));
  }
    where
      bits : (x : ℕ) → in_set after x ≡ cond (eqb (get_or order i 0) x) true (in_set set x)
      bits x = ap (λ (s : List ℕ). in_set s x) e ∙ in_put_in (get_or order i 0) x set (omega (arith, start.radio i l, start.small, h.long))

      own : (j : ℕ) → from ≤ j → j < i + 1 → (eqb j i ≡ true) ⊎ (eqb j i ≡ false) → num j ≡ k
      own j a b (inl q) = ap num (eqb-true j i q) ∙ is
      own j a b (inr q) = h.own j a (omega (arith, eqb-false j i q))

      some : (x : ℕ) → (eqb (get_or order i 0) x ≡ true) ⊎ (eqb (get_or order i 0) x ≡ false) → cond (eqb (get_or order i 0) x) true (in_set set x) ≡ true
          → (j : ℕ) × (from ≤ j) × (j < i + 1) × (get_or order j 0 ≡ x)
      some x (inl q) z = (i, h.low, omega arith, eqb-true (get_or order i 0) x q)
      some x (inr q) z = longer (h.some x (rw q at z))
        where
          longer : (j : ℕ) × (from ≤ j) × (j < i) × (get_or order j 0 ≡ x) → (j : ℕ) × (from ≤ j) × (j < i + 1) × (get_or order j 0 ≡ x)
          longer (j, a, b, c) = (j, a, omega arith, c)

      every : (j : ℕ) → from ≤ j → j < i + 1 → (eqb j i ≡ true) ⊎ (eqb j i ≡ false) → in_set after (get_or order j 0) ≡ true
      every j a b (inl q) = bits (get_or order j 0) ∙ rw (eqb-true j i q, eq-eqb (get_or order i 0) (get_or order i 0) refl)
      every j a b (inr q) = bits (get_or order j 0) ∙ rw (h.every j a (omega (arith, eqb-false j i q))) (always (eqb (get_or order i 0) (get_or order j 0)))
        where
          always : (b : Bool) → cond b true true ≡ true
          always true = refl
          always false = refl

  -- the stretch ends where the order does, or where another number stands
  module _ (i : ℕ) (set : List ℕ) (ends : i < length order → num i ≡ k → ⊥) (h : ShellPutting ns order k from i set) where
    higher : (j : ℕ) → i ≤ j → j < length order → k + 1 ≤ num j
    higher j l m = go (bool_cases (eqb (num i) k))
      where
        go : (eqb (num i) k ≡ true) ⊎ (eqb (num i) k ≡ false) → k + 1 ≤ num j
        go (inl q) = absurd (ends (omega arith) (eqb-true (num i) k q))
        go (inr q) = omega (arith, eqb-false (num i) k q, start.above i h.low (omega arith), start.rises i j l m)

    pub shell_putting_next : LevelFrom ns order (k + 1) i
    shell_putting_next = record {
      small = start.small;
      radio = start.radio;
      all = start.all;
      rises = start.rises;
      within = h.high;
      below = λ j l. below j l (bool_cases (ltb j from));
      above = higher;
    }
      where
        below : (j : ℕ) → j < i → (ltb j from ≡ true) ⊎ (ltb j from ≡ false) → num j < k + 1
        below j l (inl q) = omega (arith, start.below j (ltb-true j from q))
        below j l (inr q) = omega (arith, h.own j (ltb-false j from q) l)

    pub shell_putting_set : ShellSet ns k set
    unfolding has_number
    shell_putting_set = record { long = h.long; bits = λ x. iff_eq (in_set set x) (has_number ns k x) (λ e. into x (h.some x e)) (out x) }
      where
        into : (x : ℕ) → (j : ℕ) × (from ≤ j) × (j < i) × (get_or order j 0 ≡ x) → (ltb x (length ns) && eqb (get_or ns x 0) k) ≡ true
        into x (j, a, b, c) =
            and_both (ltb x (length ns)) (eqb (get_or ns x 0) k) (lt-ltb x (length ns) (omega (arith, start.radio j (omega (arith, h.high)), c)))
            (eq-eqb (get_or ns x 0) k (ap (λ (y : ℕ). get_or ns y 0) (sym c) ∙ h.own j a b))

        out : (x : ℕ) → (ltb x (length ns) && eqb (get_or ns x 0) k) ≡ true → in_set set x ≡ true
        out x e = at (get_d_of_in x order (start.all x (ltb-true x (length ns) (and_left (ltb x (length ns)) (eqb (get_or ns x 0) k) e))))
          where
            is : get_or ns x 0 ≡ k
            is = eqb-true (get_or ns x 0) k (and_right (ltb x (length ns)) (eqb (get_or ns x 0) k) e)

            at : (j : ℕ) × (j < length order) × (get_or order j 0 ≡ x) → in_set set x ≡ true
            at (j, l, c) = go (bool_cases (ltb j from)) (bool_cases (ltb j i))
              where
                here : num j ≡ k
                here = ap (λ (y : ℕ). get_or ns y 0) c ∙ is

                go : (ltb j from ≡ true) ⊎ (ltb j from ≡ false) → (ltb j i ≡ true) ⊎ (ltb j i ≡ false) → in_set set x ≡ true
                go (inl q) p = absurd (omega (arith, start.below j (ltb-true j from q), here))
                go (inr q) (inl p) = ap (in_set set) (sym c) ∙ h.every j (ltb-false j from q) (ltb-true j i p)
                go (inr q) (inr p) = absurd (omega (arith, higher j (ltb-false j i p) l, here))

-- sound tables: every level starts where the one below it ends
pub sound_levels : (n : ℕ) (t : Tables) → fits_sound n t ≡ true → LevelFrom t.numbers t.order 0 0
unfolding fits_sound sound sound_within lengths_of
sound_levels n t h = record {
  small = omega (arith, site.small, site.numbers_long);
  radio = λ i l. omega (arith, once_below n t.order once (get_or t.order i 0) (in_get_d t.order i l), site.numbers_long);
  all = λ x l. once_in n t.order once x (omega (arith, site.numbers_long));
  rises = rising_at num t.order (rising_of num t.order (and_left (rising num t.order) later ordered));
  within = omega arith;
  below = λ j l. absurd (omega arith);
  above = λ j l m. omega arith;
}
  where
    site : SoundSite n t
    site = fits_sound_site n t h

    num : ℕ → ℕ
    num v = get_or t.numbers v 0

    later : Bool
    later = few_later (marked t.links) num t.order && enough n (marked t.links) num

    good : (rows_proper max_neighbours n t.links && (each_once n t.order && (rising num t.order && later))) ≡ true
    good = and_right (site_lengths n (lengths_of t)) (sound n t) (and_right (size_good n) (site_lengths n (lengths_of t) && sound n t) h)

    orders : (each_once n t.order && (rising num t.order && later)) ≡ true
    orders = and_right (rows_proper max_neighbours n t.links) (each_once n t.order && (rising num t.order && later)) good

    once : EachOnce n t.order
    once = each_once_of n t.order (and_left (each_once n t.order) (rising num t.order && later) orders)

    ordered : (rising num t.order && later) ≡ true
    ordered = and_right (each_once n t.order) (rising num t.order && later) orders

    rising_at : (f : ℕ → ℕ) (xs : List ℕ) → Rising f xs → (j m : ℕ) → j ≤ m → m < length xs → f (get_or xs j 0) ≤ f (get_or xs m 0)
    rising_at f [] r j m a b = absurd (omega arith)
    rising_at f (x ∷ xs) r zero zero a b = omega arith
    rising_at f (x ∷ xs) r zero (suc m) a b = r.0 (get_or xs m 0) (in_get_d xs m (omega arith))
    rising_at f (x ∷ xs) r (suc j) zero a b = absurd (omega arith)
    rising_at f (x ∷ xs) r (suc j) (suc m) a b = rising_at f xs r.1 j m (omega arith) (omega arith)

-- ---- the level after it

pub level_next : (ns : List ℕ) (k : ℕ) (shell set after : List ℕ) → ShellSet ns k shell → LevelSet ns k set → SetTaken shell set after
    → LevelSet ns (k + 1) after
unfolding of_level has_number
level_next ns k shell set after own level taken x r =
    taken.bits x ∙ ap₂ (λ (a b : Bool). a && not b) (level x r) (own.bits x) ∙ rest x (ltb x (length ns)) (bool_cases (eqb (get_or ns x 0) k))
  where
    rest : (x : ℕ) (a : Bool) → (eqb (get_or ns x 0) k ≡ true) ⊎ (eqb (get_or ns x 0) k ≡ false)
        → ((a && leb k (get_or ns x 0)) && not (a && eqb (get_or ns x 0) k)) ≡ (a && leb (k + 1) (get_or ns x 0))
    rest x false q = refl
    rest x true (inl q) =
        let e = eqb-true (get_or ns x 0) k q in
        let no : leb (k + 1) (get_or ns x 0) ≡ false = lt-leb (k + 1) (get_or ns x 0) (omega arith) in
        rw (q, no) (and_no (leb k (get_or ns x 0)))
      where
        and_no : (b : Bool) → (b && false) ≡ false
        and_no true = refl
        and_no false = refl
    rest x true (inr q) =
        let d = eqb-false (get_or ns x 0) k q in
        let same : leb k (get_or ns x 0) ≡ leb (k + 1) (get_or ns x 0) =
        iff_eq (leb k (get_or ns x 0)) (leb (k + 1) (get_or ns x 0)) (λ z. le-leb (k + 1) (get_or ns x 0) (omega (arith, leb-true k (get_or ns x 0) z)))
        (λ z. le-leb k (get_or ns x 0) (omega (arith, leb-true (k + 1) (get_or ns x 0) z))) in
        rw (q, same) (and_yes (leb (k + 1) (get_or ns x 0)))
      where
        and_yes : (b : Bool) → (b && true) ≡ b
        and_yes true = refl
        and_yes false = refl

-- ---- the lowest radio of a level that the set still has

module _ (x y : List ℕ) (lx : length x ≡ 8) where
  abbrev first : ℕ
  first = head_or max_radios (common x y)

  abbrev both : ℕ → Bool
  both v = in_set x v && in_set y v

  first_in_both : first < max_radios → both first ≡ true
  unfolding common
  first_in_both l = (in_filter both (range 0 max_radios) first (head_or_below max_radios (common x y) l)).1

  pub first_before : (u : ℕ) → u < first → both u ≡ false
  unfolding common
  first_before u l = go (bool_cases (both u))
    where
      go : (both u ≡ true) ⊎ (both u ≡ false) → both u ≡ false
      go (inr q) = q
      go (inl q) =
          let r = in_set_radio x u lx (and_left (in_set x u) (in_set y u) q) in
          let m = filter_in both (range 0 max_radios) u (in_range 0 max_radios u (omega arith) (omega arith)) q in
          let low = head_or_lowest max_radios u (filter both (range 0 max_radios)) (ascending_filter both (range 0 max_radios) (ascending_range 0 max_radios))
          m in
          absurd (omega (arith, l, low))

-- xs came in, v with them, and left the set
gone_of : (s t xs : List ℕ) (v w : ℕ) → member v xs ≡ true → in_set t w ≡ (in_set s w && not (member w xs)) → in_set t w ≡ true → (in_set s w ≡ true)
    × (w ≡ v → ⊥)
gone_of s t xs v w m bits e =
    let both = sym bits ∙ e in (
      and_left (in_set s w) (not (member w xs)) both,
      λ z. never (member v xs) m (ap (λ (y : ℕ). member y xs) (sym z) ∙ not_out (member w xs) (and_right (in_set s w) (not (member w xs)) both)),
    )
  where
    not_out : (b : Bool) → not b ≡ true → b ≡ false
    not_out true p = never false p refl
    not_out false p = refl

module _ (ts ns : List ℕ) (k : ℕ) (shell : List ℕ) (own : ShellSet ns k shell) where
  takes_shell : (s : List ℕ) (u : ℕ) → u < length ns → takes_node ns k s u ≡ (in_set shell u && in_set s u)
  unfolding takes_node has_number
  takes_shell s u l =
      let e : in_set shell u ≡ eqb (get_or ns u 0) k = own.bits u ∙ rw (lt-ltb u (length ns) l) in
      ap (λ (b : Bool). b && in_set s u) (sym e)

  -- there is one
  pub shell_radio : (s : List ℕ) {v : ℕ} → Some v ≡ first_in (common shell s) → (v ≡ head_or max_radios (common shell s)) × (v < length ns)
  unfolding has_number
  shell_radio s {v} e =
      let f = common_some shell s e in
      let marked : in_set shell v ≡ true =
      and_left (in_set shell v) (in_set s v) (rw f.1 at (first_in_both shell s own.long (omega (arith, f.0, f.1)))) in
      (sym f.1, ltb-true v (length ns) (and_left (ltb v (length ns)) (eqb (get_or ns v 0) k) (sym (own.bits v) ∙ marked)))

  module _ (s : List ℕ) (v : ℕ) (lowest : v ≡ head_or max_radios (common shell s)) where
    pub takes_none : (u : ℕ) → u < length ns → u < v → takes_node ns k s u ≡ false
    takes_none u l b = takes_shell s u l ∙ first_before shell s own.long u (rw lowest at b)

    module _ (radio : v < length ns) (small : length ns ≤ max_radios) where
      pub takes_lowest : takes_node ns k s v ≡ true
      takes_lowest = takes_shell s v radio ∙ rw lowest (first_in_both shell s own.long (rw lowest at (let l : v < max_radios = omega arith in l)))

  module _ (now after : Stand) (v : ℕ) (lowest : v ≡ head_or max_radios (common shell now.left)) where
    abbrev s : List ℕ
    s = now.left

    abbrev t : List ℕ
    t = after.left

    module _ (radio : v < length ns) (small : length ns ≤ max_radios) (h : Visited ts ns k v now after) where
      brings : takes_node ns k s v ≡ true
      brings = takes_lowest s v lowest radio small

      gone : (w : ℕ) → in_set t w ≡ true → (in_set s w ≡ true) × (w ≡ v → ⊥)
      gone w e =
          let done = (h.taken brings).core.flooded in
          gone_of s t (take (h.taken brings).core.came (h.taken brings).core.queue) v w ((done.radios v).1 start) (done.bits w) e

      -- the lowest of the rest comes later
      pub later : v < head_or max_radios (common shell t)
      later = go (bool_cases (ltb v next))
        where
          next : ℕ
          next = head_or max_radios (common shell t)

          go : (ltb v next ≡ true) ⊎ (ltb v next ≡ false) → v < next
          go (inl e) = ltb-true v next e
          go (inr e) =
              let l = ltb-false v next e in
              let m = first_in_both shell t own.long (omega arith) in
              let g = gone next (and_right (in_set shell next) (in_set t next) m) in
              never (in_set shell next && in_set s next) (and_both (in_set shell next) (in_set s next) (and_left (in_set shell next) (in_set t next) m) g.0)
              (first_before shell s own.long next (rw lowest at (earlier g.1 l)))
            where
              earlier : (next ≡ v → ⊥) → next ≤ v → next < v
              earlier d l = omega arith
