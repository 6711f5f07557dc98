-- Levels that no radio has are skipped: no link has such a weight.
--   greatest-below-..   the greatest number below a level
--   levels_skip         from the level below w on, and from that greatest number on, the same links are taken
use Rattle.std.specs.Prelude.{◌≡◌, ◌⊎◌, ◌∷◌, ◌+◌, ◌-◌, ◌≤◌, ◌<◌}
use Rattle.lists.{specs.Kit.{sym, ap, ◌∙◌, inl, inr, true, false, List, [], ℕ, zero, suc, max, arith, ltb, eqb, add-one}}
use Rattle.lists.{specs.Kit.{length, get_or, drop, drop_of_length-le, List·getD-eq-default, drop-cons, ltb-true, ltb-false, lt-ltb, le-ltb, ne_eqb}}
use Rattle.lists.{proofs.Tests.{bool_cases}}
use Rattle.mesh.{specs.Graph.{Link}, specs.Connected.{greatest}, proofs.Trees.Listed.{greatest_map_le}}
use Rattle.forests.{proofs.Forests.{filter_links_none}, specs.Growing.{table_weight, levels_falling}}
use Rattle.staircase.specs.Taking.{below, greatest_below}

-- ---- numbers

-- past the radios numbers read as 0
pub number_radio : (ns : List ℕ) (v : ℕ) → 1 ≤ get_or ns v 0 → v < length ns
number_radio ns v h = go (bool_cases (ltb v (length ns)))
  where
    go : (ltb v (length ns) ≡ true) ⊎ (ltb v (length ns) ≡ false) → v < length ns
    go (inl e) = ltb-true v (length ns) e
    go (inr e) = absurd (omega (arith, List·getD-eq-default ns 0 {n = v} (ltb-false v (length ns) e)))

-- ---- the greatest number below a level

pub below_hit : (w x : ℕ) → x < w → below w x ≡ x
unfolding below
below_hit w x h = rw (lt-ltb x w h)

pub below_miss : (w x : ℕ) → w ≤ x → below w x ≡ 0
unfolding below
below_miss w x h = rw (le-ltb x w h)

below_le : (w x : ℕ) → below (suc w) x ≤ w
below_le w x = go (bool_cases (ltb x (suc w)))
  where
    go : (ltb x (suc w) ≡ true) ⊎ (ltb x (suc w) ≡ false) → below (suc w) x ≤ w
    go (inl e) = let h : x < suc w = ltb-true x (suc w) e in omega (arith, below_hit (suc w) x h)
    go (inr e) = omega (arith, below_miss (suc w) x (ltb-false x (suc w) e))

pub greatest_below_less : (w : ℕ) (ns : List ℕ) → greatest_below (suc w) ns ≤ w
greatest_below_less w ns = greatest_map_le (below (suc w)) ns w (λ x i. below_le w x)

pub greatest_below_lt : (w : ℕ) (ns : List ℕ) → 0 < w → greatest_below w ns < w
greatest_below_lt zero ns h = absurd (omega arith)
greatest_below_lt (suc w) ns h = omega (arith, greatest_below_less w ns)

-- a number is at most that, or not below the level
pub number_below : (w : ℕ) (ns : List ℕ) (v : ℕ) → (get_or ns v 0 ≤ greatest_below w ns) ⊎ (w ≤ get_or ns v 0)
unfolding greatest
number_below w [] v = inl (omega arith)
number_below w (x ∷ xs) zero = go (bool_cases (ltb x w))
  where
    go : (ltb x w ≡ true) ⊎ (ltb x w ≡ false) → (x ≤ max (below w x) (greatest_below w xs)) ⊎ (w ≤ x)
    go (inl e) = let h : x < w = ltb-true x w e in inl (omega (arith, below_hit w x h))
    go (inr e) = inr (ltb-false x w e)
number_below w (x ∷ xs) (suc v) = go (number_below w xs v)
  where
    go : (get_or xs v 0 ≤ greatest_below w xs) ⊎ (w ≤ get_or xs v 0) → (get_or xs v 0 ≤ max (below w x) (greatest_below w xs)) ⊎ (w ≤ get_or xs v 0)
    go (inl h) = inl (omega arith)
    go (inr h) = inr h

-- the greatest so far, and what is left of the numbers
abbrev pub BelowSoFar : (w : ℕ) → (numbers : List ℕ) → (top v : ℕ) → Type 0
BelowSoFar w ns top v = max top (greatest_below w (drop v ns)) ≡ greatest_below w ns

pub below_turn : (w : ℕ) (ns : List ℕ) (top v x next : ℕ) → v < length ns → x ≡ below w (get_or ns v 0) → next ≡ max top x
    → BelowSoFar w ns top v → BelowSoFar w ns next (v + 1)
unfolding greatest
below_turn w ns top v x next l e n h =
    let f : drop v ns ≡ get_or ns v 0 ∷ drop (v + 1) ns = drop-cons ns v 0 l ∙ rw (add-one v) in
    let g : greatest_below w (drop v ns) ≡ max (below w (get_or ns v 0)) (greatest_below w (drop (v + 1) ns)) = ap (greatest_below w) f in
    omega (arith, g, h)

pub below_end : (w : ℕ) (ns : List ℕ) (top v : ℕ) → length ns ≤ v → BelowSoFar w ns top v → top ≡ greatest_below w ns
unfolding greatest
below_end w ns top v l h = omega (arith, ap (greatest_below w) (drop_of_length-le ns {i = v} l), h)

-- ---- levels in between

-- no link weighs more than that and less than w
weight_below : (w : ℕ) (ns : List ℕ) (l : Link) → greatest_below w ns < table_weight ns l → table_weight ns l < w → ⊥
weight_below w ns l low high = go (number_below w ns l.low) (number_below w ns l.high)
  where
    go : (get_or ns l.low 0 ≤ greatest_below w ns) ⊎ (w ≤ get_or ns l.low 0) → (get_or ns l.high 0 ≤ greatest_below w ns) ⊎ (w ≤ get_or ns l.high 0) → ⊥
    go (inl a) b = omega arith
    go (inr a) (inl b) = omega arith
    go (inr a) (inr b) = omega arith

levels_between : (wt : Link → ℕ) (ls : List Link) (low d : ℕ) → ((l : Link) → low < wt l → wt l ≤ low + d → ⊥)
    → levels_falling wt (low + d) ls ≡ levels_falling wt low ls
unfolding levels_falling
levels_between wt ls low zero none = let e : low + 0 ≡ low = omega arith in rw e
levels_between wt ls low (suc d) none =
    let e : low + suc d ≡ suc (low + d) = omega arith in
    rw (e, filter_links_none (λ l. eqb (wt l) (suc (low + d))) ls (λ m i. ne_eqb (wt m) (suc (low + d)) (λ q. none m (omega arith) (omega arith))))
    (levels_between wt ls low d (λ l h k. none l h (omega arith)))

pub levels_skip : (w : ℕ) (ns : List ℕ) (ls : List Link)
    → levels_falling (table_weight ns) w ls ≡ levels_falling (table_weight ns) (greatest_below (suc w) ns) ls
levels_skip w ns ls =
    let low = greatest_below (suc w) ns in
    let e : low + (w - low) ≡ w = omega (arith, greatest_below_less w ns) in
    sym (ap (λ (k : ℕ). levels_falling (table_weight ns) k ls) e)
    ∙ levels_between (table_weight ns) ls low (w - low) (λ l h k. weight_below (suc w) ns l h (omega arith))
