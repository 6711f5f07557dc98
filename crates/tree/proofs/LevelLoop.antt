-- One level as a loop over the radios: what its invariant says, and what it says at the end.
use Rattle.std.specs.Prelude.{None, Some, ◌≡◌, ◌⊎◌, ◌+◌, ◌-◌, ◌≤◌, ◌<◌}
use Rattle.lists.{specs.Kit.{refl, ap, inl, inr, true, false, List, ℕ, zero, suc, min, arith, add-one, length}}
use Rattle.lists.{proofs.Tests.{bool_cases}, specs.Lists.{head_or}}
use Rattle.mesh.specs.{Limits.{max_radios}, Tables.{tables, graph_in}}
use Rattle.soundness.{specs.Checks.{fits_sound}, proofs.SoundSite.{fits_sound_site}}
use Rattle.rows.{specs.{Rows.{first_in}, Sets.{common}}, proofs.FirstLaws.{common_none}}
use Rattle.tree.specs.Trees.{Lists, Room, Stand, NodeTaken, ShellSet, Growing, Marks, Levelled}
use Rattle.floods.specs.Floods.{LevelSet}
use Rattle.tree.proofs.{GrowLaws.{visited_next, marks_start, growing_end}, ShellSets.{takes_none, takes_lowest, shell_radio, later}, VisitSteps.{takes_node, Visited}}
use Rattle.tree.proofs.{VisitSteps.{visited_none, visited_node}}

-- the count grows by one at most
visited_count : (ts ns : List ℕ) (k v : ℕ) (s t : Stand) → Visited ts ns k v s t → t.count ≤ s.count + 1
visited_count ts ns k v s t h = go (bool_cases (takes_node ns k s.left v))
  where
    go : (takes_node ns k s.left v ≡ true) ⊎ (takes_node ns k s.left v ≡ false) → t.count ≤ s.count + 1
    go (inl e) = omega (arith, (h.taken e).counted)
    go (inr e) = omega (arith, ap (λ (x : Stand). x.count) (h.passed e))

-- before radio v: the set and the lists are right if they were so at the level's start
pub record Levelling (ts ns : List ℕ) (k : ℕ) (start : Stand) (v : ℕ) (now : Stand) : Type 0 where
  pub within : v ≤ length ns
  pub few : now.count ≤ start.count + v
  pub right : (order : List ℕ) → fits_sound (length ns) (tables ts ns order) ≡ true → (old : Lists) → Room (length ns) old
      → Marks (graph_in (length ns) ts) k 0 start.left → Growing (graph_in (length ns) ts) k 0 old start.lists start.count
      → Marks (graph_in (length ns) ts) k v now.left × Growing (graph_in (length ns) ts) k v old now.lists now.count

levelling_none : (ts ns : List ℕ) (k : ℕ) (start : Stand) → Levelling ts ns k start 0 start
levelling_none ts ns k start = record {
  within = omega arith;
  few = omega arith;
  right = λ order h old room marks grown. (marks, grown);
}

-- the lowest radio of the level that the set still has
abbrev pub lowest : (shell set : List ℕ) → ℕ
lowest shell s = head_or max_radios (common shell s)

-- the lists are right as far as that radio
abbrev pub Reached : (ts ns : List ℕ) → (k : ℕ) → (shell : List ℕ) → (start now : Stand) → Type 0
Reached ts ns k shell start now = Levelling ts ns k start (min (lowest shell now.left) (length ns)) now

module _ (ts ns : List ℕ) (k : ℕ) (start : Stand) (positive : 1 ≤ k) where
  levelling_turn : (v : ℕ) (now after : Stand) → v < length ns → Visited ts ns k v now after → Levelling ts ns k start v now → Levelling ts ns k start (v + 1) after
  levelling_turn v now after l h a = record {
    within = omega arith;
    few = omega (arith, a.few, visited_count ts ns k v now after h);
    right = λ order e old room marks grown. turn order e old room (a.right order e old room marks grown);
  }
    where
      turn : (order : List ℕ) → fits_sound (length ns) (tables ts ns order) ≡ true → (old : Lists) → Room (length ns) old
          → Marks (graph_in (length ns) ts) k v now.left × Growing (graph_in (length ns) ts) k v old now.lists now.count
          → Marks (graph_in (length ns) ts) k (v + 1) after.left × Growing (graph_in (length ns) ts) k (v + 1) old after.lists after.count
      turn order e old room m =
          let t = tables ts ns order in
          rw (add-one v) (visited_next (length ns) t (fits_sound_site (length ns) t e) k v l positive old now after room m.0 m.1 h)

  -- radios that bring no node are passed over
  levelling_over : (v m : ℕ) (now : Stand) → v + m ≤ length ns → ((u : ℕ) → u < length ns → u < v + m → takes_node ns k now.left u ≡ false)
      → Levelling ts ns k start v now → Levelling ts ns k start (v + m) now
  levelling_over v zero now l none a = let e : v + 0 ≡ v = omega arith in rw e a
  levelling_over v (suc m) now l none a =
      let w = v + m in
      let e : w + 1 ≡ v + suc m = omega arith in
      let so_far = levelling_over v m now (omega arith) (λ u h b. none u h (omega arith)) a in
      rw e at (levelling_turn w now now (omega arith) (visited_none ts ns k w now (none w (omega arith) (omega arith))) so_far)

  module _ (shell : List ℕ) (own : ShellSet ns k shell) where
    levelling_to : (v : ℕ) (now : Stand) → v ≤ length ns → v ≤ lowest shell now.left → Levelling ts ns k start v now
        → Reached ts ns k shell start now
    levelling_to v now l b a =
        let w = lowest shell now.left in
        let m = min w (length ns) - v in
        let e : v + m ≡ min w (length ns) = omega arith in
        rw e at (levelling_over v m now (omega arith) (λ u h r. takes_none ts ns k shell own now.left w refl u h (omega arith)) a)

    pub levelling_start : Reached ts ns k shell start start
    levelling_start = levelling_to 0 start (omega arith) (omega arith) (levelling_none ts ns k start)

    -- that radio, and then the next one
    module _ (v : ℕ) (now : Stand) (found : Some v ≡ first_in (common shell now.left)) (small : length ns ≤ max_radios)
        (a : Reached ts ns k shell start now) where
      is_lowest : v ≡ lowest shell now.left
      is_lowest = (shell_radio ts ns k shell own now.left found).0

      pub found_radio : v < length ns
      found_radio = (shell_radio ts ns k shell own now.left found).1

      here : Levelling ts ns k start v now
      here = let e : min (lowest shell now.left) (length ns) ≡ v = omega (arith, is_lowest, found_radio) in rw e at a

      pub found_few : now.count ≤ start.count + v
      found_few = here.few

      module _ (after : Stand) (h : NodeTaken ts k v now after) where
        visited : Visited ts ns k v now after
        visited = visited_node ts ns k v now after (takes_lowest ts ns k shell own now.left v is_lowest found_radio small) h

        lowest_later : v < lowest shell after.left
        lowest_later = later ts ns k shell own now after v is_lowest found_radio small visited

        pub levelling_smaller : length ns - min (lowest shell after.left) (length ns) < length ns - min (lowest shell now.left) (length ns)
        levelling_smaller = omega (arith, lowest_later, is_lowest, found_radio)

        pub levelling_next : Reached ts ns k shell start after
        levelling_next =
            levelling_to (v + 1) after (omega (arith, found_radio)) (omega (arith, lowest_later))
            (levelling_turn v now after found_radio visited here)

    pub levelling_end : (now : Stand) → length start.left ≡ 8 → LevelSet ns k start.left → length ns ≤ max_radios
        → None ≡ first_in (common shell now.left) → Reached ts ns k shell start now → Levelled ts ns k start.lists start.count now.lists now.count
    unfolding Levelled graph_in
    levelling_end now words level small none a order e old room grown =
        let g = graph_in (length ns) ts in
        let t = tables ts ns order in
        let all : min (lowest shell now.left) (length ns) ≡ length ns = omega (arith, common_none shell now.left none) in
        let begun : Marks g k 0 start.left = marks_start (length ns) t (fits_sound_site (length ns) t e) k start.left words level in
        let last : Growing g k (length ns) old now.lists now.count = rw all at (a.right order e old room begun grown).1 in
        rw (add-one k) (growing_end g k now.count old now.lists positive last)
