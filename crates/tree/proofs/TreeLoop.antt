-- All levels as a loop: the root first, then level by level to the greatest number, and what the lists hold at the end.
use Rattle.std.specs.Prelude.{◌≡◌, ◌&&◌, ◌∷◌, ◌++◌, ◌+◌, ◌*◌, ◌≤◌, ◌<◌}
use Rattle.lists.{specs.Kit.{refl, sym, ap, ap₂, ◌∙◌, true, List, [], map, ℕ, suc, min, arith, add-one, length, take}}
use Rattle.lists.{specs.Kit.{drop, set, replicate, length-replicate, length-take-le}, specs.Lists.{overwrite}, proofs.Tests.{and_right}}
use Rattle.lists.{proofs.Map.{map_range_constant, map_range_ext}, proofs.Overwrite.{set_overwrite}}
use Rattle.mesh.{specs.Limits.{max_radios, max_neighbours}, specs.Graph.{Graph, radios}, specs.Cores.{number}, specs.Tables.{Tables, tables, graph_in}}
use Rattle.mesh.{specs.Sound.{sound}, specs.Connected.{greatest}, specs.Tree.{root_name, root, node_name, parent_name, node_names}}
use Rattle.mesh.{proofs.Trees.Laws.{number_le_n}, proofs.Trees.ShellNames.{node_name_parent}, proofs.Trees.Listed.{get_d_le_greatest, greatest_le}}
use Rattle.calls.{specs.Questions.{size_good, site_lengths, lengths_of}, proofs.SheetLaws.{numbers_two_digits}}
use Rattle.soundness.{specs.Checks.{fits_sound}, proofs.SoundSite.{fits_sound_site, number_entry}}
use Rattle.tree.specs.Trees.{Lists, with_front, Room, name_before, present, Growing, Levelled, Treed, TreeWritten}
use Rattle.tree.proofs.{ShellCover.{present_start}, NodeLists.{nodes_before_start, nodes_before_tree}, GrowLaws.{lists_same}}

-- ---- the root

present_first : (g : Graph) → map (present g 1 0) (radios g) ≡ replicate g.n root_name
unfolding radios name_before parent_name
present_first g =
    map_range_ext (present g 1 0) (λ w. root_name) 0 g.n
    (λ w a l. let e : min 1 (suc (number g w)) ≡ 1 = omega arith in present_start g 1 w ∙ ap (parent_name g w) e)
    ∙ map_range_constant root_name 0 g.n

pub growing_start : (g : Graph) (old new : Lists) (m : ℕ) → Room g.n old → m ≡ g.n → new.nodes ≡ set old.nodes 0 root → new.answer ≡ overwrite (replicate m root_name) old.answer
    → Growing g 1 0 old new 1
unfolding with_front overwrite
growing_start g old new m room e nodes answer = start
  where
    front : new ≡ with_front (root ∷ []) (replicate g.n root_name) old
    front = lists_same new (with_front (root ∷ []) (replicate g.n root_name) old)
        (nodes ∙ set_overwrite [] old.nodes 0 root refl (omega (arith, room.nodes)))
        (answer ∙ ap (λ (j : ℕ). overwrite (replicate j root_name) old.answer) e)

    start : Growing g 1 0 old new 1
    start = record {
      counted = ap length (sym (nodes_before_start g));
      front = front ∙ ap₂ (λ xs ys. with_front xs ys old) (sym (nodes_before_start g)) (sym (present_first g));
    }

-- ---- the end

present_last : (g : Graph) (top w : ℕ) → w < g.n → number g w ≤ top → present g (suc top) 0 w ≡ node_name g w
unfolding name_before
present_last g top w l h =
    let e : min (suc top) (suc (number g w)) ≡ suc (number g w) = omega arith in
    present_start g (suc top) w ∙ ap (parent_name g w) e ∙ sym (node_name_parent g w l)

growing_last : (g : Graph) (top c : ℕ) (old new : Lists) → top ≤ g.n → ((w : ℕ) → w < g.n → number g w ≤ top) → Growing g (suc top) 0 old new c
    → TreeWritten g old c new
unfolding node_names radios
growing_last g top c old new l h a = record {
  count = a.counted ∙ ap length (nodes_before_tree g top l h);
  front = a.front ∙ ap₂ (λ xs ys. with_front xs ys old) (nodes_before_tree g top l h)
      (map_range_ext (present g (suc top) 0) (node_name g) 0 g.n (λ w m q. present_last g top w (omega arith) (h w (omega arith))));
}

-- ---- the loop: before level k the lists are right if they were so at the start

pub record Treeing (ts ns : List ℕ) (before : Lists) (c₀ k : ℕ) (after : Lists) (c : ℕ) : Type 0 where
  pub low : 1 ≤ k
  pub few : c ≤ max_radios * k
  pub right : (order : List ℕ) → fits_sound (length ns) (tables ts ns order) ≡ true → (old : Lists) → Room (length ns) old
      → Growing (graph_in (length ns) ts) 1 0 old before c₀ → Growing (graph_in (length ns) ts) k 0 old after c

pub treeing_none : (ts ns : List ℕ) (before : Lists) → Treeing ts ns before 1 1 before 1
treeing_none ts ns before = record {
  low = omega arith;
  few = omega arith;
  right = λ order h old room grown. grown;
}

pub treeing_turn : (ts ns : List ℕ) (before : Lists) (c₀ k : ℕ) (now : Lists) (c : ℕ) (after : Lists) (r : ℕ) → r ≤ max_radios * (k + 1) → Levelled ts ns k now c after r → Treeing ts ns before c₀ k now c → Treeing ts ns before c₀ (k + 1) after r
unfolding Levelled
treeing_turn ts ns before c₀ k now c after r few h a = record {
  low = omega arith;
  few = few;
  right = λ order e old room grown. h order e old room (a.right order e old room grown);
}

pub treeing_end : (ts ns : List ℕ) (before : Lists) (top k : ℕ) (after : Lists) (c : ℕ) → k ≡ top + 1 → Treeing ts ns before 1 k after c
    → Treed ts ns top before after c
unfolding Treed
treeing_end ts ns before top k after c e a order h old room grown = rw e at (a.right order h old room grown)

is_sound : (n : ℕ) (t : Tables) → fits_sound n t ≡ true → sound n t ≡ true
unfolding fits_sound
is_sound n t h = and_right (site_lengths n (lengths_of t)) (sound n t) (and_right (size_good n) (site_lengths n (lengths_of t) && sound n t) h)

-- on sound tables no number is above the most neighbours
pub grown_all : (ts ns : List ℕ) (old before : Lists) (high top : ℕ) (after : Lists) (c : ℕ) → length ns ≤ max_radios → high ≡ greatest ns → top
    ≡ min high max_neighbours
    → before.nodes ≡ set old.nodes 0 root → before.answer ≡ overwrite (replicate (length ns) root_name) old.answer
    → Treed ts ns top before after c → (order : List ℕ) → fits_sound (length ns) (tables ts ns order) ≡ true → Room (length ns) old
    → TreeWritten (graph_in (length ns) ts) old c after
unfolding Treed graph_in
grown_all ts ns old before high top after c small e m nodes answer a order h room =
    let g = graph_in (length ns) ts in
    let site = fits_sound_site (length ns) (tables ts ns order) h in
    let start = growing_start g old before (length ns) room refl nodes answer in
    let last : Growing g (suc top) 0 old after c = rw (add-one top) at (a order h old room start) in
    let most : greatest ns ≤ max_neighbours = greatest_le ns max_neighbours
    (λ v l. numbers_two_digits (length ns) (tables ts ns order) refl (is_sound (length ns) (tables ts ns order) h) small v l) in
    growing_last g top c old after
    (omega (arith, greatest_le ns (length ns) (λ v l. omega (arith, number_entry (length ns) (tables ts ns order) site v l, number_le_n g v))))
    (λ w l. omega (arith, number_entry (length ns) (tables ts ns order) site w l, get_d_le_greatest ns w l)) last

-- the first entries of a table filled
pub filled_front : (list new : List ℕ) (k x : ℕ) → k ≤ length list → new ≡ replicate (length (take k list)) x → new ++ drop k list
    ≡ overwrite (replicate k x) list
unfolding overwrite
filled_front list new k x h e =
    ap₂ (λ (xs : List ℕ) (j : ℕ). xs ++ drop j list) (e ∙ ap (λ (m : ℕ). replicate m x) (length-take-le k list h)) (sym (length-replicate {A = ℕ} k x))
