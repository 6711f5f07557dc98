-- The tree grows: one radio keeps the lists and the set right, and so does a level.
-- In order: lists of nodes and names in front; one radio; the start and the end of a level.
use Rattle.std.specs.Prelude.{◌≡◌, ◌⊎◌, ◌&&◌, ◌||◌, ◌∷◌, ◌++◌, ◌+◌, ◌≤◌, ◌<◌}
use Rattle.lists.{specs.Kit.{refl, sym, ap, ap₂, ◌∙◌, inl, inr, Bool, true, false, not, cond, List, [], map, append-nil, ℕ}}
use Rattle.lists.{specs.Kit.{suc, arith, ltb, leb, eqb, length, get_or, take, set, length-append, ltb-true, lt-ltb, le-leb, eqb-true, eq-eqb}}
use Rattle.lists.{specs.Kit.{not-true}, specs.Lists.{range, member, overwrite}, proofs.Tests.{bool_cases, and_left, and_right, and_both, iff_eq}}
use Rattle.lists.{proofs.Member.{in_member}, proofs.Overwrite.{set_overwrite, get_d_front}, proofs.Map.{map_range_ext}}
use Rattle.mesh.{specs.Graph.{Graph, radios}, specs.Cores.{number}, specs.Tables.{Tables, graph_in}, specs.Connected.{at_least, InCore, core_of}}
use Rattle.mesh.{specs.Tree.{node, parent_name}, specs.declared.Node.{Node}, proofs.Trees.Reach.{core_of_iff}, proofs.Trees.CoreLevels.{in_core_below}}
use Rattle.mesh.{proofs.Trees.CoreLevels.{in_core_level}}
use Rattle.rows.specs.Sets.{in_set}
use Rattle.floods.{specs.Floods.{LevelSet, FloodDone}, proofs.FloodCore.{level_radios, member_flood, left_flood}}
use Rattle.soundness.proofs.SoundSite.{SoundSite, number_entry}
use Rattle.tree.specs.Trees.{Lists, lists, with_front, Room, Stand, entries_set, NodeTaken, own, covered, present, nodes_before, Growing, Marks}
use Rattle.tree.proofs.{VisitSteps.{takes_node, Visited}, ShellCover.{own_lead, own_covered, not_covered_own, core_not_covered}}
use Rattle.tree.proofs.{ShellCover.{covered_none, covered_next, present_next, present_own, present_start, present_end}, NodeLists.{entries_set_map}}
use Rattle.tree.proofs.{NodeLists.{nodes_before_next, nodes_before_end, length_nodes_before}}

-- ---- nodes and names in front

pub lists_same : (s t : Lists) → s.nodes ≡ t.nodes → s.answer ≡ t.answer → s ≡ t
lists_same s t a b = ap₂ lists a b

-- ---- one radio

-- a radio that names no node
growing_passed : (g : Graph) (k v : ℕ) → v < g.n → 1 ≤ k → (old s : Lists) (c : ℕ) → own g k v ≡ false → Growing g k v old s c → Growing g k (suc v) old s c
unfolding radios
growing_passed g k v radio positive old s c o a = record {
  counted = a.counted ∙ ap length (sym nodes);
  front = a.front ∙ ap₂ (λ xs ys. with_front xs ys old) (sym nodes)
      (map_range_ext (present g k v) (present g k (suc v)) 0 g.n (λ w b l. sym (present_next g k v radio positive w (omega arith) ∙ rw o)));
}
  where
    nodes : nodes_before g k (suc v) ≡ nodes_before g k v
    nodes = nodes_before_next g k v positive ∙ rw o (append-nil (nodes_before g k v))

module _ (n : ℕ) (t : Tables) (site : SoundSite n t) (k v : ℕ) (radio : v < n) (positive : 1 ≤ k) where
  abbrev g : Graph
  g = graph_in n t.links

  module _ (s : List ℕ) (marks : Marks g k v s) where
    -- a node comes exactly where a radio names its own
    takes_own : takes_node t.numbers k s v ≡ own g k v
    unfolding takes_node graph_in
    takes_own = iff_eq (takes_node t.numbers k s v) (own g k v) into out
      where
        into : (eqb (get_or t.numbers v 0) k && in_set s v) ≡ true → own g k v ≡ true
        into h =
            own_covered g k v radio positive
            (sym (number_entry n t site v radio) ∙ eqb-true (get_or t.numbers v 0) k (and_left (eqb (get_or t.numbers v 0) k) (in_set s v) h))
            (not-true (covered g k v v) (and_right (ltb v g.n && leb k (number g v)) (not (covered g k v v))
            (sym (marks.bits v) ∙ and_right (eqb (get_or t.numbers v 0) k) (in_set s v) h)))

        out : own g k v ≡ true → (eqb (get_or t.numbers v 0) k && in_set s v) ≡ true
        out o =
            let e = (own_lead g k v radio positive o).0 in
            and_both (eqb (get_or t.numbers v 0) k) (in_set s v) (eq-eqb (get_or t.numbers v 0) k (number_entry n t site v radio ∙ e))
            (marks.bits v ∙ rw (lt-ltb v n radio, le-leb k (number g v) (omega arith), not_covered_own g k v radio positive o))

    -- the set has the core of a radio that names its own node, and nobody below the level
    whole : own g k v ≡ true → (w : ℕ) → InCore g v k w → in_set s w ≡ true
    unfolding graph_in
    whole o w r =
        let e = (own_lead g k v radio positive o).0 in
        marks.bits w ∙ rw (
          lt-ltb w n (in_core_below g v k w radio r),
          le-leb k (number g w) (in_core_level g v k w (omega arith) r),
          core_not_covered g k v radio positive o w r,
        )

    inside : (w : ℕ) → in_set s w ≡ true → (w < n) × (at_least g k w ≡ true)
    unfolding graph_in at_least
    inside w e =
        let both = and_left (ltb w g.n && leb k (number g w)) (not (covered g k v w)) (sym (marks.bits w) ∙ e) in
        (ltb-true w n (and_left (ltb w g.n) (leb k (number g w)) both), and_right (ltb w g.n) (leb k (number g w)) both)

  module _ (old : Lists) (now next : Stand) (room : Room n old) (marks : Marks g k v now.left) (grown : Growing g k v old now.lists now.count) where
    abbrev before : Lists
    before = now.lists

    abbrev after : Lists
    after = next.lists

    abbrev c : ℕ
    c = now.count

    abbrev s : List ℕ
    s = now.left

    abbrev u : List ℕ
    u = next.left

    abbrev At : Type 0
    At = Marks g k (suc v) u × Growing g k (suc v) old after next.count

    passed_next : own g k v ≡ false → next ≡ now → At
    unfolding graph_in radios
    passed_next o h = (
      record {
        long = ap (λ (x : Stand). length x.left) h ∙ marks.long;
        bits = λ w. ap (λ (x : Stand). in_set x.left w) h ∙ marks.bits w ∙ of_radio w (bool_cases (ltb w n));
      },
      rw h (growing_passed g k v radio positive old before c o grown),
    )
      where
        none : (a b : Bool) → (a || (own g k v && b)) ≡ a
        none true b = refl
        none false b = rw o

        of_radio : (w : ℕ) → (ltb w n ≡ true) ⊎ (ltb w n ≡ false)
            → ((ltb w g.n && leb k (number g w)) && not (covered g k v w)) ≡ ((ltb w g.n && leb k (number g w)) && not (covered g k (suc v) w))
        of_radio w (inl e) = rw (covered_next g k v radio positive w (ltb-true w n e), none (covered g k v w) (member w (core_of g v k)))
        of_radio w (inr e) = rw e

    module _ (o : own g k v ≡ true) (h : NodeTaken t.links k v now next) where
      nodes_taken : nodes_before g k (suc v) ≡ nodes_before g k v ++ node v k (parent_name g v k) ∷ []
      unfolding graph_in
      nodes_taken = nodes_before_next g k v positive ∙ rw o

      few_taken : c < n + 1
      unfolding graph_in
      few_taken = omega (
        arith,
        grown.counted,
        ap length nodes_taken,
        length-append (nodes_before g k v) (node v k (parent_name g v k) ∷ []),
        length_nodes_before g k (suc v) radio,
      )

      answer_before : before.answer ≡ overwrite (map (present g k v) (range 0 n)) old.answer
      unfolding graph_in radios with_front
      answer_before = ap (λ (x : Lists). x.answer) grown.front

      list_taken : after.nodes ≡ overwrite (nodes_before g k (suc v)) old.nodes
      unfolding with_front graph_in radios
      list_taken =
          let parent : get_or before.answer v 0 ≡ parent_name g v k =
          ap (λ (z : List ℕ). get_or z v 0) answer_before ∙ get_d_front (present g k v) n v old.answer radio ∙ present_own g k v radio positive o in
          h.nodes ∙ ap₂ (λ (z : List Node) (p : ℕ). set z c (node v k p)) (ap (λ (x : Lists). x.nodes) grown.front) parent
          ∙ set_overwrite (nodes_before g k v) old.nodes c (node v k (parent_name g v k)) grown.counted (omega (arith, few_taken, room.nodes))
          ∙ ap (λ (xs : List Node). overwrite xs old.nodes) (sym nodes_taken)

      done : FloodDone t.links v s h.core.came u h.core.queue
      done = h.core.flooded

      came_in : (w : ℕ) → member w (take h.core.came h.core.queue) ≡ member w (core_of g v k)
      came_in w = member_flood n t site k v s radio (inside s marks) (whole s marks o) h.core.came u h.core.queue done w

      answer_taken : after.answer ≡ overwrite (map (present g k (suc v)) (range 0 n)) old.answer
      unfolding graph_in
      answer_taken =
          h.core.named ∙ ap (entries_set v (take h.core.came h.core.queue)) answer_before
          ∙ entries_set_map (present g k v) n v (take h.core.came h.core.queue) old.answer
          (λ w m. in_core_below g v k w radio ((core_of_iff g v k radio w).0 (sym (came_in w) ∙ in_member w (take h.core.came h.core.queue) m)))
          ∙ ap (λ (ys : List ℕ). overwrite ys old.answer)
          (map_range_ext (λ w. cond (member w (take h.core.came h.core.queue)) v (present g k v w)) (present g k (suc v)) 0 n
          (λ w a l. ap (λ (b : Bool). cond b v (present g k v w)) (came_in w) ∙ sym (present_next g k v radio positive w (omega arith) ∙ rw o)))

      marks_taken : Marks g k (suc v) u
      unfolding graph_in
      marks_taken = record {
        long = done.long;
        bits = λ w. left_flood n t site k v s radio (inside s marks) (whole s marks o) h.core.came u h.core.queue done w
            ∙ ap (λ (b : Bool). b && not (member w (core_of g v k))) (marks.bits w) ∙ of_radio w (bool_cases (ltb w n));
      }
        where
          both : (a b c : Bool) → ((a && not b) && not c) ≡ (a && not (b || c))
          both true true c = refl
          both true false c = refl
          both false b c = refl

          of_radio : (w : ℕ) → (ltb w n ≡ true) ⊎ (ltb w n ≡ false)
              → (((ltb w g.n && leb k (number g w)) && not (covered g k v w)) && not (member w (core_of g v k)))
              ≡ ((ltb w g.n && leb k (number g w)) && not (covered g k (suc v) w))
          of_radio w (inl e) =
              let next : covered g k (suc v) w ≡ (covered g k v w || member w (core_of g v k)) = covered_next g k v radio positive w (ltb-true w n e) ∙ rw o in
              both (ltb w g.n && leb k (number g w)) (covered g k v w) (member w (core_of g v k))
              ∙ ap (λ (b : Bool). (ltb w g.n && leb k (number g w)) && not b) (sym next)
          of_radio w (inr e) = rw e

      taken_next : At
      unfolding with_front graph_in radios
      taken_next = (
        marks_taken,
        record {
          counted = h.counted ∙ omega (arith, grown.counted, ap length nodes_taken, length-append (nodes_before g k v) (node v k (parent_name g v k) ∷ []));
          front = lists_same after (with_front (nodes_before g k (suc v)) (map (present g k (suc v)) (range 0 n)) old) list_taken answer_taken;
        },
      )

    pub visited_next : Visited t.links t.numbers k v now next → At
    visited_next h = go (bool_cases (own g k v))
      where
        go : (own g k v ≡ true) ⊎ (own g k v ≡ false) → At
        go (inl o) = taken_next o (h.taken (takes_own s marks ∙ o))
        go (inr o) = passed_next o (h.passed (takes_own s marks ∙ o))

-- ---- the start and the end of a level

pub marks_start : (n : ℕ) (t : Tables) → SoundSite n t → (k : ℕ) (s : List ℕ) → length s ≡ 8 → LevelSet t.numbers k s
    → Marks (graph_in n t.links) k 0 s
unfolding graph_in
marks_start n t site k s words h = record {
  long = words;
  bits = λ w. level_radios n t site k s words h w ∙ rw (covered_none (graph_in n t.links) k w)
      (and-true (ltb w n && leb k (number (graph_in n t.links) w)));
}
  where
    and-true : (b : Bool) → b ≡ (b && true)
    and-true true = refl
    and-true false = refl

pub growing_end : (g : Graph) (k c : ℕ) (old s : Lists) → 1 ≤ k → Growing g k g.n old s c → Growing g (suc k) 0 old s c
unfolding radios
growing_end g k c old s h a = record {
  counted = a.counted ∙ ap length (nodes_before_end g k h);
  front = a.front ∙ ap₂ (λ xs ys. with_front xs ys old) (nodes_before_end g k h)
      (map_range_ext (present g k g.n) (present g (suc k) 0) 0 g.n (λ w m l. present_end g k w h (omega arith) ∙ sym (present_start g (suc k) w)));
}
