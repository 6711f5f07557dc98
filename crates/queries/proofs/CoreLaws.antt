-- The connected core's contract, met: what the flood leaves out of its level's set, listed.
use Rattle.std.specs.Prelude.{◌≡◌, ◌&&◌, ◌≤◌, ◌<◌}
use Rattle.lists.{specs.Kit.{refl, sym, ap, ◌∙◌, Bool, true, false, not, List, ℕ, arith, ltb, leb, length, get_or, take, take_all, ltb-true}}
use Rattle.lists.{specs.Kit.{lt-ltb, le-leb}, specs.Lists.{range, filter, member, overwrite}, proofs.Tests.{never, and_left, and_right, and_both}}
use Rattle.lists.{proofs.Member.{in_member, not_member}, proofs.Filter.{length_filter, filter_ext, filter_range_within}, proofs.Count.{count_le_length}}
use Rattle.lists.{proofs.Range.{length_range}}
use Rattle.mesh.{specs.Limits.{max_radios}, specs.Graph.{Graph, radios}, specs.Cores.{number}, specs.Tables.{Tables, graph_in}, specs.Sound.{sound}}
use Rattle.mesh.{specs.Connected.{at_least, InCore, core_of}, proofs.Trees.Reach.{core_of_iff, core_of_ascending}, proofs.Trees.CoreLevels.{in_core_below}}
use Rattle.mesh.{proofs.Trees.CoreLevels.{in_core_level}}
use Rattle.calls.{specs.Questions.{lengths_of}, specs.CallContracts.{CoreContract}, proofs.ChainLaws.{core_zero}}
use Rattle.calls.{proofs.QuestionLaws.{answer_length_true}, specs.Outcomes.{value, core_outcome}, proofs.ContractLaws.{listing_refused, listing_answered}}
use Rattle.rows.specs.Sets.{in_set, SetTaken, members, Listed}
use Rattle.floods.{specs.Floods.{LevelSet, FloodDone}, proofs.FloodCore.{level_radios, left_flood}}
use Rattle.soundness.proofs.SoundSite.{SoundSite, number_entry, site_good_sound}
use Rattle.calls.specs.Chains.{core_refusal}

module _ (n : ℕ) (t : Tables) (s : SoundSite n t) (k v : ℕ) (radio : v < n) (level : k ≤ number (graph_in n t.links) v) where
  abbrev g : Graph
  g = graph_in n t.links

  pub length_core : length (core_of g v k) ≤ n
  unfolding radios graph_in
  length_core = omega (
    arith,
    ap length (core_of_ascending g v k radio),
    length_filter (λ w. member w (core_of g v k)) (range 0 n),
    count_le_length (λ w. member w (core_of g v k)) (range 0 n),
    length_range 0 n,
  )

  in_core_radio : (w : ℕ) → InCore g v k w → w < n
  unfolding graph_in
  in_core_radio w h = in_core_below g v k w radio h

  in_core_number : (w : ℕ) → InCore g v k w → k ≤ number g w
  unfolding graph_in
  in_core_number w h = in_core_level g v k w level h

  core_radio_in : (w : ℕ) → member w (core_of g v k) ≡ true → InCore g v k w
  unfolding graph_in
  core_radio_in w m = (core_of_iff g v k radio w).0 m

  ascending_core : core_of g v k ≡ filter (λ w. member w (core_of g v k)) (range 0 n)
  unfolding radios graph_in
  ascending_core = core_of_ascending g v k radio

  -- what the flood over the level's set leaves out of it is the connected core, ascending
  module _ (set rest : List ℕ) (has : (w : ℕ) → in_set set w ≡ (ltb w n && leb k (number g w)))
      (r : ℕ) (queue : List ℕ) (done : FloodDone t.links v set r rest queue) where
    inside : (w : ℕ) → in_set set w ≡ true → (w < n) × (at_least g k w ≡ true)
    unfolding at_least
    inside w e =
        let both = sym (has w) ∙ e in
        (ltb-true w n (and_left (ltb w n) (leb k (number g w)) both), and_right (ltb w n) (leb k (number g w)) both)

    whole : (w : ℕ) → InCore g v k w → in_set set w ≡ true
    whole w h = has w ∙ and_both (ltb w n) (leb k (number g w)) (lt-ltb w n (in_core_radio w h)) (le-leb k (number g w) (in_core_number w h))

    module _ (own : List ℕ) (taken : SetTaken rest set own) where
      in_core : (w : ℕ) → in_set own w ≡ member w (core_of g v k)
      in_core w =
          taken.bits w ∙ ap (λ (b : Bool). in_set set w && not b) (left_flood n t s k v set radio inside whole r rest queue done w)
          ∙ go (in_set set w) (member w (core_of g v k)) (λ m. whole w (core_radio_in w m))
        where
          go : (a m : Bool) → (m ≡ true → a ≡ true) → (a && not (a && not m)) ≡ m
          go true true h = refl
          go true false h = refl
          go false true h = never false (h refl) refl
          go false false h = refl

      pub members_core : members own ≡ core_of g v k
      unfolding members
      members_core =
          filter_ext (in_set own) (λ w. member w (core_of g v k)) (range 0 max_radios) (λ w m. in_core w)
          ∙ filter_range_within (λ w. member w (core_of g v k)) n max_radios s.small
          (λ w l. not_member w (core_of g v k) (λ m. outside w l (core_radio_in w (in_member w (core_of g v k) m))))
          ∙ sym ascending_core
        where
          outside : (w : ℕ) → n ≤ w → InCore (graph_in n t.links) v k w → ⊥
          outside w l h = omega (arith, in_core_radio w h)

module _ (n v k : ℕ) (t : Tables) (old : List ℕ) where
  abbrev refusal : ℕ
  refusal = core_refusal n v k (lengths_of t) (length old) (sound n t) (graph_in n t.links)

  pub core_refused : (q : ℕ) → q ≡ refusal → (q ≡ 0 → ⊥) → CoreContract n v k t old (value q 0) old
  unfolding CoreContract core_outcome sound
  core_refused q e h = listing_refused _ _ _ old q e h

  module _ (e : refusal ≡ 0) where
    pub core_radio : v < n
    core_radio = (core_zero n v k (lengths_of t) (length old) (sound n t) (graph_in n t.links) e).1

    pub core_tables : SoundSite n t
    core_tables = site_good_sound n t _ (core_zero n v k (lengths_of t) (length old) (sound n t) (graph_in n t.links) e).0

    -- the level is an entry of the numbers table at most
    pub core_level : k ≤ get_or t.numbers v 0
    core_level = omega (
      arith,
      number_entry n t core_tables v core_radio,
      (core_zero n v k (lengths_of t) (length old) (sound n t) (graph_in n t.links) e).2,
    )

    core_room : n ≤ length old
    core_room = answer_length_true n (length old) (core_zero n v k (lengths_of t) (length old) (sound n t) (graph_in n t.links) e).0.lent.further

    core_number : k ≤ number (graph_in n t.links) v
    core_number = (core_zero n v k (lengths_of t) (length old) (sound n t) (graph_in n t.links) e).2

    pub core_listed : (set rest own : List ℕ) (r : ℕ) (queue : List ℕ) (c : ℕ) (now : List ℕ) → length set ≡ 8 → LevelSet t.numbers k set
        → FloodDone t.links v set r rest queue → SetTaken rest set own → Listed own old c now → CoreContract n v k t old (value 0 c) now
    unfolding CoreContract core_outcome sound
    core_listed set rest own r queue c now words level done taken h =
        let s = core_tables in
        let is = members_core n t s k v core_radio core_number set rest (level_radios n t s k set words level) r queue done own taken in
        let few = length_core n t s k v core_radio core_number in
        listing_answered _ _ _ old c now e (omega (arith, h.counted, ap length is, few, core_room))
        (h.listed ∙ ap (λ (xs : List ℕ). overwrite (take (length old) xs) old) is
        ∙ ap (λ (xs : List ℕ). overwrite xs old) (take_all (length old) (core_of (graph_in n t.links) v k) (omega (arith, few, core_room))))
