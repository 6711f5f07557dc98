-- On sound tables a flood over the radios of a level takes in the connected core.
--   level_radios               the set of a level has the radios with at least its number, and nothing else
--   spread_core, core_spread   what the flood spreads to is the connected core, where the set has all of it and none below the level
--   member_flood               the radios that came in are the connected core
--   left_flood                 the set has the connected core no more
use Rattle.std.specs.Prelude.{◌≡◌, ◌⊎◌, ◌&&◌, ◌≤◌, ◌<◌}
use Rattle.lists.{specs.Kit.{sym, ap, ◌∙◌, inl, inr, Bool, true, false, not, List, ℕ, arith, ltb, leb, length, take, lt-ltb, le-ltb}}
use Rattle.lists.{specs.Kit.{ltb-true, ltb-false}, specs.Lists.{member}, proofs.Tests.{bool_cases, iff_eq}, proofs.Member.{member_in}}
use Rattle.mesh.{specs.Limits.{max_radios}, specs.Graph.{Graph}, specs.Cores.{number}, specs.Tables.{Tables, graph_in}, specs.Connected.{Reachable, here}}
use Rattle.mesh.{specs.Connected.{onward, at_least, InCore, core_of}, proofs.Trees.Reach.{reachable_below, core_of_iff}}
use Rattle.rows.{specs.Rows.{row_listed}, specs.Sets.{in_set}, proofs.RowListLaws.{in_neighbours_of, member_neighbours_of}, proofs.SetLaws.{in_set_past}}
use Rattle.floods.specs.Floods.{of_level, LevelSet, Spread, FloodDone}
use Rattle.soundness.proofs.SoundSite.{SoundSite, linked_marked, row_listed_neighbours, number_entry}

module _ (n : ℕ) (t : Tables) (s : SoundSite n t) (k : ℕ) where
  abbrev g : Graph
  g = graph_in n t.links

  -- ---- the set of a level

  pub level_radios : (set : List ℕ) → length set ≡ 8 → LevelSet t.numbers k set → (w : ℕ) → in_set set w ≡ (ltb w n && leb k (number g w))
  unfolding of_level
  level_radios set ls h w = go (bool_cases (ltb w n))
    where
      past : n ≤ w → (ltb w max_radios ≡ true) ⊎ (ltb w max_radios ≡ false) → in_set set w ≡ false
      past l (inl e) = h w (ltb-true w max_radios e) ∙ rw (le-ltb w (length t.numbers) (omega (arith, s.numbers_long)))
      past l (inr e) = in_set_past set w (omega (arith, ltb-false w max_radios e))

      go : (ltb w n ≡ true) ⊎ (ltb w n ≡ false) → in_set set w ≡ (ltb w n && leb k (number g w))
      go (inl e) =
          let l = ltb-true w n e in
          h w (omega (arith, s.small)) ∙ rw (e, lt-ltb w (length t.numbers) (omega (arith, s.numbers_long)), number_entry n t s w l)
      go (inr e) = past (ltb-false w n e) (bool_cases (ltb w max_radios)) ∙ rw e

  module _ (v : ℕ) (old : List ℕ) where
    abbrev Spreads : ℕ → Type 0
    Spreads w = Spread t.links old v w

    module _ (radio : v < n) (inside : (w : ℕ) → in_set old w ≡ true → (w < n) × (at_least g k w ≡ true)) where
      spread_below : {w : ℕ} → Spreads w → w < n
      spread_below Spread.start = radio
      spread_below (Spread.onward {w} {x} r e h) = (inside x h).0

      spread_reachable : {w : ℕ} → Spreads w → Reachable g (at_least g k) v w
      unfolding graph_in
      spread_reachable Spread.start = here
      spread_reachable (Spread.onward {w} {x} r e h) =
          let lw = spread_below r in
          let p = inside x h in
          onward (spread_reachable r)
          (linked_marked n t s w x lw p.0 ∙ (in_neighbours_of t.links w x
          (rw (row_listed_neighbours n t s w lw) at (member_in x (row_listed t.links w) e))).1)
          p.0 p.1

      pub spread_core : (w : ℕ) → Spreads w → InCore g v k w
      unfolding InCore
      spread_core w r = spread_reachable r

      module _ (whole : (w : ℕ) → InCore g v k w → in_set old w ≡ true) where
        reachable_spread : {w : ℕ} → Reachable g (at_least g k) v w → Spreads w
        unfolding graph_in InCore
        reachable_spread here = Spread.start
        reachable_spread (onward {w} {x} r e lx o) =
            let lw : w < n = reachable_below radio r in
            Spread.onward (reachable_spread r)
            (ap (member x) (row_listed_neighbours n t s w lw) ∙ member_neighbours_of t.links w x (omega (arith, s.small)) ∙ sym
            (linked_marked n t s w x lw lx) ∙ e)
            (whole x (onward r e lx o))

        pub core_spread : (w : ℕ) → InCore g v k w → Spreads w
        unfolding InCore
        core_spread w r = reachable_spread r

        module _ (r : ℕ) (set queue : List ℕ) (done : FloodDone t.links v old r set queue) where
          -- the radios that came in are the connected core
          pub member_flood : (w : ℕ) → member w (take r queue) ≡ member w (core_of g v k)
          unfolding graph_in
          member_flood w =
              iff_eq (member w (take r queue)) (member w (core_of g v k))
              (λ m. (core_of_iff g v k radio w).1 (spread_core w ((done.radios w).0 m)))
              (λ m. (done.radios w).1 (core_spread w ((core_of_iff g v k radio w).0 m)))

          -- the set has the connected core no more
          pub left_flood : (w : ℕ) → in_set set w ≡ (in_set old w && not (member w (core_of g v k)))
          left_flood w = done.bits w ∙ ap (λ (b : Bool). in_set old w && not b) (member_flood w)
