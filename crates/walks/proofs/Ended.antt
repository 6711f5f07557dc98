-- The walk's answer is the present call's: at its end the order table, from the beginning end on, is document 01's, and the radios
-- that rise are the candidates that are left.
use Rattle.std.specs.Prelude.{◌≡◌, ◌⊎◌, ◌∷◌, ◌++◌, ◌≤◌, ◌<◌}
use Rattle.lists.specs.{Kit.{ap, ◌∙◌, Bool, true, false, List, [], append_assoc, ℕ, zero, suc, arith, ltb, length, drop, take}}
use Rattle.lists.specs.{Kit.{take-append-drop}, Lists.{filter, member, In}}
use Rattle.mesh.{specs.Graph.{Graph, linked, relinked, Allowed}, specs.Cores.{number}, specs.Levels.{changed, lower_level, new_order}}
use Rattle.mesh.{proofs.Links.LevelCut.{mids, highs}, specs.Valid.{Valid}}
use Rattle.walks.specs.Walk.{FewFront, Part, Walking}
use Rattle.walks.proofs.{Front.{few_front_right}, Turns.{turns_end, turns_stop}}
use Rattle.walks.proofs.Beginning as walk_call

module _ (most : ℕ) (a b : ℕ) (g : Graph) (xs : List ℕ) (valid : Valid most g xs) (ok : Allowed most true a b g)
    (ps : List ℕ) (e : ℕ) (qs : List ℕ) (at : xs ≡ ps ++ e ∷ qs) (is_end : (e ≡ a) ⊎ (e ≡ b))
    (no_end : (x : ℕ) → In x ps → (x ≡ a → ⊥) × (x ≡ b → ⊥)) where
  abbrev K : ℕ
  K = lower_level g a b

  abbrev after : Graph
  after = relinked true a b g

  abbrev part : List ℕ
  part = mids (number g) K (e ∷ qs)

  abbrev high : List ℕ
  high = highs (number g) K xs

  module _ (pos : ℕ → ℕ) (P : Part (linked after) part pos) {taken : List ℕ} {front : ℕ} {mark : ℕ → Bool} {counter : ℕ → ℕ} {due : ℕ → Bool}
      (h : Walking (linked after) K high part pos taken front mark counter due) where
    -- no candidate is left
    rest_few : 1 ≤ front → FewFront (linked after) K high (drop front part) []
    rest_few l = go front l
      where
        tail : List ℕ
        tail = mids (number g) K qs

        go : (i : ℕ) → 1 ≤ i → FewFront (linked after) K high (drop i part) []
        go zero l = absurd (omega arith)
        go (suc i) l =
            let few = walk_call.tail_few most a b g xs valid ok ps e qs at is_end no_end in
            let cut : FewFront (linked after) K high (take i tail ++ drop i tail) [] = rw (take-append-drop i tail) few in
            rw (walk_call.part_is most a b g xs valid ok ps e qs at is_end no_end) (few_front_right (linked after) K high (take i tail) (drop i tail) cut)

    pub stopped_order : 1 ≤ front → length taken ≡ front → new_order true a b g xs ≡ ps ++ (taken ++ (drop front part ++ high))
    stopped_order l q =
        walk_call.order_walked most a b g xs valid ok ps e qs at is_end no_end (taken ++ drop front part) []
        (turns_stop (linked after) K high part pos P h q (rest_few l))
        ∙ ap (λ (z : List ℕ). ps ++ z) (append_assoc taken (drop front part) high)

    pub stopped_changed : 1 ≤ front → length taken ≡ front → (v : ℕ) → v < g.n → member v (changed true a b g) ≡ false
    unfolding member
    stopped_changed l q v lv =
        walk_call.changed_walked most a b g xs valid ok ps e qs at is_end no_end (taken ++ drop front part) []
        (turns_stop (linked after) K high part pos P h q (rest_few l)) v lv

    -- the level is at its end, and no place is due
    module _ (none : (p : ℕ) → p < front → due p ≡ false) (whole : front ≡ length part) where
      abbrev stuck : List ℕ
      stuck = filter (λ v. ltb K (counter v)) part

      pub ended_order : new_order true a b g xs ≡ ps ++ (taken ++ (stuck ++ high))
      ended_order =
          walk_call.order_walked most a b g xs valid ok ps e qs at is_end no_end taken stuck (turns_end (linked after) K high part pos P h none whole)

      pub ended_changed : (v : ℕ) → v < g.n → member v (changed true a b g) ≡ member v stuck
      ended_changed =
          walk_call.changed_walked most a b g xs valid ok ps e qs at is_end no_end taken stuck (turns_end (linked after) K high part pos P h none whole)
