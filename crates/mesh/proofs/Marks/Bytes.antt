-- The bytes of a store after a mark is put into it or taken out of it: places stand one behind the other, so moving bytes moves places.
--   replaced    a place written over place r
--   inserted    the places from r on moved one place up, and a place written over place r
--   taken_out   the places after r moved one place down, and the last used place zeroed
use Rattle.std.specs.Prelude.{◌≡◌, ◌∷◌, ◌++◌, ◌+◌, ◌*◌, ◌-◌, ◌≤◌, ◌<◌}
use Rattle.lists.{specs.Kit.{refl, sym, ap, ap₂, ◌∙◌, List, [], flat_map, append_assoc, ℕ, zero, suc, arith, length}}
use Rattle.lists.{specs.Kit.{take, drop, replicate, length-append, length-drop, length-replicate, take-append-drop, replicate-append-replicate, take_at}}
use Rattle.lists.{specs.Kit.{drop_at, drop-drop, take-take, length-take-le, take-append-le}, proofs.Parts.{drop_replicate}}
use Rattle.mesh.specs.{Marks.{place_bytes, places, store_bytes, store_of}, MarkPlaces.{moved_up, moved_down}}
use Rattle.mesh.proofs.Marks.Laws.{joined, Sized}

-- ---- places one behind the other

length_sized : (ps : List (List ℕ)) → Sized ps → length (joined ps) ≡ place_bytes * length ps
unfolding flat_map
length_sized [] s = omega arith
length_sized (p ∷ ps) s = omega (arith, length-append p (joined ps), s.0, length_sized ps s.1)

joined_append : (ps qs : List (List ℕ)) → joined (ps ++ qs) ≡ joined ps ++ joined qs
unfolding flat_map
joined_append [] qs = refl
joined_append (p ∷ ps) qs = ap (λ (bs : List ℕ). p ++ bs) (joined_append ps qs) ∙ sym (append_assoc p (joined ps) (joined qs))

sized_take : (r : ℕ) (ps : List (List ℕ)) → Sized ps → Sized (take r ps)
sized_take zero ps s = tt
sized_take (suc r) [] s = tt
sized_take (suc r) (p ∷ ps) s = (s.0, sized_take r ps s.1)

sized_drop : (r : ℕ) (ps : List (List ℕ)) → Sized ps → Sized (drop r ps)
sized_drop zero ps s = s
sized_drop (suc r) [] s = tt
sized_drop (suc r) (p ∷ ps) s = sized_drop r ps s.1

module _ (ps : List (List ℕ)) (s : Sized ps) (few : length ps ≤ places) where
  abbrev zeros : ℕ → List ℕ
  zeros k = replicate (place_bytes * k) 0

  -- the store as its first r places, the later ones and zeros
  parts : (r : ℕ) → store_of ps ≡ joined (take r ps) ++ (joined (drop r ps) ++ zeros (places - length ps))
  unfolding store_of
  parts r =
      ap (λ (bs : List ℕ). bs ++ zeros (places - length ps)) (ap joined (sym (take-append-drop r ps)) ∙ joined_append (take r ps) (drop r ps))
      ∙ append_assoc (joined (take r ps)) (joined (drop r ps)) (zeros (places - length ps))

  first_long : (r : ℕ) → r ≤ length ps → length (joined (take r ps)) ≡ place_bytes * r
  first_long r l = length_sized (take r ps) (sized_take r ps s) ∙ ap (λ (k : ℕ). place_bytes * k) (length-take-le r ps l)

  later_long : (r : ℕ) → length (joined (drop r ps)) ≡ place_bytes * (length ps - r)
  later_long r = length_sized (drop r ps) (sized_drop r ps s) ∙ ap (λ (k : ℕ). place_bytes * k) (length-drop r ps)

  first_part : (r : ℕ) → r ≤ length ps → take (place_bytes * r) (store_of ps) ≡ joined (take r ps)
  first_part r l =
      ap (take (place_bytes * r)) (parts r)
      ∙ take_at (joined (take r ps)) (joined (drop r ps) ++ zeros (places - length ps)) (place_bytes * r) (first_long r l)

  later_part : (r : ℕ) → r ≤ length ps → drop (place_bytes * r) (store_of ps) ≡ joined (drop r ps) ++ zeros (places - length ps)
  later_part r l =
      ap (drop (place_bytes * r)) (parts r)
      ∙ drop_at (joined (take r ps)) (joined (drop r ps) ++ zeros (places - length ps)) (place_bytes * r) (first_long r l)

  -- the used places from r on, and the zeros behind the used places
  used_part : (r : ℕ) → r ≤ length ps → take (place_bytes * length ps - place_bytes * r) (drop (place_bytes * r) (store_of ps)) ≡ joined (drop r ps)
  used_part r l =
      ap (take (place_bytes * length ps - place_bytes * r)) (later_part r l)
      ∙ take_at (joined (drop r ps)) (zeros (places - length ps)) (place_bytes * length ps - place_bytes * r) (omega (arith, later_long r))

  unused_part : drop (place_bytes * length ps) (store_of ps) ≡ zeros (places - length ps)
  unfolding store_of
  unused_part = drop_at (joined ps) (zeros (places - length ps)) (place_bytes * length ps) (length_sized ps s)

  -- a place p among them, with zeros behind as many as it takes
  store_with : (r j : ℕ) (p : List ℕ) (qs : List (List ℕ)) → r ≤ length ps → j ≡ places - (r + suc (length qs)) →
      joined (take r ps) ++ (p ++ (joined qs ++ zeros j)) ≡ store_of (take r ps ++ (p ∷ qs))
  unfolding store_of flat_map
  store_with r j p qs l e =
      let k : length (take r ps ++ (p ∷ qs)) ≡ r + suc (length qs) = omega (arith, length-append (take r ps) (p ∷ qs), length-take-le r ps l) in
      let f : j ≡ places - length (take r ps ++ (p ∷ qs)) = omega arith in
      ap (λ (bs : List ℕ). joined (take r ps) ++ bs) (sym (append_assoc p (joined qs) (zeros j)))
      ∙ sym (append_assoc (joined (take r ps)) (p ++ joined qs) (zeros j))
      ∙ ap₂ {C = List ℕ} (λ bs i. bs ++ zeros i) (sym (joined_append (take r ps) (p ∷ qs))) f

  -- ---- a mark set

  pub replaced : (r : ℕ) (p : List ℕ) → r < length ps →
      take (place_bytes * r) (store_of ps) ++ (p ++ drop (place_bytes * r + place_bytes) (store_of ps)) ≡ store_of (take r ps ++ (p ∷ drop (suc r) ps))
  replaced r p l =
      let e : place_bytes * r + place_bytes ≡ place_bytes * suc r = omega arith in
      ap₂ {C = List ℕ} (λ bs cs. bs ++ (p ++ cs)) (first_part r (omega arith)) (ap (λ (k : ℕ). drop k (store_of ps)) e ∙ later_part (suc r) (omega arith))
      ∙ store_with r (places - length ps) p (drop (suc r) ps) (omega arith) (omega (arith, length-drop (suc r) ps))

  store_long : length (store_of ps) ≡ store_bytes
  unfolding store_of
  store_long =
      omega (arith, length-append (joined ps) (zeros (places - length ps)), length_sized ps s, length-replicate {A = ℕ} (place_bytes * (places - length ps)) 0)

  -- the zeros behind one more place
  less_zeros : length ps < places → drop (place_bytes * length ps + place_bytes) (store_of ps) ≡ zeros (places - suc (length ps))
  less_zeros l =
      let e : place_bytes * (places - length ps) - place_bytes ≡ place_bytes * (places - suc (length ps)) = omega arith in
      sym (drop-drop place_bytes (place_bytes * length ps) (store_of ps)) ∙ ap (drop place_bytes) unused_part
      ∙ drop_replicate place_bytes (place_bytes * (places - length ps)) 0 ∙ ap (λ (k : ℕ). replicate k 0) e

  pub inserted : (r : ℕ) (p : List ℕ) → r ≤ length ps → length ps < places →
      let cs = moved_up (store_of ps) (place_bytes * r) (place_bytes * length ps) in
      take (place_bytes * r) cs ++ (p ++ drop (place_bytes * r + place_bytes) cs) ≡ store_of (take r ps ++ (p ∷ drop r ps))
  unfolding moved_up
  inserted r p l m =
      let bs = store_of ps in
      let front = take (place_bytes * r + place_bytes) bs in
      let rest = take (place_bytes * length ps - place_bytes * r) (drop (place_bytes * r) bs) ++ drop (place_bytes * length ps + place_bytes) bs in
      let long : length front ≡ place_bytes * r + place_bytes = length-take-le (place_bytes * r + place_bytes) bs (omega (arith, store_long)) in
      ap₂ {C = List ℕ} (λ xs ys. xs ++ (p ++ ys))
      (take-append-le (place_bytes * r) front rest (omega arith) ∙ take-take (place_bytes * r) (place_bytes * r + place_bytes) bs (omega arith) ∙ first_part r
      l)
      (drop_at front rest (place_bytes * r + place_bytes) long ∙ ap₂ {C = List ℕ} (λ xs ys. xs ++ ys) (used_part r l) (less_zeros m))
      ∙ store_with r (places - suc (length ps)) p (drop r ps) l (omega (arith, length-drop r ps))

  -- ---- a mark removed

  -- the last used place zeroed: w is its length
  more_zeros : (k w : ℕ) → length ps ≡ suc k → w ≡ place_bytes → replicate w 0 ++ zeros (places - length ps) ≡ zeros (places - k)
  more_zeros k w e h =
      let f : w + place_bytes * (places - length ps) ≡ place_bytes * (places - k) = omega arith in
      rw (replicate-append-replicate {A = ℕ} w (place_bytes * (places - length ps)) 0, f)

  -- the places without place r, and zeros behind
  without : (r k : ℕ) → r < length ps → length ps ≡ suc k →
      (joined (take r ps) ++ joined (drop (suc r) ps)) ++ zeros (places - k) ≡ store_of (take r ps ++ drop (suc r) ps)
  unfolding store_of
  without r k l e =
      let m : places - k ≡ places - length (take r ps ++ drop (suc r) ps) =
      omega (arith, length-append (take r ps) (drop (suc r) ps), length-take-le r ps (omega arith), length-drop (suc r) ps) in
      ap₂ {C = List ℕ} (λ xs j. xs ++ zeros j) (sym (joined_append (take r ps) (drop (suc r) ps))) m

  pub taken_out : (r k w : ℕ) → r < length ps → length ps ≡ suc k → w ≡ place_bytes →
      let ds = moved_down (store_of ps) (place_bytes * suc r) (place_bytes * length ps) in
      take (place_bytes * k) ds ++ (replicate w 0 ++ drop (place_bytes * k + place_bytes) ds) ≡ store_of (take r ps ++ drop (suc r) ps)
  unfolding moved_down
  taken_out r k w l e h =
      let bs = store_of ps in
      let A = joined (take r ps) in
      let C = joined (drop (suc r) ps) in
      let X = drop (place_bytes * length ps - place_bytes) bs in
      let i : place_bytes * suc r - place_bytes ≡ place_bytes * r = omega arith in
      let j : place_bytes * length ps - place_bytes + place_bytes ≡ place_bytes * length ps = omega arith in
      let ds : take (place_bytes * suc r - place_bytes) bs ++ (take (place_bytes * length ps - place_bytes * suc r) (drop (place_bytes * suc r) bs) ++ X) ≡
      (A ++ C) ++ X =
      ap₂ {C = List ℕ} (λ xs ys. xs ++ (ys ++ X)) (ap (λ (m : ℕ). take m bs) i ∙ first_part r (omega arith)) (used_part (suc r) (omega arith))
      ∙ sym (append_assoc A C X) in
      let long : length (A ++ C) ≡ place_bytes * k = omega (arith, length-append A C, first_long r (omega arith), later_long (suc r)) in
      let rest : drop (place_bytes * k + place_bytes) ((A ++ C) ++ X) ≡ zeros (places - length ps) =
      sym (drop-drop place_bytes (place_bytes * k) ((A ++ C) ++ X)) ∙ ap (drop place_bytes) (drop_at (A ++ C) X (place_bytes * k) long)
      ∙ drop-drop place_bytes (place_bytes * length ps - place_bytes) bs ∙ ap (λ (m : ℕ). drop m bs) j ∙ unused_part in
      ap (λ (xs : List ℕ). take (place_bytes * k) xs ++ (replicate w 0 ++ drop (place_bytes * k + place_bytes) xs)) ds
      ∙ ap₂ {C = List ℕ} (λ xs ys. xs ++ (replicate w 0 ++ ys)) (take_at (A ++ C) X (place_bytes * k) long) rest
      ∙ ap (λ (xs : List ℕ). (A ++ C) ++ xs) (more_zeros k w e h)
      ∙ without r k l e
