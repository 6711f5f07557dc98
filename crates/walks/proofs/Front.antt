-- The walk from the earlier end is the peel.
--   takes_then      one run of takings after another
--   takes_front     entries with at most so many later neighbours are taken in their order: the prefix law
--   peels_from      a peel of the level is its front, unchanged, and a peel of the rest
use Rattle.std.specs.Prelude.{◌≡◌, ◌∷◌, ◌++◌, ◌+◌, ◌≤◌, ◌<◌}
use Rattle.lists.{specs.Kit.{refl, ap, ◌∙◌, inl, inr, Bool, List, [], append-nil, append_assoc, ℕ, zero, suc, arith, length}}
use Rattle.lists.{specs.Kit.{get_or, take, drop, take-append-drop, drop-cons}, specs.Lists.{count, In}, proofs.Count.{count_append, count_ext}}
use Rattle.mesh.{proofs.Cores.Orders.{FewLater}, specs.Peel.{Takes, none, first, Peels}, proofs.Links.Peel.{takes_more}}
use Rattle.walks.specs.Walk.{FewFront}

module _ (f : ℕ → ℕ → Bool) (most : ℕ) (above : List ℕ) where
  pub takes_then : {left taken mid more now : List ℕ} → Takes f most above left taken mid → Takes f most above mid more now
      → Takes f most above left (taken ++ more) now
  takes_then none b = b
  takes_then (first x ps qs c fit before rest) b = first x ps qs c fit before (takes_then rest b)

  pub takes_front : (xs ys : List ℕ) → FewFront f most above xs ys → Takes f most above (xs ++ ys) xs ys
  takes_front [] ys h = none
  takes_front (x ∷ xs) ys h = first x [] (xs ++ ys) refl h.0 (λ w m. absurd m) (takes_front xs ys h.1)

  pub few_front_right : (xs ys : List ℕ) → FewFront f most above (xs ++ ys) [] → FewFront f most above ys []
  few_front_right [] ys h = h
  few_front_right (x ∷ xs) ys h = few_front_right xs ys h.1

  -- an entry of such a list, and its later ones
  pub few_front_head : (xs : List ℕ) (i : ℕ) → i < length xs → FewFront f most above (drop i xs) []
      → count (f (get_or xs i 0)) (drop (suc i) xs) + count (f (get_or xs i 0)) above ≤ most
  few_front_head xs i l h =
      let cut : FewFront f most above (get_or xs i 0 ∷ drop (suc i) xs) [] = rw (drop-cons xs i 0 l) at h in
      omega (arith, cut.0, ap (count (f (get_or xs i 0))) (append-nil (drop (suc i) xs)))

  -- from a later entry on
  pub few_from_one : (xs : List ℕ) (i : ℕ) → 1 ≤ i → FewFront f most above (drop 1 xs) [] → FewFront f most above (drop i xs) []
  few_from_one xs zero l h = absurd (omega arith)
  few_from_one [] (suc i) l h = tt
  few_from_one (x ∷ xs) (suc i) l h = few_front_right (take i xs) (drop i xs) (rw (take-append-drop i xs) h)

  -- from an order before the call: numbers of at most `most`, and the same neighbours
  pub few_front_of : (g : ℕ → ℕ → Bool) (num : ℕ → ℕ) (xs ys : List ℕ) → FewLater g num (xs ++ (ys ++ above))
      → ((x : ℕ) → In x xs → num x ≤ most) → ((x w : ℕ) → In x xs → In w (xs ++ (ys ++ above)) → f x w ≡ g x w) → FewFront f most above xs ys
  few_front_of g num [] ys h k same = tt
  few_front_of g num (x ∷ xs) ys h k same = (
    omega (
      arith,
      h.0,
      k x (inl refl),
      count_append (f x) xs ys,
      count_append (f x) (xs ++ ys) above,
      ap (count (f x)) (append_assoc xs ys above),
      count_ext (f x) (g x) (xs ++ (ys ++ above)) (λ w m. same x w (inl refl) (inr m)),
    ),
    few_front_of g num xs ys h.1 (λ v m. k v (inr m)) (λ v w m q. same v w (inr m) (inr q)),
  )

  -- the prefix law: a peel of the whole is the front, unchanged, and a peel of the rest
  pub peels_from : (xs ys : List ℕ) {taken stuck : List ℕ} → FewFront f most above xs ys → Peels f most above ys taken stuck
      → Peels f most above (xs ++ ys) (xs ++ taken) stuck
  peels_from xs ys h p = record { takes = takes_then (takes_front xs ys h) p.takes; full = p.full }

  -- ---- steps of a walk: taken so far, held candidates, and the rest of the part, which nobody looked at yet

  -- a candidate falls short and is taken back
  pub walk_back : {part taken : List ℕ} (held rest : List ℕ) (x : ℕ) (ps qs : List ℕ) → Takes f most above part taken (held ++ rest) → held ≡ ps ++ x ∷ qs
      → count (f x) (ps ++ (qs ++ rest)) + count (f x) above ≤ most → ((w : ℕ) → In w ps → most < count (f w) (held ++ rest) + count (f w) above)
      → Takes f most above part (taken ++ (x ∷ [])) ((ps ++ qs) ++ rest)
  walk_back held rest x ps qs t e fit before =
      rw (append_assoc ps qs rest) (takes_more f most above x ps (qs ++ rest) t (ap (λ (z : List ℕ). z ++ rest) e ∙ append_assoc ps (x ∷ qs) rest) fit before)

  -- the next one is taken where it stands
  pub walk_take : {part taken : List ℕ} (held rest : List ℕ) (x : ℕ) → Takes f most above part taken (held ++ x ∷ rest)
      → count (f x) (held ++ rest) + count (f x) above ≤ most → ((w : ℕ) → In w held → most < count (f w) (held ++ x ∷ rest) + count (f w) above)
      → Takes f most above part (taken ++ (x ∷ [])) (held ++ rest)
  walk_take held rest x t fit before = takes_more f most above x held rest t refl fit before

  -- the next one is held
  pub walk_hold : {part taken : List ℕ} (held rest : List ℕ) (x : ℕ) → Takes f most above part taken (held ++ x ∷ rest)
      → Takes f most above part taken ((held ++ (x ∷ [])) ++ rest)
  walk_hold held rest x t = rw (append_assoc held (x ∷ []) rest) t

  -- no candidate is left: the rest stays as it stands
  pub walk_stop : {part taken rest : List ℕ} → Takes f most above part taken rest → FewFront f most above rest [] → Peels f most above part (taken ++ rest) []
  walk_stop {rest = rest} t h =
      record { takes = takes_then t (rw (append-nil rest) at (takes_front rest [] h)); full = λ v m. absurd m }

  -- the part is at its end: the candidates are stuck
  pub walk_end : {part taken : List ℕ} (held : List ℕ) → Takes f most above part taken (held ++ []) →
      ((v : ℕ) → In v held → most < count (f v) held + count (f v) above)
      → Peels f most above part taken held
  walk_end held t h = record { takes = rw (append-nil held) at t; full = h }
