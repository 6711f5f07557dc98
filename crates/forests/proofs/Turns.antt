-- The kept links stand in the order in which links are taken.
--   falling_turn     the links by weight falling are in turn, where the graph's links ascend
--   keep_turn        and so are the kept ones
--   staircase_turn   so is the staircase tree
use Rattle.std.specs.Prelude.{◌≡◌, ◌⊎◌, ◌&&◌, ◌∷◌, ◌++◌, ◌<◌}
use Rattle.lists.{specs.Kit.{refl, sym, ◌∙◌, inl, inr, true, false, List, [], ℕ, zero, suc, arith, ltb, eqb, eqb-true, eq-eqb}}
use Rattle.lists.{specs.Kit.{lt-ltb}, proofs.Tests.{bool_cases, and_both, or_left, or_right}}
use Rattle.mesh.{specs.Graph.{Link, Graph, InLinks, link_before, ascending}, specs.Cores.{numbers}, specs.Connected.{greatest}, specs.Staircase.{weight}}
use Rattle.mesh.{specs.Staircase.{filter_links, of_weight, falling, keep, staircase, goes_before, InTurn}, proofs.Tables.AscendingLinks.{in_links_cases}}
use Rattle.mesh.{proofs.Tables.AscendingLinks.{Before, of_before, Sorted, sorted_of}}
use Rattle.forests.proofs.Keeping.{now, by_outcome, in_of_weight, in_falling}

module _ (wt : Link → ℕ) where
  goes_lighter : (l m : Link) → wt m < wt l → goes_before wt l m ≡ true
  unfolding goes_before
  goes_lighter l m h = or_left (ltb (wt m) (wt l)) (eqb (wt l) (wt m) && link_before l m) (lt-ltb (wt m) (wt l) h)

  goes_equal : (l m : Link) → wt l ≡ wt m → Before l m → goes_before wt l m ≡ true
  unfolding goes_before
  goes_equal l m e b =
      or_right (ltb (wt m) (wt l)) (eqb (wt l) (wt m) && link_before l m)
      (and_both (eqb (wt l) (wt m)) (link_before l m) (eq-eqb (wt l) (wt m) e) (of_before l m b))

  turn_append :
      (xs ys : List Link) → InTurn wt xs → InTurn wt ys → ((x y : Link) → InLinks x xs → InLinks y ys → goes_before wt x y ≡ true) →
      InTurn wt (xs ++ ys)
  turn_append [] ys a b h = b
  turn_append (x ∷ xs) ys a b h = (λ m i. go m (in_links_cases m xs ys i), turn_append xs ys a.1 b (λ p q i j. h p q (inr i) j))
    where
      go : (m : Link) → InLinks m xs ⊎ InLinks m ys → goes_before wt x m ≡ true
      go m (inl i) = a.0 m i
      go m (inr i) = h x m (inl refl) i

  -- ---- the links by weight falling

  weight_turn : (w : ℕ) (ls : List Link) → Sorted ls → InTurn wt (of_weight wt w ls)
  unfolding filter_links
  weight_turn w [] s = tt
  weight_turn w (l ∷ ls) s = go (weight_turn w ls s.1) (bool_cases (eqb (wt l) w))
    where
      go : InTurn wt (of_weight wt w ls) → (eqb (wt l) w ≡ true) ⊎ (eqb (wt l) w ≡ false) → InTurn wt (of_weight wt w (l ∷ ls))
      go rec (inl e) = rw e (
        λ m i. let r = in_of_weight wt w ls m i in goes_equal l m (eqb-true (wt l) w e ∙ sym r.1) (s.0 m r.0),
        rec,
      )
      go rec (inr e) = rw e rec

  falling_turn : (top : ℕ) (ls : List Link) → Sorted ls → InTurn wt (falling wt top ls)
  unfolding falling
  falling_turn zero ls s = weight_turn 0 ls s
  falling_turn (suc w) ls s =
      turn_append (of_weight wt (suc w) ls) (falling wt w ls) (weight_turn (suc w) ls s) (falling_turn w ls s)
      (λ x y i j. goes_lighter x y (omega (arith, (in_of_weight wt (suc w) ls x i).1, (in_falling wt w ls y j).1)))

  -- ---- the kept ones

  -- in turn themselves, and before all links that are still to be taken
  pub record Taken (ks ls : List Link) : Type 0 where
    pub turn : InTurn wt ks
    pub before : (k l : Link) → InLinks k ks → InLinks l ls → goes_before wt k l ≡ true

  taken_more : (ks ls : List Link) (l : Link) → ((m : Link) → InLinks m ls → goes_before wt l m ≡ true) → Taken ks (l ∷ ls) → Taken (ks ++ (l ∷ [])) ls
  taken_more ks ls l first t = record {
    turn = turn_append ks (l ∷ []) t.turn (λ m i. absurd i, tt) (λ x y i j. t.before x y i (only y j));
    before = λ k m i j. go k m j (in_links_cases k ks (l ∷ []) i);
  }
    where
      only : (y : Link) → InLinks y (l ∷ []) → InLinks y (l ∷ ls)
      only y (inr x') = elim x' [ ]
      only y (inl e) = inl e

      go : (k m : Link) → InLinks m ls → InLinks k ks ⊎ InLinks k (l ∷ []) → goes_before wt k m ≡ true
      go k m j (inl i) = t.before k m i (inr j)
      go k m j (inr (inr x'')) = elim x'' [ ]
      go k m j (inr (inl e)) = rw (← e) (first m j)

  keep_turn : (n : ℕ) (ls ks : List Link) → InTurn wt ls → Taken ks ls → InTurn wt (keep n ks ls)
  unfolding keep
  keep_turn n [] ks f t = t.turn
  keep_turn n (l ∷ ls) ks f t =
      keep_turn n ls (now n ks l) f.1
      (by_outcome n ks l (λ zs. Taken zs ls) (λ e. record { turn = t.turn; before = λ k m i j. t.before k m i (inr j) }) (λ e. taken_more ks ls l f.0 t))

pub staircase_turn : (g : Graph) → ascending g.links ≡ true → InTurn (weight g) (staircase g)
unfolding staircase
staircase_turn g h =
    keep_turn (weight g) g.n (falling (weight g) (greatest (numbers g)) g.links) []
    (falling_turn (weight g) (greatest (numbers g)) g.links (sorted_of g.links h))
    (record { turn = tt; before = λ k l i j. absurd i })
