-- What a list of links joins.
--   Inside n ls       the ends of the links of ls are below n
--   joined_by_links   where the ends of each link of ls are joined by ms, whatever ls joins is joined by ms
--   joined_iff        the test `joined` tells what is joined
use Rattle.std.specs.Prelude.{◌≡◌, ◌⊎◌, ◌↔◌, ◌∷◌, ◌<◌}
use Rattle.lists.{specs.Kit.{refl, sym, ap, ◌∙◌, inl, inr, true, false, List, [], ℕ}, specs.Lists.{member}, proofs.Tests.{never}}
use Rattle.lists.{proofs.Tests.{or_cases, or_left, or_right}}
use Rattle.mesh.{specs.Graph.{Link, graph, linked, other_ends, InLinks}, specs.Connected.{here, onward}, specs.Staircase.{anyone, Joined, joined}}
use Rattle.mesh.{proofs.GraphLaws.{Ends, ends_of, of_ends, joins, linked_by, linked_by_cons}, proofs.Trees.Reach.{reachable_trans, reachable_sym, reached_iff}}

abbrev pub Inside : ℕ → List Link → Type 0
Inside n ls = (l : Link) → InLinks l ls → (l.low < n) × (l.high < n)

pub linked_graph : (n : ℕ) (ks : List Link) (v w : ℕ) → linked (graph n ks) v w ≡ linked_by ks v w
unfolding linked
linked_graph n ks v w = refl

pub in_joins : (ls : List Link) (l : Link) → InLinks l ls → (v w : ℕ) → Ends l.low l.high v w → linked_by ls v w ≡ true
in_joins [] l x'' v w h = elim x'' [ ]
in_joins (m ∷ ls) l (inl e) v w h =
    linked_by_cons m ls v w ∙ or_left (joins m v w) (linked_by ls v w) (ap (λ (x : Link). joins x v w) e ∙ of_ends l.low l.high v w h)
in_joins (m ∷ ls) l (inr i) v w h = linked_by_cons m ls v w ∙ or_right (joins m v w) (linked_by ls v w) (in_joins ls l i v w h)

-- a neighbour comes by a link of the list
pub linked_some : (ls : List Link) (v w : ℕ) → linked_by ls v w ≡ true → (l : Link) × InLinks l ls × Ends l.low l.high v w
unfolding other_ends member
linked_some [] v w h = never false h refl
linked_some (l ∷ ls) v w h = go (linked_some ls v w) (or_cases (joins l v w) (linked_by ls v w) (sym (linked_by_cons l ls v w) ∙ h))
  where
    go : (linked_by ls v w ≡ true → (m : Link) × InLinks m ls × Ends m.low m.high v w) → (joins l v w ≡ true) ⊎ (linked_by ls v w ≡ true)
        → (m : Link) × InLinks m (l ∷ ls) × Ends m.low m.high v w
    go rec (inl e) = (l, inl refl, ends_of l.low l.high v w e)
    go rec (inr e) = let r = rec e in (r.0, inr r.1, r.2)

module _ (n : ℕ) where
  pub joined_sym : (ls : List Link) {v w : ℕ} → v < n → Joined n ls v w → Joined n ls w v
  joined_sym ls l r = reachable_sym l refl r

  -- one step more
  pub joined_next : (ls : List Link) (l : Link) {a v w : ℕ} → InLinks l ls → w < n → Ends l.low l.high v w → Joined n ls a v → Joined n ls a w
  joined_next ls l {a} {v} {w} i h e r = onward r (linked_graph n ls v w ∙ in_joins ls l i v w e) h refl

  pub joined_link : (ls : List Link) (l : Link) → InLinks l ls → l.high < n → Joined n ls l.low l.high
  joined_link ls l i h = joined_next ls l i h (inl (refl, refl)) here

  -- both ways over a link whose ends are joined
  pub joined_ends : (ls : List Link) (l : Link) (v w : ℕ) → l.low < n → Joined n ls l.low l.high → Ends l.low l.high v w → Joined n ls v w
  joined_ends ls l v w h r (inl e) = rw (e.0, e.1) r
  joined_ends ls l v w h r (inr e) = rw (e.0, e.1) (joined_sym ls h r)

  pub joined_by_links : (ls ms : List Link) → Inside n ls → ((l : Link) → InLinks l ls → Joined n ms l.low l.high) → {a b : ℕ} → Joined n ls a b → Joined
      n ms a b
  joined_by_links ls ms s f here = here
  joined_by_links ls ms s f (onward {w} {x} r e lx o) = go (joined_by_links ls ms s f r) (linked_some ls w x (sym (linked_graph n ls w x) ∙ e))
    where
      go : {a : ℕ} → Joined n ms a w → (l : Link) × InLinks l ls × Ends l.low l.high w x → Joined n ms a x
      go q p = reachable_trans q (joined_ends ms p.0 w x (s p.0 p.1).0 (f p.0 p.1) p.2)

  pub joined_mono : (ls ms : List Link) → Inside n ls → ((l : Link) → InLinks l ls → InLinks l ms) → {a b : ℕ} → Joined n ls a b → Joined n ms a b
  joined_mono ls ms s f r = joined_by_links ls ms s (λ l i. joined_link ms l (f l i) (s l i).1) r

  pub joined_iff : (ls : List Link) (a : ℕ) → a < n → (b : ℕ) → (joined n ls a b ≡ true) ↔ Joined n ls a b
  unfolding joined
  joined_iff ls a h b = reached_iff (graph n ls) anyone a h b

  pub not_joined : (ls : List Link) (a : ℕ) → a < n → (b : ℕ) → joined n ls a b ≡ false → Joined n ls a b → ⊥
  not_joined ls a h b e r = never (joined n ls a b) ((joined_iff ls a h b).1 r) e

  -- what is the same at both ends of each link is the same for joined radios
  pub joined_same : (ls : List Link) (f : ℕ → ℕ) → ((l : Link) → InLinks l ls → f l.low ≡ f l.high) → {a b : ℕ} → Joined n ls a b → f a ≡ f b
  joined_same ls f h here = refl
  joined_same ls f h (onward {w} {x} r e lx o) = joined_same ls f h r ∙ go (linked_some ls w x (sym (linked_graph n ls w x) ∙ e))
    where
      ends : (l : Link) → f l.low ≡ f l.high → Ends l.low l.high w x → f w ≡ f x
      ends l q (inl p) = rw (p.0, p.1) q
      ends l q (inr p) = rw (p.0, p.1) (sym q)

      go : (l : Link) × InLinks l ls × Ends l.low l.high w x → f w ≡ f x
      go p = ends p.0 (h p.0 p.1) p.2
