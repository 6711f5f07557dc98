-- The staircase tree is a spanning forest, and none weighs more.
--   staircase_spanning   it is a spanning forest
--   staircase_fewer      of fewer links than radios
--   staircase_joins      the ends of a link of weight w or more are joined by kept links of weight w or more
--   staircase_heaviest   no spanning forest weighs more
use Rattle.std.specs.Prelude.{◌≡◌, ◌⊎◌, ◌≤◌, ◌<◌}
use Rattle.lists.{specs.Kit.{inr, true, List, [], length, ℕ, arith, leb}, specs.Lists.{range}, proofs.Range.{in_range}}
use Rattle.mesh.{specs.Graph.{Link, Graph, radios, proper, InLinks}, specs.Cores.{number, numbers}, specs.Connected.{greatest}, specs.Staircase.{Joined}}
use Rattle.mesh.{specs.Staircase.{Acyclic, Spanning, weight, falling, staircase, heavy, weighs}, proofs.GraphLaws.{proper_of}}
use Rattle.mesh.{proofs.Trees.Listed.{number_le_greatest}, proofs.Tables.AscendingLinks.{in_links_proper}}
use Rattle.forests.proofs.{JoinedLaws.{Inside, joined_mono, joined_by_links}, Labels.{parts_some}, Forests.{Tight, acyclic_grows, grows_filter}}
use Rattle.forests.proofs.{Forests.{tight_acyclic, forest_le}, Keeping.{tight_none, keep_from, keep_tight, in_heavy, keep_joins, in_falling, falling_in}}
use Rattle.forests.proofs.{Keeping.{falling_falling}, Weights.{weighs_le}}

module _ (g : Graph) (p : proper g.n g.links ≡ true) where
  weight_le : (l : Link) → l.low < g.n → weight g l ≤ greatest (numbers g)
  unfolding weight numbers radios
  weight_le l h = omega (arith, number_le_greatest (number g) (range 0 g.n) l.low (in_range 0 g.n l.low (omega arith) (omega arith)))

  pub links_inside : Inside g.n g.links
  links_inside l i = let r = in_links_proper g.n g.links l (proper_of g.n g.links p) i in (omega (arith, r.0, r.1), r.1)

  abbrev taken : List Link
  taken = falling (weight g) (greatest (numbers g)) g.links

  taken_inside : Inside g.n taken
  taken_inside l i = links_inside l (in_falling (weight g) (greatest (numbers g)) g.links l i).0

  links_taken : (l : Link) → InLinks l g.links → InLinks l taken
  links_taken l i = falling_in (weight g) (greatest (numbers g)) g.links l i (weight_le l (links_inside l i).0)

  pub staircase_of_graph : (l : Link) → InLinks l (staircase g) → InLinks l g.links
  unfolding staircase
  staircase_of_graph l i = go (keep_from g.n taken [] l i)
    where
      go : InLinks l [] ⊎ InLinks l taken → InLinks l g.links
      go (mathlib.Core.Logic.inl x') = elim x' [ ]
      go (inr j) = (in_falling (weight g) (greatest (numbers g)) g.links l j).0

  pub staircase_inside : Inside g.n (staircase g)
  staircase_inside l i = links_inside l (staircase_of_graph l i)

  staircase_tight : Tight g.n (staircase g)
  unfolding staircase
  staircase_tight = keep_tight g.n taken [] taken_inside (λ l i. absurd i) (tight_none g.n)

  pub staircase_acyclic : Acyclic g.n (staircase g)
  staircase_acyclic = tight_acyclic g.n (staircase g) staircase_inside staircase_tight

  pub staircase_fewer : 1 ≤ g.n → length (staircase g) < g.n
  staircase_fewer h = omega (arith, staircase_tight.counted, parts_some g.n (staircase g) staircase_tight.label staircase_tight.labels h)

  pub staircase_joins : (w : ℕ) (l : Link) → InLinks l g.links → w ≤ weight g l → Joined g.n (heavy (weight g) w (staircase g)) l.low l.high
  unfolding staircase
  staircase_joins w l i h =
      keep_joins g.n (weight g) w taken [] taken_inside (λ m j. absurd j) (falling_falling (weight g) (greatest (numbers g)) g.links)
      (λ k m j. absurd j) l (links_taken l i) h

  pub staircase_spanning : Spanning g (staircase g)
  staircase_spanning = record {
    of_graph = staircase_of_graph;
    acyclic = staircase_acyclic;
    spans = λ a b r. joined_by_links g.n g.links (staircase g) links_inside each r;
  }
    where
      each : (l : Link) → InLinks l g.links → Joined g.n (staircase g) l.low l.high
      each l i = joined_mono g.n (heavy (weight g) 0 (staircase g)) (staircase g) (λ m j. staircase_inside m (in_heavy (weight g) 0 (staircase g) m j).0)
          (λ m j. (in_heavy (weight g) 0 (staircase g) m j).0) (staircase_joins 0 l i (omega arith))

  -- of each weight or more no forest has more links
  pub staircase_heaviest : (fs : List Link) → Spanning g fs → weighs (weight g) fs ≤ weighs (weight g) (staircase g)
  staircase_heaviest fs s = weighs_le (weight g) fs (staircase g) (λ w. forest_le g.n (heavy (weight g) w fs) (heavy (weight g) w (staircase g))
      (inside w) (kept_inside w)
      (grows_filter g.n (λ l. leb w (weight g l)) fs fs_inside (acyclic_grows g.n fs fs_inside s.acyclic))
      (grows_filter g.n (λ l. leb w (weight g l)) (staircase g) staircase_inside (acyclic_grows g.n (staircase g) staircase_inside staircase_acyclic))
      (λ u v r. joined_by_links g.n (heavy (weight g) w fs) (heavy (weight g) w (staircase g)) (inside w)
      (λ l i. let q = in_heavy (weight g) w fs l i in staircase_joins w l (s.of_graph l q.0) q.1) r))
    where
      fs_inside : Inside g.n fs
      fs_inside l i = links_inside l (s.of_graph l i)

      inside : (w : ℕ) → Inside g.n (heavy (weight g) w fs)
      inside w l i = fs_inside l (in_heavy (weight g) w fs l i).0

      kept_inside : (w : ℕ) → Inside g.n (heavy (weight g) w (staircase g))
      kept_inside w l i = staircase_inside l (in_heavy (weight g) w (staircase g) l i).0
