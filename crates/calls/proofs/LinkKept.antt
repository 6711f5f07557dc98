-- What an accepted link call on a valid site keeps, as demand 3 states it: the theory of mesh, said of tables.
use Rattle.std.specs.Prelude.{◌≡◌, ◌⊎◌, ◌≤◌, ◌<◌}
use Rattle.lists.{specs.Kit.{refl, sym, ◌∙◌, inl, inr, Bool, true, false, List, ℕ, suc, arith, ltb, length, List·getD-eq-default, ltb-true}}
use Rattle.lists.{specs.Kit.{ltb-false}, specs.Lists.{member}, proofs.Tests.{bool_cases}}
use Rattle.mesh.{specs.Limits.{max_radios, max_neighbours}, specs.Graph.{Graph, relinked, Allowed}, specs.Cores.{number, numbers}, specs.Levels.{changed}}
use Rattle.mesh.{specs.Levels.{lower_level, new_order}, specs.Tables.{tables_of}, specs.Sound.{number_in}, proofs.Cores.Peeling.{length_numbers, get_d_numbers}}
use Rattle.mesh.{specs.Valid.{Valid, smaller, larger}, proofs.Links.Call.{changed_below, unchanged_number}, proofs.Links.Laws.{link_level, link_by_one}}
use Rattle.mesh.{proofs.Links.Laws.{link_connected, link_has_end, link_below, link_above, link_stretch, link_table}}
use Rattle.calls.specs.{Book.{reported}, Demand.{ByOne, graph_with_link, ChangedEnd, LinkKept}}

by_one_at : (u : Bool) (a b : ℕ) (g : Graph) (x : ℕ) → number (larger u a b g) x ≡ suc (number (smaller u a b g) x) → ByOne u (number g x)
    (number (relinked u a b g) x)
unfolding ByOne larger smaller
by_one_at true a b g x e = e
by_one_at false a b g x e = e

larger_graph : (u : Bool) (a b : ℕ) (g : Graph) → graph_with_link u a b g ≡ larger u a b g
unfolding graph_with_link larger
larger_graph true a b g = refl
larger_graph false a b g = refl

-- ---- the call

module _ (u : Bool) (a b : ℕ) (g : Graph) (xs : List ℕ) (small : g.n ≤ max_radios) (valid : Valid max_neighbours g xs)
    (ok : Allowed max_neighbours u a b g) where
  number_after : (x : ℕ) → x < g.n → number_in (numbers (relinked u a b g)) x ≡ number (relinked u a b g) x
  unfolding relinked
  number_after x l = get_d_numbers (relinked u a b g) x l

  length_after : length (numbers (relinked u a b g)) ≡ length (numbers g)
  unfolding relinked
  length_after = length_numbers (relinked u a b g) ∙ sym (length_numbers g)

  elsewhere : (x : ℕ) → member x (changed u a b g) ≡ false → number_in (numbers (relinked u a b g)) x ≡ number_in (numbers g) x
  elsewhere x h = go (bool_cases (ltb x g.n))
    where
      go : (ltb x g.n ≡ true) ⊎ (ltb x g.n ≡ false) → number_in (numbers (relinked u a b g)) x ≡ number_in (numbers g) x
      go (inl e) =
          let l = ltb-true x g.n e in number_after x l ∙ sym (unchanged_number u a b g x l h) ∙ sym (get_d_numbers g x l)
      go (inr e) =
          let l : length (numbers g) ≤ x = omega (arith, length_numbers g, ltb-false x g.n e) in
          let m : length (numbers (relinked u a b g)) ≤ x = omega (arith, length_after) in
          List·getD-eq-default (numbers (relinked u a b g)) 0 m ∙ sym (List·getD-eq-default (numbers g) 0 l)

  end_of : (x : ℕ) → member x (changed u a b g) ≡ true → ChangedEnd g (lower_level g a b) (changed u a b g) x
  end_of x h = record { listed = h; level = link_level max_neighbours u a b g xs valid ok x h }

  ends : (member a (changed u a b g) ≡ true) ⊎ (member b (changed u a b g) ≡ true) →
      ChangedEnd g (lower_level g a b) (changed u a b g) a ⊎ ChangedEnd g (lower_level g a b) (changed u a b g) b
  ends (inl h) = inl (end_of a h)
  ends (inr h) = inr (end_of b h)

  pub link_kept : LinkKept u a b g (tables_of g xs) (reported u (changed u a b g)) (tables_of (relinked u a b g) (new_order u a b g xs))
  unfolding LinkKept reported tables_of
  link_kept = record {
    reports = refl;
    level = λ x h. get_d_numbers g x (changed_below u a b g x h) ∙ link_level max_neighbours u a b g xs valid ok x h;
    by_one = λ x h.
        let l = changed_below u a b g x h in
        rw (get_d_numbers g x l, number_after x l) (by_one_at u a b g x (link_by_one max_neighbours u a b g xs valid ok x h));
    links = link_table max_neighbours u a b g xs valid ok small;
    numbers_length = length_after;
    numbers = elsewhere;
    below = link_below max_neighbours u a b g xs valid ok;
    above = link_above max_neighbours u a b g xs valid ok;
    stretch = link_stretch max_neighbours u a b g xs valid ok;
    connected = λ x y p q. rw (larger_graph u a b g) (link_connected max_neighbours u a b g xs valid ok x y p q);
    has_end = λ x h. ends (link_has_end max_neighbours u a b g xs valid ok x h);
  }
