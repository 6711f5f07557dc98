-- What an accepted link call on a valid site keeps and changes, up and down alike: the theorems that demand 3 rests on.
--   link_valid       links, degrees and k-order are valid again
--   link_level       changed radios stood at the lower end's level
--   link_by_one      they change by one: up from the graph without the link to the graph with it
--   link_connected   they are connected through one another alone, in the graph that has the link
--   link_has_end     they include an end (which stood at that level, by link_level)
--   link_below, link_above, link_stretch   the order changes in the stretch of that level alone, which is laid out as document 01 says
--   link_table       two bits of the links table change
use Rattle.std.specs.Prelude.{◌≡◌, ◌⊎◌, ◌++◌, ◌+◌, ◌≤◌, ◌<◌}
use Rattle.lists.{specs.Kit.{refl, sym, ap, ◌∙◌, inl, inr, Bool, true, false, List, append_assoc, ℕ, suc, arith, le_trans, eqb}}
use Rattle.lists.{specs.Kit.{length, take, drop, eqb-true, eqb-false}, specs.Lists.{range, member}, proofs.Tests.{bool_cases}, proofs.Count.{count_all}}
use Rattle.lists.{proofs.Count.{count_mono}, proofs.Range.{distinct_range}}
use Rattle.mesh.specs.{Limits.{max_radios}, Graph.{Graph, radios, linked, neighbours_among, degree, relinked, Allowed}, Cores.{number}, Levels.{changed}}
use Rattle.mesh.specs.{Levels.{lower_level, stretch_start, stretch_length, new_stretch, new_order}, Tables.{put_link, links_table}, Connected.{Reachable}}
use Rattle.mesh.specs.{Peel.{bound}, Valid.{Valid, smaller, larger}}
use Rattle.mesh.proofs.{GraphLaws.{Ends, Adds, relinked_adds}, Links.Peel.{Peeling, peeling, takes_permutation}, Links.Moves.{adds_elsewhere}}
use Rattle.mesh.proofs.{Links.Moves.{adds_least, adds_most}, Links.LevelCut.{lows, mids, highs, take_below, take_level, drop_above}}
use Rattle.mesh.proofs.{Links.Call.{link_adds, cut, start_is, length_is, relinked_proper, changed_below, changed_level, changed_numbers}}
use Rattle.mesh.proofs.{Links.Call.{unchanged_numbers, new_stretch_is, new_order_is, new_order_k_order}, Links.Connectedness.{changed_connected}}
use Rattle.mesh.proofs.{Links.Connectedness.{changed_has_end}, Tables.Relinked.{ascending_new_links, links_table_relinked}}

-- ---- degrees

-- at most one neighbour more, and only at an end
degree_ends : (p q : Graph) (a b most : ℕ) → Adds p q a b → degree p a < most → degree p b < most
    → (v : ℕ) → degree p v ≤ most → degree q v ≤ most
unfolding degree neighbours_among radios linked
degree_ends p q a b most apart la lb v l = go (bool_cases (eqb v a)) (bool_cases (eqb v b))
  where
    more : degree q v ≤ suc (degree p v)
    more = rw apart.same_n (adds_most apart v (range 0 q.n) (distinct_range 0 q.n))

    same : (v ≡ a → ⊥) → (v ≡ b → ⊥) → degree q v ≤ degree p v
    same na nb = rw apart.same_n (count_mono (linked q v) (linked p v) (range 0 q.n) (λ w m h. adds_elsewhere apart v w out ∙ h))
      where
        out : {w : ℕ} → Ends a b v w → ⊥
        out (inl e) = na e.0
        out (inr e) = nb e.0

    go : (eqb v a ≡ true) ⊎ (eqb v a ≡ false) → (eqb v b ≡ true) ⊎ (eqb v b ≡ false) → degree q v ≤ most
    go (inl e) f = omega (arith, more, ap (degree p) (eqb-true v a e))
    go (inr e) (inl f) = omega (arith, more, ap (degree p) (eqb-true v b f))
    go (inr e) (inr f) = le_trans (same (eqb-false v a e) (eqb-false v b f)) l

degree_least : {p q : Graph} {a b : ℕ} → Adds p q a b → (v : ℕ) → degree p v ≤ degree q v
unfolding degree neighbours_among radios linked
degree_least {p} {q} apart v = rw apart.same_n (adds_least apart v (range 0 q.n))

link_degrees : (most : ℕ) (u : Bool) (a b : ℕ) (g : Graph) → Allowed most u a b g → ((v : ℕ) → v < g.n → degree g v ≤ most)
    → (v : ℕ) → v < g.n → degree (relinked u a b g) v ≤ most
unfolding smaller larger
link_degrees most true a b g ok h v l =
    let room = ok.room refl in
    degree_ends g (relinked true a b g) a b most (relinked_adds true a b g ok.differ ok.state) room.0 room.1 v (h v l)
link_degrees most false a b g ok h v l = le_trans (degree_least (relinked_adds false a b g ok.differ ok.state) v) (h v l)

-- ---- one accepted call

module _ (most : ℕ) (u : Bool) (a b : ℕ) (g : Graph) (xs : List ℕ) (valid : Valid most g xs) (ok : Allowed most u a b g) where
  abbrev K : ℕ
  K = lower_level g a b

  abbrev start : ℕ
  start = stretch_start g K

  abbrev many : ℕ
  many = stretch_length g K

  abbrev level_part : List ℕ
  level_part = mids (number g) K xs

  abbrev high_part : List ℕ
  high_part = highs (number g) K xs

  peel : Peeling (linked (relinked u a b g)) (bound u K) high_part level_part
  peel = peeling (linked (relinked u a b g)) (bound u K) high_part level_part

  pub link_valid : Valid most (relinked u a b g) (new_order u a b g xs)
  unfolding relinked
  link_valid = record {
    links_proper = relinked_proper most u a b g xs valid ok;
    links_ascending = ascending_new_links u a b g valid.links_ascending ok.state;
    degrees = link_degrees most u a b g ok valid.degrees;
    k_order = new_order_k_order most u a b g xs valid ok peel;
  }

  -- ---- the changed radios

  pub link_level : (x : ℕ) → member x (changed u a b g) ≡ true → number g x ≡ K
  link_level = changed_level most u a b g xs valid ok peel

  pub link_by_one : (x : ℕ) → member x (changed u a b g) ≡ true → number (larger u a b g) x ≡ suc (number (smaller u a b g) x)
  link_by_one x m = let r = changed_numbers most u a b g xs valid ok peel x m in r.1 ∙ ap suc (sym r.0)

  larger_n : (larger u a b g).n ≡ g.n
  unfolding larger relinked
  larger_n = go u
    where
      go : (w : Bool) → (larger w a b g).n ≡ g.n
      go true = refl
      go false = refl

  pub link_connected : (x y : ℕ) → member x (changed u a b g) ≡ true → member y (changed u a b g) ≡ true
      → Reachable (larger u a b g) (λ z. member z (changed u a b g)) x y
  link_connected =
      changed_connected (link_adds most u a b g xs valid ok) (rw larger_n ok.a_radio) (rw larger_n ok.b_radio) (bound u K) (changed u a b g)
      (λ v m. rw larger_n (changed_below u a b g v m)) (changed_numbers most u a b g xs valid ok peel)
      (λ v l m. unchanged_numbers most u a b g xs valid ok peel v (rw larger_n at l) m)

  pub link_has_end : (x : ℕ) → member x (changed u a b g) ≡ true → (member a (changed u a b g) ≡ true) ⊎ (member b (changed u a b g) ≡ true)
  link_has_end =
      changed_has_end (link_adds most u a b g xs valid ok) (rw larger_n ok.a_radio) (rw larger_n ok.b_radio) (bound u K) (changed u a b g)
      (λ v m. rw larger_n (changed_below u a b g v m)) (changed_numbers most u a b g xs valid ok peel)
      (λ v l m. unchanged_numbers most u a b g xs valid ok peel v (rw larger_n at l) m)

  -- ---- the order

  abbrev fresh : List ℕ
  fresh = peel.taken ++ peel.stuck

  old_cut : xs ≡ lows (number g) K xs ++ (level_part ++ high_part)
  old_cut = cut most u a b g xs valid ok

  new_cut : new_order u a b g xs ≡ lows (number g) K xs ++ (fresh ++ high_part)
  new_cut = new_order_is most u a b g xs valid ok peel ∙ ap (λ (z : List ℕ). lows (number g) K xs ++ z)
      (sym (append_assoc peel.taken peel.stuck high_part))

  start_at : start ≡ length (lows (number g) K xs)
  start_at = start_is most u a b g xs valid ok peel

  many_old : many ≡ length level_part
  many_old = length_is most u a b g xs valid ok peel

  many_new : many ≡ length fresh
  many_new = omega (
    arith,
    many_old,
    count_all level_part,
    count_all fresh,
    takes_permutation (linked (relinked u a b g)) (bound u K) high_part peel.peels.takes (λ x. true),
  )

  pub link_below : take start (new_order u a b g xs) ≡ take start xs
  link_below =
      take_below (lows (number g) K xs) fresh high_part (new_order u a b g xs) start many new_cut start_at many_new
      ∙ sym (take_below (lows (number g) K xs) level_part high_part xs start many old_cut start_at many_old)

  pub link_above : drop (start + many) (new_order u a b g xs) ≡ drop (start + many) xs
  link_above =
      drop_above (lows (number g) K xs) fresh high_part (new_order u a b g xs) start many new_cut start_at many_new
      ∙ sym (drop_above (lows (number g) K xs) level_part high_part xs start many old_cut start_at many_old)

  pub link_stretch : take many (drop start (new_order u a b g xs))
      ≡ new_stretch u (relinked u a b g) K (changed u a b g) (take many (drop start xs)) (drop (start + many) xs)
  link_stretch =
      take_level (lows (number g) K xs) fresh high_part (new_order u a b g xs) start many new_cut start_at many_new
      ∙ rw (
        take_level (lows (number g) K xs) level_part high_part xs start many old_cut start_at many_old,
        drop_above (lows (number g) K xs) level_part high_part xs start many old_cut start_at many_old,
      )
      (sym (new_stretch_is most u a b g xs valid ok peel))

  -- ---- the links table

  pub link_table : g.n ≤ max_radios → links_table (relinked u a b g) ≡ put_link u a b (links_table g)
  link_table small =
      links_table_relinked u a b g valid.links_proper valid.links_ascending ok.a_radio ok.b_radio ok.differ small
