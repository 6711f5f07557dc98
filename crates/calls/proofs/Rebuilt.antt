-- Document 02, W-203: the links of a site, taken up in their order from a cleared one, rebuild it, and none is refused.
--   ups ls             the links ls, taken up in turn
--   ups_allowed        links that are wanted and down come up, where no radio has more than 40 wanted links
--   ups_pairs          the pairs after links came up in their order
--   rebuilt            from a cleared site: all links are allowed in turn, and the pairs are the site's
use Rattle.std.specs.Prelude.{◌≡◌, ◌⊎◌, ◌∷◌, ◌++◌, ◌≤◌, ◌<◌}
use Rattle.lists.{specs.Kit.{refl, sym, ap, subst, ◌∙◌, inl, inr, Bool, true, false, cond, List, [], append-nil, append_assoc, ℕ}}
use Rattle.lists.{specs.Kit.{arith}, specs.Lists.{range, count, member}, proofs.Tests.{bool_cases, never}, proofs.Range.{in_range}}
use Rattle.lists.{proofs.Count.{count_less}}
use Rattle.mesh.{specs.Limits.{max_neighbours}, specs.Graph.{Link, Graph, graph, InLinks, radios, other_ends, linked, neighbours_among, degree, link}}
use Rattle.mesh.{specs.Graph.{link_before, with_link, new_links, relinked, proper, ascending, Allowed}, specs.Valid.{Valid}, proofs.GraphLaws.{ends, Ends}}
use Rattle.mesh.{proofs.GraphLaws.{ends_of, linked_sym, proper_of, of_proper, proper_new_links}, proofs.Tables.Relinked.{linked_relinked, ascending_new_links}}
use Rattle.mesh.{proofs.Tables.AscendingLinks.{in_links_right, in_links_proper, Before, before_irreflexive, before_trans, before_of, link_eq, Sorted}}
use Rattle.mesh.{proofs.Tables.AscendingLinks.{sorted_of, in_linked, link_less}}
use Rattle.calls.specs.Switches.{Switch, switch, pairs_after, AllAllowed}

unfoldable pub ups : List Link → List Switch
ups [] = []
ups (l ∷ ls) = switch true l.low l.high ∷ ups ls

-- ---- one link

-- two links that are not the same have not the same ends
apart : (l m : Link) → l.low < l.high → m.low < m.high → Before l m → ends l.low l.high m.low m.high ≡ false
apart l m p q b = go (bool_cases (ends l.low l.high m.low m.high))
  where
    same : Ends l.low l.high m.low m.high → ⊥
    same (inl e) = before_irreflexive m (subst (λ (z : Link). Before z m) (link_eq l m (sym e.0) (sym e.1)) b)
    same (inr e) = omega (arith, e.0, e.1)

    go : (ends l.low l.high m.low m.high ≡ true) ⊎ (ends l.low l.high m.low m.high ≡ false) → ends l.low l.high m.low m.high
        ≡ false
    go (inl e) = absurd (same (ends_of l.low l.high m.low m.high e))
    go (inr e) = e

module _ (n : ℕ) where
  -- the pairs of a site stand in their order
  pub record PairsGood (ps : List Link) : Type 0 where
    pub links_proper : proper n ps ≡ true
    pub links_ascending : ascending ps ≡ true

  abbrev up_pairs : Link → List Link → List Link
  up_pairs l ps = new_links true l.low l.high ps

  abbrev UpAllowed : Link → List Link → Type 0
  UpAllowed l ps = Allowed max_neighbours true l.low l.high (graph n ps)

  good_up : (l : Link) (ps : List Link) → PairsGood ps → UpAllowed l ps → PairsGood (up_pairs l ps)
  good_up l ps g ok =
      record {
        links_proper = of_proper n (up_pairs l ps) (proper_new_links true l.low l.high n ps ok.a_radio ok.b_radio ok.differ
            (proper_of n ps g.links_proper));
        links_ascending = ascending_new_links true l.low l.high (graph n ps) g.links_ascending ok.state;
      }

  linked_up : (l : Link) (ps : List Link) → PairsGood ps → UpAllowed l ps → (v w : ℕ)
      → linked (graph n (up_pairs l ps)) v w ≡ cond (ends l.low l.high v w) true (linked (graph n ps) v w)
  unfolding relinked
  linked_up l ps g ok v w =
      linked_relinked true l.low l.high (graph n ps) g.links_proper g.links_ascending ok.a_radio ok.b_radio ok.differ v w

  -- ---- links that come up

  -- what is wanted: both ways, at most 40 of each radio
  pub record Wanted (w : ℕ → ℕ → Bool) : Type 0 where
    pub symmetric : (a b : ℕ) → w a b ≡ w b a
    pub few : (a : ℕ) → a < n → count (w a) (range 0 n) ≤ max_neighbours

  -- a link to come up: lower radio first, wanted, down
  pub record Coming (w : ℕ → ℕ → Bool) (ps : List Link) (l : Link) : Type 0 where
    pub lower : l.low < l.high
    pub radio : l.high < n
    pub wanted : w l.low l.high ≡ true
    pub down : linked (graph n ps) l.low l.high ≡ false

  module _ (w : ℕ → ℕ → Bool) (good : Wanted w) where
    -- no link is up that is not wanted
    abbrev Within : List Link → Type 0
    Within ps = (a b : ℕ) → linked (graph n ps) a b ≡ true → w a b ≡ true

    up_allowed : (ps : List Link) → Within ps → (l : Link) → Coming w ps l → UpAllowed l ps
    unfolding degree neighbours_among radios
    up_allowed ps sub l c = record {
      a_radio = omega (arith, c.lower, c.radio);
      b_radio = c.radio;
      differ = λ e. omega (arith, c.lower);
      state = c.down;
      room = λ e. (
        omega (arith, room l.low l.high (omega (arith, c.lower, c.radio)) c.radio c.down c.wanted),
        omega (
          arith,
          room l.high l.low c.radio (omega (arith, c.lower, c.radio)) (linked_sym (graph n ps) l.high l.low ∙ c.down)
              (good.symmetric l.high l.low ∙ c.wanted),
        ),
      );
    }
      where
        room : (a b : ℕ) → a < n → b < n → linked (graph n ps) a b ≡ false → w a b ≡ true → count (linked (graph n ps) a) (range 0 n) < max_neighbours
        room a b la lb d e =
            omega (
              arith,
              count_less (linked (graph n ps) a) (w a) b (range 0 n) (in_range 0 n b (omega arith) (omega arith)) d e (λ y m. sub a y),
              good.few a
                  la,
            )

    -- what is linked stays wanted
    up_within : (ps : List Link) → PairsGood ps → Within ps → (l : Link) → Coming w ps l → UpAllowed l ps → Within (up_pairs l ps)
    up_within ps g sub l c ok a b h = go (ends l.low l.high a b) refl (sym (linked_up l ps g ok a b) ∙ h)
      where
        at : Ends l.low l.high a b → w a b ≡ true
        at (inl e) = rw (e.0, e.1) c.wanted
        at (inr e) = rw (e.0, e.1) (good.symmetric l.high l.low ∙ c.wanted)

        go : (t : Bool) → ends l.low l.high a b ≡ t → cond t true (linked (graph n ps) a b) ≡ true → w a b ≡ true
        go true e q = at (ends_of l.low l.high a b e)
        go false e q = sub a b q

    -- another link to come up is still down
    still_coming : (ps : List Link) → PairsGood ps → (l m : Link) → Coming w ps l → Coming w ps m → Before l m → UpAllowed l ps → Coming w (up_pairs l ps) m
    still_coming ps g l m c d b ok = record {
      lower = d.lower;
      radio = d.radio;
      wanted = d.wanted;
      down = linked_up l ps g ok m.low m.high ∙ rw (apart l m c.lower d.lower b) d.down;
    }

    pub ups_allowed :
        (ls ps : List Link) → PairsGood ps → Within ps → Sorted ls → ((l : Link) → InLinks l ls → Coming w ps l) → AllAllowed n ps (ups ls)
    unfolding ups AllAllowed
    ups_allowed [] ps g sub s c = tt
    ups_allowed (l ∷ ls) ps g sub s c =
        let ok = up_allowed ps sub l (c l (inl refl)) in (
          ok,
          ups_allowed ls (up_pairs l ps) (good_up l ps g ok) (up_within ps g sub l (c l (inl refl)) ok) s.1
              (λ m i. still_coming ps g l m (c l (inl refl)) (c m (inr i)) (s.0 m i) ok),
        )

-- ---- the pairs after it

-- a link behind all others goes to the end
with_link_last : (l : Link) (ps : List Link) → ((m : Link) → InLinks m ps → Before m l) → with_link l ps ≡ ps ++ (l ∷ [])
unfolding with_link
with_link_last l [] h = refl
with_link_last l (p ∷ ps) h = go (link_before l p) refl (with_link_last l ps (λ m i. h m (inr i)))
  where
    go : (t : Bool) → link_before l p ≡ t → with_link l ps ≡ ps ++ (l ∷ []) → cond {A = List Link} t (l ∷ p ∷ ps) (p ∷ with_link l ps) ≡ p ∷ (ps ++ (l ∷ []))
    go true e rec = absurd (before_irreflexive l (before_trans l p l (before_of l p e) (h p (inl refl))))
    go false e rec = ap (λ (z : List Link). p ∷ z) rec

sorted_before : (ps : List Link) (l : Link) (ls : List Link) → Sorted (ps ++ (l ∷ ls)) → (m : Link) → InLinks m ps → Before m l
sorted_before [] l ls s m x'' = elim x'' [ ]
sorted_before (p ∷ ps) l ls s m (inl e) = subst (λ (z : Link). Before z l) e (s.0 l (in_links_right l ps (l ∷ ls) (inl refl)))
sorted_before (p ∷ ps) l ls s m (inr i) = sorted_before ps l ls s.1 m i

pub ups_pairs : (ls ps : List Link) → Sorted (ps ++ ls) → ((l : Link) → InLinks l ls → l.low < l.high) → pairs_after (ups ls) ps ≡ ps ++ ls
unfolding pairs_after ups new_links
ups_pairs [] ps s h = sym (append-nil ps)
ups_pairs (l ∷ ls) ps s h =
    let one : with_link (link l.low l.high) ps ≡ ps ++ (l ∷ []) = rw (link_less l.low l.high (h l (inl refl)))
    (with_link_last l ps (sorted_before ps l ls s)) in
    let more : (ps ++ (l ∷ [])) ++ ls ≡ ps ++ (l ∷ ls) = append_assoc ps (l ∷ []) ls in
    ap (pairs_after (ups ls)) one
    ∙ ups_pairs ls (ps ++ (l ∷ [])) (subst (λ (z : List Link). Sorted z) (sym more) s) (λ m i. h m (inr i))
    ∙ more

-- ---- the whole site

pub record Rebuilt (g : Graph) : Type 0 where
  pub allowed : AllAllowed g.n [] (ups g.links)
  pub pairs : pairs_after (ups g.links) [] ≡ g.links

pub rebuilt : (g : Graph) (xs : List ℕ) → Valid max_neighbours g xs → Rebuilt g
unfolding degree neighbours_among radios linked other_ends member proper ascending
rebuilt g xs v = record {
  allowed =
      ups_allowed g.n (linked g) (record { symmetric = linked_sym g; few = v.degrees }) g.links []
      (record { links_proper = refl; links_ascending = refl })
      (λ a b h. never false h refl) sorted coming;
  pairs = ups_pairs g.links [] sorted (λ l i. (ends_of_link l i).0);
}
  where
    sorted : Sorted g.links
    sorted = sorted_of g.links v.links_ascending

    ends_of_link : (l : Link) → InLinks l g.links → (l.low < l.high) × (l.high < g.n)
    ends_of_link l i = in_links_proper g.n g.links l (proper_of g.n g.links v.links_proper) i

    coming : (l : Link) → InLinks l g.links → Coming g.n (linked g) [] l
    coming l i =
        let p = ends_of_link l i in
        record { lower = p.0; radio = p.1; wanted = in_linked g.links l.low l.high (rw (link_less l.low l.high p.0) i); down = refl }
