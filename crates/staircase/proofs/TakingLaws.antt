-- Links taken in turn: one link, as the code takes it; the loops' invariant, that what is left gives what the whole gives.
--   grown-..        what taking links does to lengths and to the count
--   taken-..        one link
--   Taking          the links `rest` are left of `whole`
use Rattle.std.specs.Prelude.{◌≡◌, ◌⊎◌, ◌∷◌, ◌++◌, ◌+◌, ◌*◌, ◌≤◌, ◌<◌}
use Rattle.lists.{specs.Kit.{refl, sym, ap, ◌∙◌, inl, inr, Bool, true, false, cond, List, [], map, ℕ, min, max, arith}}
use Rattle.lists.{specs.Kit.{eqb, length, get_or, set, length-append, eq-eqb, ne_eqb}, proofs.Tests.{trichotomy}}
use Rattle.mesh.{specs.Graph.{Link, link_of}, proofs.Tables.AscendingLinks.{in_links_left, in_links_right}}
use Rattle.forests.specs.Growing.{Growing, growing, relabelled, joined_up, grown_one, grown_all}
use Rattle.staircase.specs.{Taking.{Takeable, growth, Taken}, Parts.{Parents, roots, Rooted}, declared.forest.Forest.{Forest}}
use Rattle.staircase.proofs.PartLaws.{label_le, label_settled, label_parent, roots_joined}

-- ---- what grows

grown_all_append : (ls ms : List Link) (s : Growing) → grown_all (ls ++ ms) s ≡ grown_all ms (grown_all ls s)
unfolding grown_all
grown_all_append [] ms s = refl
grown_all_append (l ∷ ls) ms s = grown_all_append ls ms (grown_one l s)

-- the count grows by one a link, or not
grown_one_count : (l : Link) (s : Growing) → (grown_one l s).count ≤ s.count + 1
unfolding grown_one joined_up
grown_one_count l s = go (eqb (get_or s.labels l.low 0) (get_or s.labels l.high 0))
  where
    go : (t : Bool)
        → (cond {A = Growing} t s (joined_up l.low l.high (get_or s.labels l.low 0) (get_or s.labels l.high 0) s)).count ≤ s.count + 1
    go true = omega arith
    go false = omega arith

grown_all_count : (ls : List Link) (s : Growing) → (grown_all ls s).count ≤ s.count + length ls
unfolding grown_all
grown_all_count [] s = omega arith
grown_all_count (l ∷ ls) s = omega (arith, grown_all_count ls (grown_one l s), grown_one_count l s)

pub taken_count : (ls : List Link) (f e : Forest) → Taken ls f e → e.count ≤ f.count + length ls
taken_count ls f e t = omega (arith, ap (λ (s : Growing). s.count) t.is, grown_all_count ls (growth f))

-- ---- one link

module _ (a b : ℕ) (ps old : List ℕ) (c : ℕ) where
  abbrev l : Link
  l = link_of a b

  abbrev s : Growing
  s = growing (roots ps) old c

  -- what is left, with these parents, table and count
  abbrev Left : (qs new : List ℕ) → (r : ℕ) → Type 0
  Left qs new r = growing (roots qs) new r ≡ grown_all (l ∷ []) s

  -- its ends are of one part; ways may have become shorter
  taken_joined : (qs : List ℕ) → roots qs ≡ roots ps → get_or (roots ps) a 0 ≡ get_or (roots ps) b 0 → Left qs old c
  unfolding grown_all grown_one
  taken_joined qs e same = ap (λ (xs : List ℕ). growing xs old c) e ∙ rw (eq-eqb (get_or (roots ps) a 0) (get_or (roots ps) b 0) same)

  -- they have one parent
  pub taken_near : Parents ps → a < length ps → b < length ps → get_or ps a 0 ≡ get_or ps b 0 → Left ps old c
  taken_near up la lb e =
      taken_joined ps refl (sym (label_parent ps up a la) ∙ ap (λ (v : ℕ). get_or (roots ps) v 0) e ∙ label_parent ps up b lb)

  -- both roots were searched
  module _ (qs vs : List ℕ) (x y : ℕ) (one : Rooted ps a qs x) (two : Rooted qs b vs y) where
    same_roots : roots vs ≡ roots ps
    same_roots = two.same ∙ one.same

    other_root : y ≡ get_or (roots ps) b 0
    other_root = two.found ∙ ap (λ (xs : List ℕ). get_or xs b 0) one.same

    pub taken_same : x ≡ y → Left vs old c
    taken_same e = taken_joined vs same_roots (sym one.found ∙ e ∙ other_root)

    module _ (long : length vs ≡ length ps) (la : a < length ps) (lb : b < length ps) where
      root_of : (v z : ℕ) → v < length ps → z ≡ get_or (roots ps) v 0 → (get_or vs z 0 ≡ z) × (z ≤ v)
      root_of v z l is =
          let q : z ≡ get_or (roots vs) v 0 = is ∙ ap (λ (xs : List ℕ). get_or xs v 0) (sym same_roots) in
          (rw q (label_settled vs two.parents v (omega arith)), omega (arith, label_le vs two.parents v (omega arith)))

      pub higher_radio : max x y < length vs
      higher_radio = omega (arith, (root_of a x la one.found).1, (root_of b y lb other_root).1)

      pub taken_new : (lo hi : ℕ) (first new : List ℕ) → (x ≡ y → ⊥) → lo ≡ min x y → hi ≡ max x y → first ≡ set old (2 * c) a → new ≡ set first (2 * c + 1) b
          → Left (set vs hi lo) new (c + 1)
      unfolding grown_all grown_one joined_up
      taken_new lo hi first new ne el eh ef en =
          let hx = root_of a x la one.found in
          let hy = root_of b y lb other_root in
          let less : lo < hi = omega (arith, ne) in
          let top : hi < length vs = omega (arith, higher_radio) in
          let differ : get_or (roots ps) a 0 ≡ get_or (roots ps) b 0 → ⊥ = λ z. ne (one.found ∙ z ∙ sym other_root) in
          let own = owns (ends x y ne) hx hy in
          ap (λ (xs : List ℕ). growing xs new (c + 1))
          (roots_joined vs two.parents lo hi less top own.0 own.1 ∙ ap (map (relabelled lo hi)) same_roots)
          ∙ rw (ne_eqb (get_or (roots ps) a 0) (get_or (roots ps) b 0) differ, en, ef, el, eh, one.found, other_root)
        where
          ends : (x y : ℕ) → (x ≡ y → ⊥) → ((min x y ≡ x) × (max x y ≡ y)) ⊎ ((min x y ≡ y) × (max x y ≡ x))
          ends x y d = go (trichotomy x y)
            where
              go : (x < y) ⊎ ((x ≡ y) ⊎ (y < x)) → ((min x y ≡ x) × (max x y ≡ y)) ⊎ ((min x y ≡ y) × (max x y ≡ x))
              go (inl h) = inl (omega arith, omega arith)
              go (inr (inl h)) = absurd (d h)
              go (inr (inr h)) = inr (omega arith, omega arith)

          owns : ((min x y ≡ x) × (max x y ≡ y)) ⊎ ((min x y ≡ y) × (max x y ≡ x)) → (get_or vs x 0 ≡ x) × (x ≤ a) → (get_or vs y 0 ≡ y) × (y ≤ b)
              → (get_or vs lo 0 ≡ lo) × (get_or vs hi 0 ≡ hi)
          owns (inl h) hx hy = let p = el ∙ h.0 in let q = eh ∙ h.1 in (rw p hx.0, rw q hy.0)
          owns (inr h) hx hy = let p = el ∙ h.0 in let q = eh ∙ h.1 in (rw p hy.0, rw q hx.0)

-- ---- what may be taken

takeable_front : (f : Forest) (xs rest : List Link) → Takeable f (xs ++ rest) → Takeable f xs
takeable_front f xs rest t = record { inside = λ l i. t.inside l (in_links_left l xs rest i); few = omega (arith, t.few, length-append xs rest) }

takeable_rest : (f e : Forest) (xs rest : List Link) → Taken xs f e → Takeable f (xs ++ rest) → Takeable e rest
takeable_rest f e xs rest k t = record {
  inside = λ l i. let h = t.inside l (in_links_right l xs rest i) in (omega (arith, h.0, k.long), omega (arith, h.1, k.long));
  few = omega (arith, taken_count xs f e k, t.few, length-append xs rest);
}

-- ---- the loops' invariant

pub record Taking (whole : List Link) (start : Forest) (rest : List Link) (now : Forest) : Type 0 where
  pub table : now.table.ghost_name ≡ start.table.ghost_name
  pub long : length now.parents.now ≡ length start.parents.now
  pub ready : Takeable now rest
  pub is : grown_all rest (growth now) ≡ grown_all whole (growth start)

module _ (whole : List Link) (start : Forest) where
  -- `rest` is another way to say the whole
  pub taking_none : (rest : List Link) → rest ≡ whole → Takeable start whole → Taking whole start rest start
  taking_none rest e t = rw e (record { table = refl; long = refl; ready = t; is = refl })

  pub taking_front : (xs rest : List Link) (f : Forest) → Taking whole start (xs ++ rest) f → Takeable f xs
  taking_front xs rest f t = takeable_front f xs rest t.ready

  pub taking_part : (xs rest : List Link) (f e : Forest) → Taking whole start (xs ++ rest) f → Taken xs f e → Taking whole start rest e
  taking_part xs rest f e t k = record {
    table = k.table ∙ t.table;
    long = k.long ∙ t.long;
    ready = takeable_rest f e xs rest k t.ready;
    is = ap (grown_all rest) k.is ∙ sym (grown_all_append xs rest (growth f)) ∙ t.is;
  }

  pub taking_end : (rest : List Link) (f : Forest) → rest ≡ [] → Taking whole start rest f → Taken whole start f
  unfolding grown_all
  taking_end rest f e t = record {
    table = t.table;
    long = t.long;
    is = ap (λ (ls : List Link). grown_all ls (growth f)) (sym e) ∙ t.is;
  }

  -- the rest taken in one go
  pub taking_last : (rest : List Link) (f e : Forest) → Taking whole start rest f → Taken rest f e → Taken whole start e
  taking_last rest f e t k = record { table = k.table ∙ t.table; long = k.long ∙ t.long; is = k.is ∙ t.is }
