-- A list of links taken up, or taken down, one after the other.
--   Ordered n ps    links as the book keeps them: proper and ascending
--   pairs_eq        such links are told by which radios they join
--   Room G ps ls    links and list lie in a graph G in which no radio has too many neighbours
--   switches_of     the links of a list going up or down
--   turns           the links of a sorted list may be taken up or down in turn, and what is then linked
use Rattle.std.specs.Prelude.{◌≡◌, ◌||◌, ◌∷◌, ◌≤◌, ◌<◌}
use Rattle.lists.{specs.Kit.{refl, sym, ap, subst, ◌∙◌, inl, inr, Bool, true, false, not, cond, List, [], ℕ, arith}}
use Rattle.lists.{specs.Lists.{range, count, member}, proofs.Count.{count_less}, proofs.Range.{range_in, in_range}}
use Rattle.mesh.{specs.Limits.{max_neighbours}, specs.Graph.{Link, Graph, graph, InLinks, radios, other_ends, linked, neighbours_among, degree, relinked}}
use Rattle.mesh.{specs.Graph.{new_links, proper, ascending, Allowed}, proofs.GraphLaws.{Ends, ends, ends_of, linked_by, linked_by_cons, linked_sym, joins}}
use Rattle.mesh.{proofs.GraphLaws.{Proper, proper_of, of_proper, proper_new_links}, proofs.Tables.AscendingLinks.{Before, Sorted, sorted_of, sorted_eq}}
use Rattle.mesh.{proofs.Tables.AscendingLinks.{in_links_proper, link_less, in_linked, linked_in}, proofs.Tables.Relinked.{linked_relinked, ascending_new_links}}
use Rattle.calls.specs.Switches.{Switch, switch, pairs_after, AllAllowed}

pub record Ordered (n : ℕ) (ps : List Link) : Type 0 where
  pub is_proper : proper n ps ≡ true
  pub is_ascending : ascending ps ≡ true

-- ---- told by which radios they join

abbrev SameJoins : (n : ℕ) → (ps qs : List Link) → Type 0
SameJoins n ps qs = (v w : ℕ) → v < n → w < n → linked (graph n ps) v w ≡ linked (graph n qs) v w

pairs_sub : (n : ℕ) (ps qs : List Link) → Ordered n ps → Ordered n qs → SameJoins n ps qs → (m : Link) → InLinks m ps → InLinks m qs
unfolding linked
pairs_sub n ps qs p q h m i =
    let k = in_links_proper n ps m (proper_of n ps p.is_proper) i in
    let e = link_less m.low m.high k.0 in
    let j = in_linked ps m.low m.high (subst (λ (l : Link). InLinks l ps) (sym e) i) in
    subst (λ (l : Link). InLinks l qs) e
    (linked_in n qs m.low m.high (proper_of n qs q.is_proper) (sym (h m.low m.high (omega (arith, k.0, k.1)) k.1) ∙ j))

pub pairs_eq :
    (n : ℕ) (ps qs : List Link) → Ordered n ps → Ordered n qs → ((v w : ℕ) → v < n → w < n → linked (graph n ps) v w ≡ linked (graph n qs) v w) → ps ≡ qs
pairs_eq n ps qs p q h =
    sorted_eq ps qs (sorted_of ps p.is_ascending) (sorted_of qs q.is_ascending)
    (pairs_sub n ps qs p q h) (pairs_sub n qs ps q p (λ v w a b. sym (h v w a b)))

-- ---- one link

pub ordered_switched :
    (n : ℕ) (ps : List Link) (u : Bool) (a b : ℕ) → Ordered n ps → Allowed max_neighbours u a b (graph n ps) → Ordered n (new_links u a b ps)
ordered_switched n ps u a b p ok = record {
  is_proper = of_proper n (new_links u a b ps) (proper_new_links u a b n ps ok.a_radio ok.b_radio ok.differ (proper_of n ps p.is_proper));
  is_ascending = ascending_new_links u a b (graph n ps) p.is_ascending ok.state;
}

pub linked_switched :
    (n : ℕ) (ps : List Link) (u : Bool) (a b : ℕ) → Ordered n ps → Allowed max_neighbours u a b (graph n ps) → (v w : ℕ) →
    linked (graph n (new_links u a b ps)) v w ≡ cond (ends a b v w) u (linked (graph n ps) v w)
unfolding relinked
linked_switched n ps u a b p ok v w =
    linked_relinked u a b (graph n ps) p.is_proper p.is_ascending ok.a_radio ok.b_radio ok.differ v w

-- ---- room

pub record Room (n : ℕ) (G : Graph) (ps ls : List Link) : Type 0 where
  pub same_n : G.n ≡ n
  pub inside : (v w : ℕ) → v < n → w < n → linked (graph n ps) v w ≡ true → linked G v w ≡ true
  pub listed : (l : Link) → InLinks l ls → linked G l.low l.high ≡ true
  pub few : (v : ℕ) → v < n → degree G v ≤ max_neighbours

room_at :
    (n : ℕ) (G : Graph) (ps ls : List Link) → Room n G ps ls → (v w : ℕ) → v < n → w < n → linked (graph n ps) v w ≡ false → linked G v w ≡ true →
    degree (graph n ps) v < max_neighbours
unfolding degree neighbours_among radios linked
room_at n G ps ls r v w lv lw p q =
    let c =
    count_less (linked (graph n ps) v) (linked G v) w (range 0 n) (in_range 0 n w (omega arith) (omega arith)) p q
    (λ x m. r.inside v x lv (omega (arith, range_in 0 n x m))) in
    let d : count (linked G v) (range 0 n) ≤ max_neighbours = rw r.same_n at (r.few v lv) in omega arith

-- ---- in turn

-- two links of a sorted list have not the same ends
apart : (l m : Link) → l.low < l.high → m.low < m.high → Before l m → ends l.low l.high m.low m.high ≡ true → ⊥
apart l m p q b e = go b (ends_of l.low l.high m.low m.high e)
  where
    go : Before l m → Ends l.low l.high m.low m.high → ⊥
    go (inl h) (inl f) = omega (arith, f.0)
    go (inl h) (inr f) = omega (arith, f.0, f.1)
    go (inr h) (inl f) = omega (arith, h.1, f.1)
    go (inr h) (inr f) = omega (arith, h.0, f.0, f.1)

unfoldable pub switches_of : (up : Bool) → List Link → List Switch
switches_of u [] = []
switches_of u (l ∷ ls) = switch u l.low l.high ∷ switches_of u ls

pub record Turned (n : ℕ) (u : Bool) (ls ps : List Link) : Type 0 where
  pub allowed : AllAllowed n ps (switches_of u ls)
  pub ordered : Ordered n (pairs_after (switches_of u ls) ps)
  pub joined : (v w : ℕ) → linked (graph n (pairs_after (switches_of u ls) ps)) v w ≡ cond (linked_by ls v w) u (linked (graph n ps) v w)

cond_or : (x y u z : Bool) → cond y u (cond x u z) ≡ cond (x || y) u z
cond_or true true u z = refl
cond_or true false u z = refl
cond_or false true u z = refl
cond_or false false u z = refl

cond_not : (x u z : Bool) → (x ≡ true → ⊥) → cond x u z ≡ z
cond_not true u z h = absurd (h refl)
cond_not false u z h = refl

module _ (n : ℕ) (u : Bool) (G : Graph) (l : Link) (ls ps : List Link) (p : Proper n (l ∷ ls)) (good : Ordered n ps)
    (free : (m : Link) → InLinks m (l ∷ ls) → linked (graph n ps) m.low m.high ≡ not u) (room : u ≡ true → Room n G ps (l ∷ ls)) where
  first_allowed : Allowed max_neighbours u l.low l.high (graph n ps)
  first_allowed = record {
    a_radio = omega (arith, p.0, p.1);
    b_radio = p.1;
    differ = λ e. omega (arith, p.0);
    state = free l (inl refl);
    room = λ e.
        let r = room e in
        let f : linked (graph n ps) l.low l.high ≡ false = free l (inl refl) ∙ ap not e in
        let g = r.listed l (inl refl) in (
          room_at n G ps (l ∷ ls) r l.low l.high (omega (arith, p.0, p.1)) p.1 f g,
          room_at n G ps (l ∷ ls) r l.high l.low p.1 (omega (arith, p.0, p.1))
              (linked_sym (graph n ps) l.high l.low ∙ f) (linked_sym G l.high l.low ∙ g),
        );
  }

  abbrev next_pairs : List Link
  next_pairs = new_links u l.low l.high ps

  next_linked : (v w : ℕ) → linked (graph n next_pairs) v w ≡ cond (joins l v w) u (linked (graph n ps) v w)
  next_linked = linked_switched n ps u l.low l.high good first_allowed

  next_free : Sorted (l ∷ ls) → (m : Link) → InLinks m ls → linked (graph n next_pairs) m.low m.high ≡ not u
  next_free s m i =
      next_linked m.low m.high
      ∙ cond_not (joins l m.low m.high) u _ (apart l m p.0 (in_links_proper n ls m p.2 i).0 (s.0 m i))
      ∙ free m (inr i)

  next_room : u ≡ true → Room n G next_pairs ls
  next_room e =
      let r = room e in
      record {
        same_n = r.same_n;
        inside = λ v w lv lw h. go r v w lv lw (joins l v w) refl (sym (next_linked v w) ∙ h);
        listed = λ m i. r.listed m (inr i);
        few = r.few;
      }
    where
      at_ends : Room n G ps (l ∷ ls) → (v w : ℕ) → Ends l.low l.high v w → linked G v w ≡ true
      at_ends r v w (inl f) = rw (f.0, f.1) (r.listed l (inl refl))
      at_ends r v w (inr f) = rw (f.0, f.1) (linked_sym G l.high l.low ∙ r.listed l (inl refl))

      go : Room n G ps (l ∷ ls) → (v w : ℕ) → v < n → w < n → (x : Bool) → joins l v w ≡ x → cond x u (linked (graph n ps) v w) ≡ true → linked G v w ≡ true
      go r v w lv lw true f h = at_ends r v w (ends_of l.low l.high v w f)
      go r v w lv lw false f h = r.inside v w lv lw h

pub turns :
    (n : ℕ) (u : Bool) (G : Graph) (ls ps : List Link) → Proper n ls → Sorted ls → Ordered n ps →
    ((m : Link) → InLinks m ls → linked (graph n ps) m.low m.high ≡ not u) → (u ≡ true → Room n G ps ls) → Turned n u ls ps
unfolding switches_of pairs_after AllAllowed other_ends member
turns n u G [] ps p s good free room = record { allowed = tt; ordered = good; joined = λ v w. refl }
turns n u G (l ∷ ls) ps p s good free room =
    let ok = first_allowed n u G l ls ps p good free room in
    let i =
    turns n u G ls (next_pairs n u G l ls ps p good free room) p.2 s.1 (ordered_switched n ps u l.low l.high good ok)
    (next_free n u G l ls ps p good free room s) (next_room n u G l ls ps p good free room) in
    record {
      allowed = (ok, i.allowed);
      ordered = i.ordered;
      joined = λ v w.
          i.joined v w ∙ ap (cond (linked_by ls v w) u) (next_linked n u G l ls ps p good free room v w)
          ∙ cond_or (joins l v w) (linked_by ls v w) u (linked (graph n ps) v w)
          ∙ ap (λ (x : Bool). cond x u (linked (graph n ps) v w)) (sym (linked_by_cons l ls v w));
    }
