-- Ups and downs of a link alternate, so how often each was made tells whether it is up.
--   balance       ups of a link and its state before are as many as its downs and its state after
--   same_pairs    tables that link alike hold the same pairs
--   pairs_agree   the pairs after a list of link calls are told by how often each was made
use Rattle.std.specs.Prelude.{◌≡◌, ◌&&◌, ◌∷◌, ◌+◌}
use Rattle.lists.specs.Kit.{refl, ◌∙◌, inl, inr, Bool, true, false, not, cond, Bool·beq, List, [], ℕ, arith}
use Rattle.mesh.{specs.Limits.{max_neighbours}, specs.Graph.{Link, graph, linked, relinked, new_links, Allowed}, specs.Tables.{Tables}, proofs.GraphLaws.{Ends}}
use Rattle.mesh.{proofs.GraphLaws.{ends, ends_of, linked_sym}, proofs.Tables.Relinked.{linked_relinked}}
use Rattle.calls.{specs.Switches.{Switch, pairs_after, switched, tables_after, AllAllowed}, proofs.Holds.{Holds, switched_holds, all_holds}}
use Rattle.calls.{proofs.Turns.{Ordered, pairs_eq}}
use Rattle.hubs.specs.Hubs.{same_call, times, SameCalls}

bit : Bool → ℕ
bit x = cond x 1 0

bit_eq : (x y : Bool) → bit x ≡ bit y → x ≡ y
unfolding bit
bit_eq true true e = refl
bit_eq true false e = absurd (omega (arith, e))
bit_eq false true e = absurd (omega (arith, e))
bit_eq false false e = refl

-- one call: x tells whether it is of the link, y and z whether the link is up before and after it
one :
    (u x y z : Bool) (i j k : ℕ) → z ≡ cond x u y → (x ≡ true → y ≡ not u) → i + bit z ≡ j + k →
    (cond (Bool·beq u true && x) 1 0 + i) + bit y ≡ (cond (Bool·beq u false && x) 1 0 + j) + k
unfolding bit
one true true y z i j k e h p = let q = rw e at p in rw (h refl) (omega (arith, q))
one true false y z i j k e h p = let q = rw e at p in omega (arith, q)
one false true y z i j k e h p = let q = rw e at p in rw (h refl) (omega (arith, q))
one false false y z i j k e h p = let q = rw e at p in omega (arith, q)

module _ (n v w : ℕ) where
  is_up : List Link → ℕ
  is_up ps = bit (linked (graph n ps) v w)

  -- an accepted up of the link finds it down, an accepted down finds it up
  found :
      (s : Switch) (ps : List Link) → Allowed max_neighbours s.up s.a s.b (graph n ps) → ends s.a s.b v w ≡ true →
      linked (graph n ps) v w ≡ not s.up
  found s ps ok e = go (ends_of s.a s.b v w e)
    where
      go : Ends s.a s.b v w → linked (graph n ps) v w ≡ not s.up
      go (inl f) = rw (f.0, f.1) ok.state
      go (inr f) = rw (f.0, f.1) (linked_sym (graph n ps) s.b s.a ∙ ok.state)

  linked_new :
      (s : Switch) (ps : List Link) (t : Tables) → Holds n ps t → Allowed max_neighbours s.up s.a s.b (graph n ps) →
      linked (graph n (new_links s.up s.a s.b ps)) v w ≡ cond (ends s.a s.b v w) s.up (linked (graph n ps) v w)
  unfolding relinked
  linked_new s ps t k ok =
      linked_relinked s.up s.a s.b (graph n ps) k.valid.links_proper k.valid.links_ascending ok.a_radio ok.b_radio ok.differ v w

  balance :
      (ps : List Link) (ss : List Switch) (t : Tables) → Holds n ps t → AllAllowed n ps ss →
      times true v w ss + is_up ps ≡ times false v w ss + is_up (pairs_after ss ps)
  unfolding times same_call pairs_after AllAllowed is_up ends
  balance ps [] t k ok = refl
  balance ps (s ∷ ss) t k ok =
      one s.up (ends s.a s.b v w) (linked (graph n ps) v w) (linked (graph n (new_links s.up s.a s.b ps)) v w)
      (times true v w ss) (times false v w ss) (is_up (pairs_after ss (new_links s.up s.a s.b ps)))
      (linked_new s ps t k ok.0) (found s ps ok.0)
      (balance (new_links s.up s.a s.b ps) ss (switched n s t) (switched_holds n ps t k s ok.0) ok.1)

-- ---- pairs are told by what they join

pub same_pairs :
    (n : ℕ) (ps qs : List Link) (t u : Tables) → Holds n ps t → Holds n qs u →
    ((v w : ℕ) → linked (graph n ps) v w ≡ linked (graph n qs) v w) → ps ≡ qs
same_pairs n ps qs t u k l h = pairs_eq n ps qs (ordered k) (ordered l) (λ v w _ _. h v w)
  where
    ordered : {rs : List Link} {o : Tables} → Holds n rs o → Ordered n rs
    ordered k = record { is_proper = k.valid.links_proper; is_ascending = k.valid.links_ascending }

pub pairs_agree :
    (n : ℕ) (ps : List Link) (t u : Tables) (ss rs : List Switch) → Holds n ps t → Holds n ps u → AllAllowed n ps ss → AllAllowed n ps rs →
    SameCalls ss rs → pairs_after ss ps ≡ pairs_after rs ps
unfolding SameCalls is_up
pairs_agree n ps t u ss rs k l ok fine h =
    same_pairs n (pairs_after ss ps) (pairs_after rs ps) (tables_after n ss t) (tables_after n rs u)
    (all_holds n ps ss t k ok) (all_holds n ps rs u l fine)
    (λ v w.
    bit_eq (linked (graph n (pairs_after ss ps)) v w) (linked (graph n (pairs_after rs ps)) v w)
    (omega (arith, h true v w, h false v w, balance n v w ps ss t k ok, balance n v w ps rs u l fine)))
