-- Tables that hold the book's pairs, and what links taken up or down one after the other keep of that.
--   Holds n ps t      the tables t hold n radios, the pairs ps and some k-order of them
--   clear_holds, read_holds   so they do after an accepted clearing or reading
--   site_asked        question 3 gets yes of them, and later questions are put to the book's pairs
--   all_holds, all_switching   where links are allowed in turn, the tables hold the pairs after them, and each keeps what a link call keeps
use Rattle.std.specs.Prelude.{◌≡◌, ◌∷◌, ◌++◌, ◌≤◌}
use Rattle.lists.specs.{Kit.{refl, ap, sym, subst, ◌∙◌, Bool, true, List, [], ℕ, length}, Lists.{range}}
use Rattle.mesh.{specs.Limits.{max_radios, max_neighbours}, specs.Graph.{Link, Graph, graph, relinked, new_links, Allowed}, specs.Levels.{changed, new_order}}
use Rattle.mesh.{specs.Tables.{Tables, graph_in, tables_of}, specs.Sound.{sound}, specs.Image.{image_graph, image_links, image_order}}
use Rattle.mesh.{proofs.Cores.Peeling.{length_numbers}, proofs.Tables.Laws.{links_table_cleared}, proofs.Tables.ReadBack.{graph_in_links_table}}
use Rattle.mesh.{proofs.Tables.Soundness.{valid_sound}, proofs.Tables.Sites.{valid_cleared, numbers_cleared, image_valid}, proofs.Links.Laws.{link_valid}}
use Rattle.mesh.{proofs.Links.Laws.{link_table}, specs.Valid.{Valid}}
use Rattle.calls.specs.{Questions.{lengths_of, site_refusal, tables_refusal, read_refusal}, Switches.{Switch, pairs_after, switched, tables_after}}
use Rattle.calls.specs.{Switches.{AllAllowed}, Outcomes.{tabled, clear_outcome, read_outcome}, Book.{reported, from_clearing, from_image}}
use Rattle.calls.specs.{Book.{beginning_tables}, Demand.{LinkKept, Switching, ended, next}}
use Rattle.calls.proofs.{ChainLaws.{LentGood, lent_zero, lent_later, read_zero}, ContractLaws.{by_zero}, RecordLaws.{tables_ext}, LinkKept.{link_kept}}

pub record Holds (n : ℕ) (ps : List Link) (t : Tables) : Type 0 where
  pub most : n ≤ max_radios
  pub xs : List ℕ
  pub valid : Valid max_neighbours (graph n ps) xs
  pub is : t ≡ tables_of (graph n ps) xs

-- ---- after an accepted clearing or reading

-- the tables that it leaves
pub clear_is : (m : ℕ) (t : Tables) → tables_refusal m (lengths_of t) ≡ 0 → clear_outcome m t ≡ tabled 0 (beginning_tables (from_clearing m))
unfolding clear_outcome beginning_tables tables_of
clear_is m t p = by_zero _ _ _ p refl ∙ rw (links_table_cleared m, numbers_cleared m)

pub read_is :
    (m : ℕ) (bs : List ℕ) (t : Tables) → read_refusal m (lengths_of t) bs ≡ 0 → read_outcome m bs t ≡ tabled 0 (beginning_tables (from_image m bs))
unfolding read_outcome beginning_tables
read_is m bs t p = by_zero _ _ _ p refl

pub clear_holds : (m : ℕ) (t : Tables) → tables_refusal m (lengths_of t) ≡ 0 → Holds m [] (beginning_tables (from_clearing m))
unfolding tables_refusal beginning_tables
clear_holds m t p = record {
  most = (lent_zero m (lengths_of t) true 0 p).0.most;
  xs = range 0 m;
  valid = valid_cleared m max_neighbours;
  is = refl;
}

pub read_holds : (m : ℕ) (bs : List ℕ) (t : Tables) → read_refusal m (lengths_of t) bs ≡ 0 → Holds m (image_links m bs) (beginning_tables (from_image m bs))
unfolding read_refusal beginning_tables image_graph
read_holds m bs t p =
    let q = read_zero m (lengths_of t) bs p in
    record { most = q.0.most; xs = image_order m bs; valid = image_valid m bs q.0.most q.2; is = refl }

-- ---- tables that hold the pairs

module _ (n : ℕ) (ps : List Link) (t : Tables) (k : Holds n ps t) where
  pub unchanged_holds : {v : Tables} → v ≡ t → Holds n ps v
  unchanged_holds e = record { most = k.most; xs = k.xs; valid = k.valid; is = e ∙ k.is }

  -- a call that got yes to question 2 was given this n
  pub same_n : (m : ℕ) (others : Bool) → LentGood m (lengths_of t) others → m ≡ n
  unfolding lengths_of tables_of
  same_n m others g =
      sym g.lengths.numbers ∙ ap (λ (o : Tables). length o.numbers) k.is ∙ length_numbers (graph n ps)

  pub read_back : graph_in n t.links ≡ graph n ps
  unfolding tables_of
  read_back =
      ap (λ (o : Tables). graph_in n o.links) k.is
      ∙ graph_in_links_table (graph n ps) k.most k.valid.links_proper k.valid.links_ascending

  pub is_sound : sound n t ≡ true
  unfolding sound
  is_sound = ap (sound n) k.is ∙ valid_sound max_neighbours (graph n ps) k.xs k.most k.valid

  -- question 3 gets yes, and the links are the book's
  pub site_asked :
      (m : ℕ) (others : Bool) (later : Graph → ℕ) →
      site_refusal m (lengths_of t) others (sound m t) (later (graph_in m t.links))
      ≡ site_refusal m (lengths_of t) others true (later (graph m ps))
  unfolding site_refusal
  site_asked m others later =
      lent_later m (lengths_of t) others _ _ (λ g. let e = same_n m others g in rw (e, is_sound, read_back))

  -- the tables that another accepted call left hold n radios too
  pub with_n : (m : ℕ) (qs : List Link) (v : Tables) (others : Bool) → LentGood m (lengths_of t) others → Holds m qs v → Holds n qs v
  with_n m qs v others g o = subst (λ (j : ℕ). Holds j qs v) (same_n m others g) o

  -- ---- one link

  module _ (s : Switch) (ok : Allowed max_neighbours s.up s.a s.b (graph n ps)) where
    switched_is : switched n s t ≡ tables_of (relinked s.up s.a s.b (graph n ps)) (new_order s.up s.a s.b (graph n ps) k.xs)
    unfolding switched tables_of
    switched_is =
        tables_ext (switched n s t) _
        (rw k.is (sym (link_table max_neighbours s.up s.a s.b (graph n ps) k.xs k.valid ok k.most)))
        (rw read_back)
        (rw (read_back, k.is))

    pub switched_holds : Holds n (new_links s.up s.a s.b ps) (switched n s t)
    unfolding relinked
    switched_holds = record {
      most = k.most;
      xs = new_order s.up s.a s.b (graph n ps) k.xs;
      valid = link_valid max_neighbours s.up s.a s.b (graph n ps) k.xs k.valid ok;
      is = switched_is;
    }

    pub switched_kept :
        LinkKept s.up s.a s.b (graph n ps) t (reported s.up (changed s.up s.a s.b (graph n ps))) (switched n s t)
    switched_kept =
        rw (switched_is, k.is) (link_kept s.up s.a s.b (graph n ps) k.xs k.most k.valid ok)

-- ---- links one after the other

pub all_holds : (n : ℕ) (ps : List Link) (ss : List Switch) (t : Tables) → Holds n ps t → AllAllowed n ps ss → Holds n (pairs_after ss ps)
    (tables_after n ss t)
unfolding AllAllowed pairs_after tables_after
all_holds n ps [] t k ok = k
all_holds n ps (s ∷ ss) t k ok = all_holds n (new_links s.up s.a s.b ps) ss (switched n s t) (switched_holds n ps t k s ok.0) ok.1

pub all_switching : (n : ℕ) (ps : List Link) (ss : List Switch) (t : Tables) → Holds n ps t → AllAllowed n ps ss → Switching n ps ss t (tables_after n ss t)
unfolding AllAllowed tables_after
all_switching n ps [] t k ok = ended
all_switching n ps (s ∷ ss) t k ok =
    next (switched_kept n ps t k s ok.0) (all_switching n (new_links s.up s.a s.b ps) ss (switched n s t) (switched_holds n ps t k s ok.0) ok.1)

pub pairs_after_append : (ss ts : List Switch) (ps : List Link) → pairs_after (ss ++ ts) ps ≡ pairs_after ts (pairs_after ss ps)
unfolding pairs_after
pairs_after_append [] ts ps = refl
pairs_after_append (s ∷ ss) ts ps = pairs_after_append ss ts _

pub tables_after_append : (n : ℕ) (ss ts : List Switch) (t : Tables) → tables_after n (ss ++ ts) t ≡ tables_after n ts (tables_after n ss t)
unfolding tables_after
tables_after_append n [] ts t = refl
tables_after_append n (s ∷ ss) ts t = tables_after_append n ss ts _

pub all_allowed_append :
    (n : ℕ) (ps : List Link) (ss ts : List Switch) → AllAllowed n ps ss → AllAllowed n (pairs_after ss ps) ts → AllAllowed n ps (ss ++ ts)
unfolding AllAllowed pairs_after
all_allowed_append n ps [] ts p q = q
all_allowed_append n ps (s ∷ ss) ts p q = (p.0, all_allowed_append n (new_links s.up s.a s.b ps) ss ts p.1 q)
