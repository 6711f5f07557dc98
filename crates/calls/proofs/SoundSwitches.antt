-- Sound tables after links were taken up or down, whoever wrote them.
--   Good n t            questions 1 to 3 get yes of the tables t
--   switched_good       so they do after one link
--   switched_graph      which is then in the graph, or not
--   all_good, all-graph the same after a list of links
--   good_right          numbers are core numbers and the order is a k-order
use Rattle.std.specs.Prelude.{◌≡◌, ◌∷◌}
use Rattle.lists.{specs.Kit.{refl, sym, ap, subst, ◌∙◌, true, List, [], ℕ, length}, proofs.Range.{once_length}}
use Rattle.mesh.{specs.Limits.{max_neighbours}, specs.Graph.{Link, Graph, graph, relinked, new_links, Allowed}, specs.Levels.{new_order}}
use Rattle.mesh.{specs.Tables.{Tables, graph_in}, specs.Sound.{sound}, specs.Valid.{Valid}, proofs.Cores.Peeling.{length_numbers}}
use Rattle.mesh.{proofs.Cores.KOrders.{k_order_certificate}, proofs.Tables.Laws.{length_put_link}, proofs.Links.Laws.{link_valid}}
use Rattle.mesh.{proofs.Images.Tables.{valid_graph_in}}
use Rattle.calls.specs.{Questions.{lengths_of}, Switches.{Switch, pairs_after, switched, tables_after, AllAllowed}, Results.{SiteRight, CommitRight}}
use Rattle.calls.proofs.{ChainLaws.{SiteGood}, Accepted.{switched_right, site_right}}

abbrev pub Good : (n : ℕ) → Tables → Type 0
Good n t = SiteGood n (lengths_of t) true (sound n t)

pub good_valid : (n : ℕ) (t : Tables) → Good n t → Valid max_neighbours (graph_in n t.links) t.order
unfolding sound
good_valid n t k = valid_graph_in max_neighbours n t k.lent.most k.is_sound

pub good_right : (n : ℕ) (t : Tables) → Good n t → SiteRight n t
unfolding lengths_of
good_right n t k = (site_right n t k.lent.lengths.numbers).0 k.is_sound

-- ---- one link

module _ (n : ℕ) (t : Tables) (k : Good n t) (s : Switch) (ok : Allowed max_neighbours s.up s.a s.b (graph_in n t.links)) where
  abbrev g : Graph
  g = graph_in n t.links

  after : Valid max_neighbours (relinked s.up s.a s.b g) (new_order s.up s.a s.b g t.order)
  after = link_valid max_neighbours s.up s.a s.b g t.order (good_valid n t k) ok

  right : CommitRight s.up n s.a s.b t (switched n s t)
  right = switched_right s.up n s.a s.b t true k ok

  pub switched_graph : graph_in n (switched n s t).links ≡ relinked s.up s.a s.b g
  switched_graph = right.graph

  numbers_long : length (switched n s t).numbers ≡ n
  unfolding switched relinked graph_in
  numbers_long = length_numbers (relinked s.up s.a s.b g)

  pub switched_good : Good n (switched n s t)
  unfolding lengths_of switched relinked graph_in
  switched_good = record {
    lent = record {
      least = k.lent.least;
      most = k.lent.most;
      lengths = record {
        links = length_put_link s.up s.a s.b t.links ∙ k.lent.lengths.links;
        numbers = numbers_long;
        order = once_length n (new_order s.up s.a s.b g t.order) (k_order_certificate (relinked s.up s.a s.b g) _ after.k_order).once;
      };
      further = refl;
    };
    is_sound = (site_right n (switched n s t) numbers_long).1 right.right;
  }

-- ---- links one after the other

pub all_good : (n : ℕ) (ps : List Link) (ss : List Switch) (t : Tables) → Good n t → graph_in n t.links ≡ graph n ps → AllAllowed n ps ss
    → Good n (tables_after n ss t) × (graph_in n (tables_after n ss t).links ≡ graph n (pairs_after ss ps))
unfolding AllAllowed pairs_after tables_after relinked
all_good n ps [] t k e ok = (k, e)
all_good n ps (s ∷ ss) t k e ok =
    let a : Allowed max_neighbours s.up s.a s.b (graph_in n t.links) = subst (Allowed max_neighbours s.up s.a s.b) (sym e) ok.0 in
    all_good n (new_links s.up s.a s.b ps) ss (switched n s t) (switched_good n t k s a)
    (switched_graph n t k s a ∙ ap (relinked s.up s.a s.b) e) ok.1
