-- The staircase tree is what document 02 asks for, and so is what the call lists.
--   staircase_tree    of a graph whose links are proper and ascend
--   staircase_right   after an accepted call (property 2)
use Rattle.std.specs.Prelude.{◌≡◌, ◌∷◌, ◌*◌, ◌≤◌}
use Rattle.lists.{specs.Kit.{refl, true, List, [], ℕ, arith, length}, proofs.Overwrite.{take_overwrite, drop_overwrite}}
use Rattle.mesh.{specs.Graph.{Link, Graph, proper, ascending}, specs.Tables.{Tables, graph_in}, specs.Sound.{sound}, specs.Staircase.{staircase, link_entries}}
use Rattle.mesh.{specs.Staircase.{StaircaseTree}, proofs.Tables.ReadBack.{proper_graph_in, ascending_graph_in}}
use Rattle.calls.{specs.Questions.{lengths_of}, specs.Outcomes.{staircase_outcome}, specs.Results.{StaircaseListed}}
use Rattle.calls.{proofs.ChainLaws.{site_zero}, proofs.Accepted.{listing_is}}
use Rattle.forests.proofs.{Heaviest.{staircase_spanning, staircase_heaviest, staircase_fewer}, Widest.{staircase_way, staircase_widest, staircase_core}}
use Rattle.forests.proofs.{Turns.{staircase_turn}}
use Rattle.calls.specs.Chains.{staircase_refusal}
use Rattle.calls.specs.Chains.{staircase_length}

pub staircase_tree : (g : Graph) → 1 ≤ g.n → proper g.n g.links ≡ true → ascending g.links ≡ true → StaircaseTree g (staircase g)
staircase_tree g h p a = record {
  spanning = staircase_spanning g p;
  heaviest = staircase_heaviest g p;
  way = staircase_way g p;
  widest = staircase_widest g p;
  core = staircase_core g p;
  in_turn = staircase_turn g a;
  fewer = staircase_fewer g p h;
}

pub length_link_entries : (ks : List Link) → length (link_entries ks) ≡ 2 * length ks
unfolding link_entries
length_link_entries [] = refl
length_link_entries (l ∷ ls) = omega (arith, length_link_entries ls)

pub staircase_right :
    (n : ℕ) (t : Tables) (w : List ℕ) → let o = staircase_outcome n t w in
    o.reply.number ≡ 0 → StaircaseListed (graph_in n t.links) o.reply.value w o.lent
unfolding staircase_outcome sound graph_in
staircase_right n t w z =
    let g = graph_in n t.links in
    let new = link_entries (staircase g) in
    let c = listing_is (staircase_refusal n (lengths_of t) (length w) (sound n t)) (length (staircase g)) new w z in
    let good = (site_zero n (lengths_of t) (staircase_length n (length w)) (sound n t) 0 c.0).0 in
    let k : 2 * length (staircase g) ≡ length new = omega (arith, length_link_entries (staircase g)) in
    rw c.1 (record {
      counted = refl;
      listed = rw k (take_overwrite new w);
      later_entries = rw k (drop_overwrite new w);
      tree = staircase_tree g good.lent.least (proper_graph_in n t.links) (ascending_graph_in n t.links);
    })
