-- Entries before the beginning end's place never move, of each link that a batch or a hearing takes up.
--   each_begins    of allowed links, one after the other, from good tables
--   batch_begins, hear_begins   of the links of a batch, and of a hearing
use Rattle.std.specs.Prelude.{◌≡◌, ◌∷◌}
use Rattle.lists.specs.Kit.{refl, sym, ◌∙◌, ap, subst, Bool, true, List, [], ℕ, length}
use Rattle.mesh.specs.{Limits.{max_neighbours}, Graph.{Link, graph, relinked, new_links, Allowed}, Tables.{Tables, graph_in}, Sound.{sound}}
use Rattle.calls.{specs.Questions.{lengths_of, site_refusal}, specs.Switches.{Switch, switched, AllAllowed}, specs.Batches.{list_length, batch_refusal}}
use Rattle.calls.{specs.Batches.{batch_switches}, specs.Heard.{heard_lengths, hear_refusal, heard_switches}, proofs.ChainLaws.{site_zero}}
use Rattle.calls.{proofs.Batches.{batch_allowed}, proofs.HeardCalls.{hear_right}, proofs.SoundSwitches.{Good, good_valid, switched_graph, switched_good}}
use Rattle.walks.specs.Results.{BeginningKept, EachBegins}
use Rattle.walks.proofs.Kept.{beginning_kept}

up_begins :
    (n : ℕ) (t : Tables) (s : Switch) → Good n t → Allowed max_neighbours s.up s.a s.b (graph_in n t.links) → s.up ≡ true →
    BeginningKept s.a s.b (graph_in n t.links) t.order (switched n s t).order
unfolding switched
up_begins n t s k ok e =
    let g = graph_in n t.links in
    rw e (beginning_kept s.a s.b g t.order (good_valid n t k) (subst (λ (u : Bool). Allowed max_neighbours u s.a s.b g) e ok))

pub each_begins :
    (n : ℕ) (ps : List Link) (ss : List Switch) (t : Tables) → Good n t → graph_in n t.links ≡ graph n ps → AllAllowed n ps ss →
    EachBegins n ss t
unfolding EachBegins AllAllowed relinked
each_begins n ps [] t k e ok = tt
each_begins n ps (s ∷ ss) t k e ok =
    let a : Allowed max_neighbours s.up s.a s.b (graph_in n t.links) = subst (Allowed max_neighbours s.up s.a s.b) (sym e) ok.0 in (
      up_begins n t s k a,
      each_begins n (new_links s.up s.a s.b ps) ss (switched n s t) (switched_good n t k s a)
          (switched_graph n t k s a ∙ ap (relinked s.up s.a s.b) e) ok.1,
    )

-- questions 1 to 3 got yes
good_of : (n : ℕ) (t : Tables) (further : Bool) (later : ℕ) → site_refusal n (lengths_of t) further (sound n t) later ≡ 0 → Good n t
good_of n t further later z =
    let s = (site_zero n (lengths_of t) further (sound n t) later z).0 in
    record { lent = record { least = s.lent.least; most = s.lent.most; lengths = s.lent.lengths; further = refl }; is_sound = s.is_sound }

pub batch_begins :
    (n : ℕ) (xs : List ℕ) (t : Tables) → batch_refusal n (lengths_of t) (length xs) (sound n t) ≡ 0 →
    EachBegins n (batch_switches n xs (graph_in n t.links).links) t
unfolding batch_refusal graph_in
batch_begins n xs t z =
    let ps = (graph_in n t.links).links in
    each_begins n ps (batch_switches n xs ps) t (good_of n t (list_length (length xs)) 0 z) refl (batch_allowed n xs ps)

pub hear_begins :
    (n : ℕ) (hs : List ℕ) (t : Tables) (w : List ℕ) → hear_refusal n (lengths_of t) hs (length w) (sound n t) ≡ 0 →
    EachBegins n (heard_switches (graph_in n t.links) hs) t
unfolding hear_refusal graph_in
hear_begins n hs t w z =
    each_begins n (graph_in n t.links).links (heard_switches (graph_in n t.links) hs) t (good_of n t (heard_lengths n (length hs) (length w)) _ z) refl
    (hear_right n hs t w z).allowed
