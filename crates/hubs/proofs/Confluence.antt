-- Two hubs, one mesh: runs of single link calls, none refused, and what both hubs hold and answer.
--   Taken, taken    such a run takes its calls in turn, each allowed, and the tables hold the pairs after them
--   confluence      both hubs hold equal links and numbers
--   calls_agree     shell tree, backbone and staircase calls answer equal on both
--   orders_by_images   the images are equal only where the orders are
use Rattle.std.specs.Prelude.{◌≡◌, ◌&&◌, ◌∷◌}
use Rattle.lists.specs.Kit.{refl, sym, ap, subst, ◌∙◌, Bool, true, List, [], none, ℕ, zero, suc, arith, length}
use Rattle.mesh.{specs.Limits.{max_neighbours}, specs.Graph.{Link, graph, new_links, Allowed}, specs.Levels.{changed}, specs.Tables.{Tables, graph_in}}
use Rattle.mesh.{specs.Tables.{tables_of}, specs.Sound.{sound}, specs.Image.{image_of, image_order}, proofs.Images.Sites.{length_order, read_written_order}}
use Rattle.calls.{specs.Questions.{Lengths, lengths_of, answer_length, site_refusal}}
use Rattle.calls.{specs.Switches.{Switch, switch, pairs_after, AllAllowed}}
use Rattle.calls.{specs.Outcomes.{backbone_outcome, tree_outcome, staircase_outcome}, specs.Book.{linking, other, Answer, counted, reported, outcome_of}}
use Rattle.calls.{specs.Book.{unless_refused, outcome, first_pairs, pairs_of}, specs.Runs.{Event, after}, proofs.Runs.{Run, next, run}, specs.Demand.{cleared}}
use Rattle.calls.{proofs.ChainLaws.{link_zero}, proofs.Holds.{Holds, read_back, site_asked}, proofs.Steps.{Stepped, step}, proofs.WholeList.{start}}
use Rattle.hubs.specs.Hubs.{Cleared, Singles, no_more, single, only_reads, TwoHubs, EqualSites, EqualAnswers}
use Rattle.hubs.proofs.Balance.{pairs_agree}
use Rattle.calls.proofs.Runs as runs
use Rattle.calls.specs.Questions.{by_number}
use Rattle.calls.specs.Chains.{nodes_length, staircase_length, link_refusal}

-- ---- runs of single link calls, none refused

first_number : List Answer → ℕ
first_number [] = 0
first_number (x ∷ xs) = x.number

-- the questions of an accepted call got yes
one_taken :
    (n : ℕ) (ps : List Link) (t : Tables) → Holds n ps t → (u : Bool) (a b w : ℕ) (h : Answer) (v : Tables) → h.number ≡ 0 →
    (R : ℕ) → link_refusal u n a b (lengths_of t) w true (graph n ps) ≡ R →
    Stepped n ps (unless_refused R (outcome_of (reported u (changed u a b (graph n ps)) ∷ []) none (switch u a b ∷ []))) t (h ∷ []) v →
    Holds n (new_links u a b ps) v × Allowed max_neighbours u a b (graph n ps)
unfolding by_number pairs_of first_pairs pairs_after counted first_number
one_taken n ps t k u a b w h v z zero e s = (s.holds, (link_zero u a b (lengths_of t) w true (graph n ps) e).1)
one_taken n ps t k u a b w h v z (suc q) e s = absurd (omega (arith, ap first_number s.kept.answered, z))

record Taken (n : ℕ) (ps : List Link) (ss : List Switch) (v : Tables) : Type 0 where
  holds : Holds n (pairs_after ss ps) v
  allowed : AllAllowed n ps ss

taken : (n : ℕ) (ps : List Link) {t v : Tables} {es : List Event} {ss : List Switch} → Holds n ps t → Run t es v → Singles n es ss → Taken n ps ss v
unfolding pairs_after AllAllowed outcome pairs_of first_pairs
taken n ps k runs.ended no_more = record { holds = k; allowed = tt }
taken n ps k (next {t = t} {u = v} d r) (single {up = u} {a = a} {b = b} {w = w} {h = h} z s) =
    let x = one_taken n ps t k u a b w h v z _ refl (step n ps t k (linking u n a b w) (h ∷ []) v d) in
    let i = taken n (new_links u a b ps) x.0 r s in
    record { holds = i.holds; allowed = (x.1, i.allowed) }
taken n ps k (next {t = t} {u = v} {hs = hs} d r) (only_reads s) = taken n ps (step n ps t k other hs v d).holds r s

-- ---- two hubs

-- the pairs that both hold
record Both (n : ℕ) (v w : Tables) : Type 0 where
  pairs : List Link
  first : Holds n pairs v
  second : Holds n pairs w

cleared_holds : (n : ℕ) (t : Tables) → Cleared n t → Holds n [] t
cleared_holds n t c = start (cleared n c.before t c.cleared)

both : TwoHubs Both
unfolding TwoHubs
both n t u cs ds ss rs c d a b same =
    let k = cleared_holds n t c in
    let l = cleared_holds n u d in
    let x = taken n [] k (run cs t) a in
    let y = taken n [] l (run ds u) b in
    let e = pairs_agree n [] t u ss rs k l x.allowed y.allowed same in
    record { pairs = pairs_after ss []; first = x.holds; second = subst (λ (ps : List Link). Holds n ps (after ds u)) (sym e) y.holds }

module _ (n : ℕ) (v w : Tables) (k : Both n v w) where
  same_links : v.links ≡ w.links
  unfolding tables_of
  same_links = rw (k.first.is, k.second.is)

  same_numbers : v.numbers ≡ w.numbers
  unfolding tables_of
  same_numbers = rw (k.first.is, k.second.is)

  same_lengths : lengths_of v ≡ lengths_of w
  unfolding lengths_of tables_of
  same_lengths =
      rw (
        k.first.is,
        k.second.is,
        length_order (graph n k.pairs) k.first.xs k.first.most k.first.valid,
        length_order (graph n k.pairs) k.second.xs k.second.most k.second.valid,
      )

  equal_sites : EqualSites v w
  equal_sites = record {
    links = same_links;
    numbers = same_numbers;
  }

  -- an image tells its order
  order_read : (t : Tables) → Holds n k.pairs t → image_order n (image_of (graph_in n t.links) t.order) ≡ t.order
  unfolding tables_of
  order_read t h =
      let o : t.order ≡ h.xs = ap (λ (x : Tables). x.order) h.is in
      rw (read_back n k.pairs t h, o) (read_written_order (graph n k.pairs) h.xs h.most h.valid)

  order_by_image : image_of (graph_in n v.links) v.order ≡ image_of (graph_in n w.links) w.order → v.order ≡ w.order
  order_by_image e = sym (order_read v k.first) ∙ ap (image_order n) e ∙ order_read w k.second

  -- questions 1 to 3 are answered alike
  same_refusal :
      (m : ℕ) (others : Bool) → site_refusal m (lengths_of v) others (sound m v) 0 ≡ site_refusal m (lengths_of w) others (sound m w) 0
  same_refusal m others =
      site_asked n k.pairs v k.first m others (λ g. 0)
      ∙ ap (λ (l : Lengths). site_refusal m l others true 0) same_lengths
      ∙ sym (site_asked n k.pairs w k.second m others (λ g. 0))

  equal_answers : EqualAnswers v w
  unfolding tree_outcome backbone_outcome staircase_outcome sound
  equal_answers = record {
    tree = λ m ns xs. rw (same_refusal m (nodes_length m (length ns) && answer_length m (length xs)), same_links);
    backbone = λ m xs. rw (same_refusal m (answer_length m (length xs)), same_links);
    staircase = λ m xs. rw (same_refusal m (staircase_length m (length xs)), same_links);
  }

pub confluence : TwoHubs (λ n v w. EqualSites v w)
unfolding TwoHubs
confluence n t u cs ds ss rs c d a b same = equal_sites n (after cs t) (after ds u) (both n t u cs ds ss rs c d a b same)

pub calls_agree : TwoHubs (λ n v w. EqualAnswers v w)
unfolding TwoHubs
calls_agree n t u cs ds ss rs c d a b same = equal_answers n (after cs t) (after ds u) (both n t u cs ds ss rs c d a b same)

-- hubs that always wrote the same image would always have the same order
pub orders_by_images :
    TwoHubs (λ n v w. image_of (graph_in n v.links) v.order ≡ image_of (graph_in n w.links) w.order)
    → TwoHubs (λ n v w. v.order ≡ w.order)
unfolding TwoHubs
orders_by_images claim n t u cs ds ss rs c d a b same =
    order_by_image n (after cs t) (after ds u) (both n t u cs ds ss rs c d a b same) (claim n t u cs ds ss rs c d a b same)
