-- Demand 3, closed: by induction over the list of calls, from the theory of mesh.
use Rattle.std.specs.Prelude.{◌≡◌, ◌∷◌, ◌++◌, ◌<◌}
use Rattle.lists.specs.Kit.{refl, ap, sym, subst, ◌∙◌, Bool, true, List, [], none, ℕ, zero, suc, arith}
use Rattle.mesh.{specs.Graph.{Link, graph}, specs.Cores.{Core}, specs.Orders.{is_k_order}, specs.Tables.{Tables, tables_of}, specs.Sound.{number_in}}
use Rattle.mesh.{specs.Levels.{changed}, specs.Image.{image_links}, proofs.Cores.Peeling.{number_core, get_d_numbers}}
use Rattle.calls.specs.{Questions.{lengths_of, answer_length, tables_refusal, read_refusal}, Outcomes.{Tabled, tabled, clear_outcome}}
use Rattle.calls.specs.{Outcomes.{read_outcome}, Switches.{Switch, switch, pairs_after, tables_after}, Book.{Call, linking, given, Answer, counted}}
use Rattle.calls.specs.{Book.{reported, outcome_of, unless_refused, outcome, pairs_of, booked, book_answers, book_after, from_clearing, from_image}}
use Rattle.calls.specs.{Book.{beginning_pairs, site_size, beginning_tables, fresh, past, history, past_of}, Runs.{Event, event, events, after, givens}}
use Rattle.calls.specs.{Runs.{answers}, Demand.{Kept, LinkKept, Switching, Start, cleared, read, beginning, Demand3}}
use Rattle.calls.proofs.{Runs.{Run, ended, next, run}, ChainLaws.{link_zero}, Holds.{Holds, clear_holds, read_holds, clear_is, read_is, same_n}}
use Rattle.calls.proofs.{Holds.{is_sound, read_back}, ContractLaws.{accepted_is}, Steps.{Stepped, step}, Histories.{Traced, PastHolds, past_kept}}
use Rattle.calls.specs.Questions.{by_number}
use Rattle.calls.specs.Chains.{link_refusal}

-- each call of a list, with the tables before it
Each : (n : ℕ) → (ps : List Link) → List Event → Type 0
Each n ps [] = Unit {0}
Each n ps (event c t hs v ∷ es) =
    let o = booked (given c (lengths_of t)) ps in Holds n ps t × Stepped n ps o t hs v × Each n (pairs_of o ps) es

record ListKept (n : ℕ) (ps : List Link) (es : List Event) (v : Tables) : Type 0 where
  holds : Holds n (book_after (givens es) ps) v
  answered : answers es ≡ book_answers (givens es) ps
  each : Each n ps es

list_kept : (n : ℕ) (ps : List Link) {t v : Tables} {es : List Event} → Holds n ps t → Run t es v → ListKept n ps es v
unfolding givens answers book_after book_answers Each booked
list_kept n ps k ended = record { holds = k; answered = refl; each = tt }
list_kept n ps k (next {c = c} {t = t} {u = u} {hs = hs} d r) =
    let s = step n ps t k c hs u d in
    let i = list_kept n (pairs_of (outcome c (lengths_of t) ps) ps) s.holds r in
    record { holds = i.holds; answered = rw (s.kept.answered, i.answered); each = (k, s, i.each) }

-- a call anywhere in the list
record Called (n : ℕ) (ps : List Link) (c : Call) (t : Tables) (hs : List Answer) (u : Tables) : Type 0 where
  before : Holds n ps t
  stepped : Stepped n ps (booked (given c (lengths_of t)) ps) t hs u

call_at :
    (n : ℕ) (ps : List Link) (before after : List Event) (c : Call) (t u : Tables) (hs : List Answer) →
    Each n ps (before ++ (event c t hs u ∷ after)) → Called n (book_after (givens before) ps) c t hs u
unfolding Each givens book_after
call_at n ps [] after c t u hs e = record { before = e.0; stepped = e.1 }
call_at n ps (event c₁ t₁ hs₁ u₁ ∷ es) after c t u hs e =
    call_at n (pairs_of (booked (given c₁ (lengths_of t₁)) ps) ps) es after c t u hs e.2

-- ---- an accepted link call

one_link :
    (n : ℕ) (ps : List Link) (s : Switch) (t v : Tables) → Switching n ps (s ∷ []) t v →
    LinkKept s.up s.a s.b (graph n ps) t (reported s.up (changed s.up s.a s.b (graph n ps))) v
one_link n ps s t v (Switching.next k Switching.ended) = k

first_answer : (h : Answer) → List Answer → Answer
first_answer h [] = h
first_answer h (x ∷ xs) = x

link_by_number :
    (n : ℕ) (ps : List Link) (u : Bool) (m a b w : ℕ) (t v : Tables) (h : Answer) → Holds n ps t → h.number ≡ 0 →
    (R : ℕ) → link_refusal u m a b (lengths_of t) w true (graph m ps) ≡ R →
    Stepped n ps (unless_refused R (outcome_of (reported u (changed u a b (graph m ps)) ∷ []) none (switch u a b ∷ []))) t (h ∷ []) v →
    LinkKept u a b (graph n ps) t h v
unfolding by_number first_answer counted
link_by_number n ps u m a b w t v h k z zero e s =
    let y = link_zero u a b (lengths_of t) w true (graph m ps) e in
    let f = same_n n ps t k m (answer_length m w) y.0.lent in
    let g : h ≡ reported u (changed u a b (graph n ps)) = ap (first_answer h) s.kept.answered ∙ rw f refl in
    rw g (one_link n ps (switch u a b) t v (s.kept.switching refl))
link_by_number n ps u m a b w t v h k z (suc q) e s =
    absurd (omega (arith, ap (λ (o : List Answer). (first_answer h o).number) s.kept.answered, z))

link_called :
    (n : ℕ) (ps : List Link) (u : Bool) (m a b w : ℕ) (t v : Tables) (h : Answer) → Called n ps (linking u m a b w) t (h ∷ []) v → h.number ≡ 0 →
    LinkKept u a b (graph n ps) t h v
unfolding booked outcome
link_called n ps u m a b w t v h c z = link_by_number n ps u m a b w t v h c.before z _ refl c.stepped

-- ---- the tables

core_at : (n : ℕ) (ps : List Link) (v : Tables) → Holds n ps v → (x : ℕ) → x < n → Core (graph n ps) x (number_in v.numbers x)
unfolding tables_of
core_at n ps v k x l = rw (k.is, get_d_numbers (graph n ps) x l) (number_core (graph n ps) x l)

k_order_at : (n : ℕ) (ps : List Link) (v : Tables) → Holds n ps v → is_k_order (graph n ps) v.order ≡ true
unfolding tables_of
k_order_at n ps v k = rw k.is k.valid.k_order

-- ---- the start

-- the number 0 is no refusal, and the tables are the ones that the list begins from
cleared_is : (n : ℕ) (t v : Tables) → tabled 0 v ≡ clear_outcome n t → (tables_refusal n (lengths_of t) ≡ 0) × (v ≡ beginning_tables (from_clearing n))
unfolding clear_outcome
cleared_is n t v d =
    let p = (accepted_is (λ (o : Tabled ℕ). o.reply) (tabled 0 v) (tables_refusal n (lengths_of t)) _ _ (λ q. refl) d refl).0 in
    (p, ap (λ (o : Tabled ℕ). o.tables) (d ∙ clear_is n t p))

read_in_is :
    (n : ℕ) (bs : List ℕ) (t v : Tables) → tabled 0 v ≡ read_outcome n bs t →
    (read_refusal n (lengths_of t) bs ≡ 0) × (v ≡ beginning_tables (from_image n bs))
unfolding read_outcome
read_in_is n bs t v d =
    let p = (accepted_is (λ (o : Tabled ℕ). o.reply) (tabled 0 v) (read_refusal n (lengths_of t) bs) _ _ (λ q. refl) d refl).0 in
    (p, ap (λ (o : Tabled ℕ). o.tables) (d ∙ read_is n bs t p))

pub start : {n : ℕ} {ps : List Link} {t : Tables} → Start n ps t → Holds n ps t
start (cleared n t v d) = let a = cleared_is n t v d in subst (Holds n []) (sym a.1) (clear_holds n t a.0)
start (read n bs t v d) = let a = read_in_is n bs t v d in subst (Holds n (image_links n bs)) (sym a.1) (read_holds n bs t a.0)

-- ---- the link history

-- what a list began from makes the tables that it started with
start_traced : {n : ℕ} {ps : List Link} {t : Tables} → (s : Start n ps t) → Traced n (fresh (beginning s)) ps t
unfolding beginning fresh site_size beginning_pairs pairs_after tables_after
start_traced (cleared n t v d) =
    let e = (cleared_is n t v d).1 in
    record { holds = start (cleared n t v d); by = record { size = refl; start = subst (Start n []) e (cleared n t v d); tables = e }; pairs = refl }
start_traced (read n bs t v d) =
    let e = (read_in_is n bs t v d).1 in
    record {
      holds = start (read n bs t v d);
      by = record { size = refl; start = subst (Start n (image_links n bs)) e (read n bs t v d); tables = e };
      pairs =
          refl;
    }

-- with no mark set
pub start_past : {n : ℕ} {ps : List Link} {t : Tables} → (s : Start n ps t) → PastHolds n ps (past (fresh (beginning s)) []) t
start_past s = record { traced = start_traced s; marks = tt }

history_traced :
    (n : ℕ) (ps : List Link) (t v : Tables) (es : List Event) (s : Start n ps t) → Run t es v →
    Traced n (history (givens es) ps (beginning s)) (book_after (givens es) ps) v
unfolding history past_of
history_traced n ps t v es s r = (past_kept n ps (past (fresh (beginning s)) []) (start_past s) r).traced

-- ---- demand 3

pub run_kept : (n : ℕ) (ps : List Link) (t v : Tables) (es : List Event) (s : Start n ps t) → Run t es v →
    Kept n ps (beginning s) es (graph n (book_after (givens es) ps)) v
unfolding tables_of
run_kept n ps t v es s r =
    let i = list_kept n ps (start s) r in
    let k = i.holds in
    record {
      links = ap (λ (o : Tables). o.links) k.is;
      numbers = ap (λ (o : Tables). o.numbers) k.is;
      cores = core_at n (book_after (givens es) ps) v k;
      k_order = k_order_at n (book_after (givens es) ps) v k;
      sound = is_sound n (book_after (givens es) ps) v k;
      read_back = read_back n (book_after (givens es) ps) v k;
      pairs_by_history = ap (graph n) (history_traced n ps t v es s r).pairs;
      by_history = (history_traced n ps t v es s r).by;
      answered = i.answered;
      calls = λ before after c t u hs e. (call_at n ps before after c t u hs (subst (Each n ps) e i.each)).stepped.kept;
      link_calls = λ before after up m a b w t u h e z.
          link_called n (book_after (givens before) ps) up m a b w t u h
          (call_at n ps before after (linking up m a b w) t u (h ∷ []) (subst (Each n ps) e i.each)) z;
    }

pub demand_3 : Demand3
unfolding Demand3
demand_3 n ps t s cs = run_kept n ps t (after cs t) (events cs t) s (run cs t)
