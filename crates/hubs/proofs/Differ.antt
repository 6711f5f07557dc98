-- Orders and images of two hubs may differ: the worked pair of histories, as runs.
--   run, singles       link calls played one after the other are a run; where none is refused, of single calls
--   played_one, played_other   what the rows of the pair say of them
--   orders_differ, images_differ   so neither can be claimed equal
use Rattle.std.specs.Prelude.{◌≡◌, ◌&&◌, ◌∷◌}
use Rattle.lists.{specs.Kit.{sym, ap, subst, ◌∙◌, true, List, [], ℕ, arith, length, eqb, eqb-true}, specs.Lists.{same}, proofs.Tests.{and_left}}
use Rattle.lists.{proofs.Tests.{and_right}, proofs.All.{same_eq}}
use Rattle.mesh.specs.{Image.{image_of}, Tables.{Tables, graph_in}}
use Rattle.calls.{specs.Switches.{Switch}, specs.Outcomes.{Tabled, tabled, clear_outcome, link_outcome}, specs.Book.{Answer, linking, reported}}
use Rattle.calls.{specs.Runs.{answer_of, Event, event}, proofs.Runs.{Does, Run, ended, next, called, run_is, link_done}, specs.Questions.{same_step}}
use Rattle.calls.{specs.Worked.{entries, lent_tables, Left, left, left_by, played, after, up, risen, Want, last_answers, all_numbers, whole_order, row}}
use Rattle.calls.{specs.Worked.{same_answers, meets, meets_all, right}, specs.Cases.{one_hub, other_hub}, proofs.Cases.{one_hub_right, other_hub_right}}
use Rattle.hubs.specs.Hubs.{Cleared, Singles, single, TwoHubs}
use Rattle.hubs.proofs.{Confluence.{orders_by_images}, Cases.{cases_same}}
use Rattle.hubs.specs.Hubs as hubs

-- ---- calls played one after the other are a run

abbrev zeros : ℕ → ℕ
zeros i = 0

abbrev made : (n : ℕ) → Switch → Left → Event
made n c s =
    let o = link_outcome c.up n c.a c.b s.tables (entries zeros n) in
    event (linking c.up n c.a c.b (length (entries zeros n))) s.tables (answer_of o.reply o.lent ∷ []) o.tables

events : (n : ℕ) → List Switch → Left → List Event
events n [] s = []
events n (c ∷ cs) s = made n c s ∷ events n cs (played zeros n c s)

run : (n : ℕ) (cs : List Switch) (s : Left) → Run s.tables (events n cs s) (after zeros n cs s).tables
unfolding events after played left_by Does
run n [] s = ended
run n (c ∷ cs) s = next (link_done c.up n c.a c.b s.tables (entries zeros n)) (run n cs (played zeros n c s))

-- none refused
AllTaken : (n : ℕ) → List Switch → Left → Type 0
AllTaken n [] s = Unit {0}
AllTaken n (c ∷ cs) s = ((link_outcome c.up n c.a c.b s.tables (entries zeros n)).reply.number ≡ 0) × AllTaken n cs (played zeros n c s)

singles : (n : ℕ) (cs : List Switch) (s : Left) → AllTaken n cs s → Singles n (events n cs s) cs
unfolding events AllTaken answer_of
singles n [] s ok = hubs.no_more
singles n (c ∷ cs) s ok = single ok.0 (singles n cs (played zeros n c s) ok.1)

-- ---- what a row of the worked pair says

abbrev lent : Tables
lent = lent_tables zeros 4

abbrev first : Left
first = left (clear_outcome 4 lent).tables []

-- two calls, none refused, and the order that they leave
record Played (c d : Switch) (xs : List ℕ) : Type 0 where
  cleared : Cleared 4 first.tables
  taken : AllTaken 4 (c ∷ d ∷ []) first
  order : (after zeros 4 (c ∷ d ∷ []) first).tables.order ≡ xs

first_same :
    (x y : Answer) (xs ys : List Answer) → same_answers (x ∷ xs) (y ∷ ys) ≡ true → (x.number ≡ y.number) × (same_answers xs ys ≡ true)
unfolding same_answers
first_same x y xs ys p =
    let a = eqb x.number y.number in
    let b = same_step x.step y.step in
    let e = eqb x.count y.count && same x.listed y.listed in
    let f = same_answers xs ys in
    (eqb-true x.number y.number (and_left a b (and_left (a && b) (e && f) p)), and_right e f (and_right (a && b) (e && f) p))

zero_first : (o : Tabled ℕ) → o.reply ≡ 0 → tabled 0 o.tables ≡ o
zero_first o e = rw e

by_row :
    (c d : Switch) (cs ds ns xs : List ℕ) (ws : List Want) →
    right zeros (row 4 (c ∷ d ∷ []) (last_answers (risen cs ∷ risen ds ∷ []) ∷ all_numbers ns ∷ whole_order xs ∷ ws)) ≡ true → Played c d xs
unfolding right meets_all meets AllTaken after played left_by risen reported answer_of
by_row c d cs ds ns xs ws p =
    let s = after zeros 4 (c ∷ d ∷ []) first in
    let z = eqb (clear_outcome 4 lent).reply 0 in
    let later = meets_all zeros 4 s (all_numbers ns ∷ whole_order xs ∷ ws) in
    let answered = meets zeros 4 s (last_answers (risen cs ∷ risen ds ∷ [])) in
    let q = and_right z (answered && later) p in
    let one = first_same _ _ _ _ (and_left answered later q) in
    let two = first_same _ _ _ _ one.1 in
    let rest = meets_all zeros 4 s (whole_order xs ∷ ws) in
    let o = and_right (same s.tables.numbers ns) rest (and_right answered later q) in
    let nought : (clear_outcome 4 lent).reply ≡ 0 = eqb-true (clear_outcome 4 lent).reply 0 (and_left z (answered && later) p) in
    record {
      cleared = record { before = lent; cleared = zero_first (clear_outcome 4 lent) nought };
      taken = (one.0, (two.0, tt));
      order = same_eq s.tables.order xs (and_left (same s.tables.order xs) (meets_all zeros 4 s ws) o);
    }

-- ---- the pair

played_one : Played (up 0 1) (up 2 3) (2 ∷ 3 ∷ 0 ∷ 1 ∷ [])
unfolding one_hub
played_one = by_row (up 0 1) (up 2 3) _ _ _ _ _ (one_hub_right zeros)

played_other : Played (up 2 3) (up 0 1) (0 ∷ 1 ∷ 2 ∷ 3 ∷ [])
unfolding other_hub
played_other = by_row (up 2 3) (up 0 1) _ _ _ _ _ (other_hub_right zeros)

head : List ℕ → ℕ
head [] = 0
head (x ∷ xs) = x

pub orders_differ : TwoHubs (λ n v w. v.order ≡ w.order) → ⊥
unfolding TwoHubs one_hub other_hub head
orders_differ claim =
    let cs = up 0 1 ∷ up 2 3 ∷ [] in
    let ds = up 2 3 ∷ up 0 1 ∷ [] in
    let v = (after zeros 4 cs first).tables in
    let w = (after zeros 4 ds first).tables in
    let p = run_is (run 4 cs first) in
    let q = run_is (run 4 ds first) in
    let e = claim 4 first.tables first.tables (called (events 4 cs first)) (called (events 4 ds first)) cs ds played_one.cleared
    played_other.cleared
    (subst (λ (es : List Event). Singles 4 es cs) p.0 (singles 4 cs first played_one.taken))
    (subst (λ (es : List Event). Singles 4 es ds) q.0 (singles 4 ds first played_other.taken)) cases_same in
    let same : v.order ≡ w.order = ap (λ (o : Tables). o.order) p.1 ∙ e ∙ sym (ap (λ (o : Tables). o.order) q.1) in
    absurd (omega (arith, ap head (sym played_one.order ∙ same ∙ played_other.order)))

pub images_differ :
    TwoHubs (λ n v w. image_of (graph_in n v.links) v.order ≡ image_of (graph_in n w.links) w.order) → ⊥
images_differ claim = orders_differ (orders_by_images claim)
