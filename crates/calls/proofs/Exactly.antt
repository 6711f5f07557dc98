-- In any run, an accepted link call lists exactly the radios whose core number by the largest group differs between the book's pairs
-- before and after. From `demand_3`; the number by peeling is not in the statement.
use Rattle.std.specs.Prelude.{◌≡◌, ◌↔◌, ◌⊎◌, ◌∷◌, ◌++◌, ◌<◌}
use Rattle.lists.{specs.Kit.{refl, sym, subst, ◌∙◌, inl, inr, Bool, true, false, List, [], ℕ, arith, length, take}}
use Rattle.lists.{specs.Lists.{member}, proofs.Tests.{bool_cases}}
use Rattle.mesh.{specs.Graph.{Link, graph}, specs.Cores.{Core}, specs.Tables.{Tables}, specs.Sound.{number_in}, proofs.Cores.Certificate.{core_unique}}
use Rattle.calls.specs.{Book.{Call, linking, Answer, book_after}, Outcomes.{link_outcome}, Runs.{did, answer_of, done, Event, event, events, after}}
use Rattle.calls.specs.{Runs.{givens}, Demand.{ByOne, LinkKept, Start}}
use Rattle.calls.proofs.{Runs.{Does, Run, ended, next, run, events_append, link_done}, WholeList.{run_kept}}

-- a run with one call more
run_further :
    (c : Call) (v : Tables) (hs : List Answer) {t u : Tables} {es : List Event} → Run t es u → Does c u hs v → Run t (es ++ (event c u hs v ∷ [])) v
run_further c v hs ended d = next d ended
run_further c v hs (next e r) d = next e (run_further c v hs r d)

differ : (up : Bool) (j k : ℕ) → ByOne up j k → j ≡ k → ⊥
unfolding ByOne
differ true j k e p = omega arith
differ false j k e p = omega arith

pub exactly_changed :
    (n : ℕ) (ps : List Link) (s t u : Tables) (es : List Event) (up : Bool) (m a b w : ℕ) (h : Answer) → Start n ps s → Run s es t →
    Does (linking up m a b w) t (h ∷ []) u → h.number ≡ 0 → (x j k : ℕ) → x < n → Core (graph n (book_after (givens es) ps)) x j →
    Core (graph n (book_after (givens (es ++ (event (linking up m a b w) t (h ∷ []) u ∷ []))) ps)) x k →
    (member x h.listed ≡ true) ↔ (j ≡ k → ⊥)
unfolding LinkKept
exactly_changed n ps s t u es up m a b w h start run d z x j k l p q =
    let before = run_kept n ps s t es start run in
    let after = run_kept n ps s u _ start (run_further (linking up m a b w) u (h ∷ []) run d) in
    let link = after.link_calls es [] up m a b w t u h refl z in
    let was : j ≡ number_in t.numbers x = core_unique _ x j _ p (before.cores x l) in
    let is : k ≡ number_in u.numbers x = core_unique _ x k _ q (after.cores x l) in (
      λ e f. differ up _ _ (link.by_one x e) (sym was ∙ f ∙ is),
      λ f. go (bool_cases (member x h.listed)) (λ o. f (was ∙ sym (link.numbers x o) ∙ sym is)),
    )
  where
    go : (member x h.listed ≡ true) ⊎ (member x h.listed ≡ false) → (member x h.listed ≡ false → ⊥) → member x h.listed ≡ true
    go (inl y) f = y
    go (inr y) f = absurd (f y)

-- the same of a list of calls and one link call more, whatever its answer table w holds
pub exactly_listed :
    (n : ℕ) (ps : List Link) (s : Tables) → Start n ps s → (cs : List Call) (up : Bool) (m a b : ℕ) (w : List ℕ) →
    let o = link_outcome up m a b (after cs s) w in o.reply.number ≡ 0 → (x j k : ℕ) → x < n →
    Core (graph n (book_after (givens (events cs s)) ps)) x j →
    Core (graph n (book_after (givens (events (cs ++ (linking up m a b (length w) ∷ [])) s)) ps)) x k →
    (member x (take o.reply.count o.lent) ≡ true) ↔ (j ≡ k → ⊥)
unfolding Does answer_of events
exactly_listed n ps s start cs up m a b w z x j k l p q =
    let t = after cs s in
    let o = link_outcome up m a b t w in
    let h = answer_of o.reply o.lent in
    let d = link_done up m a b t w in
    exactly_changed n ps s t o.tables (events cs s) up m a b (length w) h start (run cs s) d z x j k l p
    (subst (λ (es : List Event). Core (graph n (book_after (givens es) ps)) x k)
    (events_append cs (linking up m a b (length w) ∷ []) s ∙ last t (linking up m a b (length w)) o.tables h d) q)
  where
    last : (t : Tables) (c : Call) (u : Tables) (h : Answer) → did (h ∷ []) u ≡ done c t →
        events cs s ++ events (c ∷ []) t ≡ events cs s ++ (event c t (h ∷ []) u ∷ [])
    last t c u h d = rw (← d)
