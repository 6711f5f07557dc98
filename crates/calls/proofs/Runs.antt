-- Lists of calls as relations, for proofs by recursion over what was carried out.
--   Does, Run     a call, a list of calls carried out: as `done` and `events` say
--   run           every list of calls is a run
--   run_is        and a run is the list of its calls carried out
--   link_done, hear_done   a link call and a hearing, whatever the answer table and the further table hold
use Rattle.std.specs.Prelude.{◌≡◌, ◌∷◌, ◌++◌}
use Rattle.lists.{specs.Kit.{refl, ap, subst, Bool, List, [], ℕ, zero, suc, length, replicate, length-replicate}}
use Rattle.lists.{proofs.Overwrite.{take_overwrite}}
use Rattle.mesh.specs.{Levels.{changed}, Tables.{Tables, graph_in}, Sound.{sound}}
use Rattle.calls.specs.{Questions.{lengths_of}, Heard.{hear_refusal}, Outcomes.{link_outcome, hear_outcome}, Book.{Call}}
use Rattle.calls.specs.{Book.{linking, hearing, Answer, counted}, Runs.{Done, did, answer_of, done, Event, event, events, after}}
use Rattle.calls.specs.Questions.{by_number}
use Rattle.calls.specs.Chains.{link_refusal}

unfoldable pub Does : Call → (t : Tables) → (answers : List Answer) → (v : Tables) → Type 0
Does c t hs v = did hs v ≡ done c t

pub data Run : Tables → List Event → Tables → Type 0 where
  ended : {t : Tables} → Run t [] t
  next : {c : Call} {t u v : Tables} {hs : List Answer} {es : List Event} → Does c t hs u → Run u es v → Run t (event c t hs u ∷ es) v

pub run : (cs : List Call) (t : Tables) → Run t (events cs t) (after cs t)
unfolding events after Does
run [] t = ended
run (c ∷ cs) t = next refl (run cs (done c t).tables)

-- the calls of what was carried out
pub called : List Event → List Call
called [] = []
called (event c t hs v ∷ es) = c ∷ called es

pub run_is : {t v : Tables} {es : List Event} → Run t es v → (es ≡ events (called es) t) × (v ≡ after (called es) t)
unfolding called events after Does
run_is ended = (refl, refl)
run_is (next {c = c} {t = t} {u = u} {v = v} {hs = hs} {es = es} d r) =
    let i = run_is r in (
      subst (λ (o : Done). event c t hs u ∷ es ≡ event c t o.answers o.tables ∷ events (called es) o.tables) d
          (ap (λ (fs : List Event). event c t hs u ∷ fs) i.0),
      subst (λ (o : Done). v ≡ after (called es) o.tables) d i.1,
    )

-- ---- one list after another

pub after_append : (cs ds : List Call) (t : Tables) → after (cs ++ ds) t ≡ after ds (after cs t)
unfolding after
after_append [] ds t = refl
after_append (c ∷ cs) ds t = after_append cs ds (done c t).tables

pub events_append : (cs ds : List Call) (t : Tables) → events (cs ++ ds) t ≡ events cs t ++ events ds (after cs t)
unfolding events after
events_append [] ds t = refl
events_append (c ∷ cs) ds t =
    ap (λ (es : List Event). event c t (done c t).answers (done c t).tables ∷ es) (events_append cs ds (done c t).tables)

-- ---- whatever the lent table holds

pub link_done :
    (up : Bool) (n a b : ℕ) (t : Tables) (w : List ℕ) → let o = link_outcome up n a b t w in
    did (answer_of o.reply o.lent ∷ []) o.tables ≡ done (linking up n a b (length w)) t
unfolding done link_outcome sound by_number answer_of
link_done up n a b t w = go (link_refusal up n a b (lengths_of t) (length w) (sound n t) (graph_in n t.links)) refl
  where
    go : (R : ℕ) → link_refusal up n a b (lengths_of t) (length w) (sound n t) (graph_in n t.links) ≡ R → let o = link_outcome up n a b t w in
        did (answer_of o.reply o.lent ∷ []) o.tables ≡ done (linking up n a b (length w)) t
    go zero e =
        let cs = changed up a b (graph_in n t.links) in rw (length-replicate, e, take_overwrite cs w, take_overwrite cs (replicate (length w) 0))
    go (suc q) e = rw (length-replicate, e)

pub hear_done :
    (n : ℕ) (hs : List ℕ) (t : Tables) (w : List ℕ) → let o = hear_outcome n hs t w in
    did (counted o.reply.number o.reply.value ∷ []) o.tables ≡ done (hearing n hs (length w)) t
unfolding done hear_outcome by_number
hear_done n hs t w = go (hear_refusal n (lengths_of t) hs (length w) (sound n t)) refl
  where
    go : (R : ℕ) → hear_refusal n (lengths_of t) hs (length w) (sound n t) ≡ R → let o = hear_outcome n hs t w in
        did (counted o.reply.number o.reply.value ∷ []) o.tables ≡ done (hearing n hs (length w)) t
    go zero e = rw (length-replicate, e)
    go (suc q) e = rw (length-replicate, e)
