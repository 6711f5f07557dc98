-- The law: a routine that meets its triple, at a signature of values, lent lists and structs of both, runs in cells; its result may hold references.
use mathlib.Core.{Path.{◌≡◌, sym, ◌∙◌, ap, subst}, Logic.{∥∥₁_prop, ∥∥₁_elim, ∥∥₁_map}, List.{List, [], ◌∷◌}}
use Prim.Native.Nat.{ℕ, ◌+◌, ◌*◌, ◌<◌}
use lib.ListN.{length}
use seplogic.Ra.Ura.{Ura}
use mir.Val.{Val}
use base.{Fraction.{full_share}, Logic.{SProp, ent, sep, emp, ex, via, id⊢, mono_l, mono∗, comm∗, assoc∗, assoc', fst∗, snd∗}}
use contract.{Monad.{fact, fact_i}, Closed.{model⁺, real⁺, real⁺_strict}, Running.{tables}, Lifetimes.{Lfts}, Adequate.{Satisfies, sat_weaken, sat_fact, sat_ex∗, sat_⇛}}
use prog.{Memory.{Memory, size}, Machine.{done}, Routine.{Routine, step, any_callee}}
use store.{View.{aligns_of, Kept-any}, Cells.{cells}}
use types.Logic.{Logic}
use types.Kit.{‵, raw, ◌⊛◌, some, later, ◌$◌, ◌∵◌, !, qed, move, keep, use0, use1, use3, split, join, pick, show, await, updating, now as at_once, frame}
use types.Kit.{done as finished}
use denote.{RattleType.{RattleType, Denots, owns}, Signature.{Signature, plain, types_at}, Exit.{yes}, Triple.End.{all, Fins, Outs, outs, lasts_of}}
use denote.{Triple.Spec.{Spec, Meets, triple_of, exits}, Triple.Adequate.{adequate}, Steps.{only}}
use Rattle.machine.specs.Cells.{Has, cells_of, Inputs, Outputs, OfInputs, of_inputs, outcome_of, Ready, Call, Ran, Runs, Stands, Span, All, AllGood, left}
use Rattle.machine.specs.Cells.{writes, passed}
use Rattle.machine.proofs.{Whole.{𝓥, whole, run_of, else_of, blocks_of}, Heap.{shared, kept, lie, parts_of}, Rows.{form, W₀, ⟦◌⟧}}
use Rattle.machine.proofs.{Rows.{both_facts, cells_long, row_cells, cells_out, cells_held}, Lending.{Lending, by_value, to_read, to_write, to_read_with, params}}
use Rattle.machine.proofs.{Lending.{slots, Nums, made, fulls, alive, over, begin, end, Names, lents, stoods, args, values, asides, inputs, outputs}}
use Rattle.machine.proofs.{Lending.{wrotes, inputs_are, outputs_are, passed_are, lend, back, lents_in}, Left.{LeftHeld, SameLengths, lengths_left}}
use Rattle.machine.proofs.{Left.{good_left}}
use ghost.Model as Closed

-- a result of the logic, whose one machine value is this
pub record Answer : Type 2 where
  pub row : RattleType
  pub machine : row.Denot → Val
  pub shows : (x : row.Denot) (vs : List Val) → ent 𝓥 ⟦ row.own_val x vs ⟧ (fact 𝓥 (vs ≡ machine x ∷ []))

-- one that may hold references: its type goes by the call's lifetimes, and what is told of it has no name of the logic's
pub record Told (n : ℕ) : Type 2 where
  pub row : Lfts n → RattleType
  pub Result : Type 0
  pub told : (κs : Lfts n) → (row κs).Denot → Result
  pub machine : Result → Val
  pub shows : (κs : Lfts n) (x : (row κs).Denot) (vs : List Val) → ent 𝓥 ⟦ (row κs).own_val x vs ⟧ (fact 𝓥 (vs ≡ machine (told κs x) ∷ []))

abbrev plainly : (n : ℕ) → Answer → Told n
plainly n R = record { row = λ _. R.row; Result = R.row.Denot; told = λ _ x. x; machine = R.machine; shows = λ _. R.shows }

-- ---- what stands after the call

stoods_lie : {n : ℕ} (ps : List (Lending n)) (i : Inputs (params ps)) (o : Outputs (params ps))
    → ent 𝓥 (stoods ps i o) (lie 𝓥 Closed.ι (writes (params ps) (left (params ps) i o)))
stoods_lie [] i o = id⊢ 𝓥 (emp 𝓥)
stoods_lie (by_value R ∷ ps) i o = stoods_lie ps i.1 o
stoods_lie (to_read j ok R ∷ ps) i o = stoods_lie ps i.1 o
stoods_lie (to_read_with j ok R S T ∷ ps) i o = stoods_lie ps i.1 o
stoods_lie (to_write j ok R ∷ ps) i o =
    mono∗ 𝓥 (via 𝓥 (row_cells R o.0 i.0.0) (snd∗ 𝓥 (fact 𝓥 (length o.0 ≡ length i.0.1)) (row_cells R o.0 i.0.0))
    (cells_out R o.0 i.0.0)) (stoods_lie ps i.1 o.1)

stoods_long : {n : ℕ} (ps : List (Lending n)) (i : Inputs (params ps)) (o : Outputs (params ps)) → ent 𝓥 (stoods ps i o) (fact 𝓥 (SameLengths (params ps) i o))
stoods_long [] i o = fact_i 𝓥 (Unit {0}) (emp 𝓥) tt
stoods_long (by_value R ∷ ps) i o = stoods_long ps i.1 o
stoods_long (to_read j ok R ∷ ps) i o = stoods_long ps i.1 o
stoods_long (to_read_with j ok R S T ∷ ps) i o = stoods_long ps i.1 o
stoods_long (to_write j ok R ∷ ps) i o =
    via 𝓥 (sep 𝓥 (fact 𝓥 (length o.0 ≡ length i.0.1)) (fact 𝓥 (SameLengths (params ps) i.1 o.1)))
    (mono∗ 𝓥 (fst∗ 𝓥 (fact 𝓥 (length o.0 ≡ length i.0.1)) (row_cells R o.0 i.0.0)) (stoods_long ps i.1 o.1))
    (both_facts (length o.0 ≡ length i.0.1) (SameLengths (params ps) i.1 o.1))

stoods_held : {n : ℕ} (ps : List (Lending n)) (i : Inputs (params ps)) (o : Outputs (params ps)) → ent 𝓥 (stoods ps i o) (fact 𝓥 (LeftHeld (params ps) o))
stoods_held [] i o = fact_i 𝓥 (Unit {0}) (emp 𝓥) tt
stoods_held (by_value R ∷ ps) i o = stoods_held ps i.1 o
stoods_held (to_read j ok R ∷ ps) i o = stoods_held ps i.1 o
stoods_held (to_read_with j ok R S T ∷ ps) i o = stoods_held ps i.1 o
stoods_held (to_write j ok R ∷ ps) i o =
    via 𝓥 (sep 𝓥 (fact 𝓥 (All (form R).Holds o.0)) (fact 𝓥 (LeftHeld (params ps) o.1)))
    (mono∗ 𝓥 (via 𝓥 (row_cells R o.0 i.0.0) (snd∗ 𝓥 (fact 𝓥 (length o.0 ≡ length i.0.1)) (row_cells R o.0 i.0.0))
    (cells_held R o.0 i.0.0)) (stoods_held ps i.1 o.1))
    (both_facts (All (form R).Holds o.0) (LeftHeld (params ps) o.1))

all_stand : (σ : Memory) (ss : List Span) (P : SProp 𝓥) → ent 𝓥 P (lie 𝓥 Closed.ι ss) → Satisfies 𝓥 Closed.H model⁺ σ P → All (Stands σ) ss
all_stand σ [] P h s = tt
all_stand σ (t ∷ ss) P h s = (
  run_of σ t.0 t.1 t.2 P (via 𝓥 (lie 𝓥 Closed.ι (t ∷ ss)) h (fst∗ 𝓥 (cells 𝓥 Closed.ι full_share t.0 t.1 t.2) (lie 𝓥 Closed.ι ss))) s,
  all_stand σ ss P (via 𝓥 (lie 𝓥 Closed.ι (t ∷ ss)) h (snd∗ 𝓥 (cells 𝓥 Closed.ι full_share t.0 t.1 t.2) (lie 𝓥 Closed.ι ss))) s,
)

-- a list that came back takes the cells that it took
same_spans : {n : ℕ} (ps : List (Lending n)) (σ : Memory) (i : Inputs (params ps)) (o : Outputs (params ps)) → AllGood σ (params ps) i
    → SameLengths (params ps) i o → LeftHeld (params ps) o → (b k : ℕ)
    → All (λ t. ¬ Has t b k) (writes (params ps) (left (params ps) i o)) → All (λ t. ¬ Has t b k) (writes (params ps) i)
same_spans [] σ i o g l h b k a = tt
same_spans (by_value R ∷ ps) σ i o g l h b k a = same_spans ps σ i.1 o g.1 l h b k a
same_spans (to_read j ok R ∷ ps) σ i o g l h b k a = same_spans ps σ i.1 o g.1 l h b k a
same_spans (to_read_with j ok R S T ∷ ps) σ i o g l h b k a = same_spans ps σ i.1 o g.1 l h b k a
same_spans (to_write j ok R ∷ ps) σ i o g l h b k a =
    let e : length (cells_of (form R) i.0.1) ≡ length (cells_of (form R) o.0) =
    cells_long R i.0.1 g.0.0 ∙ ap (λ (m : ℕ). m * size R.ty) (sym l.0) ∙ sym (cells_long R o.0 h.0) in
    (λ x. a.0 (x.0, x.1, subst (λ (m : ℕ). k < i.0.0.1 + m) e x.2), same_spans ps σ i.1 o.1 g.1 l.1 h.1 b k a.1)

-- ---- the law

-- what a contract says of what is passed, of the result, and of what was lent as it is seen at exit
abbrev pub Contract : (n : ℕ) → List (Lending n) → Told n → Type 1
Contract n ps R = (κs : Lfts n) → Denots (types_at (slots ps) κs) → (R.row κs).Denot → Outs κs (slots ps) (all yes (slots ps)) → Type 0

module _ (n : ℕ) (ps : List (Lending n)) (R : Told n) (routine : Routine) (contract : Contract n ps R) where
  abbrev pub signature : Signature
  signature = record { lifetimes = n; outlives = []; params = slots ps; result = plain R.row }

  -- nothing is required, and the contract is ensured
  abbrev pub spec : {M : Type 1} {𝓤 : Ura M} (𝓛 : Logic 𝓤) → Spec 𝓤 signature
  spec {𝓤 = 𝓤} 𝓛 κs a = record {
    ghost = Unit {0};
    requires = λ _. emp 𝓤;
    ensures = λ _ r. exits 𝓛 signature (all yes (slots ps)) κs a (λ e. fact 𝓤 (contract κs a r e));
  }

  abbrev pub PromisedAt : Type 1
  PromisedAt = Meets W₀ signature (real⁺.run routine) (spec W₀)

  abbrev Entered : Inputs (params ps) → (αs : Nums n) → Names ps → SProp 𝓥
  Entered i αs γs = sep 𝓥 (sep 𝓥 (sep 𝓥 (alive n αs) ⟦ owns (types_at (slots ps) (made n αs)) (args (made n αs) ps i γs) (values (made n αs) ps i) ⟧) (emp 𝓥))
      (asides (made n αs) ps i γs)

  enter : (σ : Memory) (i : Inputs (params ps)) → Ready σ (params ps) i → ent 𝓥 (lents ps i) ((Closed.H).⇛ (ex 𝓥 (λ (αs : Nums n). ex 𝓥 (Entered i αs))))
  enter σ i g = qed W₀ (raw (lents ps i) ∷ []) ∵ updating ! $ use0 W₀ (later (some (λ (αs : Nums n). raw (alive n αs)))) (begin n) $ await ! tt $ pick !
      (λ αs. move ! (1 ∷ []) $
      use1 W₀ (later (some (λ (γs : Names ps). ‵ (owns (types_at (slots ps) (made n αs)) (args (made n αs) ps i γs) (values (made n αs) ps i)) ⊛ raw
      (asides (made n αs) ps i γs)))) (lend (made n αs) σ ps i g.good) $
      await ! tt $ pick ! (λ γs. split ! $ at_once ! $ show ! (λ (αs' : Nums n). ex 𝓥 (Entered i αs')) αs $ show ! (Entered i αs) γs $
      move ! (2 ∷ 0 ∷ []) $ join ! $ use0 W₀ (raw (emp 𝓥)) (id⊢ 𝓥 (emp 𝓥)) $ move ! (1 ∷ 0 ∷ []) $ join ! $ finished !))

  leave : (i : Inputs (params ps)) (αs : Nums n) (γs : Names ps) (ws : Fins (made n αs) (slots ps) (all yes (slots ps)) (args (made n αs) ps i γs))
      → ent 𝓥 (sep 𝓥 (alive n αs) (sep 𝓥 ⟦ lasts_of (made n αs) (slots ps) (all yes (slots ps)) (args (made n αs) ps i γs) ws ⟧ (asides (made n αs) ps i γs)))
      ((Closed.H).⇛ (stoods ps i (wrotes (made n αs) ps (args (made n αs) ps i γs) ws)))
  leave i αs γs ws =
      qed W₀ (raw (alive n αs) ∷ ‵ (lasts_of (made n αs) (slots ps) (all yes (slots ps)) (args (made n αs) ps i γs) ws) ∷ raw (asides (made n αs) ps i γs) ∷
      []) ∵ updating ! $
      use1 W₀ (later (raw (over n αs))) (end n αs) $ await ! tt $ move ! (1 ∷ 2 ∷ 0 ∷ []) $
      use3 W₀ (later (raw (stoods ps i (wrotes (made n αs) ps (args (made n αs) ps i γs) ws)))) (back n αs ps i γs ws) $ await ! tt $ at_once ! $ finished !

  -- where the contract says that result and last lists are the outcome, the routine runs so
  module _ (outcome : OfInputs (params ps) (R.Result × Outputs (params ps)))
      (is : (κs : Lfts n) (a : Denots (types_at (slots ps) κs)) (r : (R.row κs).Denot) (e : Outs κs (slots ps) (all yes (slots ps)))
      → contract κs a r e → (R.told κs r, outputs κs ps e) ≡ of_inputs (params ps) outcome (inputs κs ps a)) where
    abbrev the_call : Call
    the_call = record { params = params ps; Result = R.Result; value = R.machine; outcome = outcome }

    module _ (met : PromisedAt) (σ : Memory) (i : Inputs (params ps)) (ready : Ready σ (params ps) i) where
      abbrev Sat : Memory → SProp 𝓥 → Type 1
      Sat τ P = Satisfies 𝓥 Closed.H model⁺ τ P

      -- some share of all of the memory that is not written, and more than a half of what of it may be
      abbrev KeptShare : SProp 𝓥
      KeptShare = shared 𝓥 Closed.ι (aligns_of σ) σ (writes (params ps) i)

      abbrev KeptMore : SProp 𝓥
      KeptMore = kept 𝓥 Closed.ι (aligns_of σ) σ (writes (params ps) i)

      abbrev KeptBack : SProp 𝓥
      KeptBack = sep 𝓥 KeptShare KeptMore

      start : Sat σ (sep 𝓥 (lents ps i) KeptBack)
      start =
          let L : SProp 𝓥 = lie 𝓥 Closed.ι (writes (params ps) i) in
          sat_weaken 𝓥 Closed.H model⁺ σ
          (via 𝓥 (sep 𝓥 L KeptBack)
          (parts_of 𝓥 Closed.ι (aligns_of σ) σ (writes (params ps) i) ready.writes_stand ready.writes_open ready.writes_apart)
          (via 𝓥 (sep 𝓥 (sep 𝓥 L KeptShare) KeptMore) (assoc' 𝓥 L KeptShare KeptMore)
          (via 𝓥 (sep 𝓥 (sep 𝓥 (lents ps i) KeptShare) KeptMore)
          (mono_l 𝓥 KeptMore
          (lents_in (aligns_of σ) σ (Kept-any σ) (writes (params ps) i) ps i ready.good ready.reads_stand ready.reads_apart))
          (assoc∗ 𝓥 (lents ps i) KeptShare KeptMore))))
          (whole σ)

      module _ (αs : Nums n) (γs : Names ps) where
        abbrev κs : Lfts n
        κs = made n αs

        abbrev a : Denots (types_at (slots ps) κs)
        a = args κs ps i γs

        abbrev Asides : SProp 𝓥
        Asides = asides κs ps i γs

        abbrev Lasts : Fins κs (slots ps) (all yes (slots ps)) a → SProp 𝓥
        Lasts ws = ⟦ lasts_of κs (slots ps) (all yes (slots ps)) a ws ⟧

        abbrev Says : (R.row κs).Denot → Fins κs (slots ps) (all yes (slots ps)) a → Type 0
        Says r ws = contract κs a r (outs κs (slots ps) (all yes (slots ps)) a ws)

        abbrev Ends : (R.row κs).Denot → Fins κs (slots ps) (all yes (slots ps)) a → SProp 𝓥
        Ends r ws = sep 𝓥 (Lasts ws) (fact 𝓥 (Says r ws))

        abbrev Shown : Val → (R.row κs).Denot → SProp 𝓥
        Shown v r = ⟦ (R.row κs).own_val r (v ∷ []) ⟧

        -- the run is over: read what it left
        finish : (steps : ℕ) (v : Val) (σ' : Memory) (r : (R.row κs).Denot) (ws : Fins κs (slots ps) (all yes (slots ps)) a)
            → step routine steps (passed (params ps) i) σ ≡ done (v, σ') → Says r ws
            → Sat σ' (sep 𝓥 (stoods ps i (wrotes κs ps a ws)) (sep 𝓥 (Shown v r) KeptBack)) → ∥ Ran routine the_call σ i ∥₁
        finish steps v σ' r ws run says s =
            let o : Outputs (params ps) = wrotes κs ps a ws in
            let B : SProp 𝓥 = stoods ps i o in
            let P : SProp 𝓥 = sep 𝓥 B (sep 𝓥 (Shown v r) KeptBack) in
            let to_back : ent 𝓥 P KeptBack = via 𝓥 (sep 𝓥 (Shown v r) KeptBack) (snd∗ 𝓥 B (sep 𝓥 (Shown v r) KeptBack)) (snd∗ 𝓥 (Shown v r) KeptBack) in
            let to_share : ent 𝓥 P KeptShare = via 𝓥 KeptBack to_back (fst∗ 𝓥 KeptShare KeptMore) in
            let to_more : ent 𝓥 P KeptMore = via 𝓥 KeptBack to_back (snd∗ 𝓥 KeptShare KeptMore) in
            let lies : ent 𝓥 P (lie 𝓥 Closed.ι (writes (params ps) (left (params ps) i o))) =
            via 𝓥 B (fst∗ 𝓥 B (sep 𝓥 (Shown v r) KeptBack)) (stoods_lie ps i o) in
            ∥∥₁_elim (sat_fact 𝓥 Closed.H model⁺ σ' P (SameLengths (params ps) i o)
            (via 𝓥 P (snd∗ 𝓥 ((model⁺).mem σ') P) (via 𝓥 B (fst∗ 𝓥 B (sep 𝓥 (Shown v r) KeptBack)) (stoods_long ps i o))) s) ∥∥₁_prop (λ long.
            ∥∥₁_elim (sat_fact 𝓥 Closed.H model⁺ σ' P (LeftHeld (params ps) o)
            (via 𝓥 P (snd∗ 𝓥 ((model⁺).mem σ') P) (via 𝓥 B (fst∗ 𝓥 B (sep 𝓥 (Shown v r) KeptBack)) (stoods_held ps i o))) s) ∥∥₁_prop (λ held.
            ∥∥₁_map (sat_fact 𝓥 Closed.H model⁺ σ' P (v ∷ [] ≡ R.machine (R.told κs r) ∷ [])
            (via 𝓥 P (snd∗ 𝓥 ((model⁺).mem σ') P) (via 𝓥 (sep 𝓥 (Shown v r) KeptBack) (snd∗ 𝓥 B (sep 𝓥 (Shown v r) KeptBack))
            (via 𝓥 (Shown v r) (fst∗ 𝓥 (Shown v r) KeptBack) (R.shows κs r (v ∷ []))))) s) (λ e.
            let Out : Type 0 = R.Result × Outputs (params ps) in
            let seen : Outs κs (slots ps) (all yes (slots ps)) = outs κs (slots ps) (all yes (slots ps)) a ws in
            let at_end : (R.told κs r, o) ≡ outcome_of the_call i =
            subst (λ (y : Outputs (params ps)). (R.told κs r, y) ≡ outcome_of the_call i) (outputs_are κs ps a ws)
            (subst (λ (x : Inputs (params ps)). (R.told κs r, outputs κs ps seen) ≡ outcome_of the_call x) (inputs_are κs ps i γs) (is κs a r seen says)) in
            let is_kept = blocks_of (aligns_of σ) σ (Kept-any σ) (writes (params ps) i) σ' P to_share to_more
            (writes (params ps) (left (params ps) i o)) lies (same_spans ps σ i o ready.good long held) s in
            record {
              steps = steps;
              memory = σ';
              returns = subst (λ (y : Out). step routine steps (passed (params ps) i) σ ≡ done (R.machine y.0, σ')) at_end
                  (subst (λ (u : Val). step routine steps (passed (params ps) i) σ ≡ done (u, σ')) (ap only e) run);
              lengths = subst (λ (y : Out). passed (params ps) (left (params ps) i y.1) ≡ passed (params ps) i) at_end (lengths_left (params ps) i o long);
              good = subst (λ (y : Out). AllGood σ' (params ps) (left (params ps) i y.1)) at_end
                  (good_left σ σ' is_kept (params ps) i o ready.good long held);
              stand = subst (λ (y : Out). All (Stands σ') (writes (params ps) (left (params ps) i y.1))) at_end
                  (all_stand σ' (writes (params ps) (left (params ps) i o)) P lies s);
              else_kept = else_of (aligns_of σ) σ (Kept-any σ) (writes (params ps) i) σ' P to_share to_more
                  (writes (params ps) (left (params ps) i o)) lies (same_spans ps σ i o ready.good long held) s;
              blocks_kept = is_kept;
            })))

        -- the lifetimes are over
        after : (steps : ℕ) (v : Val) (σ' : Memory) (r : (R.row κs).Denot) (ws : Fins κs (slots ps) (all yes (slots ps)) a)
            → step routine steps (passed (params ps) i) σ ≡ done (v, σ') → Says r ws
            → Sat σ' (sep 𝓥 (Ends r ws) (sep 𝓥 (sep 𝓥 (alive n αs) (Shown v r)) (sep 𝓥 Asides KeptBack))) → ∥ Ran routine the_call σ i ∥₁
        after steps v σ' r ws run says s =
            finish steps v σ' r ws run says (sat_⇛ 𝓥 Closed.H model⁺ σ' (stoods ps i (wrotes κs ps a ws)) (sep 𝓥 (Shown v r) KeptBack)
            (sat_weaken 𝓥 Closed.H model⁺ σ'
            (qed W₀ ((raw (Lasts ws) ⊛ raw (fact 𝓥 (Says r ws))) ∷ (raw (alive n αs) ⊛ raw (Shown v r)) ∷ raw Asides ∷ raw KeptBack ∷ []) ∵
            split ! $ move ! (2 ∷ []) $ split ! $ move ! (0 ∷ 2 ∷ 4 ∷ []) $
            use3 W₀ (later (raw (stoods ps i (wrotes κs ps a ws)))) (leave i αs γs ws) $ frame ! $ keep ! (0 ∷ 2 ∷ []) $ finished !) s))

        ran : Sat σ (sep 𝓥 (Entered i αs γs) KeptBack) → ∥ Ran routine the_call σ i ∥₁
        ran s =
            let Pre : SProp 𝓥 = sep 𝓥 (sep 𝓥 (alive n αs) ⟦ owns (types_at (slots ps) κs) a (values κs ps i) ⟧) (emp 𝓥) in
            ∥∥₁_elim (adequate 𝓥 Closed.H model⁺ (tables 𝓥 Closed.H model⁺ real⁺ (λ _. routine)) real⁺_strict any_callee
            (triple_of W₀ signature (spec W₀)) met ((κs, fulls n, tt, a, values κs ps i), tt) σ (sep 𝓥 Asides KeptBack)
            (sat_weaken 𝓥 Closed.H model⁺ σ (assoc∗ 𝓥 Pre Asides KeptBack) s)) ∥∥₁_prop (λ d.
            let Post : (R.row κs).Denot → SProp 𝓥 = λ r. sep 𝓥 (sep 𝓥 (alive n αs) (Shown d.1 r)) (ex 𝓥 (Ends r)) in
            ∥∥₁_elim (sat_ex∗ 𝓥 Closed.H model⁺ d.2 Post (sep 𝓥 Asides KeptBack)
            (sat_⇛ 𝓥 Closed.H model⁺ d.2 (ex 𝓥 Post) (sep 𝓥 Asides KeptBack) d.4)) ∥∥₁_prop (λ r.
            let B : SProp 𝓥 = sep 𝓥 (alive n αs) (Shown d.1 r.0) in
            let F : SProp 𝓥 = sep 𝓥 Asides KeptBack in
            ∥∥₁_elim (sat_ex∗ 𝓥 Closed.H model⁺ d.2 (Ends r.0) (sep 𝓥 B F)
            (sat_weaken 𝓥 Closed.H model⁺ d.2 (via 𝓥 (sep 𝓥 (sep 𝓥 (ex 𝓥 (Ends r.0)) B) F)
            (mono_l 𝓥 F (comm∗ 𝓥 B (ex 𝓥 (Ends r.0)))) (assoc∗ 𝓥 (ex 𝓥 (Ends r.0)) B F)) r.1)) ∥∥₁_prop (λ w.
            let AllOfIt : SProp 𝓥 = sep 𝓥 (Ends r.0 w.0) (sep 𝓥 B F) in
            ∥∥₁_elim (sat_fact 𝓥 Closed.H model⁺ d.2 AllOfIt (Says r.0 w.0)
            (via 𝓥 AllOfIt (snd∗ 𝓥 ((model⁺).mem d.2) AllOfIt) (via 𝓥 (Ends r.0 w.0) (fst∗ 𝓥 (Ends r.0 w.0) (sep 𝓥 B F))
            (snd∗ 𝓥 (Lasts w.0) (fact 𝓥 (Says r.0 w.0))))) w.1) ∥∥₁_prop (λ says.
            after d.0 d.1 d.2 r.0 w.0
            (subst (λ (vs : List Val). step routine d.0 vs σ ≡ done (d.1, d.2)) (passed_are κs ps i) d.3) says w.1))))

    pub in_cells_at : PromisedAt → Runs routine the_call
    in_cells_at met σ i ready =
        ∥∥₁_elim (sat_ex∗ 𝓥 Closed.H model⁺ σ (λ (αs : Nums n). ex 𝓥 (Entered i αs)) (KeptBack met σ i ready)
        (sat_⇛ 𝓥 Closed.H model⁺ σ (ex 𝓥 (λ (αs : Nums n). ex 𝓥 (Entered i αs))) (KeptBack met σ i ready)
        (sat_weaken 𝓥 Closed.H model⁺ σ (mono_l 𝓥 (KeptBack met σ i ready) (enter σ i ready)) (start met σ i ready)))) ∥∥₁_prop (λ αs.
        ∥∥₁_elim (sat_ex∗ 𝓥 Closed.H model⁺ σ (Entered i αs.0) (KeptBack met σ i ready) αs.1) ∥∥₁_prop (λ γs.
        ran met σ i ready αs.0 γs.0 γs.1))

-- the same for a result that holds no reference, and a contract in words of the call's
abbrev in_words : (n : ℕ) (ps : List (Lending n)) (R : Answer)
    → (Inputs (params ps) → R.row.Denot → Outputs (params ps) → Type 0) → Contract n ps (plainly n R)
in_words n ps R contract κs a r e = contract (inputs κs ps a) r (outputs κs ps e)

abbrev pub Promised : (n : ℕ) (ps : List (Lending n)) (R : Answer) → Routine → (Inputs (params ps) → R.row.Denot → Outputs (params ps) → Type 0) → Type 1
Promised n ps R routine contract = PromisedAt n ps (plainly n R) routine (in_words n ps R contract)

pub in_cells : (n : ℕ) (ps : List (Lending n)) (R : Answer) (routine : Routine) (contract : Inputs (params ps) → R.row.Denot → Outputs (params ps) → Type 0)
    (outcome : OfInputs (params ps) (R.row.Denot × Outputs (params ps)))
    → ((i : Inputs (params ps)) (r : R.row.Denot) (o : Outputs (params ps)) → contract i r o → (r, o) ≡ of_inputs (params ps) outcome i)
    → Promised n ps R routine contract → Runs routine (record { params = params ps; Result = R.row.Denot; value = R.machine; outcome = outcome })
in_cells n ps R routine contract outcome is =
    in_cells_at n ps (plainly n R) routine (in_words n ps R contract) outcome (λ κs a r e. is (inputs κs ps a) r (outputs κs ps e))
