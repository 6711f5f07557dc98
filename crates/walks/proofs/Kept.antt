-- Entries before the beginning end's place never move: of every order after a link came up, by the outcomes of the public calls.
--   beginning_kept   the order of the definitions
--   link_begins      after a link call
--   commit_begins    after a committing
use Rattle.std.specs.Prelude.{◌≡◌, ◌⊎◌, ◌∷◌, ◌++◌}
use Rattle.lists.{specs.Kit.{refl, ap, ◌∙◌, inl, inr, true, false, List, [], ℕ, eqb, ℤ, length, get_or, take, take_at, get_or_at, eqb-true}}
use Rattle.lists.{specs.Kit.{eqb-false}, specs.Lists.{In}, proofs.Tests.{bool_cases}, proofs.Range.{once_in}}
use Rattle.mesh.{specs.Limits.{max_neighbours}, specs.Graph.{Graph, Allowed}, specs.Levels.{new_order}, specs.Tables.{Tables, graph_in}}
use Rattle.mesh.{specs.Sound.{sound}, specs.Valid.{Valid}, proofs.Cores.KOrders.{k_order_certificate}, proofs.Images.Tables.{valid_graph_in}}
use Rattle.calls.{specs.Questions.{lengths_of}, specs.Switches.{switched}, specs.Outcomes.{Linked, Tabled, link_outcome, commit_outcome}}
use Rattle.calls.{proofs.ChainLaws.{link_zero, commit_zero}, proofs.ContractLaws.{accepted_is}}
use Rattle.walks.specs.Results.{before_ends, BeginningKept}
use Rattle.walks.proofs.Beginning as beginning
use Rattle.calls.specs.declared.Reply.{Reply}

-- a list cut at the first end that it has
pub record Cut (a b : ℕ) (xs : List ℕ) : Type 0 where
  pub end : ℕ
  pub rest : List ℕ
  pub whole : xs ≡ before_ends a b xs ++ end ∷ rest
  pub is_end : (end ≡ a) ⊎ (end ≡ b)
  pub no_end : (x : ℕ) → In x (before_ends a b xs) → (x ≡ a → ⊥) × (x ≡ b → ⊥)

pub cut_at : (a b : ℕ) (xs : List ℕ) → In a xs → Cut a b xs
unfolding before_ends
cut_at a b [] m = absurd m
cut_at a b (x ∷ xs) m = go (λ i. cut_at a b xs i) (bool_cases (eqb x a)) (bool_cases (eqb x b)) m
  where
    more : Cut a b xs → eqb x a ≡ false → eqb x b ≡ false → Cut a b (x ∷ xs)
    more c ea eb = record {
      end = c.end;
      rest = c.rest;
      whole = rw (ea, eb) (ap (λ (z : List ℕ). x ∷ z) c.whole);
      is_end = c.is_end;
      no_end = rw (ea, eb) (before c ea eb);
    }
      where
        before : Cut a b xs → eqb x a ≡ false → eqb x b ≡ false → (y : ℕ) → In y (x ∷ before_ends a b xs) → (y ≡ a → ⊥) × (y ≡ b → ⊥)
        before c ea eb y (inl e) = (λ q. eqb-false x a ea (e ∙ q), λ q. eqb-false x b eb (e ∙ q))
        before c ea eb y (inr i) = c.no_end y i

    go : (In a xs → Cut a b xs) → (eqb x a ≡ true) ⊎ (eqb x a ≡ false) → (eqb x b ≡ true) ⊎ (eqb x b ≡ false) → In a (x ∷ xs) → Cut a b (x ∷ xs)
    go rec (inl e) q m = record { end = x; rest = xs; whole = rw e refl; is_end = inl (eqb-true x a e); no_end = rw e (λ y i. absurd i) }
    go rec (inr e) (inl q) m = record { end = x; rest = xs; whole = rw (e, q) refl; is_end = inr (eqb-true x b q); no_end = rw (e, q) (λ y i. absurd i) }
    go rec (inr e) (inr q) (inl s) = absurd (eqb-false x a e s)
    go rec (inr e) (inr q) (inr i) = more (rec i) e q

pub beginning_kept : (a b : ℕ) (g : Graph) (xs : List ℕ) → Valid max_neighbours g xs → Allowed max_neighbours true a b g
    → BeginningKept a b g xs (new_order true a b g xs)
beginning_kept a b g xs valid ok = at (cut_at a b xs (once_in g.n xs (k_order_certificate g xs valid.k_order).once a ok.a_radio))
  where
    at : Cut a b xs → BeginningKept a b g xs (new_order true a b g xs)
    at c =
        let ps = before_ends a b xs in
        let stands : get_or xs (length ps) 0 ≡ c.end = ap (λ (z : List ℕ). get_or z (length ps) 0) c.whole ∙ get_or_at ps c.end c.rest 0 (length ps) refl in
        record {
          kept = beginning.before_kept max_neighbours a b g xs valid ok ps c.end c.rest c.whole c.is_end c.no_end
              ∙ ap (take (length ps)) c.whole ∙ take_at ps (c.end ∷ c.rest) (length ps) refl;
          end = rw stands c.is_end;
          lower = rw stands (beginning.begins_low max_neighbours a b g xs valid ok ps c.end c.rest c.whole c.is_end c.no_end);
        }

pub link_begins :
    (n a b : ℕ) (t : Tables) (w : List ℕ) → let o = link_outcome true n a b t w in
    o.reply.number ≡ 0 → BeginningKept a b (graph_in n t.links) t.order o.tables.order
unfolding link_outcome switched graph_in sound
link_begins n a b t w z =
    let g = graph_in n t.links in
    let c = accepted_is (λ (o : Linked Reply). o.reply.number) (link_outcome true n a b t w) _ _ _ (λ q. refl) refl z in
    let good = link_zero true a b (lengths_of t) (length w) (sound n t) g c.0 in
    rw c.1 (beginning_kept a b g t.order (valid_graph_in max_neighbours n t good.0.lent.most good.0.is_sound) good.1)

pub commit_begins :
    (n a b : ℕ) (z : ℤ) (xs : List ℕ) (t : Tables) → let o = commit_outcome true n a b z xs t in
    o.reply.number ≡ 0 → BeginningKept a b (graph_in n t.links) t.order o.tables.order
unfolding commit_outcome switched graph_in sound
commit_begins n a b z xs t y =
    let g = graph_in n t.links in
    let c = accepted_is (λ (o : Tabled Reply). o.reply.number) (commit_outcome true n a b z xs t) _ _ _ (λ q. refl) refl y in
    let good = commit_zero true a b z xs (lengths_of t) (sound n t) g c.0 in
    rw c.1 (beginning_kept a b g t.order (valid_graph_in max_neighbours n t good.0.lent.most good.0.is_sound) good.1)
