-- What a batch comes to.
--   batch_allowed     questions 4 to 7 of each link that it takes up got yes, in turn
--   BatchLeft        what is left of a batch gives what the whole gives: for the loop that takes the links up one by one
--   batch_first, batch_next, batch_ended, batch_halted   so it is before the first link, after a link, at the end, at a refusal
--   batch-stopped     a batch that stops: the links before are up, and its number is that of the next one
--   batch_all         a batch that does not stop takes every link up
--   batch_single      a batch of one link is the single call
--   batch_right       numbers are core numbers and the order is a k-order of what the links done make of the site
use Rattle.std.specs.Prelude.{◌≡◌, ◌⊎◌, ◌∷◌, ◌+◌, ◌*◌, ◌≤◌, ◌<◌, ◌%◌}
use Rattle.lists.specs.Kit.{refl, sym, ap, subst, ◌∙◌, inl, inr, Bool, true, false, cond, List, [], ℕ, zero, suc, arith}
use Rattle.lists.specs.Kit.{length, get_or, take, eqb-true, ne_eqb}
use Rattle.mesh.{specs.Limits.{max_neighbours}, specs.Graph.{Link, Graph, graph, link_before, with_link, relinked, new_links}, specs.Tables.{Tables, graph_in}}
use Rattle.mesh.{specs.Sound.{sound}, proofs.Tables.DegreeSum.{links_most}}
use Rattle.calls.specs.{Questions.{lengths_of, site_refusal, ends_refusal}, Switches.{Switch, switch, pairs_after, switched, tables_after}}
use Rattle.calls.specs.{Switches.{AllAllowed}, Batches.{list_length, batch_refusal, up_refusal, batch_switches, batch_stop, ups}}
use Rattle.calls.specs.{Outcomes.{Tabled, tabled, value, link_outcome, links_taken, batch_outcome}, Results.{BatchStopped, BatchSingle}}
use Rattle.calls.specs.{Results.{BatchRight}}
use Rattle.calls.proofs.{QuestionLaws.{true_answer_length}, ChainLaws.{site_zero, site_yes, site_stops, ends_zero}, ContractLaws.{by_zero, by_cases}}
use Rattle.calls.proofs.{SoundSwitches.{Good, good_valid, good_right, switched_graph, all_good}}
use Rattle.calls.specs.Questions.{by_number}
use Rattle.calls.specs.declared.Value.{Value}
use Rattle.calls.specs.Chains.{link_refusal}

-- ---- every link taken up is allowed

pub batch_allowed : (n : ℕ) (xs : List ℕ) (ps : List Link) → AllAllowed n ps (batch_switches n xs ps)
unfolding batch_switches AllAllowed by_number
batch_allowed n [] ps = tt
batch_allowed n (a ∷ []) ps = tt
batch_allowed n (a ∷ b ∷ xs) ps = go (up_refusal n a b ps) refl (batch_allowed n xs (new_links true a b ps))
  where
    go : (R : ℕ) → up_refusal n a b ps ≡ R → AllAllowed n (new_links true a b ps) (batch_switches n xs (new_links true a b ps))
        → AllAllowed n ps (by_number R (switch true a b ∷ batch_switches n xs (new_links true a b ps)) (λ q. []))
    go zero e i = (ends_zero max_neighbours true a b (graph n ps) e, i)
    go (suc q) e i = tt

-- ---- the links that a batch takes up, as a part of its list

length_ups : (xs : List ℕ) → length xs % 2 ≡ 0 → 2 * length (ups xs) ≡ length xs
unfolding ups
length_ups [] e = refl
length_ups (a ∷ []) e = absurd (omega arith)
length_ups (a ∷ b ∷ xs) e = omega (arith, length_ups xs (omega (arith, e)))

-- the links before the one refused, or all
pub batch_front : (n : ℕ) (xs : List ℕ) (ps : List Link) → batch_switches n xs ps ≡ ups (take (2 * length (batch_switches n xs ps)) xs)
unfolding batch_switches by_number ups
batch_front n [] ps = refl
batch_front n (a ∷ []) ps = refl
batch_front n (a ∷ b ∷ xs) ps = go (up_refusal n a b ps) (batch_front n xs (new_links true a b ps))
  where
    rest : List Switch
    rest = batch_switches n xs (new_links true a b ps)

    go : (R : ℕ) → rest ≡ ups (take (2 * length rest) xs)
        → by_number R (switch true a b ∷ rest) (λ q. []) ≡ ups (take (2 * length (by_number R (switch true a b ∷ rest) (λ q. []))) (a ∷ b ∷ xs))
    go zero e =
        let s : 2 * length (switch true a b ∷ rest) ≡ suc (suc (2 * length rest)) = omega arith in rw s (ap {B = List Switch} (λ ss. switch true a b ∷ ss) e)
    go (suc q) e = refl

pub batch_all : (n : ℕ) (xs : List ℕ) (ps : List Link) → batch_stop n xs ps ≡ 0 → batch_switches n xs ps ≡ ups xs
unfolding batch_switches batch_stop by_number ups
batch_all n [] ps e = refl
batch_all n (a ∷ []) ps e = refl
batch_all n (a ∷ b ∷ xs) ps e = go (up_refusal n a b ps) (batch_all n xs (new_links true a b ps)) e
  where
    go : (R : ℕ) → (batch_stop n xs (new_links true a b ps) ≡ 0 → batch_switches n xs (new_links true a b ps) ≡ ups xs)
        → by_number R (batch_stop n xs (new_links true a b ps)) (λ q. q) ≡ 0
        → by_number R (switch true a b ∷ batch_switches n xs (new_links true a b ps)) (λ q. []) ≡ switch true a b ∷ ups xs
    go zero h z = ap {B = List Switch} (λ ss. switch true a b ∷ ss) (h z)
    go (suc q) h z = absurd (omega arith)

-- the link that is refused stands after the ones done, and is refused by the pairs after these
record Stop (n : ℕ) (xs : List ℕ) (ps : List Link) (k q : ℕ) : Type 0 where
  there : 2 * k + 1 < length xs
  refused : q ≡ up_refusal n (get_or xs (2 * k) 0) (get_or xs (2 * k + 1) 0) (pairs_after (batch_switches n xs ps) ps)

stop_at : (n : ℕ) (xs : List ℕ) (ps : List Link) → (batch_stop n xs ps ≡ 0 → ⊥) → Stop n xs ps (length (batch_switches n xs ps)) (batch_stop n xs ps)
unfolding batch_switches batch_stop by_number pairs_after
stop_at n [] ps h = absurd (h refl)
stop_at n (a ∷ []) ps h = absurd (h refl)
stop_at n (a ∷ b ∷ xs) ps h =
    let s = go (up_refusal n a b ps) refl (stop_at n xs (new_links true a b ps)) h in record { there = s.0; refused = s.1 }
  where
    qs : List Link
    qs = new_links true a b ps

    rest : List Switch
    rest = batch_switches n xs qs

    go : (R : ℕ) → up_refusal n a b ps ≡ R → ((batch_stop n xs qs ≡ 0 → ⊥) → Stop n xs qs (length rest) (batch_stop n xs qs))
        → (by_number R (batch_stop n xs qs) (λ q. q) ≡ 0 → ⊥)
        → (2 * length (by_number R (switch true a b ∷ rest) (λ q. [])) + 1 < length (a ∷ b ∷ xs))
        × (by_number R (batch_stop n xs qs) (λ q. q)
        ≡ up_refusal n (get_or (a ∷ b ∷ xs) (2 * length (by_number R (switch true a b ∷ rest) (λ q. []))) 0)
        (get_or (a ∷ b ∷ xs) (2 * length (by_number R (switch true a b ∷ rest) (λ q. [])) + 1) 0)
        (pairs_after (by_number R (switch true a b ∷ rest) (λ q. [])) ps))
    go zero e rec g =
        let s = rec g in
        let k : 2 * length (switch true a b ∷ rest) ≡ suc (suc (2 * length rest)) = omega arith in
        let j : 2 * length (switch true a b ∷ rest) + 1 ≡ suc (suc (2 * length rest + 1)) = omega arith in
        (omega (arith, s.there), rw (j, k) s.refused)
    go (suc q) e rec g = (omega arith, sym e)

-- ---- the loop that takes the links up one by one

abbrev pub pairs : (n : ℕ) → Tables → List Link
pairs n t = (graph_in n t.links).links

-- k links of the list xs are done, which brought the tables t to u, and ys is what is left of the list
pub record BatchLeft (n : ℕ) (xs : List ℕ) (t : Tables) (k : ℕ) (ys : List ℕ) (u : Tables) : Type 0 where
  pub stop : batch_stop n xs (pairs n t) ≡ batch_stop n ys (pairs n u)
  pub count : length (batch_switches n xs (pairs n t)) ≡ k + length (batch_switches n ys (pairs n u))
  pub tables : tables_after n (batch_switches n xs (pairs n t)) t ≡ tables_after n (batch_switches n ys (pairs n u)) u
  pub links : length (pairs n u) ≡ k + length (pairs n t)

pub batch_first : (n : ℕ) (xs : List ℕ) (t : Tables) → BatchLeft n xs t 0 xs t
batch_first n xs t = record { stop = refl; count = omega arith; tables = refl; links = omega arith }

length_with_link : (l : Link) (ls : List Link) → length (with_link l ls) ≡ suc (length ls)
unfolding with_link
length_with_link l [] = refl
length_with_link l (m ∷ ms) = go (link_before l m) (length_with_link l ms)
  where
    go : (b : Bool) → length (with_link l ms) ≡ suc (length ms) → length (cond b (l ∷ m ∷ ms) (m ∷ with_link l ms)) ≡ suc (suc (length ms))
    go true e = refl
    go false e = ap suc e

length_new_links : (a b : ℕ) (ls : List Link) → length (new_links true a b ls) ≡ suc (length ls)
unfolding new_links
length_new_links a b ls = length_with_link _ ls

module _ {n : ℕ} {xs : List ℕ} {t : Tables} {k : ℕ} {u : Tables} where
  pub batch_next : (a b : ℕ) (ys : List ℕ) → BatchLeft n xs t k (a ∷ b ∷ ys) u → Good n u → ends_refusal max_neighbours true n a b (graph_in n u.links) ≡ 0
      → BatchLeft n xs t (k + 1) ys (switched n (switch true a b) u)
  unfolding batch_stop batch_switches by_number tables_after graph_in relinked
  batch_next a b ys w g e =
      let f : pairs n (switched n (switch true a b) u) ≡ new_links true a b (pairs n u) =
      ap (λ (h : Graph). h.links) (switched_graph n u g (switch true a b) (ends_zero max_neighbours true a b (graph_in n u.links) e)) in
      record {
        stop = w.stop ∙ rw (e, f);
        count = w.count ∙ rw (e, f) (omega arith);
        tables = w.tables ∙ rw (e, f);
        links = omega (arith, ap length f, length_new_links a b (pairs n u), w.links);
      }

  pub batch_ended : BatchLeft n xs t k [] u → tabled (value 0 k) u ≡ links_taken n xs t
  unfolding links_taken batch_stop batch_switches tables_after
  batch_ended w =
      let many : length (batch_switches n xs (pairs n t)) ≡ k = w.count ∙ omega arith in rw (w.stop, many, w.tables)

  pub batch_halted : (a b q : ℕ) (ys : List ℕ) → BatchLeft n xs t k (a ∷ b ∷ ys) u → q ≡ ends_refusal max_neighbours true n a b (graph_in n u.links) →
      (q ≡ 0 → ⊥)
      → tabled (value q k) u ≡ links_taken n xs t
  unfolding links_taken batch_stop batch_switches by_number tables_after graph_in
  batch_halted a b zero ys w e h = absurd (h refl)
  batch_halted a b (suc q) ys w e h =
      let stop : batch_stop n xs (pairs n t) ≡ suc q = w.stop ∙ rw (← e) in
      let many : length (batch_switches n xs (pairs n t)) ≡ k = w.count ∙ rw (← e) (omega arith) in
      let left : tables_after n (batch_switches n xs (pairs n t)) t ≡ u = w.tables ∙ rw (← e) in rw (stop, many, left)

  -- a site has at most 10,240 links
  pub batch_few : (ys : List ℕ) → BatchLeft n xs t k ys u → Good n u → k ≤ 10240
  unfolding graph_in
  batch_few ys w g = omega (arith, w.links, links_most (graph_in n u.links) u.order g.lent.most (good_valid n u g))

-- ---- what a caller has after a batch

module _ (n : ℕ) (xs : List ℕ) (t : Tables) where
  abbrev ps : List Link
  ps = pairs n t

  abbrev R : ℕ
  R = batch_refusal n (lengths_of t) (length xs) (sound n t)

  -- 1 to 3 got yes
  module _ (zero_is : R ≡ 0) where
    asked : Good n t × (list_length (length xs) ≡ true)
    unfolding batch_refusal
    asked =
        let s = (site_zero n (lengths_of t) (list_length (length xs)) (sound n t) 0 zero_is).0 in (
          record { lent = record { least = s.lent.least; most = s.lent.most; lengths = s.lent.lengths; further = refl }; is_sound = s.is_sound },
          s.lent.further,
        )

    abbrev v : Tables
    v = tables_after n (batch_switches n xs ps) t

    after : Good n v × (graph_in n v.links ≡ graph n (pairs_after (batch_switches n xs ps) ps))
    unfolding graph_in
    after = all_good n ps (batch_switches n xs ps) t asked.0 refl (batch_allowed n xs ps)

    taken_right : let o = links_taken n xs t in BatchRight n xs t o.tables o.reply
    unfolding links_taken list_length
    taken_right = record {
      graph = after.1 ∙ ap (λ (ss : List Switch). graph n (pairs_after ss ps)) (batch_front n xs ps);
      right = good_right n v after.0;
      all = λ z. omega (arith, ap length (batch_all n xs ps z), length_ups xs (eqb-true (length xs % 2) 0 asked.1));
    }

    taken_stopped : let o = links_taken n xs t in (o.reply.number ≡ 0 → ⊥) → BatchStopped n xs t o.reply o.tables
    unfolding links_taken graph_in
    taken_stopped h =
        let s = stop_at n xs ps h in
        record {
          there = s.there;
          done = ap (λ (ss : List Switch). tables_after n ss t) (batch_front n xs ps);
          refused = s.refused ∙ rw after.1;
        }

  pub batch_right : R ≡ 0 → let o = batch_outcome n xs t in BatchRight n xs t o.tables o.reply
  unfolding batch_outcome
  batch_right z = rw (by_zero {o = batch_outcome n xs t} _ _ _ z refl) (taken_right z)

  -- a number beside which a change may stand is that of a link
  pub batch_keeps :
      let o = batch_outcome n xs t in
      (o.reply.number ≡ 0 → ⊥) → (o ≡ tabled (value o.reply.number 0) t) ⊎ BatchStopped n xs t o.reply o.tables
  unfolding batch_outcome
  batch_keeps h = go (by_cases {o = batch_outcome n xs t} _ _ _ refl)
    where
      o : Tabled Value
      o = batch_outcome n xs t

      go : ((R ≡ 0) × (o ≡ links_taken n xs t)) ⊎ ((R ≡ 0 → ⊥) × (o ≡ tabled (value R 0) t)) →
          (o ≡ tabled (value o.reply.number 0) t) ⊎ BatchStopped n xs t o.reply o.tables
      go (inl (z, e)) =
          inr (subst (λ (p : Tabled Value). BatchStopped n xs t p.reply p.tables) (sym e)
          (taken_stopped z (λ y. h (ap (λ (p : Tabled Value). p.reply.number) e ∙ y))))
      go (inr (z, e)) = inl (e ∙ ap (λ (q : ℕ). tabled (value q 0) t) (sym (ap (λ (p : Tabled Value). p.reply.number) e)))

-- ---- a batch of one link

module _ (n a b : ℕ) (t : Tables) (w : List ℕ) (room : n ≤ length w) where
  abbrev g : Graph
  g = graph_in n t.links

  abbrev L : ℕ
  L = link_refusal true n a b (lengths_of t) (length w) (sound n t) g

  abbrev S : ℕ
  S = site_refusal n (lengths_of t) true (sound n t) 0

  link_is : L ≡ site_refusal n (lengths_of t) true (sound n t) (ends_refusal max_neighbours true n a b g)
  link_is = rw (true_answer_length n (length w) room)

  abbrev Single : Type 0
  Single =
      let o = link_outcome true n a b t w in let s = batch_outcome n (a ∷ b ∷ []) t in
      BatchSingle o.reply o.tables s.reply s.tables

  -- the link was asked for: taken up, or refused
  taken : (E : ℕ) → ends_refusal max_neighbours true n a b g ≡ E → L ≡ E → S ≡ 0 → Single
  unfolding link_outcome batch_outcome batch_refusal list_length links_taken by_number batch_stop batch_switches
      tables_after graph_in sound
  taken zero e l s = rw (l, s, e) (record { number = refl; value = refl; tables = refl })
  taken (suc q) e l s = rw (l, s, e) (record { number = refl; value = rw (ne_eqb (suc q) 0 (λ z. omega arith)) refl; tables = refl })

  -- neither was
  refused : (q : ℕ) → L ≡ suc q → S ≡ suc q → Single
  unfolding link_outcome batch_outcome batch_refusal list_length by_number sound
  refused q l s = rw (l, s) (record { number = refl; value = rw (ne_eqb (suc q) 0 (λ z. omega arith)) refl; tables = refl })

  pub batch_single : Single
  batch_single = go S refl
    where
      go : (Q : ℕ) → S ≡ Q → Single
      go zero s =
          let k = (site_zero n (lengths_of t) true (sound n t) 0 s).0 in
          taken (ends_refusal max_neighbours true n a b g) refl (link_is ∙ site_yes n (lengths_of t) true (sound n t) _ k) s
      go (suc q) s = refused q (link_is ∙ site_stops n (lengths_of t) true (sound n t) _ (λ z. omega (arith, s)) ∙ s) s
