-- One call of a list: it answers as the book does, the tables go on holding the book's pairs, and each link that it takes up or
-- down keeps what a link call keeps.
--   Stepped o      what one call keeps, where o is the book's outcome of it
--   step           every call keeps it
-- A further call takes a lemma and a clause of `step` here: that its links are allowed in turn, and what it answers.
use Rattle.std.specs.Prelude.{◌≡◌, ◌∷◌}
use Rattle.lists.{specs.Kit.{refl, ap, sym, subst, ◌∙◌, Bool, true, List, [], Option, none, some, ℕ, zero, suc, length, replicate, length-replicate}}
use Rattle.lists.{specs.Kit.{take-nil}}
use Rattle.lists.{specs.Kit.{ℤ, pos}, specs.Lists.{overwrite}, proofs.Overwrite.{take_overwrite}}
use Rattle.mesh.specs.{Limits.{max_neighbours}, Graph.{Link, Graph, graph}, Levels.{changed, step_of}, Tables.{Tables, graph_in}, Sound.{sound}}
use Rattle.mesh.specs.{Image.{image_links}}
use Rattle.calls.specs.{Questions.{lengths_of, answer_length, ask, ends_then, ends_refusal, is_proposal, tables_refusal, commit_refusal}}
use Rattle.calls.specs.{Questions.{read_refusal}, Switches.{Switch, switch, pairs_after, tables_after, AllAllowed}, Batches.{list_length, batch_refusal}}
use Rattle.calls.specs.{Batches.{batch_switches, batch_stop}, Heard.{heard_lengths, heard_proper, agreed_few, hear_refusal, one_sided_count}}
use Rattle.calls.specs.{Heard.{heard_switches}, Marks.{store_length, marks_good, is_marked, has_place, mark_refusal, set_refusal, named_refusal}}
use Rattle.calls.specs.{Marks.{mark_image}, Book.{Call, clearing, reading, linking, committing, batching, hearing, setting, removing, returning, other}}
use Rattle.calls.specs.{Book.{Outcome, Answer, reported, committed, counted, image_under, Beginning, from_clearing, from_image, Marking, no_mark}}
use Rattle.calls.specs.{Book.{sets, removes, returns, outcome_of, outcome_with, unless_refused, outcome, beginning_pairs, first_pairs, pairs_of}}
use Rattle.calls.specs.{Book.{site_size}}
use Rattle.calls.specs.{Book.{beginning_tables}, Outcomes.{links_taken, clear_outcome, read_outcome, link_outcome, commit_outcome}}
use Rattle.calls.specs.{Outcomes.{batch_outcome, hear_outcome}, MarkOutcomes.{store_outcome, set_outcome, remove_outcome, return_outcome}}
use Rattle.calls.specs.{Runs.{answer_of, Done, done}, Demand.{ended, CallKept, Start, cleared, read, ByHistory}, declared.Reply.{Reply}}
use Rattle.calls.proofs.{ChainLaws.{lent_zero, site_zero, link_zero, commit_zero, read_zero}, Runs.{Does}, MarkCalls.{named_zero, mark_read}}
use Rattle.calls.proofs.{Holds.{clear_is, read_is, Holds, clear_holds, read_holds, unchanged_holds, same_n, read_back, site_asked, with_n, all_holds}}
use Rattle.calls.proofs.{Holds.{all_switching}, QuestionLaws.{ask_zero}, Batches.{batch_allowed}, HeardLaws.{hear_allowed}}
use Rattle.calls.specs.Questions.{by_number}
use Rattle.calls.specs.Chains.{link_refusal}

pub record Stepped (n : ℕ) (ps : List Link) (o : Outcome) (t : Tables) (hs : List Answer) (v : Tables) : Type 0 where
  pub kept : CallKept n ps o t hs v
  pub holds : Holds n (pairs_of o ps) v

is_none : Option Beginning → Type 0
is_none none = Unit {0}
is_none (some x) = ⊥

some_none : {b : Beginning} → some b ≡ none → ⊥
unfolding is_none
some_none j = subst is_none (sym j) tt

-- what it begins from, or b
the_beginning : Beginning → Option Beginning → Beginning
the_beginning b none = b
the_beginning b (some d) = d

none_some : {b : Beginning} → none ≡ some b → ⊥
none_some j = some_none (sym j)

abbrev one : Answer → List Answer
one h = h ∷ []

-- what is compared of a link call
pub answer_accepted :
    (u : Bool) (r : Reply) (cs w x : List ℕ) → r.number ≡ 0 → r.step ≡ step_of u cs → r.count ≡ length cs → x ≡ overwrite cs w →
    answer_of r x ≡ reported u cs
unfolding answer_of reported
answer_accepted u r cs w x e f g h = rw (e, f, g, h, take_overwrite cs w)

pub answer_refused : (r : Reply) (q : ℕ) (x : List ℕ) → r.number ≡ q → r.step ≡ pos 0 → r.count ≡ 0 → answer_of r x ≡ counted q 0
unfolding answer_of counted
answer_refused r q x e f g = rw (e, f, g)

module _ (n : ℕ) (ps : List Link) (t : Tables) (k : Holds n ps t) where
  -- ---- what calls have in common

  -- a refused call
  refused :
      (q : ℕ) (hs : List Answer) (v : Tables) → hs ≡ one (counted (suc q) 0) → v ≡ t → Stepped n ps (outcome_of (one (counted (suc q) 0)) none []) t hs v
  unfolding pairs_of first_pairs pairs_after tables_after
  refused q hs v e f = record {
    kept = record { answered = e; tables = λ j. f; switching = λ j. rw f ended; started = λ qs j. absurd (none_some j) };
    holds =
        unchanged_holds n ps t k f;
  }

  -- a clearing, a reading or a coming back
  restarted :
      (hs rs : List Answer) (b : Beginning) (m : Marking) (v : Tables) → hs ≡ rs → site_size b ≡ n → v ≡ beginning_tables b → Start n (beginning_pairs b) v →
      Holds n (beginning_pairs b) v → Stepped n ps (unless_refused 0 (outcome_with rs (some b) [] m)) t hs v
  unfolding by_number pairs_of first_pairs pairs_after tables_after the_beginning
  restarted hs rs b m v e z f s k' = record {
    kept = record {
      answered = e;
      tables = λ j. absurd (some_none j);
      switching = λ j. absurd (some_none j);
      started = λ d j.
          subst (λ (c : Beginning). ByHistory n (record { began = c; calls = [] }) v) (ap (the_beginning b) j)
          (record { size = z; start = subst (Start n (beginning_pairs b)) f s; tables = f });
    };
    holds = k';
  }

  -- a call that leaves links, numbers and order, and sets or removes a mark
  left_alone :
      (hs rs : List Answer) (m : Marking) (v : Tables) → hs ≡ rs → v ≡ t → Stepped n ps (unless_refused 0 (outcome_with rs none [] m)) t hs v
  unfolding by_number pairs_of first_pairs pairs_after tables_after
  left_alone hs rs m v e f = record {
    kept = record { answered = e; tables = λ j. f; switching = λ j. rw f ended; started = λ qs j. absurd (none_some j) };
    holds = unchanged_holds n ps t k f;
  }

  -- links taken up or down one after the other
  carried :
      (hs rs : List Answer) (ss : List Switch) (v : Tables) → hs ≡ rs → AllAllowed n ps ss → v ≡ tables_after n ss t →
      Stepped n ps (unless_refused 0 (outcome_of rs none ss)) t hs v
  unfolding by_number pairs_of first_pairs
  carried hs rs ss v e ok f = record {
    kept = record { answered = e; tables = λ j. f; switching = λ j. rw f (all_switching n ps ss t k ok); started = λ qs j. absurd (none_some j) };
    holds = rw f (all_holds n ps ss t k ok);
  }

  -- ---- clearing and reading

  clear_start : (m : ℕ) → tables_refusal m (lengths_of t) ≡ 0 → Start n [] (beginning_tables (from_clearing m))
  unfolding tables_refusal
  clear_start m p =
      subst (λ (j : ℕ). Start j [] (beginning_tables (from_clearing m))) (same_n n ps t k m true (lent_zero m (lengths_of t) true 0 p).0)
      (cleared m t _ (sym (clear_is m t p)))

  read_start : (m : ℕ) (bs : List ℕ) → read_refusal m (lengths_of t) bs ≡ 0 → Start n (image_links m bs) (beginning_tables (from_image m bs))
  read_start m bs p =
      subst (λ (j : ℕ). Start j (image_links m bs) (beginning_tables (from_image m bs))) (same_n n ps t k m true (read_zero m (lengths_of t) bs p).0)
      (read m bs t _ (sym (read_is m bs t p)))

  clear_step :
      (R m : ℕ) → tables_refusal m (lengths_of t) ≡ R → let o = clear_outcome m t in
      Stepped n ps (unless_refused R (outcome_of (one (counted 0 0)) (some (from_clearing m)) [])) t (one (counted o.reply 0)) o.tables
  unfolding tables_refusal site_size beginning_pairs clear_outcome by_number
  clear_step zero m p =
      let lent = (lent_zero m (lengths_of t) true 0 p).0 in
      rw (clear_is m t p) (restarted _ _ (from_clearing m) no_mark _ refl (same_n n ps t k m true lent) refl (clear_start m p)
      (with_n n ps t k m [] _ true lent (clear_holds m t p)))
  clear_step (suc x) m p = rw p (refused x _ t refl refl)

  -- of an image that reading takes
  image_step :
      (m : ℕ) (bs : List ℕ) (mark : Marking) → read_refusal m (lengths_of t) bs ≡ 0 →
      Stepped n ps (unless_refused 0 (outcome_with (one (counted 0 0)) (some (from_image m bs)) [] mark)) t (one (counted 0 0))
      (beginning_tables (from_image m bs))
  unfolding site_size beginning_pairs
  image_step m bs mark p =
      let lent = (read_zero m (lengths_of t) bs p).0 in
      restarted _ _ (from_image m bs) mark _ refl (same_n n ps t k m true lent) refl (read_start m bs p)
      (with_n n ps t k m (image_links m bs) _ true lent (read_holds m bs t p))

  read_step :
      (R m : ℕ) (bs : List ℕ) → read_refusal m (lengths_of t) bs ≡ R → let o = read_outcome m bs t in
      Stepped n ps (unless_refused R (outcome_of (one (counted 0 0)) (some (from_image m bs)) [])) t (one (counted o.reply 0)) o.tables
  unfolding read_outcome by_number
  read_step zero m bs p = rw (read_is m bs t p) (image_step m bs no_mark p)
  read_step (suc x) m bs p = rw p (refused x _ t refl refl)

  -- ---- a link call

  link_step :
      (R : ℕ) (u : Bool) (m a b : ℕ) (w : List ℕ) → link_refusal u m a b (lengths_of t) (length w) true (graph m ps) ≡ R →
      let o = link_outcome u m a b t w in
      Stepped n ps (unless_refused R (outcome_of (one (reported u (changed u a b (graph m ps)))) none (switch u a b ∷ []))) t
      (one (answer_of o.reply o.lent)) o.tables
  unfolding link_outcome sound by_number AllAllowed tables_after answer_of reported counted
  link_step zero u m a b w p =
      let z = link_zero u a b (lengths_of t) (length w) true (graph m ps) p in
      let i = same_n n ps t k m (answer_length m (length w)) z.0.lent in
      let f : graph_in m t.links ≡ graph m ps = rw i (read_back n ps t k) in
      rw (site_asked n ps t k m (answer_length m (length w)) (λ g. ends_refusal max_neighbours u m a b g) ∙ p)
      (carried _ _ (switch u a b ∷ []) _ (rw (f, take_overwrite (changed u a b (graph m ps)) w)) (rw i at z.1, tt) (rw i refl))
  link_step (suc y) u m a b w p =
      rw (site_asked n ps t k m (answer_length m (length w)) (λ g. ends_refusal max_neighbours u m a b g) ∙ p) (refused y _ t refl refl)

  -- ---- committing

  commit_step :
      (R : ℕ) (u : Bool) (m a b : ℕ) (z : ℤ) (xs : List ℕ) → commit_refusal u m a b z xs (lengths_of t) true (graph m ps) ≡ R →
      let o = commit_outcome u m a b z xs t in
      Stepped n ps (unless_refused R (outcome_of (one (committed u (changed u a b (graph m ps)))) none (switch u a b ∷ []))) t
      (one (answer_of o.reply [])) o.tables
  unfolding commit_outcome commit_refusal by_number AllAllowed tables_after committed answer_of counted
  commit_step zero u m a b z xs p =
      let y = commit_zero u a b z xs (lengths_of t) true (graph m ps) p in
      let i = same_n n ps t k m true y.0.lent in
      let f : graph_in m t.links ≡ graph m ps = rw i (read_back n ps t k) in
      rw (site_asked n ps t k m true (λ g. ends_then max_neighbours u m a b g (ask 16 (is_proposal u a b z xs g) 0)) ∙ p)
      (carried _ _ (switch u a b ∷ []) _ (rw (f, take-nil (length (changed u a b (graph m ps))))) (rw i at y.1, tt) (rw i refl))
  commit_step (suc y) u m a b z xs p =
      rw (site_asked n ps t k m true (λ g. ends_then max_neighbours u m a b g (ask 16 (is_proposal u a b z xs g) 0)) ∙ p) (refused y _ t refl refl)

  -- ---- a batch

  batch_step :
      (R m : ℕ) (xs : List ℕ) → batch_refusal m (lengths_of t) (length xs) true ≡ R → let o = batch_outcome m xs t in
      Stepped n ps (unless_refused R (outcome_of (one (counted (batch_stop m xs ps) (length (batch_switches m xs ps)))) none (batch_switches m xs ps))) t
      (one (counted o.reply.number o.reply.value)) o.tables
  unfolding batch_outcome batch_refusal links_taken by_number counted
  batch_step zero m xs p =
      let i = same_n n ps t k m (list_length (length xs)) (site_zero m (lengths_of t) (list_length (length xs)) true 0 p).0.lent in
      let f : (graph_in m t.links).links ≡ ps = rw i (ap (λ (g : Graph). g.links) (read_back n ps t k)) in
      rw (site_asked n ps t k m (list_length (length xs)) (λ g. 0) ∙ p, f, i) (carried _ _ (batch_switches n xs ps) _ refl (batch_allowed n xs ps) refl)
  batch_step (suc y) m xs p = rw (site_asked n ps t k m (list_length (length xs)) (λ g. 0) ∙ p) (refused y _ t refl refl)

  -- ---- a hearing

  -- question 3 gets yes
  hear_asked : (m : ℕ) (xs w : List ℕ) → hear_refusal m (lengths_of t) xs (length w) (sound m t) ≡ hear_refusal m (lengths_of t) xs (length w) true
  unfolding hear_refusal
  hear_asked m xs w =
      site_asked n ps t k m (heard_lengths m (length xs) (length w)) (λ g. ask 14 (heard_proper m xs) (ask 7 (agreed_few max_neighbours m xs) 0))

  hear_step :
      (R m : ℕ) (xs w : List ℕ) → hear_refusal m (lengths_of t) xs (length w) true ≡ R → let o = hear_outcome m xs t w in
      Stepped n ps (unless_refused R (outcome_of (one (counted 0 (one_sided_count m xs))) none (heard_switches (graph m ps) xs))) t
      (one (counted o.reply.number o.reply.value)) o.tables
  unfolding hear_outcome hear_refusal by_number counted
  hear_step zero m xs w p =
      let z = site_zero m (lengths_of t) (heard_lengths m (length xs) (length w)) true _ p in
      let y = ask_zero 13 (heard_proper m xs) _ z.1 in
      let few = (ask_zero 6 (agreed_few max_neighbours m xs) 0 y.1).0 in
      let i = same_n n ps t k m (heard_lengths m (length xs) (length w)) z.0.lent in
      let f : graph_in m t.links ≡ graph m ps = rw i (read_back n ps t k) in
      rw (hear_asked m xs w ∙ p, f, i)
      (carried _ _ (heard_switches (graph n ps) xs) _ refl
      (hear_allowed n xs ps k.most (record { is_proper = k.valid.links_proper; is_ascending = k.valid.links_ascending }) (rw i at y.0) (rw i at few))
      refl)
  hear_step (suc y) m xs w p = rw (hear_asked m xs w ∙ p) (refused y _ t refl refl)

  -- ---- marks (W-211)

  mark_asked : (m : ℕ) (x bs : List ℕ) (later : ℕ) → mark_refusal m (lengths_of t) (sound m t) x bs later ≡ mark_refusal m (lengths_of t) true x bs later
  unfolding mark_refusal
  mark_asked m x bs later = site_asked n ps t k m (store_length bs) (λ g. ask 17 (marks_good m x bs) later)

  -- setting and removing
  store_step :
      (R : ℕ) (new old : List ℕ) (mark : Marking) →
      Stepped n ps (unless_refused R (outcome_with (one (counted 0 0)) none [] mark)) t (one (counted (store_outcome R new old).reply 0)) t
  unfolding store_outcome by_number
  store_step zero new old mark = left_alone _ _ mark t refl refl
  store_step (suc y) new old mark = refused y _ t refl refl

  return_step :
      (R m : ℕ) (x bs : List ℕ) → named_refusal m (lengths_of t) true x bs ≡ R → let o = return_outcome m x bs t in
      Stepped n ps (unless_refused R (outcome_with (one (counted 0 0)) (some (from_image m (mark_image m x bs))) [] (returns x))) t
      (one (counted o.reply 0)) o.tables
  unfolding return_outcome named_refusal by_number beginning_tables
  return_step zero m x bs p =
      let a = named_zero m (lengths_of t) true x bs p in
      rw (mark_asked m x bs (ask 18 (is_marked x bs) 0) ∙ p) (image_step m (mark_image m x bs) (returns x) (mark_read m (lengths_of t) true x bs a.0 a.1))
  return_step (suc y) m x bs p = rw (mark_asked m x bs (ask 18 (is_marked x bs) 0) ∙ p) (refused y _ t refl refl)

  -- ---- any call

  other_step : Stepped n ps (outcome_of [] none []) t [] t
  unfolding pairs_of first_pairs pairs_after tables_after
  other_step = record {
    kept = record { answered = refl; tables = λ j. refl; switching = λ j. ended; started = λ qs j. absurd (none_some j) };
    holds = k;
  }

  -- what the call comes to
  came : (c : Call) → Stepped n ps (outcome c (lengths_of t) ps) t (done c t).answers (done c t).tables
  unfolding done outcome set_outcome remove_outcome set_refusal named_refusal
  came (clearing m) = clear_step _ m refl
  came (reading m bs) = read_step _ m bs refl
  came (linking u m a b w) = rw length-replicate at (link_step _ u m a b (replicate w 0) refl)
  came (committing u m a b z xs) = commit_step _ u m a b z xs refl
  came (batching m xs) = batch_step _ m xs refl
  came (hearing m xs w) = rw length-replicate at (hear_step _ m xs (replicate w 0) refl)
  came (setting m x bs) = rw (mark_asked m x bs (ask 19 (has_place x bs) 0)) (store_step _ _ bs (sets x (image_under m x bs)))
  came (removing m x bs) = rw (mark_asked m x bs (ask 18 (is_marked x bs) 0)) (store_step _ _ bs (removes x (mark_image m x bs)))
  came (returning m x bs) = return_step _ m x bs refl
  came other = other_step

  pub step : (c : Call) (hs : List Answer) (v : Tables) → Does c t hs v → Stepped n ps (outcome c (lengths_of t) ps) t hs v
  unfolding Does
  step c hs v d = subst (λ (o : Done). Stepped n ps (outcome c (lengths_of t) ps) t o.answers o.tables) (sym d) (came c)
