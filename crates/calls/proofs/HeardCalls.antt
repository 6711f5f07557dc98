-- What a hearing comes to, on any sound tables, whoever wrote them.
--   hear_zero        its questions got yes
--   one_sided_marked, one_sided_bits   the bits of the further table, and their number
--   hear_links       afterwards the links are exactly the agreed ones
--   hear_right       what a caller has after an accepted hearing (property 2)
--   hear_same        a table that hears what is linked changes nothing
use Rattle.std.specs.Prelude.{◌≡◌, ◌⊎◌, ◌&&◌, ◌++◌, ◌*◌, ◌-◌, ◌≤◌, ◌<◌}
use Rattle.lists.{specs.Kit.{refl, sym, ap, ap₂, ◌∙◌, inl, inr, Bool, true, false, not, List, [], map, ℕ, suc, arith}}
use Rattle.lists.{specs.Kit.{ltb, eqb, length, ltb-true, ltb-false, eqb-true}, specs.Lists.{range, count, total}, proofs.Tests.{bool_cases, and_left}}
use Rattle.lists.{proofs.Tests.{and_right}, proofs.Range.{range_in}, proofs.Filter.{filter_none}, proofs.Map.{flat_map_none}}
use Rattle.lists.{proofs.Sums.{total_cong}}
use Rattle.mesh.{specs.Limits.{max_radios, max_neighbours, row_bytes}, specs.Graph.{Graph, graph, linked}, specs.Tables.{Tables, marked, graph_in}}
use Rattle.mesh.{specs.Sound.{sound, symmetric, irreflexive, within, row_degree, rows_proper}, proofs.GraphLaws.{linked_sym}}
use Rattle.mesh.{proofs.Tables.Laws.{marked_bit_table}, proofs.Tables.Rows.{within_of, row_degree_count}, proofs.Tables.Soundness.{sound_certificate}}
use Rattle.calls.specs.{Questions.{lengths_of}, Switches.{Switch, switch, tables_after, AllAllowed}, Heard.{agreed, heard_alone, one_sided}}
use Rattle.calls.specs.{Heard.{one_sided_count, heard_lengths, heard_proper, agreed_few, hear_refusal, row_switches, switches_where, goes_down, comes_up}}
use Rattle.calls.specs.{Heard.{heard_switches}, Outcomes.{value, hear_outcome}, Results.{HearRight}}
use Rattle.calls.proofs.{QuestionLaws.{ask_zero}, ChainLaws.{site_zero}, ContractLaws.{by_zero}, SoundSwitches.{Good, good_right, all_good}}
use Rattle.calls.proofs.{HeardLaws.{agreed_links, agreed_linked, hear_allowed, hear_pairs}, HearingLaws.{good_marked, ordered_in}}

-- ---- the questions

pub record HeardGood (n : ℕ) (hs : List ℕ) (further : ℕ) (t : Tables) : Type 0 where
  pub good : Good n t
  pub heard_long : length hs ≡ row_bytes * n
  pub further_long : further ≡ row_bytes * n
  pub is_proper : heard_proper n hs ≡ true
  pub is_few : agreed_few max_neighbours n hs ≡ true

pub hear_zero : (n : ℕ) (hs : List ℕ) (w : ℕ) (t : Tables) → hear_refusal n (lengths_of t) hs w (sound n t) ≡ 0 → HeardGood n hs w t
unfolding hear_refusal heard_lengths
hear_zero n hs w t e =
    let z = site_zero n (lengths_of t) (heard_lengths n (length hs) w) (sound n t) _ e in
    let y = ask_zero 13 (heard_proper n hs) _ z.1 in
    let s = z.0.lent in
    record {
      good = record { lent = record { least = s.least; most = s.most; lengths = s.lengths; further = refl }; is_sound = z.0.is_sound };
      heard_long = eqb-true (length hs) (row_bytes * n) (and_left (eqb (length hs) (row_bytes * n)) _ s.further);
      further_long = eqb-true w (row_bytes * n) (and_right (eqb (length hs) (row_bytes * n)) _ s.further);
      is_proper = y.0;
      is_few = (ask_zero 6 (agreed_few max_neighbours n hs) 0 y.1).0;
    }

-- ---- one-sided pairs

pub one_sided_marked : (n : ℕ) (hs : List ℕ) (a b : ℕ) → a < n → b < max_radios → marked (one_sided n hs) a b ≡ (marked hs a b && not (marked hs b a))
unfolding one_sided heard_alone
one_sided_marked n hs a b la lb = marked_bit_table n (heard_alone hs) a b la lb

-- a radio at n or above is not heard
pub heard_none : (n : ℕ) (hs : List ℕ) → heard_proper n hs ≡ true → (a b : ℕ) → a < n → n ≤ b → b < max_radios → marked hs a b ≡ false
unfolding heard_proper
heard_none n hs p = within_of n hs (and_right (irreflexive n hs) (within n hs) p)

-- as many as there are bits set in the further table
pub one_sided_bits : (n : ℕ) (hs : List ℕ) → n ≤ max_radios → heard_proper n hs ≡ true → one_sided_count n hs ≡ total (row_degree (one_sided n hs)) (range 0 n)
unfolding one_sided_count heard_alone
one_sided_bits n hs small p =
    total_cong (λ a. count (heard_alone hs a) (range 0 n)) (row_degree (one_sided n hs)) (range 0 n)
    (λ a i.
    let la : a < n = omega (arith, range_in 0 n a i) in
    sym
    (row_degree_count n (one_sided n hs) a (heard_alone hs a) small
    (λ b lb. one_sided_marked n hs a b la (omega arith))
    (λ b nb lb. one_sided_marked n hs a b la lb ∙ ap (λ (x : Bool). x && not (marked hs b a)) (heard_none n hs p a b la nb lb))))

-- ---- afterwards

module _ (n : ℕ) (hs : List ℕ) (t : Tables) (w : ℕ) (q : HeardGood n hs w t) where
  abbrev g : Graph
  g = graph_in n t.links

  abbrev small : n ≤ max_radios
  small = q.good.lent.most

  allowed : AllAllowed n g.links (heard_switches g hs)
  unfolding graph_in
  allowed = hear_allowed n hs g.links small (ordered_in n t.links) q.is_proper q.is_few

  after :
      Good n (tables_after n (heard_switches g hs) t) × (graph_in n (tables_after n (heard_switches g hs) t).links ≡ graph n (agreed_links n hs))
  unfolding graph_in
  after =
      let r = all_good n g.links (heard_switches g hs) t q.good refl allowed in
      (r.0, r.1 ∙ ap (graph n) (hear_pairs n hs g.links small (ordered_in n t.links) q.is_proper q.is_few))

  abbrev end : Tables
  end = tables_after n (heard_switches g hs) t

  end_within : within n end.links ≡ true
  unfolding sound rows_proper
  end_within =
      let rows = (sound_certificate max_neighbours n end after.0.is_sound).0 in
      and_left (within n end.links) _ (and_right (symmetric n end.links && irreflexive n end.links) _ rows)

  pub hear_links : (a b : ℕ) → a < n → b < max_radios → marked end.links a b ≡ (marked hs a b && marked hs b a)
  unfolding agreed
  hear_links a b la lb = go (bool_cases (ltb b n))
    where
      go : (ltb b n ≡ true) ⊎ (ltb b n ≡ false) → marked end.links a b ≡ (marked hs a b && marked hs b a)
      go (inl e) =
          let ln = ltb-true b n e in
          sym (good_marked n end after.0 a b la ln) ∙ ap (λ (h : Graph). linked h a b) after.1 ∙ agreed_linked n hs small q.is_proper a b la ln
      go (inr e) =
          let nb = ltb-false b n e in
          within_of n end.links end_within a b la nb lb
          ∙ sym (ap (λ (x : Bool). x && marked hs b a) (heard_none n hs q.is_proper a b la nb lb))

  accepted_right : HearRight n hs t end (value 0 (one_sided_count n hs)) (one_sided n hs)
  accepted_right = record {
    allowed = allowed;
    links = hear_links;
    right = good_right n end after.0;
    marks = one_sided_marked n hs;
    counted = one_sided_bits n hs small q.is_proper;
  }

pub hear_right :
    (n : ℕ) (hs : List ℕ) (t : Tables) (w : List ℕ) → hear_refusal n (lengths_of t) hs (length w) (sound n t) ≡ 0 →
    let o = hear_outcome n hs t w in HearRight n hs t o.tables o.reply o.lent
unfolding hear_outcome
hear_right n hs t w z = rw (by_zero {o = hear_outcome n hs t w} _ _ _ z refl) (accepted_right n hs t (length w) (hear_zero n hs (length w) t z))

-- ---- a heard table that marks the links

switches_none : (u : Bool) (n : ℕ) (f : ℕ → ℕ → Bool) → ((a b : ℕ) → a < n → b < n → f a b ≡ false) → switches_where u n f ≡ []
unfolding switches_where row_switches
switches_none u n f h =
    flat_map_none (row_switches u n f) (range 0 n)
    (λ a i.
    ap (λ (bs : List ℕ). map (λ b. switch u a b) bs)
    (filter_none (f a) (range (suc a) (n - suc a))
    (λ b m. h a b (omega (arith, range_in 0 n a i)) (omega (arith, range_in (suc a) (n - suc a) b m)))))

pub hear_same : (n : ℕ) (t : Tables) → Good n t → heard_switches (graph_in n t.links) t.links ≡ []
unfolding heard_switches goes_down comes_up agreed graph_in
hear_same n t k =
    ap₂ (λ (ss rs : List Switch). ss ++ rs)
    (switches_none false n (goes_down (graph_in n t.links) t.links)
    (λ a b la lb. rw (good_marked n t k a b la lb) (rw (mirror a b la lb) (never_down (marked t.links a b)))))
    (switches_none true n (comes_up (graph_in n t.links) t.links)
    (λ a b la lb. rw (good_marked n t k a b la lb) (never_up (marked t.links a b) (marked t.links b a))))
  where
    mirror : (a b : ℕ) → a < n → b < n → marked t.links b a ≡ marked t.links a b
    mirror a b la lb = sym (good_marked n t k b a lb la) ∙ linked_sym (graph_in n t.links) b a ∙ good_marked n t k a b la lb

    never_down : (x : Bool) → (x && not (x && x)) ≡ false
    never_down true = refl
    never_down false = refl

    never_up : (x y : Bool) → ((x && y) && not x) ≡ false
    never_up true true = refl
    never_up true false = refl
    never_up false y = refl
