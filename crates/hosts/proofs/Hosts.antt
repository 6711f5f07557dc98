-- Demand 3 at the machine: a host's list of calls, in cells of memory, ends as document 01's book says. The statement is `HostsDemand` in
-- specs/Hosts.antt.
--   done_one         one call: the machine shows what `done` says, and the tables that it leaves stand after it
--   hosted_run       a host's list of calls is carried out as `events` says, and its last tables stand in the last memory
--   standing_demand  so demand 3 holds of it
--   hosts_demand     and of every list that begins with an accepted clearing or reading
use Rattle.std.specs.Prelude.{◌≡◌, ◌⊎◌, ◌∷◌, ◌*◌}
use Rattle.lists.specs.Kit.{refl, sym, ◌∙◌, ap, subst, inl, inr, ∥∥₁_prop, ∥∥₁_elim, ∥∥₁_map, Bool, List, [], map, some, ℕ, arith, length}
use mir.{Mem.{Cell}, Syntax.{w8, w16}, Val.{Val, Vals, vunit, vbool, vint, vfloat, vptr, vcode, vstruct, vnil, vcons}}
use prog.{Memory.{Memory}, Routine.{Routine}}
use Rattle.machine.{specs.Cells.{Place, Lent, place, entries, Inputs, Span, Stands, Apart, All, GoodList, Ready, Ran, Runs, span, cells_of, cell_at}}
use Rattle.machine.{specs.Cells.{writes, outcome_of}, proofs.Chain.{list_one, cells_count, carried, first_entries}, proofs.Again.{stands_still}}
use Rattle.machine.{proofs.Left.{ran_lengths, ran_held}, proofs.Made.{ran_one}}
use Rattle.mesh.specs.{Graph.{Link, graph}, Tables.{Tables, tables}, Image.{image_links}}
use Rattle.calls.{specs.Questions.{Lengths, lengths_of}, specs.CallContracts.{ClearContract, ReadContract}, specs.Outcomes.{tabled, clear_outcome}}
use Rattle.calls.{specs.Outcomes.{read_outcome, link_outcome, commit_outcome, batch_outcome, hear_outcome}, specs.MarkOutcomes.{set_outcome, remove_outcome}}
use Rattle.calls.{specs.MarkOutcomes.{return_outcome}, specs.Book.{Call, clearing, reading, linking, committing, batching, hearing, setting, removing}}
use Rattle.calls.{specs.Book.{returning, other, Given, given, Answer, counted, Outcome, outcome, booked, book_after, pairs_of}, specs.Runs.{Done}}
use Rattle.calls.{specs.Runs.{answer_of, done, events, after, givens}, specs.Demand.{cleared, read, beginning, Kept, Demand3}}
use Rattle.calls.{proofs.Runs.{link_done, hear_done, Does}, proofs.Holds.{Holds}, proofs.Steps.{step}, proofs.WholeList.{start, demand_3}}
use Rattle.hosts.specs.{Public.{Known, clear, image_read, link, commit, link_batch, hear, mark_set, mark_remove, mark_return, Public, of_book, call}}
use Rattle.hosts.specs.{Public.{bytes, words, the_tables, number_value}, Hosts.{Site, Lie, TableCell, of_links, of_numbers, of_order, Untouched}}
use Rattle.hosts.specs.{Hosts.{site_at, told_of, shown, Turn, on_site, elsewhere, made, Step, Placed, book_call, call_of, fed, Said}}
use Rattle.hosts.specs.{Hosts.{CarriedOut, clears, reads, Made, Hosted, HostsDemand, StandingDemand}}
use Rattle.hosts.specs.Hosts as hosts

-- ---- the tables of a site

module _ (s : Site) where
  -- where the cells of the tables are the same, the tables stand
  pub moved :
      (σ τ : Memory) → ((b i : ℕ) (c : Cell) → TableCell s b i → cell_at σ b i ≡ some c → cell_at τ b i ≡ some c) →
      (t : Tables) → Lie s σ t → Lie s τ t
  unfolding lengths_of
  moved σ τ f t l =
      let a : length t.links ≡ s.lengths.links = ap (λ (x : Lengths). x.links) l.lengths in
      let b : length t.numbers ≡ s.lengths.numbers = ap (λ (x : Lengths). x.numbers) l.lengths in
      let c : length t.order ≡ s.lengths.order = ap (λ (x : Lengths). x.order) l.lengths in
      let u : length (cells_of bytes t.links) ≡ 1 * length t.links = cells_count w8 t.links in
      let v : length (cells_of bytes t.numbers) ≡ 1 * length t.numbers = cells_count w8 t.numbers in
      let w : length (cells_of words t.order) ≡ 2 * length t.order = cells_count w16 t.order in
      record {
        lengths = l.lengths;
        links = carried σ τ s.links.0 s.links.1 (cells_of bytes t.links)
            (λ i d p q. f s.links.0 i d (of_links (refl, p, omega (arith, q, a, u)))) l.links;
        numbers = carried σ τ s.numbers.0 s.numbers.1 (cells_of bytes t.numbers)
            (λ i d p q. f s.numbers.0 i d (of_numbers (refl, p, omega (arith, q, b, v)))) l.numbers;
        order = carried σ τ s.order.0 s.order.1 (cells_of words t.order)
            (λ i d p q. f s.order.0 i d (of_order (refl, p, omega (arith, q, c, w)))) l.order;
        links_held = l.links_held;
        numbers_held = l.numbers_held;
        order_held = l.order_held;
      }

  untouched : (σ τ : Memory) → Untouched s σ τ → (t : Tables) → Lie s σ t → Lie s τ t
  untouched σ τ f = moved σ τ (λ b i c k e. f b i k ∙ e)

  -- no other tables stand there
  one_lie : (σ : Memory) (t u : Tables) → Lie s σ t → Lie s σ u → t ≡ u
  unfolding lengths_of
  one_lie σ t u l m =
      let e : lengths_of t ≡ lengths_of u = l.lengths ∙ sym m.lengths in
      let a : t.links ≡ u.links = list_one w8 σ s.links.0 s.links.1 t.links u.links
      (ap (λ (x : Lengths). x.links) e) l.links_held m.links_held l.links m.links in
      let b : t.numbers ≡ u.numbers = list_one w8 σ s.numbers.0 s.numbers.1 t.numbers u.numbers
      (ap (λ (x : Lengths). x.numbers) e) l.numbers_held m.numbers_held l.numbers m.numbers in
      let c : t.order ≡ u.order = list_one w16 σ s.order.0 s.order.1 t.order u.order
      (ap (λ (x : Lengths). x.order) e) l.order_held m.order_held l.order m.order in
      λ j. tables (a j) (b j) (c j)

-- ---- tables that are lent at a site's places

-- three lists stand at three places, each entry one that its type holds
record Three (σ : Memory) (p q r : Place) (t : Tables) : Type 0 where
  links : Stands σ (span bytes p t.links)
  numbers : Stands σ (span bytes q t.numbers)
  order : Stands σ (span words r t.order)
  links_held : All bytes.Holds t.links
  numbers_held : All bytes.Holds t.numbers
  order_held : All words.Holds t.order

lent_lie :
    (s : Site) (ls ns os : Lent ℕ) → site_at ls ns os ≡ s → (τ : Memory) (v : Tables) → lengths_of v ≡ lengths_of (the_tables ls ns os) →
    Three τ (place ls) (place ns) (place os) v → Lie s τ v
lent_lie s ls ns os at τ v l h = subst (λ (z : Site). Lie z τ v) at (record {
  lengths = l;
  links = h.links;
  numbers = h.numbers;
  order = h.order;
  links_held = h.links_held;
  numbers_held = h.numbers_held;
  order_held = h.order_held;
})

-- they may be lent
abbrev Goods : (σ : Memory) (ls ns os : Lent ℕ) → Type 0 → Type 0
Goods σ ls ns os G =
    GoodList σ bytes (place ls) (entries ls) × (GoodList σ bytes (place ns) (entries ns) × (GoodList σ words (place os) (entries os) × G))

-- as the first three of what stands, and of what is held
three :
    {X Y : Type 0} (τ : Memory) (p q r : Place) (v : Tables) →
    Stands τ (span bytes p v.links) × (Stands τ (span bytes q v.numbers) × (Stands τ (span words r v.order) × X)) →
    All bytes.Holds v.links × (All bytes.Holds v.numbers × (All words.Holds v.order × Y)) → Three τ p q r v
three τ p q r v w h = record {
  links = w.0;
  numbers = w.1.0;
  order = w.1.1.0;
  links_held = h.0;
  numbers_held = h.1.0;
  order_held = h.1.1.0;
}

-- ---- one call

abbrev pub Answered : Step → List Answer → Type 0
Answered k hs = Said k.turn k.inputs k.returned k.after hs

-- what the machine shows, and the tables that stand after the call, are those of d
abbrev pub Came : Site → Step → Done → Type 0
Came s k d = Answered k d.answers × Lie s k.after d.tables

abbrev pub Shows : Site → Step → Tables → Type 0
Shows s k t = Came s k (done (call_of k) t)

-- the call as a host makes it
abbrev pub step_of : (w : Turn) → Memory → Inputs (call (made w)).params → ℕ → Val × Memory → Step
step_of w σ i m e = record { turn = w; inputs = i; before = σ; steps = m; returned = e.0; after = e.1 }

module _ (ρ : Public → Routine) (s : Site) (m : ℕ) (t : Tables) where
  -- the run of x from σ
  abbrev ran : (x : Public) (σ : Memory) (i : Inputs (call x).params) → Ran (ρ x) (call x) σ i → Val × Memory
  ran x σ i h = ((call x).value (outcome_of (call x) i).0, h.memory)

  abbrev On : Known → Type 0
  On x =
      (σ : Memory) (i : Inputs (call (of_book x)).params) → Ready σ (call (of_book x)).params i → (told_of x i).site ≡ s → Lie s σ t →
      (h : Ran (ρ (of_book x)) (call (of_book x)) σ i) → Shows s (step_of (on_site x) σ i m (ran (of_book x) σ i h)) t

  -- the tables that are lent are the ones that stand
  same_tables :
      (ls ns os : Lent ℕ) → site_at ls ns os ≡ s → (σ : Memory) → Lie s σ t →
      Three σ (place ls) (place ns) (place os) (the_tables ls ns os) → the_tables ls ns os ≡ t
  same_tables ls ns os at σ lie h = one_lie s σ (the_tables ls ns os) t (lent_lie s ls ns os at σ (the_tables ls ns os) refl h) lie

  -- a call that is lent the tables to be written
  writer :
      {X Y Z L G : Type 0} (ls ns os : Lent ℕ) → site_at ls ns os ≡ s → (σ τ : Memory) → Lie s σ t → (v : Tables) →
      Stands σ (span bytes (place ls) (entries ls)) × (Stands σ (span bytes (place ns) (entries ns)) × (Stands σ (span words (place os) (entries os)) × X)) →
      Goods σ ls ns os G →
      Stands τ (span bytes (place ls) v.links) × (Stands τ (span bytes (place ns) v.numbers) × (Stands τ (span words (place os) v.order) × Y)) →
      (length v.links ≡ length (entries ls)) × ((length v.numbers ≡ length (entries ns)) × ((length v.order ≡ length (entries os)) × L)) →
      All bytes.Holds v.links × (All bytes.Holds v.numbers × (All words.Holds v.order × Z)) →
      (the_tables ls ns os ≡ t) × Lie s τ v
  unfolding lengths_of
  writer ls ns os at σ τ lie v w g u l h = (
    same_tables ls ns os at σ lie (three σ (place ls) (place ns) (place os) (the_tables ls ns os) w (g.0.0, (g.1.0.0, (g.1.1.0.0, g.0.0)))),
    lent_lie s ls ns os at τ v (λ i. record { links = l.0 i; numbers = l.1.0 i; order = l.1.1.0 i }) (three τ (place ls) (place ns) (place os) v u h),
  )

  clear_shows : On clear
  unfolding done counted
  clear_shows σ i ready at lie h =
      let o = clear_outcome i.0 (the_tables i.1.0 i.1.1.0 i.1.1.1.0) in
      let w = writer i.1.0 i.1.1.0 i.1.1.1.0 at σ h.memory lie o.tables ready.writes_stand ready.good.1 h.stand (ran_lengths h)
      (ran_held h) in
      subst (Shows s (step_of (on_site clear) σ i m (ran (of_book clear) σ i h))) w.0 ((counted o.reply 0, refl, refl, tt), w.1)

  image_read_shows : On image_read
  unfolding done counted
  image_read_shows σ i ready at lie h =
      let o = read_outcome i.0 (entries i.1.1.1.1.0) (the_tables i.1.0 i.1.1.0 i.1.1.1.0) in
      let w = writer i.1.0 i.1.1.0 i.1.1.1.0 at σ h.memory lie o.tables ready.writes_stand ready.good.1 h.stand (ran_lengths h)
      (ran_held h) in
      subst (Shows s (step_of (on_site image_read) σ i m (ran (of_book image_read) σ i h))) w.0 ((counted o.reply 0, refl, refl, tt), w.1)

  link_shows : (up : Bool) → On (link up)
  unfolding answer_of
  link_shows up σ i ready at lie h =
      let j = i.1.1.1 in
      let T = the_tables j.0 j.1.0 j.1.1.0 in
      let x = j.1.1.1.0 in
      let k = step_of (on_site (link up)) σ i m (ran (of_book (link up)) σ i h) in
      let o = link_outcome up i.0 i.1.0 i.1.1.0 T (entries x) in
      let w = writer j.0 j.1.0 j.1.1.0 at σ h.memory lie o.tables ready.writes_stand ready.good.1.1.1 h.stand (ran_lengths h)
      (ran_held h) in
      let listed = first_entries w16 h.memory x.0.0 x.0.1 o.reply.count o.lent h.stand.1.1.1.0 in
      subst (Shows s k) w.0 (subst (Came s k) (link_done up i.0 i.1.0 i.1.1.0 T (entries x))
      ((answer_of o.reply o.lent, refl, refl, (listed, tt)), w.1))

  commit_shows : (up : Bool) → On (commit up)
  unfolding done answer_of
  commit_shows up σ i ready at lie h =
      let j = i.1.1.1.1 in
      let o = commit_outcome up i.0 i.1.0 i.1.1.0 i.1.1.1.0 (entries j.1.1.1.0) (the_tables j.0 j.1.0 j.1.1.0) in
      let w = writer j.0 j.1.0 j.1.1.0 at σ h.memory lie o.tables ready.writes_stand ready.good.1.1.1.1 h.stand (ran_lengths h)
      (ran_held h) in
      subst (Shows s (step_of (on_site (commit up)) σ i m (ran (of_book (commit up)) σ i h))) w.0 ((answer_of o.reply [], refl, refl, tt), w.1)

  batch_shows : On link_batch
  unfolding done counted
  batch_shows σ i ready at lie h =
      let j = i.1 in
      let o = batch_outcome i.0 (entries j.1.1.1.0) (the_tables j.0 j.1.0 j.1.1.0) in
      let w = writer j.0 j.1.0 j.1.1.0 at σ h.memory lie o.tables ready.writes_stand ready.good.1 h.stand (ran_lengths h)
      (ran_held h) in
      subst (Shows s (step_of (on_site link_batch) σ i m (ran (of_book link_batch) σ i h))) w.0
      ((counted o.reply.number o.reply.value, refl, refl, tt), w.1)

  hear_shows : On hear
  unfolding counted
  hear_shows σ i ready at lie h =
      let j = i.1 in
      let T = the_tables j.0 j.1.0 j.1.1.0 in
      let k = step_of (on_site hear) σ i m (ran (of_book hear) σ i h) in
      let o = hear_outcome i.0 (entries j.1.1.1.0) T (entries j.1.1.1.1.0) in
      let w = writer j.0 j.1.0 j.1.1.0 at σ h.memory lie o.tables ready.writes_stand ready.good.1 h.stand (ran_lengths h)
      (ran_held h) in
      subst (Shows s k) w.0 (subst (Came s k) (hear_done i.0 (entries j.1.1.1.0) T (entries j.1.1.1.1.0))
      ((counted o.reply.number o.reply.value, refl, refl, tt), w.1))

  return_shows : On mark_return
  unfolding done counted
  return_shows σ i ready at lie h =
      let j = i.1 in
      let o = return_outcome i.0 (entries j.1.1.1.0) (entries j.1.1.1.1.0) (the_tables j.0 j.1.0 j.1.1.0) in
      let w = writer j.0 j.1.0 j.1.1.0 at σ h.memory lie o.tables ready.writes_stand ready.good.1 h.stand (ran_lengths h)
      (ran_held h) in
      subst (Shows s (step_of (on_site mark_return) σ i m (ran (of_book mark_return) σ i h))) w.0 ((counted o.reply 0, refl, refl, tt), w.1)

  -- a call that is lent the tables to be read, and writes none of their cells
  reader :
      {X Y G : Type 0} (ls ns os : Lent ℕ) → site_at ls ns os ≡ s → (σ τ : Memory) → Lie s σ t → (ws : List Span) →
      ((z : Span) → All (Apart z) ws → Stands σ z → Stands τ z) →
      Stands σ (span bytes (place ls) (entries ls)) × (Stands σ (span bytes (place ns) (entries ns)) × (Stands σ (span words (place os) (entries os)) × X)) →
      All (Apart (span bytes (place ls) (entries ls))) ws × (All
      (Apart (span bytes (place ns) (entries ns))) ws × (All (Apart (span words (place os) (entries os))) ws × Y)) →
      Goods σ ls ns os G → (the_tables ls ns os ≡ t) × Lie s τ t
  reader ls ns os at σ τ lie ws still q a g =
      let T = the_tables ls ns os in
      let e = same_tables ls ns os at σ lie (three σ (place ls) (place ns) (place os) T q (g.0.0, (g.1.0.0, (g.1.1.0.0, g.0.0)))) in (
        e,
        subst (Lie s τ) e (lent_lie s ls ns os at τ T refl (record {
          links = still (span bytes (place ls) (entries ls)) a.0 q.0;
          numbers = still (span bytes (place ns) (entries ns)) a.1.0 q.1.0;
          order = still (span words (place os) (entries os)) a.1.1.0 q.1.1.0;
          links_held = g.0.0;
          numbers_held = g.1.0.0;
          order_held = g.1.1.0.0;
        })),
      )

  set_shows : On mark_set
  unfolding done counted
  set_shows σ i ready at lie h =
      let j = i.1 in
      let T = the_tables j.0 j.1.0 j.1.1.0 in
      let o = set_outcome i.0 (entries j.1.1.1.0) T (entries j.1.1.1.1.0) in
      let ws = writes (call (of_book mark_set)).params i in
      let w = reader j.0 j.1.0 j.1.1.0 at σ h.memory lie ws (λ z. stands_still σ h.memory ws h.else_kept z.0 z.1 z.2)
      ready.reads_stand ready.reads_apart ready.good.1 in (
        subst (λ (u : Tables). Answered (step_of (on_site mark_set) σ i m (ran (of_book mark_set) σ i h))
            (done (call_of (step_of (on_site mark_set) σ i m (ran (of_book mark_set) σ i h))) u).answers) w.0 (counted o.reply 0, refl, refl, tt),
        w.1,
      )

  remove_shows : On mark_remove
  unfolding done counted
  remove_shows σ i ready at lie h =
      let j = i.1 in
      let T = the_tables j.0 j.1.0 j.1.1.0 in
      let o = remove_outcome i.0 (entries j.1.1.1.0) T (entries j.1.1.1.1.0) in
      let ws = writes (call (of_book mark_remove)).params i in
      let w = reader j.0 j.1.0 j.1.1.0 at σ h.memory lie ws (λ z. stands_still σ h.memory ws h.else_kept z.0 z.1 z.2)
      ready.reads_stand ready.reads_apart ready.good.1 in (
        subst (λ (u : Tables). Answered (step_of (on_site mark_remove) σ i m (ran (of_book mark_remove) σ i h))
            (done (call_of (step_of (on_site mark_remove) σ i m (ran (of_book mark_remove) σ i h))) u).answers) w.0 (counted o.reply 0, refl, refl, tt),
        w.1,
      )

  on_shows : (x : Known) → On x
  on_shows clear = clear_shows
  on_shows image_read = image_read_shows
  on_shows (link up) = link_shows up
  on_shows (commit up) = commit_shows up
  on_shows link_batch = batch_shows
  on_shows hear = hear_shows
  on_shows mark_set = set_shows
  on_shows mark_remove = remove_shows
  on_shows mark_return = return_shows

  -- on the site, or elsewhere
  pub turn_shows :
      (w : Turn) (σ : Memory) (i : Inputs (call (made w)).params) → Ready σ (call (made w)).params i → Placed s w i → Lie s σ t →
      (h : Ran (ρ (made w)) (call (made w)) σ i) → Shows s (step_of w σ i m (ran (made w) σ i h)) t
  unfolding done
  turn_shows (on_site x) σ i ready at lie h = on_shows x σ i ready at lie h
  turn_shows (elsewhere x) σ i ready spares lie h = (refl, moved s σ h.memory (λ b j c k. h.else_kept b j c (spares b j k)) t lie)

-- ---- a list of calls

record Went (s : Site) (ks : List Step) (t : Tables) (τ : Memory) : Type 0 where
  lie : Lie s τ (after (map call_of ks) t)
  given : givens (events (map call_of ks) t) ≡ fed s ks
  carried_out : (n : ℕ) (ps : List Link) → Holds n ps t → CarriedOut s ks t ps

joined :
    (s : Site) (k : Step) (ks : List Step) (t : Tables) (τ : Memory) → Lie s k.before t → Shows s k t →
    Went s ks (done (call_of k) t).tables τ → Went s (k ∷ ks) t τ
unfolding givens booked events after Does
joined s k ks t τ lie d w = record {
  lie = w.lie;
  given = λ j. given (call_of k) (lie.lengths j) ∷ w.given j;
  carried_out = λ n ps holds.
      let z = step n ps t holds (call_of k) (done (call_of k) t).answers (done (call_of k) t).tables refl in
      let asked : Lengths → Outcome = λ l. outcome (call_of k) l ps in
      let v = (done (call_of k) t).tables in
      subst (λ (l : Lengths). Lie s k.before t × Answered k (asked l).answers × Lie s k.after v × CarriedOut s ks v (pairs_of (asked l) ps))
      lie.lengths (lie, subst (Answered k) z.kept.answered d.0, d.1, w.carried_out n (pairs_of (asked (lengths_of t)) ps) z.holds);
}

-- ---- the first call

written_first :
    {X G : Type 0} (s : Site) (ls ns os : Lent ℕ) → site_at ls ns os ≡ s → (σ : Memory) →
    Stands σ (span bytes (place ls) (entries ls)) × (Stands σ (span bytes (place ns) (entries ns)) × (Stands σ (span words (place os) (entries os)) × X)) →
    Goods σ ls ns os G → (t : Tables) × Lie s σ t
written_first s ls ns os at σ w g =
    let T = the_tables ls ns os in
    (T, lent_lie s ls ns os at σ T refl (three σ (place ls) (place ns) (place os) T w (g.0.0, (g.1.0.0, (g.1.1.0.0, g.0.0)))))

-- the tables that a call on the site is lent stand there
lent_first : (s : Site) (x : Known) (σ : Memory) (i : Inputs (call (of_book x)).params) → Ready σ (call (of_book x)).params i → (told_of x i).site ≡ s →
    (t : Tables) × Lie s σ t
lent_first s clear σ i r at = written_first s i.1.0 i.1.1.0 i.1.1.1.0 at σ r.writes_stand r.good.1
lent_first s image_read σ i r at = written_first s i.1.0 i.1.1.0 i.1.1.1.0 at σ r.writes_stand r.good.1
lent_first s (link up) σ i r at = written_first s i.1.1.1.0 i.1.1.1.1.0 i.1.1.1.1.1.0 at σ r.writes_stand r.good.1.1.1
lent_first s (commit up) σ i r at = written_first s i.1.1.1.1.0 i.1.1.1.1.1.0 i.1.1.1.1.1.1.0 at σ r.writes_stand
    r.good.1.1.1.1
lent_first s link_batch σ i r at = written_first s i.1.0 i.1.1.0 i.1.1.1.0 at σ r.writes_stand r.good.1
lent_first s hear σ i r at = written_first s i.1.0 i.1.1.0 i.1.1.1.0 at σ r.writes_stand r.good.1
lent_first s mark_set σ i r at = written_first s i.1.0 i.1.1.0 i.1.1.1.0 at σ r.reads_stand r.good.1
lent_first s mark_remove σ i r at = written_first s i.1.0 i.1.1.0 i.1.1.1.0 at σ r.reads_stand r.good.1
lent_first s mark_return σ i r at = written_first s i.1.0 i.1.1.0 i.1.1.1.0 at σ r.writes_stand r.good.1

-- a call that the book knows
KnownCall : Call → Type 0
KnownCall (clearing n) = Unit {0}
KnownCall (reading n bs) = Unit {0}
KnownCall (linking up n a b w) = Unit {0}
KnownCall (committing up n a b z xs) = Unit {0}
KnownCall (batching n xs) = Unit {0}
KnownCall (hearing n hs w) = Unit {0}
KnownCall (setting n x bs) = Unit {0}
KnownCall (removing n x bs) = Unit {0}
KnownCall (returning n x bs) = Unit {0}
KnownCall other = ⊥

first_lie : (s : Site) (w : Turn) (σ : Memory) (i : Inputs (call (made w)).params) → Ready σ (call (made w)).params i → Placed s w i → KnownCall
    (book_call w i) → (t : Tables) × Lie s σ t
unfolding KnownCall
first_lie s (on_site x) σ i r at k = lent_first s x σ i r at
first_lie s (elsewhere x) σ i r at k = absurd k

-- the refusal number that a machine value shows
number_in : Val → ℕ
number_in (vint w n) = n
number_in vunit = 0
number_in (vbool b) = 0
number_in (vfloat f x) = 0
number_in (vptr b o) = 0
number_in (vcode t) = 0
number_in (vstruct vs) = 0

first_in : Vals → ℕ
first_in vnil = 0
first_in (vcons v vs) = number_in v

number_of : Val → ℕ
number_of (vint w n) = n
number_of vunit = 0
number_of (vbool b) = 0
number_of (vfloat f x) = 0
number_of (vptr b o) = 0
number_of (vcode t) = 0
number_of (vstruct vs) = first_in vs

number_shown : (x : Known) (h : Answer) → number_of (shown x h) ≡ h.number
unfolding number_of first_in number_in
number_shown clear h = refl
number_shown image_read h = refl
number_shown (link up) h = refl
number_shown (commit up) h = refl
number_shown link_batch h = refl
number_shown hear h = refl
number_shown mark_set h = refl
number_shown mark_remove h = refl
number_shown mark_return h = refl

HasAnswer : List Answer → Type 0
HasAnswer [] = ⊥
HasAnswer (h ∷ hs) = Unit {0}

cons_nil : {h : Answer} {hs : List Answer} → h ∷ hs ≡ [] → ⊥
unfolding HasAnswer
cons_nil e = subst HasAnswer e tt

first_number : List Answer → ℕ
first_number [] = 0
first_number (h ∷ hs) = h.number

said_number : (w : Turn) (i : Inputs (call (made w)).params) (v : Val) (τ : Memory) (hs : List Answer) → Said w i v τ hs → v ≡ number_value 0 →
    first_number hs ≡ 0 ⊎ (hs ≡ [])
unfolding first_number number_of
said_number (on_site x) i v τ hs y z = inl (ap first_number y.1 ∙ sym (number_shown x y.0) ∙ ap number_of (sym y.2 ∙ z))
said_number (elsewhere x) i v τ hs y z = inr y

module _ (ρ : Public → Routine) (runs : (x : Public) → Runs (ρ x) (call x)) where
  -- the machine's run is the only one
  pub done_one : (s : Site) (k : Step) (t : Tables) → Made ρ s k → Lie s k.before t → ∥ Shows s k t ∥₁
  done_one s k t m lie =
      let x = made k.turn in
      ∥∥₁_map (runs x k.before k.inputs m.ready) (λ h.
      subst (λ (e : Val × Memory). Shows s (step_of k.turn k.before k.inputs k.steps e) t)
      (ran_one (ρ x) (call x) k.before k.inputs h k.steps (k.returned, k.after) m.returns)
      (turn_shows ρ s k.steps t k.turn k.before k.inputs m.ready m.placed lie h))

  hosted_run : (s : Site) (t : Tables) (σ τ : Memory) (ks : List Step) → Lie s σ t → Hosted ρ s σ ks τ → ∥ Went s ks t τ ∥₁
  unfolding givens events after
  hosted_run s t σ τ [] lie (hosts.ended f) = ∣ record { lie = untouched s σ τ f t lie; given = refl; carried_out = λ n ps holds. tt } ∣₁
  hosted_run s t σ τ (k ∷ ks) lie (hosts.next f m r) =
      let stands = untouched s σ k.before f t lie in
      ∥∥₁_elim (done_one s k t m stands) ∥∥₁_prop (λ d.
      ∥∥₁_map (hosted_run s (done (call_of k) t).tables k.after τ ks d.1 r) (λ w. joined s k ks t τ stands d w))

  -- ---- demand 3

  pub standing_demand : StandingDemand ρ
  unfolding Demand3
  standing_demand s n ps t b σ τ ks lie r =
      ∥∥₁_map (hosted_run s t σ τ ks lie r) (λ w.
      let cs = map call_of ks in
      let kept = subst (λ (gs : List Given). Kept n ps (beginning b) (events cs t) (graph n (book_after gs ps)) (after cs t)) w.given
      (demand_3 n ps t b cs) in
      record {
        first = t;
        stood = lie;
        stand = w.lie;
        carried_out = w.carried_out n ps (start b);
        kept = kept;
      })

  -- the tables that an accepted first call leaves
  began : (s : Site) (k : Step) → Made ρ s k → KnownCall (call_of k) → ∥ ((t : Tables) × Shows s k t) ∥₁
  began s k made known =
      let l = first_lie s k.turn k.before k.inputs made.ready made.placed known in
      ∥∥₁_map (done_one s k l.0 made l.1) (λ d. (l.0, d))

  pub hosts_demand : HostsDemand ρ
  unfolding KnownCall ClearContract ReadContract done counted beginning first_number
  hosts_demand s n ps b k ks τ (clears m e z) made r =
      ∥∥₁_elim (began s k made (subst KnownCall (sym e) tt)) ∥∥₁_prop (λ d.
      let t = d.0 in
      let o = clear_outcome m t in
      let c = subst (λ (c : Call). Came s k (done c t)) e d.1 in
      let zero : o.reply ≡ 0 = elim (said_number k.turn k.inputs k.returned k.after (counted o.reply 0 ∷ [])
      c.0 z) [ inl q ↦ q | inr q ↦ absurd (cons_nil q) ] in
      standing_demand s m [] o.tables (cleared m t o.tables (subst (λ (q : ℕ). tabled q o.tables ≡ o) zero refl)) k.after τ ks c.1 r)
  hosts_demand s n ps b k ks τ (reads m image e z) made r =
      ∥∥₁_elim (began s k made (subst KnownCall (sym e) tt)) ∥∥₁_prop (λ d.
      let t = d.0 in
      let o = read_outcome m image t in
      let c = subst (λ (c : Call). Came s k (done c t)) e d.1 in
      let zero : o.reply ≡ 0 = elim (said_number k.turn k.inputs k.returned k.after (counted o.reply 0 ∷ [])
      c.0 z) [ inl q ↦ q | inr q ↦ absurd (cons_nil q) ] in
      standing_demand s m (image_links m image) o.tables (read m image t o.tables (subst (λ (q : ℕ). tabled q o.tables ≡ o) zero refl))
      k.after τ ks c.1 r)
