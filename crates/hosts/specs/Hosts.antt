-- The machine: a host that makes calls one after the other on one memory, in its cells. Nothing of the program logic is cited here.
--   Site              where links, numbers and order of a site are: three places, and how many entries each has
--   lent_at           the tables, lent at these places;   Lie: they stand there, in cells
--   TableCell        a cell of one of the three;   Untouched: of two memories, these cells are the same;   Spares: a call writes none of them
--   Told              what document 01's book is told of a call on the site, and where the call lists radios;   told: of each call
--   Turn              how a call is made: on the site, lent its three tables, or elsewhere
--   Step              a call that a host makes: how, what is passed, the memory before it, how many steps it takes, the value that it
--                     returns, the memory after it
--   Made              the memory is ready, the machine runs so, and the call is lent the three tables at their places, whole, or writes
--                     none of their cells
--   Hosted            calls made one after the other: between two, before the first and after the last, the host may do anything to the
--                     memory but change a cell of the three tables
--   fed               what the book is given of these calls
--   Said              the value that the machine returned, and the answer table that it left, are those of the book's answer
--   CarriedOut       so it is of each call, by the pairs that the book keeps; the tables before and after it stand in the memory before and after it
--   Ends              what stands in the last memory, and what the list keeps
--   Begins            a call that a list begins with: an accepted clearing or reading
--   HostsDemand      every host's list of calls from such a call on ends so
--   StandingDemand   and every one from a memory in which tables stand that such a call left
-- Definitions only.
use Rattle.std.specs.Prelude.{◌≡◌, ◌∷◌, ◌+◌, ◌*◌, ◌<◌, ◌≤◌}
use Rattle.lists.specs.Kit.{List, [], map, ℕ, length}
use mir.Val.{Val}
use prog.{Memory.{Memory}, Machine.{done as returned}, Routine.{Routine, step}}
use Rattle.machine.specs.Cells.{Place, Lent, place, entries, Inputs, of_inputs, OfInputs, Span, Stands, Has, All, span, cell_at, Ready, passed}
use Rattle.machine.specs.Cells.{writes, to_write}
use Rattle.mesh.specs.{Graph.{Link, graph}, Tables.{Tables}, Image.{image_links}}
use Rattle.calls.specs.{Questions.{Lengths, lengths_of}, Outcomes.{reply, value}, Book.{Call, clearing, reading, linking, committing, batching, hearing}}
use Rattle.calls.specs.{Book.{setting, removing, returning, other, Given, given, Answer, booked, pairs_of, book_after, Beginning, from_clearing, from_image}}
use Rattle.calls.specs.{Runs.{done, events, after}, Demand.{Start, beginning, Kept}}
use Rattle.hosts.specs.Public.{Known, clear, image_read, link, commit, link_batch, hear, mark_set, mark_remove, mark_return, Public, of_book, call, bytes}
use Rattle.hosts.specs.Public.{words, site_params, the_tables, number_value, reply_value, value_value}

-- ---- a site's tables

pub record Site : Type 0 where
  pub lengths : Lengths
  pub links : Place
  pub numbers : Place
  pub order : Place

-- the tables, lent there
abbrev pub lent_at : Site → Tables → Inputs (site_params 0 to_write [])
lent_at s t = ((s.links, t.links), ((s.numbers, t.numbers), ((s.order, t.order), tt)))

-- these tables stand there: links and numbers a byte to an entry, the order two
pub record Lie (s : Site) (σ : Memory) (t : Tables) : Type 0 where
  pub lengths : lengths_of t ≡ s.lengths
  pub links : Stands σ (span bytes s.links t.links)
  pub numbers : Stands σ (span bytes s.numbers t.numbers)
  pub order : Stands σ (span words s.order t.order)
  pub links_held : All bytes.Holds t.links
  pub numbers_held : All bytes.Holds t.numbers
  pub order_held : All words.Holds t.order

-- cell i of block b is one of k cells from there on
abbrev pub Within : Place → (k b i : ℕ) → Type 0
Within p k b i = (p.0 ≡ b) × (p.1 ≤ i) × (i < p.1 + k)

pub data TableCell (s : Site) (b i : ℕ) : Type 0 where
  of_links : Within s.links s.lengths.links b i → TableCell s b i
  of_numbers : Within s.numbers s.lengths.numbers b i → TableCell s b i
  of_order : Within s.order (2 * s.lengths.order) b i → TableCell s b i

abbrev pub Untouched : Site → Memory → Memory → Type 0
Untouched s σ τ = (b i : ℕ) → TableCell s b i → cell_at τ b i ≡ cell_at σ b i

abbrev pub Spares : Site → List Span → Type 0
Spares s ws = (b i : ℕ) → TableCell s b i → All (λ w. ¬ Has w b i) ws

-- ---- what the book is told of a call on the site

pub record Told : Type 0 where
  pub site : Site
  pub call : Call
  -- where the radios that it reports are listed: of a link call, the answer table
  pub lists : List Place

-- where three lent lists are
abbrev pub site_at : (links numbers order : Lent ℕ) → Site
site_at ls ns os = record { lengths = lengths_of (the_tables ls ns os); links = place ls; numbers = place ns; order = place os }

abbrev telling : (links numbers order : Lent ℕ) → Call → List Place → Told
telling ls ns os c ps = record { site = site_at ls ns os; call = c; lists = ps }

abbrev pub told : (x : Known) → OfInputs (call (of_book x)).params Told
told clear = λ n ls ns os. telling ls ns os (clearing n) []
told image_read = λ n ls ns os image. telling ls ns os (reading n (entries image)) []
told (link up) = λ n a b ls ns os answer. telling ls ns os (linking up n a b (length (entries answer))) (place answer ∷ [])
told (commit up) = λ n a b step ls ns os list. telling ls ns os (committing up n a b step (entries list)) []
told link_batch = λ n ls ns os list. telling ls ns os (batching n (entries list)) []
told hear = λ n ls ns os heard further. telling ls ns os (hearing n (entries heard) (length (entries further))) []
told mark_set = λ n ls ns os name store. telling ls ns os (setting n (entries name) (entries store)) []
told mark_remove = λ n ls ns os name store. telling ls ns os (removing n (entries name) (entries store)) []
told mark_return = λ n ls ns os name store. telling ls ns os (returning n (entries name) (entries store)) []

abbrev pub told_of : (x : Known) → Inputs (call (of_book x)).params → Told
told_of x i = of_inputs (call (of_book x)).params (told x) i

-- the machine's value for an answer of the book
abbrev pub shown : Known → Answer → Val
shown clear h = number_value h.number
shown image_read h = number_value h.number
shown (link up) h = reply_value (reply h.number h.step h.count)
shown (commit up) h = reply_value (reply h.number h.step h.count)
shown link_batch h = value_value (value h.number h.count)
shown hear h = value_value (value h.number h.count)
shown mark_set h = number_value h.number
shown mark_remove h = number_value h.number
shown mark_return h = number_value h.number

-- ---- a call that a host makes

pub data Turn : Type 0 where
  on_site : Known → Turn
  elsewhere : Public → Turn

abbrev pub made : Turn → Public
made (on_site x) = of_book x
made (elsewhere x) = x

pub record Step : Type 0 where
  pub turn : Turn
  pub inputs : Inputs (call (made turn)).params
  pub before : Memory
  pub steps : ℕ
  pub returned : Val
  pub after : Memory

-- on the site, the three tables are lent at their places, whole; elsewhere, none of their cells is lent to be written
abbrev pub Placed : Site → (w : Turn) → Inputs (call (made w)).params → Type 0
Placed s (on_site x) i = (told_of x i).site ≡ s
Placed s (elsewhere x) i = Spares s (writes (call x).params i)

-- the call that the book takes it for; one that is made elsewhere it passes over
abbrev pub book_call : (w : Turn) → Inputs (call (made w)).params → Call
book_call (on_site x) i = (told_of x i).call
book_call (elsewhere x) i = other

abbrev pub call_of : Step → Call
call_of k = book_call k.turn k.inputs

abbrev pub fed : Site → List Step → List Given
fed s ks = map (λ k. given (call_of k) s.lengths) ks

-- ---- what the machine answered

-- to a call on the site the book gives one answer; the value v, and the memory τ after the call, show it
abbrev pub Said : (w : Turn) → Inputs (call (made w)).params → Val → Memory → List Answer → Type 0
Said (on_site x) i v τ hs =
    (h : Answer) × (hs ≡ h ∷ []) × (v ≡ shown x h) × All (Stands τ) (map (λ p. span words p h.listed) (told_of x i).lists)
Said (elsewhere x) i v τ hs = hs ≡ []

-- each call answered as the book does and left its tables, where t are the tables before the first, and ps the book's pairs
abbrev pub CarriedOut : Site → List Step → Tables → (pairs : List Link) → Type 0
CarriedOut s [] t ps = Unit {0}
CarriedOut s (k ∷ ks) t ps =
    let o = booked (given (call_of k) s.lengths) ps in
    let v = (done (call_of k) t).tables in
    Lie s k.before t × Said k.turn k.inputs k.returned k.after o.answers × Lie s k.after v × CarriedOut s ks v (pairs_of o ps)

-- ---- after the list

-- from the memory σ to τ, where ps are the book's pairs at the beginning and b is what the list began from
pub record Ends (s : Site) (n : ℕ) (ps : List Link) (b : Beginning) (ks : List Step) (σ τ : Memory) : Type 0 where
  pub first : Tables
  pub stood : Lie s σ first
  -- the tables that the list leaves stand at the site's places: by demand 3, links and numbers of the book's pairs and a k-order
  pub stand : Lie s τ (after (map call_of ks) first)
  -- every call answered as the book does, and the list keeps demand 3
  pub carried_out : CarriedOut s ks first ps
  pub kept : Kept n ps b (events (map call_of ks) first) (graph n (book_after (fed s ks) ps)) (after (map call_of ks) first)

-- the book takes the call for a clearing or a reading of n radios, and it returned 0: the book then keeps these pairs
pub data Begins (k : Step) : (n : ℕ) → (pairs : List Link) → Beginning → Type 0 where
  clears : (n : ℕ) → call_of k ≡ clearing n → k.returned ≡ number_value 0 → Begins k n [] (from_clearing n)
  reads :
      (n : ℕ) (image : List ℕ) → call_of k ≡ reading n image → k.returned ≡ number_value 0 →
      Begins k n (image_links n image) (from_image n image)

-- where ρ are the routines of the exported calls
module _ (ρ : Public → Routine) where
  pub record Made (s : Site) (k : Step) : Type 0 where
    pub ready : Ready k.before (call (made k.turn)).params k.inputs
    pub returns :
        step (ρ (made k.turn)) k.steps (passed (call (made k.turn)).params k.inputs) k.before
        ≡ returned (k.returned, k.after)
    pub placed : Placed s k.turn k.inputs

  -- from the first memory to the last
  pub data Hosted (s : Site) : Memory → List Step → Memory → Type 0 where
    ended : {σ τ : Memory} → Untouched s σ τ → Hosted s σ [] τ
    next :
        {σ τ : Memory} {k : Step} {ks : List Step} → Untouched s σ k.before → Made s k → Hosted s k.after ks τ →
        Hosted s σ (k ∷ ks) τ

  abbrev pub HostsDemand : Type 0
  HostsDemand =
      (s : Site) (n : ℕ) (ps : List Link) (b : Beginning) (k : Step) (ks : List Step) (τ : Memory) →
      Begins k n ps b → Made s k → Hosted s k.after ks τ → ∥ Ends s n ps b ks k.after τ ∥₁

  -- the same from a memory in which tables stand that a clearing or a reading left
  abbrev pub StandingDemand : Type 0
  StandingDemand =
      (s : Site) (n : ℕ) (ps : List Link) (t : Tables) (b : Start n ps t) (σ τ : Memory) (ks : List Step) →
      Lie s σ t → Hosted s σ ks τ → ∥ Ends s n ps (beginning b) ks σ τ ∥₁
