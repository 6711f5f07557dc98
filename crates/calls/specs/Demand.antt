-- Demand 3: one claim about a whole list of calls.
--   Start n ps t      the tables t were left by an accepted clearing or reading of n radios; ps are the pairs that the book then keeps
--   LinkKept         what an accepted link call of the list keeps, by the book's pairs before it
--   Switching         links taken up or down one after the other, each keeping that
--   CallKept         what a call of the list keeps, by the book's outcome of it
--   Kept              what the list keeps: tables, answers, each call, each accepted link call
--   Demand3          every list of calls from such a start keeps it
-- The proof is `demand_3` in proofs/WholeList.antt. Definitions only.
use Rattle.std.specs.Prelude.{◌≡◌, ◌⊎◌, ◌∷◌, ◌++◌, ◌+◌, ◌<◌}
use Rattle.lists.specs.{Kit.{Bool, true, false, List, [], none, some, ℕ, suc, length, take, drop}, Lists.{member}}
use Rattle.mesh.specs.{Graph.{Link, Graph, graph, relinked, new_links}, Cores.{Core, number, numbers}, Orders.{is_k_order}, Levels.{changed, lower_level}}
use Rattle.mesh.specs.{Levels.{stretch_start, stretch_length, new_stretch}, Tables.{Tables, put_link, links_table, graph_in}, Sound.{sound, number_in}}
use Rattle.mesh.specs.{Connected.{Reachable}, Image.{image_links}}
use Rattle.calls.specs.{Outcomes.{tabled, clear_outcome, read_outcome}, Switches.{Switch, pairs_after, tables_after}, Book.{Call, linking, Answer}}
use Rattle.calls.specs.{Book.{reported, Outcome, given, booked, book_answers, book_after, Beginning, from_clearing, from_image, beginning_pairs}}
use Rattle.calls.specs.{Book.{site_size}}
use Rattle.calls.specs.{Book.{beginning_tables, History, history}, Questions.{lengths_of}, Runs.{Event, event, events, after, givens, answers}}

-- ---- an accepted link call

-- a number changes by one, up or down
unfoldable pub ByOne : (up : Bool) → (before after : ℕ) → Type 0
ByOne true x y = y ≡ suc x
ByOne false x y = x ≡ suc y

-- the links after an up, before a down
unfoldable pub graph_with_link : (up : Bool) → (a b : ℕ) → Graph → Graph
graph_with_link true a b g = relinked true a b g
graph_with_link false a b g = g

-- v is one of the radios cs, and its level is K
pub record ChangedEnd (g : Graph) (K : ℕ) (cs : List ℕ) (v : ℕ) : Type 0 where
  pub listed : member v cs ≡ true
  pub level : number g v ≡ K

-- t and v are the tables before and after; K is the lower end's level, start and size its stretch; cs are the radios listed
pub record LinkKeptAt (up : Bool) (a b : ℕ) (g : Graph) (K start size : ℕ) (cs : List ℕ) (t v : Tables) : Type 0 where
  -- exactly the radios whose core number changed are reported; each had level K and changed by one
  pub reports : cs ≡ changed up a b g
  pub level : (x : ℕ) → member x cs ≡ true → number_in t.numbers x ≡ K
  pub by_one : (x : ℕ) → member x cs ≡ true → ByOne up (number_in t.numbers x) (number_in v.numbers x)
  -- of links, two bits change; of numbers, only the ones of the radios reported
  pub links : v.links ≡ put_link up a b t.links
  pub numbers_length : length v.numbers ≡ length t.numbers
  pub numbers : (x : ℕ) → member x cs ≡ false → number_in v.numbers x ≡ number_in t.numbers x
  -- of the order, the stretch of level K, laid out as document 01 says
  pub below : take start v.order ≡ take start t.order
  pub above : drop (start + size) v.order ≡ drop (start + size) t.order
  pub stretch :
      take size (drop start v.order)
      ≡ new_stretch up (relinked up a b g) K cs (take size (drop start t.order)) (drop (start + size) t.order)
  -- the radios reported are connected through one another alone, and an end of level K is one of them
  pub connected :
      (x y : ℕ) → member x cs ≡ true → member y cs ≡ true → Reachable (graph_with_link up a b g) (λ z. member z cs) x y
  pub has_end : (x : ℕ) → member x cs ≡ true → ChangedEnd g K cs a ⊎ ChangedEnd g K cs b

-- the same by the graph g of the book's pairs before the call, for the answer h
unfoldable pub LinkKept : (up : Bool) → (a b : ℕ) → (g : Graph) → (t : Tables) → Answer → (v : Tables) → Type 0
LinkKept up a b g t h v =
    let k = lower_level g a b in LinkKeptAt up a b g k (stretch_start g k) (stretch_length g k) h.listed t v

-- ---- the links that a call takes up or down

-- from the pairs ps and the tables t to the tables v, one link after the other: each keeps what a link call keeps
pub data Switching (n : ℕ) : List Link → List Switch → Tables → Tables → Type 0 where
  ended : {ps : List Link} {t : Tables} → Switching n ps [] t t
  next :
      {ps : List Link} {s : Switch} {ss : List Switch} {t u v : Tables} →
      LinkKept s.up s.a s.b (graph n ps) t (reported s.up (changed s.up s.a s.b (graph n ps))) u →
      Switching n (new_links s.up s.a s.b ps) ss u v → Switching n ps (s ∷ ss) t v

-- ---- where a list starts, and its history

-- left by an accepted clearing: no pairs; left by an accepted reading: the pairs that the image lists
pub data Start : (n : ℕ) → (pairs : List Link) → Tables → Type 0 where
  cleared : (n : ℕ) (t v : Tables) → tabled 0 v ≡ clear_outcome n t → Start n [] v
  read : (n : ℕ) (image : List ℕ) (t v : Tables) → tabled 0 v ≡ read_outcome n image t → Start n (image_links n image) v

-- what a list that starts there began from
unfoldable pub beginning : {n : ℕ} {ps : List Link} {t : Tables} → Start n ps t → Beginning
beginning (cleared n t v d) = from_clearing n
beginning (read n bs t v d) = from_image n bs

-- links, numbers and order are what the link history makes of the tables that the clearing or reading left from which it began
pub record ByHistory (n : ℕ) (h : History) (v : Tables) : Type 0 where
  pub size : site_size h.began ≡ n
  pub start : Start n (beginning_pairs h.began) (beginning_tables h.began)
  pub tables : v ≡ tables_after n h.calls (beginning_tables h.began)

-- ---- one call

-- o is the book's outcome of it by the pairs ps before it
pub record CallKept (n : ℕ) (ps : List Link) (o : Outcome) (t : Tables) (hs : List Answer) (v : Tables) : Type 0 where
  pub answered : hs ≡ o.answers
  -- it leaves what single link calls leave, one after the other, and each link keeps what a link call keeps
  pub tables : o.begins ≡ none → v ≡ tables_after n o.switches t
  pub switching : o.begins ≡ none → Switching n ps o.switches t v
  -- where it begins anew, the tables are what an accepted clearing or reading leaves; coming back to a mark leaves what reading
  -- its image does
  pub started : (b : Beginning) → o.begins ≡ some b → ByHistory n (record { began = b; calls = o.switches }) v

-- ---- a list of calls

-- document 01: after the list, with W-211's marks in its history
-- g is the graph of the book's pairs after the list, v are the tables that the list leaves; b is what the list began from
pub record Kept (n : ℕ) (ps : List Link) (b : Beginning) (es : List Event) (g : Graph) (v : Tables) : Type 0 where
  -- the links table marks exactly the book's pairs, and the numbers are the core numbers by these pairs
  pub links : v.links ≡ links_table g
  pub numbers : v.numbers ≡ numbers g
  pub cores : (x : ℕ) → x < n → Core g x (number_in v.numbers x)
  pub k_order : is_k_order g v.order ≡ true
  pub sound : sound n v ≡ true
  -- read back, the links table gives the book's pairs
  pub read_back : graph_in n v.links ≡ g
  -- and these are what the link history makes of the pairs that it began from; after coming back to a mark set in the list, that is the
  -- history at that moment
  pub pairs_by_history : g ≡ graph n (pairs_after (history (givens es) ps b).calls (beginning_pairs (history (givens es) ps b).began))
  pub by_history : ByHistory n (history (givens es) ps b) v
  -- every call answered as the book does
  pub answered : answers es ≡ book_answers (givens es) ps
  -- each call, wherever it stands in the list
  pub calls :
      (before after : List Event) (c : Call) (t u : Tables) (hs : List Answer) → es ≡ before ++ (event c t hs u ∷ after) →
      let qs = book_after (givens before) ps in CallKept n qs (booked (given c (lengths_of t)) qs) t hs u
  -- each accepted single link call
  pub link_calls :
      (before after : List Event) (up : Bool) (m a b w : ℕ) (t u : Tables) (h : Answer) →
      es ≡ before ++ (event (linking up m a b w) t (h ∷ []) u ∷ after) → h.number ≡ 0 →
      LinkKept up a b (graph n (book_after (givens before) ps)) t h u

-- every list of calls from a start keeps it
unfoldable pub Demand3 : Type 0
Demand3 =
    (n : ℕ) (ps : List Link) (t : Tables) (s : Start n ps t) (cs : List Call) → let es = events cs t in
    Kept n ps (beginning s) es (graph n (book_after (givens es) ps)) (after cs t)
