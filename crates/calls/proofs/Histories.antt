-- The link history makes the tables and the book's pairs, and so does the history at which each mark was set: coming back to a mark that
-- holds what was set gives that history (W-211).
--   Traced n h ps t    the history h makes the tables t, and the pairs ps, which the tables hold
--   PastHolds         so does the link history, and the history of each mark some tables
--   past_step          one call keeps it
--   past_kept          so does every run
use Rattle.std.specs.Prelude.{◌≡◌, ◌&&◌, ◌∷◌}
use Rattle.lists.{specs.Kit.{refl, sym, ap, ap₂, subst, ◌∙◌, Bool, true, false, cond, List, [], Option, none, some, ℕ}, specs.Lists.{same}}
use Rattle.lists.{proofs.All.{same_eq}, proofs.Tests.{and_right}}
use Rattle.mesh.{specs.Graph.{Link, Graph, graph}, specs.Tables.{Tables, tables_of, graph_in}, specs.Image.{image_of, image_graph, image_order}}
use Rattle.mesh.{proofs.Images.Sites.{read_written_graph, read_written_order}}
use Rattle.calls.specs.{Questions.{lengths_of}, Switches.{Switch, pairs_after, tables_after}, Book.{Beginning, Marking, no_mark, sets, removes, returns}}
use Rattle.calls.specs.{Book.{Outcome, Answer, outcome, booked, first_pairs, pairs_of, book_after, beginning_pairs, beginning_tables, History}}
use Rattle.calls.specs.{Book.{history_by, image_at, Marked, Past, matches, struck, replacing, recalled, marked_by, past_by, past_after}, Runs.{Event}}
use Rattle.calls.specs.{Runs.{givens}, Demand.{ByHistory, CallKept}}
use Rattle.calls.proofs.{Runs.{Run, ended, next}, Holds.{Holds, read_back, pairs_after_append, tables_after_append}, Steps.{Stepped, step}}

-- ---- a history, its pairs and its tables

pub record Traced (n : ℕ) (h : History) (ps : List Link) (t : Tables) : Type 0 where
  pub holds : Holds n ps t
  pub by : ByHistory n h t
  pub pairs : ps ≡ pairs_after h.calls (beginning_pairs h.began)

pub order_is : (n : ℕ) (ps : List Link) (t : Tables) (k : Holds n ps t) → t.order ≡ k.xs
unfolding tables_of
order_is n ps t k = ap (λ (o : Tables). o.order) k.is

-- the image of what a history leaves is the image of the tables
pub image_is : (n : ℕ) (h : History) (ps : List Link) (t : Tables) (k : Traced n h ps t) → image_at h ≡ image_of (graph n ps) k.holds.xs
unfolding image_at
image_is n h ps t k =
    ap (λ (m : ℕ). image_of (graph_in m (tables_after m h.calls (beginning_tables h.began)).links)
    (tables_after m h.calls (beginning_tables h.began)).order)
    k.by.size
    ∙ ap (λ (v : Tables). image_of (graph_in n v.links) v.order) (sym k.by.tables)
    ∙ ap₂ image_of (read_back n ps t k.holds) (order_is n ps t k.holds)

-- equal images: equal pairs and equal tables
module _ (n : ℕ) (h i : History) (ps qs : List Link) (t u : Tables) (k : Traced n h ps t) (l : Traced n i qs u) (e : image_at h ≡ image_at i) where
  same_image : image_of (graph n ps) k.holds.xs ≡ image_of (graph n qs) l.holds.xs
  same_image = sym (image_is n h ps t k) ∙ e ∙ image_is n i qs u l

  same_graph : graph n ps ≡ graph n qs
  same_graph =
      sym (read_written_graph (graph n ps) k.holds.xs k.holds.most k.holds.valid) ∙ ap (image_graph n) same_image
      ∙ read_written_graph (graph n qs) l.holds.xs l.holds.most l.holds.valid

  same_order : k.holds.xs ≡ l.holds.xs
  same_order =
      sym (read_written_order (graph n ps) k.holds.xs k.holds.most k.holds.valid) ∙ ap (image_order n) same_image
      ∙ read_written_order (graph n qs) l.holds.xs l.holds.most l.holds.valid

  same_pairs : ps ≡ qs
  same_pairs = ap (λ (g : Graph). g.links) same_graph

  same_tables : t ≡ u
  same_tables = k.holds.is ∙ ap₂ tables_of same_graph same_order ∙ sym l.holds.is

  -- so each history makes what the other does
  pub exchanged : Traced n h qs u
  exchanged = subst (λ (rs : List Link). Traced n h rs u) same_pairs (subst (λ (v : Tables). Traced n h ps v) same_tables k)

-- ---- marks

pub record MarkedHolds (n : ℕ) (m : Marked) : Type 0 where
  pub pairs : List Link
  pub tables : Tables
  pub traced : Traced n m.history pairs tables

abbrev pub MarksHold : (n : ℕ) → List Marked → Type 0
MarksHold n [] = Unit {0}
MarksHold n (m ∷ ms) = MarkedHolds n m × MarksHold n ms

struck_hold : (n : ℕ) (x i : List ℕ) (ms : List Marked) → MarksHold n ms → MarksHold n (struck x i ms)
unfolding struck
struck_hold n x i [] k = tt
struck_hold n x i (m ∷ ms) k = go (matches x i m) (struck_hold n x i ms k.1)
  where
    go : (b : Bool) → MarksHold n (struck x i ms) → MarksHold n (cond b ms (m ∷ struck x i ms))
    go true r = k.1
    go false r = (k.0, r)

pub replacing_hold : (n : ℕ) (x : List ℕ) (r : Option (List ℕ)) (ms : List Marked) → MarksHold n ms → MarksHold n (replacing x r ms)
unfolding replacing
replacing_hold n x none ms k = k
replacing_hold n x (some i) ms k = struck_hold n x i ms k

-- the history recalled makes what the mark's image does
recalled_traced :
    (n : ℕ) (x : List ℕ) (h : History) (ps : List Link) (t : Tables) (ms : List Marked) → Traced n h ps t → MarksHold n ms → Traced n (recalled x h ms) ps t
unfolding recalled matches
recalled_traced n x h ps t [] k l = k
recalled_traced n x h ps t (m ∷ ms) k l =
    go (matches x (image_at h) m) refl (recalled_traced n x h ps t ms k l.1)
  where
    go : (b : Bool) → same m.name x && same (image_at m.history) (image_at h) ≡ b → Traced n (recalled x h ms) ps t →
        Traced n (cond b m.history (recalled x h ms)) ps t
    go true e r =
        exchanged n m.history h l.0.pairs ps l.0.tables t l.0.traced k
        (same_eq (image_at m.history) (image_at h) (and_right (same m.name x) (same (image_at m.history) (image_at h)) e))
    go false e r = r

-- ---- one call

pub record PastHolds (n : ℕ) (ps : List Link) (p : Past) (t : Tables) : Type 0 where
  pub traced : Traced n p.history ps t
  pub marks : MarksHold n p.marks

history_pairs :
    (ss : List Switch) (ps : List Link) (b : Option Beginning) (h : History) → ps ≡ pairs_after h.calls (beginning_pairs h.began) →
    pairs_after ss (first_pairs b ps) ≡ pairs_after (history_by b ss h).calls (beginning_pairs (history_by b ss h).began)
unfolding first_pairs history_by
history_pairs ss ps none h f = ap (pairs_after ss) f ∙ sym (pairs_after_append h.calls ss (beginning_pairs h.began))
history_pairs ss ps (some b) h f = refl

history_tables :
    (n : ℕ) (ps : List Link) (o : Outcome) (t : Tables) (hs : List Answer) (u : Tables) (h : History) → CallKept n ps o t hs u → ByHistory n h t →
    (b : Option Beginning) → o.begins ≡ b → ByHistory n (history_by b o.switches h) u
unfolding history_by
history_tables n ps o t hs u h c k none e = record {
  size = k.size;
  start = k.start;
  tables =
      c.tables e ∙ ap (tables_after n o.switches) k.tables
      ∙ sym (tables_after_append n h.calls o.switches (beginning_tables h.began));
}
history_tables n ps o t hs u h c k (some b) e = c.started b e

marked_step :
    (n : ℕ) (ps : List Link) (h : History) (ms : List Marked) (t : Tables) (m : Marking) → Traced n h ps t → MarksHold n ms →
    PastHolds n ps (marked_by m h ms) t
unfolding marked_by
marked_step n ps h ms t no_mark k l = record { traced = k; marks = l }
marked_step n ps h ms t (sets x r) k l = record { traced = k; marks = (record { pairs = ps; tables = t; traced = k }, replacing_hold n x r ms l) }
marked_step n ps h ms t (removes x i) k l = record { traced = k; marks = struck_hold n x i ms l }
marked_step n ps h ms t (returns x) k l = record { traced = recalled_traced n x h ps t ms k l; marks = l }

past_step :
    (n : ℕ) (ps : List Link) (p : Past) (o : Outcome) (t : Tables) (hs : List Answer) (u : Tables) → PastHolds n ps p t → Stepped n ps o t hs u →
    PastHolds n (pairs_of o ps) (past_by o p) u
unfolding past_by pairs_of
past_step n ps p o t hs u k s =
    marked_step n (pairs_of o ps) (history_by o.begins o.switches p.history) p.marks u o.marking
    (record {
      holds = s.holds;
      by = history_tables n ps o t hs u p.history s.kept k.traced.by o.begins refl;
      pairs = history_pairs o.switches ps o.begins p.history k.traced.pairs;
    })
    k.marks

-- ---- every run

pub past_kept :
    (n : ℕ) (ps : List Link) (p : Past) {t v : Tables} {es : List Event} → PastHolds n ps p t → Run t es v →
    PastHolds n (book_after (givens es) ps) (past_after (givens es) ps p) v
unfolding givens book_after past_after booked
past_kept n ps p k ended = k
past_kept n ps p k (next {c = c} {t = t} {u = u} {hs = hs} d r) =
    let o = outcome c (lengths_of t) ps in
    past_kept n (pairs_of o ps) (past_by o p) (past_step n ps p o t hs u k (step n ps t k.traced.holds c hs u d)) r
