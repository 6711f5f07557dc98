-- Coming back to a mark gives back the link history at the moment when it was set (W-211).
--   history_restored   an accepted set, calls none of which sets or removes that name, an accepted coming back to the image that was
--                      set: the history, with the clearing or read image that it began from, is the one at the setting
use Rattle.std.specs.Prelude.{◌≡◌, ◌&&◌, ◌||◌, ◌∷◌, ◌++◌, ◌≤◌}
use Rattle.lists.{specs.Kit.{refl, sym, ap, ap₂, subst, ◌∙◌, Bool, true, false, not, cond, List, [], Option, none, some, ℕ, zero}}
use Rattle.lists.{specs.Kit.{suc, arith}, specs.Lists.{same}, proofs.All.{same_refl, same_eq}, proofs.Tests.{and_left, and_right, never}}
use Rattle.mesh.{specs.Limits.{max_radios}, specs.Graph.{Link, Graph}, specs.Tables.{Tables, tables_of, graph_in}, specs.Image.{image_of, image_graph}}
use Rattle.mesh.{specs.Image.{image_order}, proofs.Tables.ReadBack.{graph_in_links_table}, proofs.Tables.Sites.{image_valid}}
use Rattle.mesh.{proofs.Images.Sites.{written_read}}
use Rattle.calls.specs.{Questions.{Lengths, lengths_of}, Marks.{set_refusal, named_refusal, mark_image}, Switches.{pairs_after, tables_after}}
use Rattle.calls.specs.{Book.{Call, from_image, Marking, no_mark, sets, removes, returns, Outcome, outcome_with, unless_refused, outcome, setting}}
use Rattle.calls.specs.{Book.{returning, Answer, counted, Given, given, booked, first_pairs, pairs_of, book_after, site_size, beginning_tables, History}}
use Rattle.calls.specs.{Book.{fresh, history_by, image_at, Marked, Past, past, image_under, matches, struck, replacing, recalled, marked_by, past_by}}
use Rattle.calls.specs.{Book.{past_after, past_of, replaces, leaves, all_leave, history}, MarkOutcomes.{set_outcome, return_outcome}, Runs.{done, Event}}
use Rattle.calls.specs.{Runs.{event, events, after, givens}, Demand.{Start, beginning}}
use Rattle.calls.proofs.{Runs.{Run, Does, run, events_append}, Holds.{read_back}, MarkCalls.{named_zero, mark_is_image}, Steps.{step}}
use Rattle.calls.proofs.{Histories.{PastHolds, image_is, order_is, replacing_hold, past_kept}, WholeList.{start_past}}
use Rattle.mesh.specs.Image as images
use Rattle.calls.specs.Questions.{by_number}

-- ---- what is recalled

-- a test that is not so
not_so : (t : Bool) → not t ≡ true → t ≡ false
not_so true h = never (not true) h refl
not_so false h = refl

-- a mark struck of which the name or the image is another
recalled_struck :
    (x y : List ℕ) (h : History) (j : List ℕ) (ms : List Marked) → same y x && same j (image_at h) ≡ false → recalled x h (struck y j ms) ≡ recalled x h ms
unfolding recalled struck matches
recalled_struck x y h j [] e = refl
recalled_struck x y h j (m ∷ ms) e = go (matches y j m) refl (recalled_struck x y h j ms e)
  where
    go : (t : Bool) → same m.name y && same (image_at m.history) j ≡ t → recalled x h (struck y j ms) ≡ recalled x h ms →
        recalled x h (cond t ms (m ∷ struck y j ms)) ≡ recalled x h (m ∷ ms)
    go true d rec =
        let a = same_eq m.name y (and_left (same m.name y) (same (image_at m.history) j) d) in
        let b = same_eq (image_at m.history) j (and_right (same m.name y) (same (image_at m.history) j) d) in
        let f : same m.name x && same (image_at m.history) (image_at h) ≡ false =
        ap₂ (λ (z k : List ℕ). same z x && same k (image_at h)) a b ∙ e in
        rw f refl
    go false d rec = rw rec

-- neither the image set nor the one replaced is the mark's
recalled_set :
    (x y : List ℕ) (h i : History) (r : Option (List ℕ)) (ms : List Marked) → same y x && (same (image_at i) (image_at h) || replaces r (image_at h)) ≡ false →
    recalled x h (record { name = y; history = i } ∷ replacing y r ms) ≡ recalled x h ms
unfolding recalled matches replacing replaces
recalled_set x y h i none ms e = rw (own (same y x) (same (image_at i) (image_at h)) false e) refl
  where
    own : (a b c : Bool) → a && (b || c) ≡ false → a && b ≡ false
    own true true c d = d
    own true false c d = refl
    own false b c d = refl
recalled_set x y h i (some j) ms e = rw (own (same y x) (same (image_at i) (image_at h)) (same j (image_at h)) e)
    (recalled_struck x y h j ms (other (same y x) (same (image_at i) (image_at h)) (same j (image_at h)) e))
  where
    own : (a b c : Bool) → a && (b || c) ≡ false → a && b ≡ false
    own true true c d = d
    own true false c d = refl
    own false b c d = refl

    other : (a b c : Bool) → a && (b || c) ≡ false → a && c ≡ false
    other true true true d = d
    other true true false d = refl
    other true false c d = d
    other false b c d = refl

-- a call that leaves marks of the name x and of the image of h
recalled_step :
    (x : List ℕ) (h i : History) (ms : List Marked) (m : Marking) → leaves x (image_at h) m (marked_by m i ms).history ≡ true →
    recalled x h (marked_by m i ms).marks ≡ recalled x h ms
unfolding marked_by leaves
recalled_step x h i ms no_mark e = refl
recalled_step x h i ms (sets y r) e = recalled_set x y h i r ms (not_so (same y x && (same (image_at i) (image_at h) || replaces r (image_at h))) e)
recalled_step x h i ms (removes y j) e = recalled_struck x y h j ms (not_so (same y x && same j (image_at h)) e)
recalled_step x h i ms (returns y) e = refl

recalled_after :
    (x : List ℕ) (h : History) (cs : List Given) (ps : List Link) (p : Past) → all_leave x (image_at h) cs ps p ≡ true →
    recalled x h (past_after cs ps p).marks ≡ recalled x h p.marks
unfolding all_leave past_after past_by
recalled_after x h [] ps p e = refl
recalled_after x h (c ∷ cs) ps p e =
    let o = booked c ps in
    let q = past_by o p in
    let l = leaves x (image_at h) o.marking q.history in
    let r = all_leave x (image_at h) cs (pairs_of o ps) q in
    recalled_after x h cs (pairs_of o ps) q (and_right l r e)
    ∙ recalled_step x h (history_by o.begins o.switches p.history) p.marks o.marking (and_left l r e)

recalled_own : (x : List ℕ) (h i : History) (ms : List Marked) → image_at i ≡ image_at h → recalled x h (record { name = x; history = i } ∷ ms) ≡ i
unfolding recalled matches
recalled_own x h i ms e = rw (same_refl x, e, same_refl (image_at h))

-- ---- lists one after the other

givens_append : (es fs : List Event) → givens (es ++ fs) ≡ givens es ++ givens fs
unfolding givens
givens_append [] fs = refl
givens_append (event c t hs v ∷ es) fs = ap {B = List Given} (λ cs. given c (lengths_of t) ∷ cs) (givens_append es fs)

past_append : (cs ds : List Given) (ps : List Link) (p : Past) → past_after (cs ++ ds) ps p ≡ past_after ds (book_after cs ps) (past_after cs ps p)
unfolding past_after book_after
past_append [] ds ps p = refl
past_append (c ∷ cs) ds ps p = past_append cs ds (pairs_of (booked c ps) ps) (past_by (booked c ps) p)

same_calls : (h : History) → history_by none [] h ≡ h
unfolding history_by
same_calls h = ap {B = History} (λ cs. record { began = h.began; calls = cs }) (append-nil h.calls)
  where
    append-nil : {A : Type 0} (xs : List A) → xs ++ [] ≡ xs
    append-nil [] = refl
    append-nil {A} (x ∷ xs) = ap {B = List A} (λ ys. x ∷ ys) (append-nil xs)

-- ---- accepted calls

number_of : List Answer → ℕ
number_of [] = 1
number_of (h ∷ hs) = h.number

-- a number 0 is no refusal
accepted : (R : ℕ) (o : Outcome) → counted 0 0 ∷ [] ≡ (unless_refused R o).answers → R ≡ 0
unfolding by_number number_of counted
accepted zero o e = refl
accepted (suc q) o e = absurd (omega (arith, ap number_of e))

accepted_set : (m : ℕ) (x bs : List ℕ) (l : Lengths) (ps : List Link) → counted 0 0 ∷ [] ≡ (outcome (setting m x bs) l ps).answers →
    outcome (setting m x bs) l ps ≡ outcome_with (counted 0 0 ∷ []) none [] (sets x (image_under m x bs))
unfolding outcome by_number
accepted_set m x bs l ps e =
    let o = outcome_with (counted 0 0 ∷ []) none [] (sets x (image_under m x bs)) in
    ap (λ (R : ℕ). unless_refused R o) (accepted (set_refusal m l true x bs) o e)

accepted_return : (j : ℕ) (x ds : List ℕ) (l : Lengths) (ps : List Link) → counted 0 0 ∷ [] ≡ (outcome (returning j x ds) l ps).answers →
    (named_refusal j l true x ds ≡ 0) × (outcome (returning j x ds) l ps ≡ outcome_with (counted 0 0 ∷ []) (some (from_image j (mark_image j x ds))) []
    (returns x))
unfolding outcome by_number
accepted_return j x ds l ps e =
    let o = outcome_with (counted 0 0 ∷ []) (some (from_image j (mark_image j x ds))) [] (returns x) in
    let z = accepted (named_refusal j l true x ds) o e in
    (z, ap (λ (R : ℕ). unless_refused R o) z)

-- the image of what reading an image leaves is that image
image_read : (j : ℕ) (bs : List ℕ) → j ≤ max_radios → images.is_image j bs ≡ true → image_at (fresh (from_image j bs)) ≡ bs
unfolding image_at fresh site_size tables_after beginning_tables tables_of image_graph
image_read j bs small i =
    let v = image_valid j bs small i in
    ap (λ (g : Graph). image_of g (image_order j bs)) (graph_in_links_table (image_graph j bs) small v.links_proper v.links_ascending) ∙ written_read j bs
    i

-- ---- the theorem

module _ (n : ℕ) (qs : List Link) (p : Past) (t : Tables) (k : PastHolds n qs p t) (m : ℕ) (x bs : List ℕ) (d : Does (setting m x bs) t (counted 0 0 ∷ []) t)
  where
    abbrev marked : Past
    marked = past p.history (record { name = x; history = p.history } ∷ replacing x (image_under m x bs) p.marks)

    marked_holds : PastHolds n qs marked t
    marked_holds = record {
      traced = k.traced;
      marks =
          (record { pairs = qs; tables = t; traced = k.traced }, replacing_hold n x (image_under m x bs) p.marks k.marks);
    }

    set_is : outcome (setting m x bs) (lengths_of t) qs ≡ outcome_with (counted 0 0 ∷ []) none [] (sets x (image_under m x bs))
    set_is = accepted_set m x bs (lengths_of t) qs (step n qs t k.traced.holds (setting m x bs) (counted 0 0 ∷ []) t d).kept.answered

    after_set : (cs : List Given) → past_after (given (setting m x bs) (lengths_of t) ∷ cs) qs p ≡ past_after cs qs marked
    unfolding past_after booked past_by marked_by pairs_of pairs_after first_pairs
    after_set cs =
        ap₂ (past_after cs) (ap (λ (o : Outcome). pairs_of o qs) set_is)
        (ap (λ (o : Outcome). past_by o p) set_is
        ∙ ap (λ (h : History). past h (record { name = x; history = h } ∷ replacing x (image_under m x bs) p.marks))
        (same_calls p.history))

    -- the image that was set
    set_image : image_at p.history ≡ image_of (graph_in n t.links) t.order
    set_image =
        image_is n p.history qs t k.traced
        ∙ sym (ap₂ image_of (read_back n qs t k.traced.holds) (order_is n qs t k.traced.holds))

    module _ (between : List Event) (u v : Tables) (j : ℕ) (ds : List ℕ) (r : Run t between u) (b : Does (returning j x ds) u (counted 0 0 ∷ []) v)
        (free : all_leave x (image_of (graph_in n t.links) t.order) (givens between) qs marked ≡ true)
        (still : mark_image j x ds ≡ image_of (graph_in n t.links) t.order) where
      abbrev then : Past
      then = past_after (givens between) qs marked

      abbrev pairs : List Link
      pairs = book_after (givens between) qs

      kept : PastHolds n pairs then u
      kept = past_kept n qs marked marked_holds r

      return_is :
          (named_refusal j (lengths_of u) true x ds ≡ 0)
          × (outcome (returning j x ds) (lengths_of u) pairs ≡ outcome_with (counted 0 0 ∷ []) (some (from_image j (mark_image j x ds))) [] (returns x))
      return_is =
          accepted_return j x ds (lengths_of u) pairs (step n pairs u kept.traced.holds (returning j x ds) (counted 0 0 ∷ []) v b).kept.answered

      -- the mark's image is the one that was set
      back_image : image_at p.history ≡ image_at (fresh (from_image j (mark_image j x ds)))
      back_image =
          let q = named_zero j (lengths_of u) true x ds return_is.0 in
          set_image ∙ sym still ∙ sym (image_read j (mark_image j x ds) q.0.site.lent.most (mark_is_image j x ds q.0.store.marks q.1))

      after_return : (past_after (given (returning j x ds) (lengths_of u) ∷ []) pairs then).history ≡ p.history
      unfolding past_after booked past_by marked_by history_by fresh
      after_return =
          ap (λ (o : Outcome). (past_by o then).history) return_is.1
          ∙ recalled_after x (fresh (from_image j (mark_image j x ds))) (givens between) qs marked
          (subst (λ (i : List ℕ). all_leave x i (givens between) qs marked ≡ true) (sym set_image ∙ back_image) free)
          ∙ recalled_own x (fresh (from_image j (mark_image j x ds))) p.history (replacing x (image_under m x bs) p.marks) back_image

      restored : (past_after (givens (event (setting m x bs) t (counted 0 0 ∷ []) t ∷ (between ++ (event (returning j x ds) u (counted 0 0 ∷ []) v ∷ [])))) qs
          p).history ≡ p.history
      unfolding givens
      restored =
          let back = given (returning j x ds) (lengths_of u) ∷ [] in
          ap (λ (o : Past). o.history)
          (after_set (givens (between ++ (event (returning j x ds) u (counted 0 0 ∷ []) v ∷ [])))
          ∙ ap (λ (cs : List Given). past_after cs qs marked) (givens_append between (event (returning j x ds) u (counted 0 0 ∷ []) v ∷ []))
          ∙ past_append (givens between) back qs marked)
          ∙ after_return

pub history_restored :
    (n : ℕ) (ps : List Link) (t₀ t u v : Tables) (s : Start n ps t₀) (before between : List Event) (m j : ℕ) (x bs ds : List ℕ) →
    Run t₀ before t → Does (setting m x bs) t (counted 0 0 ∷ []) t → Run t between u → Does (returning j x ds) u (counted 0 0 ∷ []) v →
    all_leave x (image_of (graph_in n t.links) t.order) (givens between) (book_after (givens before) ps)
    (past_of (givens (before ++ (event (setting m x bs) t (counted 0 0 ∷ []) t ∷ []))) ps (beginning s)) ≡ true →
    mark_image j x ds ≡ image_of (graph_in n t.links) t.order →
    history (givens (before ++ (event (setting m x bs) t (counted 0 0 ∷ []) t ∷ (between ++ (event (returning j x ds) u (counted 0 0 ∷ []) v ∷ []))))) ps
    (beginning s)
    ≡ history (givens before) ps (beginning s)
unfolding history past_of givens past_after
history_restored n ps t₀ t u v s before between m j x bs ds r₁ d₁ r₂ d₂ free still =
    let p₀ = past (fresh (beginning s)) [] in
    let qs = book_after (givens before) ps in
    let p = past_after (givens before) ps p₀ in
    let k = past_kept n ps p₀ (start_past s) r₁ in
    let set = event (setting m x bs) t (counted 0 0 ∷ []) t in
    let rest = set ∷ (between ++ (event (returning j x ds) u (counted 0 0 ∷ []) v ∷ [])) in
    let marked_then : past_after (givens (before ++ (set ∷ []))) ps p₀ ≡ marked n qs p t k m x bs d₁ =
    ap (λ (cs : List Given). past_after cs ps p₀) (givens_append before (set ∷ [])) ∙ past_append (givens before) (givens (set ∷ [])) ps p₀
    ∙ after_set n qs p t k m x bs d₁ [] in
    ap (λ (o : Past). o.history)
    (ap (λ (cs : List Given). past_after cs ps p₀) (givens_append before rest) ∙ past_append (givens before) (givens rest) ps p₀)
    ∙ restored n qs p t k m x bs d₁ between u v j ds r₂ d₂
    (subst (λ (q : Past). all_leave x (image_of (graph_in n t.links) t.order) (givens between) qs q ≡ true) marked_then free) still

-- ---- the same of lists of calls

marked_events :
    (between : List Call) (t : Tables) (m j : ℕ) (x bs ds : List ℕ) → let u = after between t in
    (set_outcome m x t bs).reply ≡ 0 → (return_outcome j x ds u).reply ≡ 0 →
    events (setting m x bs ∷ (between ++ (returning j x ds ∷ []))) t
    ≡ event (setting m x bs) t (counted 0 0 ∷ []) t ∷
    (events between t ++ (event (returning j x ds) u (counted 0 0 ∷ []) (return_outcome j x ds u).tables ∷ []))
unfolding events done
marked_events between t m j x bs ds z y = rw (z, events_append between (returning j x ds ∷ []) t, y)

set_event : (t : Tables) (m : ℕ) (x bs : List ℕ) → (set_outcome m x t bs).reply ≡ 0 → events (setting m x bs ∷ []) t ≡ event (setting m x bs) t
    (counted 0 0 ∷ []) t ∷ []
unfolding events done
set_event t m x bs z = rw z

pub restored_list :
    (n : ℕ) (ps : List Link) (t₀ : Tables) (s : Start n ps t₀) (before between : List Call) (m j : ℕ) (x bs ds : List ℕ) →
    let t = after before t₀ in let u = after between t in (set_outcome m x t bs).reply ≡ 0 → (return_outcome j x ds u).reply ≡ 0 →
    all_leave x (image_of (graph_in n t.links) t.order) (givens (events between t)) (book_after (givens (events before t₀)) ps)
    (past_of (givens (events (before ++ (setting m x bs ∷ [])) t₀)) ps (beginning s)) ≡ true →
    mark_image j x ds ≡ image_of (graph_in n t.links) t.order →
    history (givens (events (before ++ (setting m x bs ∷ (between ++ (returning j x ds ∷ [])))) t₀)) ps (beginning s)
    ≡ history (givens (events before t₀)) ps (beginning s)
unfolding Does done
restored_list n ps t₀ s before between m j x bs ds z y free still =
    let t = after before t₀ in
    let u = after between t in
    ap (λ (es : List Event). history (givens es) ps (beginning s))
    (events_append before _ t₀ ∙ ap (λ (es : List Event). events before t₀ ++ es) (marked_events between t m j x bs ds z y))
    ∙ history_restored n ps t₀ t u (return_outcome j x ds u).tables s (events before t₀) (events between t) m j x bs ds (run before t₀) (rw z) (run between t)
    (rw y)
    (subst (λ (es : List Event). all_leave x (image_of (graph_in n t.links) t.order) (givens (events between t))
    (book_after (givens (events before t₀)) ps)
    (past_of (givens es) ps (beginning s)) ≡ true) (events_append before (setting m x bs ∷ []) t₀ ∙ ap (λ (es : List Event). events before t₀ ++ es)
    (set_event t m x bs z)) free) still
