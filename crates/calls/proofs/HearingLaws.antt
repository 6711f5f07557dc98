-- A hearing carried out row by row: each switch is allowed, and what is left after it.
--   left-first, left_next, left_done    before the first switch, after one, after the last
--   rows_first        before the first row of the downs
--   row_first         the start of a row: a list of radios above it with a test that tells the ones to be switched
--   row_skip          a radio that the test leaves out
--   row_next          a radio that it tells: questions 4 to 7 get yes, and the rest is left
--   row_end           the row is done
--   downs_end, ups_end   all rows are done
--   downs_row, ups_row   which radios of a row are switched, by the rows as they are then
use Rattle.std.specs.Prelude.{◌≡◌, ◌&&◌, ◌∷◌, ◌++◌, ◌-◌, ◌≤◌, ◌<◌}
use Rattle.lists.{specs.Kit.{refl, sym, ap, ap₂, subst, ◌∙◌, inl, inr, Bool, true, false, not, cond, List, [], map, flat_map}}
use Rattle.lists.{specs.Kit.{append_assoc, append-nil, ℕ, suc, arith, length, take, length-append, take-append_seam}, specs.Lists.{range}}
use Rattle.lists.{specs.Lists.{filter, In, Ascending}, proofs.Tests.{and_left, and_right}, proofs.Range.{range_in}, proofs.Filter.{filter_ext, filter_filter}}
use Rattle.mesh.{specs.Limits.{max_neighbours}, specs.Graph.{Link, Graph, graph, linked, relinked, new_links}, specs.Tables.{Tables, marked, graph_in}}
use Rattle.mesh.{specs.Sound.{sound, symmetric, irreflexive, rows_proper}, proofs.GraphLaws.{Ends, ends, ends_of}, proofs.Tables.Laws.{marked_put_link}}
use Rattle.mesh.{proofs.Tables.ReadBack.{proper_graph_in, ascending_graph_in, linked_graph_in}, proofs.Tables.Soundness.{sound_certificate}}
use Rattle.calls.specs.{Questions.{lengths_of, ends_refusal}, Switches.{Switch, switch, pairs_after, switched, tables_after, AllAllowed}, Heard.{agreed}}
use Rattle.calls.specs.{Heard.{agreed_few, heard_proper, row_switches, switches_where, goes_down, comes_up, heard_switches}, Hearing.{Left, Phase}}
use Rattle.calls.specs.{Hearing.{rows_from, RowsLeft, RowLeft, downs, ups}}
use Rattle.calls.proofs.{ChainLaws.{ends_yes}, Holds.{tables_after_append}, SoundSwitches.{Good, switched_graph, all_good}, Turns.{Ordered}}
use Rattle.calls.proofs.{HeardLaws.{hear_allowed, downs_pairs, middle_linked}}

-- ---- sound tables

-- rows that are sound mark the links
pub good_marked : (n : ℕ) (t : Tables) → Good n t → (a b : ℕ) → a < n → b < n → linked (graph_in n t.links) a b ≡ marked t.links a b
unfolding rows_proper sound
good_marked n t k =
    let rows = and_left (symmetric n t.links && irreflexive n t.links) _ (sound_certificate max_neighbours n t k.is_sound).0 in
    linked_graph_in n t.links (and_left (symmetric n t.links) _ rows) (and_right (symmetric n t.links) _ rows)

pub ordered_in : (n : ℕ) (ts : List ℕ) → Ordered n (graph_in n ts).links
ordered_in n ts = record { is_proper = proper_graph_in n ts; is_ascending = ascending_graph_in n ts }

-- ---- switches that are left

module _ {n : ℕ} {all : List Switch} {t u : Tables} where
  pub left_next :
      (s : Switch) (ss : List Switch) → Good n u → Left n all t (s ∷ ss) u →
      (ends_refusal max_neighbours s.up n s.a s.b (graph_in n u.links) ≡ 0) × Left n all t ss (switched n s u)
  unfolding AllAllowed tables_after graph_in relinked
  left_next s ss k l = (
    ends_yes max_neighbours s.up s.a s.b (graph_in n u.links) l.allowed.0,
    record {
      done = l.done ++ (s ∷ []);
      split = l.split ∙ sym (append_assoc l.done (s ∷ []) ss);
      tables = ap (switched n s) l.tables ∙ sym (tables_after_append n l.done (s ∷ []) t);
      allowed = subst (λ (ps : List Link). AllAllowed n ps ss) (sym (ap (λ (g : Graph). g.links) (switched_graph n u k s l.allowed.0))) l.allowed.1;
    },
  )

  pub left_done : Left n all t [] u → u ≡ tables_after n all t
  left_done l = l.tables ∙ ap (λ (ss : List Switch). tables_after n ss t) (sym (l.split ∙ append-nil l.done))

-- ---- rows

rows_cons : (n : ℕ) (p : Phase) (a : ℕ) → a < n → rows_from n p a ≡ row_switches p.up n p.test a ++ rows_from n p (suc a)
unfolding range flat_map
rows_cons n p a l =
    let e : n - a ≡ suc (n - suc a) = omega arith in
    rw e (append_assoc (row_switches p.up n p.test a) (flat_map (row_switches p.up n p.test) (range (suc a) (n - suc a))) p.later)

rows_none : (n : ℕ) (p : Phase) → rows_from n p n ≡ p.later
unfolding range flat_map
rows_none n p = let e : n - n ≡ 0 = omega arith in rw e refl

rows_all : (n : ℕ) (p : Phase) → rows_from n p 0 ≡ switches_where p.up n p.test ++ p.later
unfolding switches_where
rows_all n p = let e : n - 0 ≡ n = omega arith in rw e refl

module _ {n : ℕ} {p : Phase} {t : Tables} {a : ℕ} {u : Tables} where
  pub row_first :
      a < n → RowsLeft n p t a u → (told : ℕ → Bool) (bs : List ℕ) → filter told bs ≡ filter (p.test a) (range (suc a) (n - suc a)) →
      ((b : ℕ) → In b bs → (a < b) × (b < n)) → Ascending bs → RowLeft n p t a told bs u
  unfolding row_switches
  row_first l r told bs e inside rising = record {
    left = subst (λ (ss : List Switch). Left n p.all t ss u)
        (rows_cons n p a l ∙ ap (λ (xs : List ℕ). map (λ b. switch p.up a b) xs ++ rows_from n p (suc a)) (sym e)) r.left;
    kept = λ v w lv lw ln. r.kept v w (omega arith) lw ln;
    above = λ b i. let k = inside b i in (k.0, k.1, r.kept a b (omega arith) k.0 k.1);
    rising = rising;
  }

  module _ {told : ℕ → Bool} {b : ℕ} {bs : List ℕ} (r : RowLeft n p t a told (b ∷ bs) u) where
    at_first :
        {x : Bool} → told b ≡ x →
        Left n p.all t (map (λ c. switch p.up a c) (cond x (b ∷ filter told bs) (filter told bs)) ++ rows_from n p (suc a)) u
    unfolding filter
    at_first e =
        subst
        (λ (x : Bool). Left n p.all t (map (λ c. switch p.up a c) (cond x (b ∷ filter told bs) (filter told bs)) ++ rows_from n p (suc a)) u) e
        r.left

    pub row_skip : told b ≡ false → RowLeft n p t a told bs u
    row_skip e = record {
      left = at_first e;
      kept = r.kept;
      above = λ c i. r.above c (inr i);
      rising = r.rising.1;
    }

    module _ (k : Good n u) (e : told b ≡ true) where
      a_below : (a < b) × (b < n)
      a_below = let o = r.above b (inl refl) in (o.0, o.1)

      -- a bit that is not of this link
      other_bit :
          (v w : ℕ) → w < n → (Ends a b v w → ⊥) → marked (switched n (switch p.up a b) u).links v w ≡ marked u.links v w
      unfolding switched lengths_of
      other_bit v w l h =
          marked_put_link p.up n a b u.links v w k.lent.most k.lent.lengths.links
          (omega (arith, a_below.0, a_below.1)) a_below.1 (omega (arith, k.lent.most))
          ∙ ap (λ (x : Bool). cond x p.up (marked u.links v w)) (not_ends (ends a b v w) refl)
        where
          not_ends : (x : Bool) → ends a b v w ≡ x → x ≡ false
          not_ends true q = absurd (h (ends_of a b v w q))
          not_ends false q = refl

      pub row_next :
          (ends_refusal max_neighbours p.up n a b (graph_in n u.links) ≡ 0) × RowLeft n p t a told bs (switched n (switch p.up a b) u)
      row_next =
          let o = left_next (switch p.up a b) _ k (at_first e) in (
            o.0,
            record {
              left = o.1;
              kept = λ v w lv lw ln. other_bit v w ln (below v w lv lw) ∙ r.kept v w lv lw ln;
              above = λ c i. let q = r.above c (inr i) in (q.0, q.1, other_bit a c q.1 (beside c q.0 (r.rising.0 c i)) ∙ q.2);
              rising = r.rising.1;
            },
          )
        where
          below : (v w : ℕ) → suc a ≤ v → v < w → Ends a b v w → ⊥
          below v w lv lw (inl f) = omega (arith, f.0)
          below v w lv lw (inr f) = omega (arith, f.0, f.1, a_below.0)

          beside : (c : ℕ) → a < c → b < c → Ends a b a c → ⊥
          beside c la lb (inl f) = omega (arith, f.1)
          beside c la lb (inr f) = omega (arith, f.0, f.1)

  pub row_end : {told : ℕ → Bool} → RowLeft n p t a told [] u → RowsLeft n p t (suc a) u
  unfolding filter
  row_end r = record { left = r.left; kept = r.kept }

-- ---- both phases

-- a front that is followed by the same list is the same
front_eq : (xs ys zs : List Switch) → xs ++ zs ≡ ys ++ zs → xs ≡ ys
front_eq xs ys zs e =
    let n : length (xs ++ zs) ≡ length (ys ++ zs) = ap (λ (ss : List Switch). length ss) e in
    let m : length xs ≡ length ys = omega (arith, n, length-append xs zs, length-append ys zs) in
    sym (take-append_seam xs zs) ∙ ap₂ (λ (k : ℕ) (ss : List Switch). take k ss) m e ∙ take-append_seam ys zs

allowed_front : (n : ℕ) (ps : List Link) (ss rs : List Switch) → AllAllowed n ps (ss ++ rs) → AllAllowed n ps ss × AllAllowed n (pairs_after ss ps) rs
unfolding AllAllowed pairs_after
allowed_front n ps [] rs ok = (tt, ok)
allowed_front n ps (s ∷ ss) rs ok = let r = allowed_front n (new_links s.up s.a s.b ps) ss rs ok.1 in ((ok.0, r.0), r.1)

module _ (n : ℕ) (hs : List ℕ) (t : Tables) (k : Good n t) (is_proper : heard_proper n hs ≡ true) (few : agreed_few max_neighbours n hs ≡ true) where
  abbrev g : Graph
  g = graph_in n t.links

  allowed : AllAllowed n g.links (heard_switches g hs)
  unfolding graph_in
  allowed = hear_allowed n hs g.links k.lent.most (ordered_in n t.links) is_proper few

  abbrev down_list : List Switch
  down_list = switches_where false n (goes_down g hs)

  abbrev up_list : List Switch
  up_list = switches_where true n (comes_up g hs)

  all_are : heard_switches g hs ≡ down_list ++ up_list
  unfolding heard_switches graph_in
  all_are = refl

  -- nothing is switched yet
  pub rows_first : RowsLeft n (downs n hs t) t 0 t
  unfolding downs tables_after
  rows_first = record {
    left = record {
      done = [];
      split = all_are ∙ sym (rows_all n (downs n hs t));
      tables = refl;
      allowed = subst (AllAllowed n g.links) (all_are ∙ sym (rows_all n (downs n hs t))) allowed;
    };
    kept = λ v w _ _ _. refl;
  }

  -- after the downs
  module _ {u : Tables} (r : RowsLeft n (downs n hs t) t n u) where
    left : Left n (heard_switches g hs) t up_list u
    unfolding downs
    left = subst (λ (ss : List Switch). Left n (heard_switches g hs) t ss u) (rows_none n (downs n hs t)) r.left

    is_now : tables_after n down_list t ≡ u
    is_now =
        ap (λ (ss : List Switch). tables_after n ss t) (sym (front_eq left.done down_list up_list (sym left.split ∙ all_are))) ∙ sym left.tables

    after : Good n u × (graph_in n u.links ≡ graph n (pairs_after down_list g.links))
    unfolding graph_in
    after =
        subst (λ (v : Tables). Good n v × (graph_in n v.links ≡ graph n (pairs_after down_list g.links))) is_now
        (all_good n g.links down_list t k refl (allowed_front n g.links down_list up_list (subst (AllAllowed n g.links) all_are allowed)).0)

    marks : (v w : ℕ) → v < w → w < n → marked u.links v w ≡ (marked t.links v w && agreed hs v w)
    unfolding graph_in
    marks v w l ln =
        let lv : v < n = omega arith in
        sym (good_marked n u after.0 v w lv ln)
        ∙ ap (λ (h : Graph). linked h v w) (after.1 ∙ ap (graph n) (downs_pairs n hs g.links k.lent.most (ordered_in n t.links) is_proper few))
        ∙ middle_linked n hs g.links k.lent.most (ordered_in n t.links) is_proper few v w lv ln
        ∙ ap (λ (x : Bool). x && agreed hs v w) (good_marked n t k v w lv ln)

    pub downs_end : RowsLeft n (ups n hs t) t 0 u
    unfolding ups
    downs_end = record {
      left = subst (λ (ss : List Switch). Left n (heard_switches g hs) t ss u) (sym (rows_all n (ups n hs t) ∙ append-nil up_list)) left;
      kept = λ v w _ l ln. marks v w l ln;
    }

  pub ups_end : {u : Tables} → RowsLeft n (ups n hs t) t n u → u ≡ tables_after n (heard_switches g hs) t
  unfolding ups
  ups_end {u} r = left_done (subst (λ (ss : List Switch). Left n (heard_switches g hs) t ss u) (rows_none n (ups n hs t)) r.left)

  -- ---- which radios of a row are switched

  module _ (a : ℕ) (l : a < n) where
    abbrev higher : List ℕ
    higher = range (suc a) (n - suc a)

    within_row : (b : ℕ) → In b higher → (a < b) × (b < n)
    within_row b i = let o = range_in (suc a) (n - suc a) b i in (omega (arith, o.0), omega (arith, o.0, o.1))

    -- of the links of row a, as it is then, the ones that are not agreed
    pub downs_row : {u : Tables} → RowsLeft n (downs n hs t) t a u
        → filter (λ b. not (agreed hs a b)) (filter (λ b. marked u.links a b) higher) ≡ filter (goes_down g hs a) higher
    unfolding downs goes_down
    downs_row {u} r =
        filter_filter (λ b. not (agreed hs a b)) (λ b. marked u.links a b) higher
        ∙ filter_ext (λ b. marked u.links a b && not (agreed hs a b)) (goes_down g hs a) higher
        (λ b i.
        let o = within_row b i in
        ap (λ (x : Bool). x && not (agreed hs a b)) (r.kept a b (omega arith) o.0 o.1 ∙ sym (good_marked n t k a b l o.1)))

    -- of the radios that a hears, the ones that hear a and are not linked then
    pub ups_row :
        filter (λ b. marked hs b a && not ((ups n hs t).marks a b)) (filter (λ b. marked hs a b) higher) ≡ filter (comes_up g hs a) higher
    unfolding ups comes_up agreed
    ups_row =
        filter_filter (λ b. marked hs b a && not ((ups n hs t).marks a b)) (λ b. marked hs a b) higher
        ∙ filter_ext (λ b. marked hs a b && (marked hs b a && not ((ups n hs t).marks a b))) (comes_up g hs a) higher
        (λ b i.
        go (marked hs a b) (marked hs b a) (marked t.links a b)
        ∙ ap (λ (x : Bool). agreed hs a b && not x) (sym (good_marked n t k a b l (within_row b i).1)))
      where
        go : (x y z : Bool) → (x && (y && not (z && (x && y)))) ≡ ((x && y) && not z)
        go true true true = refl
        go true true false = refl
        go true false z = refl
        go false y z = refl
