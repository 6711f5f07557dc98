-- The script of sound tables, played: every line is a link call, none is refused, and links and numbers are the tables'.
--   script_plays    so it is of the script
--   written_plays   and of the bytes that the call writes
-- The links of the site come up in their order from a cleared one (calls' `rebuilt`), and the tables hold the pairs after them.
use Rattle.std.specs.Prelude.{◌≡◌, ◌⊎◌, ◌∷◌, ◌++◌, ◌≤◌, ◌<◌, ◌+◌}
use Rattle.lists.{specs.Kit.{refl, sym, ap, subst, ◌∙◌, inl, inr, true, List, [], map, flat_map, append_assoc, ListAsMemᴰ}}
use Rattle.lists.{specs.Kit.{List·Memᴰ·cases-cons, List·Memᴰ·not-nil, ℕ, zero, suc, arith, length, drop, take, replicate, length-append}}
use Rattle.lists.{specs.Kit.{length-drop, length-replicate}, specs.Lists.{range, overwrite, EntriesBelow}, proofs.Overwrite.{take_overwrite}}
use Rattle.lists.{proofs.Map.{length-map}}
use Rattle.mesh.{specs.Limits.{max_radios, max_neighbours}, specs.Graph.{Link, graph, InLinks, Allowed}, specs.Levels.{changed, step_of}}
use Rattle.mesh.{specs.Tables.{Tables, graph_in, tables_of, TablesOfSize}, specs.Sound.{sound}, specs.Valid.{Valid}, proofs.GraphLaws.{proper_of}}
use Rattle.mesh.{proofs.Tables.AscendingLinks.{in_links_proper}, proofs.Tables.Laws.{links_table_cleared}, proofs.Tables.Sites.{valid_cleared, numbers_cleared}}
use Rattle.mesh.{proofs.Images.Tables.{valid_graph_in, tables_of_graph_in}}
use Rattle.calls.{specs.Script.{radios_text, up_line, script_of}, specs.Questions.{lengths_of}, specs.Switches.{switch, switched}}
use Rattle.calls.{specs.Switches.{tables_after, AllAllowed}, specs.Outcomes.{linked_with, reply, link_outcome, script_outcome}, specs.Book.{Answer}}
use Rattle.calls.{specs.Book.{Call, linking, reported}, specs.Runs.{Done, did, answer_of, done, events, answers, after}, specs.Replay.{answer_line, lines}}
use Rattle.calls.{specs.Replay.{closing_lines}, proofs.ChainLaws.{ends_yes}, proofs.RecordLaws.{tables_ext}, proofs.Accepted.{listing_is}, proofs.Holds.{Holds}}
use Rattle.calls.{proofs.Holds.{read_back, switched_holds, all_holds}, proofs.ByPairs.{link_asked}, proofs.ScriptLaws.{script_zero, script_right}}
use Rattle.calls.{proofs.Rebuilt.{ups, Rebuilt, rebuilt}}
use Rattle.script.{specs.Texts.{text_of, Values}, specs.Lines.{line_of}, specs.declared.lines.Line.TheVariants.{Radios, Up}, proofs.Texts.{parse_text}}
use Rattle.player.{specs.Play.{site_of, radios_of, lines_of, front, rest, cleared}, specs.RunText.{call_text, line_text, lines_text, text_from, run_text}}
use Rattle.player.{proofs.PlayLaws.{site_of_radios}}
use Rattle.playback.specs.{Plays.{calls_of, calls_in}, Back.{Rebuilds, PlaysBack}}
use Rattle.playback.proofs.LineLaws.{ended_radios, front_ended, rest_ended, lines_of_ups}
use Rattle.calls.specs.{Chains.{script_refusal}, Questions.{by_number}}

-- ---- lines

line_of_up : (l : Link) → l.low < max_radios → l.high < max_radios → line_of (up_line l) ≡ Up l.low l.high
unfolding up_line text_of Values
line_of_up l h k = parse_text (Up l.low l.high) (omega arith, omega arith)

radios_of_text : (n : ℕ) → n ≤ max_radios → radios_of (radios_text n) ≡ n
unfolding radios_of text_of Values
radios_of_text n h = ap site_of (parse_text (Radios n) (omega arith)) ∙ site_of_radios n h

-- ---- a link that is allowed

module _ (n : ℕ) (least : 1 ≤ n) (ps : List Link) (u : Tables) (k : Holds n ps u) (l : Link)
    (ok : Allowed max_neighbours true l.low l.high (graph n ps)) where
  abbrev cs : List ℕ
  cs = changed true l.low l.high (graph n ps)

  abbrev left : Tables
  left = switched n (switch true l.low l.high) u

  outcome_up : (w : List ℕ) → n ≤ length w →
      link_outcome true n l.low l.high u w ≡ linked_with (reply 0 (step_of true cs) (length cs)) left (overwrite cs w)
  unfolding link_outcome sound by_number
  outcome_up w room =
      rw (
        link_asked n ps u k least true l.low l.high (length w) room ∙ ends_yes max_neighbours true l.low l.high (graph n ps) ok,
        read_back n ps u k,
      )

  room_after : (w : List ℕ) → n ≤ length w → n ≤ length (overwrite cs w)
  unfolding overwrite
  room_after w room = omega (arith, length-append cs (drop (length cs) w), length-drop (length cs) w)

  done_up : done (linking true n l.low l.high n) u ≡ did (reported true cs ∷ []) left
  unfolding done answer_of reported
  done_up = rw (outcome_up (replicate n 0) (omega (arith, length-replicate {A = ℕ} n 0)), take_overwrite cs (replicate n 0))

  after_up : (ds : List Call) → after (linking true n l.low l.high n ∷ ds) u ≡ after ds left
  unfolding after
  after_up ds = ap (λ (o : Done). after ds o.tables) done_up

  answers_up : (ds : List Call) →
      answers (events (linking true n l.low l.high n ∷ ds) u) ≡ reported true cs ∷ answers (events ds left)
  unfolding events answers
  answers_up ds = ap (λ (o : Done). o.answers ++ answers (events ds o.tables)) done_up

  -- and the line that is printed
  line_up : (m : ℕ) (w : List ℕ) → n ≤ length w → (later : Tables → List ℕ → List ℕ) →
      line_text (Up l.low l.high) n m u w later ≡ answer_line (reported true cs) ++ later left (overwrite cs w)
  unfolding line_text call_text answer_line answer_of reported
  line_up m w room later = rw (outcome_up w room, take_overwrite cs w)

-- ---- links in turn

-- the ends of each link are radios
abbrev RadiosAll : List Link → Type 0
RadiosAll ls = (l : Link) → InLinks l ls → (l.low < max_radios) × (l.high < max_radios)

unfoldable pub up_calls : (n : ℕ) → List Link → List Call
up_calls n [] = []
up_calls n (l ∷ ls) = linking true n l.low l.high n ∷ up_calls n ls

length_up_calls : (n : ℕ) (ls : List Link) → length (up_calls n ls) ≡ length ls
unfolding up_calls
length_up_calls n [] = refl
length_up_calls n (l ∷ ls) = ap suc (length_up_calls n ls)

calls_of_ups : (n : ℕ) (ls : List Link) → RadiosAll ls → flat_map (λ (x : List ℕ). calls_of n (line_of x)) (map up_line ls) ≡ up_calls n ls
unfolding flat_map up_calls calls_of
calls_of_ups n [] r = refl
calls_of_ups n (l ∷ ls) r =
    let ends = r l (inl refl) in rw (line_of_up l ends.0 ends.1, calls_of_ups n ls (λ m i. r m (inr i)))

abbrev NoneRefused : List Answer → Type 0
NoneRefused hs = (h : Answer) → ListAsMemᴰ h hs → h.number ≡ 0

none_refused_more : (h : Answer) (hs : List Answer) → h.number ≡ 0 → NoneRefused hs → NoneRefused (h ∷ hs)
none_refused_more h hs e f x m = go (List·Memᴰ·cases-cons m)
  where
    go : (x ≡ h) ⊎ ListAsMemᴰ x hs → x.number ≡ 0
    go (inl same) = ap (λ (y : Answer). y.number) same ∙ e
    go (inr i) = f x i

-- the calls of links, made on the tables u, where the first of them is line m and the answer table holds w
pub record CameUp (n : ℕ) (ls : List Link) (u : Tables) (m : ℕ) (w : List ℕ) : Type 0 where
  pub none_refused : NoneRefused (answers (events (up_calls n ls) u))
  pub tables : after (up_calls n ls) u ≡ tables_after n (ups ls) u
  pub text :
      let v = after (up_calls n ls) u in
      lines_text n (map up_line ls) m u w ≡ lines (answers (events (up_calls n ls) u)) v.numbers v.order

came_up_none : (n : ℕ) (u : Tables) (m : ℕ) (w : List ℕ) → CameUp n [] u m w
unfolding ups tables_after up_calls events answers after lines_text lines flat_map
came_up_none n u m w = record { none_refused = λ h i. absurd (List·Memᴰ·not-nil i); tables = refl; text = refl }

module _ (n : ℕ) (least : 1 ≤ n) where
  pub came_up : (ls ps : List Link) (u : Tables) → Holds n ps u → AllAllowed n ps (ups ls) → RadiosAll ls → (m : ℕ) (w : List ℕ) → n ≤ length w →
      CameUp n ls u m w
  unfolding ups AllAllowed tables_after up_calls lines_text lines flat_map reported
  came_up [] ps u k ok r m w room = came_up_none n u m w
  came_up (l ∷ ls) ps u k ok r m w room =
      let ends = r l (inl refl) in
      let changes = cs n least ps u k l ok.0 in
      let v = left n least ps u k l ok.0 in
      let said = answers_up n least ps u k l ok.0 (up_calls n ls) in
      let leaves = after_up n least ps u k l ok.0 (up_calls n ls) in
      let x = overwrite changes w in
      let c = came_up ls _ v (switched_holds n ps u k (switch true l.low l.high) ok.0) ok.1 (λ y i. r y (inr i)) (m + 1) x
      (room_after n least ps u k l ok.0 w room) in
      record {
        none_refused = rw said (none_refused_more (reported true changes) _ refl c.none_refused);
        tables = leaves ∙ c.tables;
        text = rw (
          line_of_up l ends.0 ends.1,
          line_up n least ps u k l ok.0 m w room (λ y z. lines_text n (map up_line ls) (m + 1) y z),
          said,
          leaves,
          c.text,
        )
            (sym (append_assoc (answer_line (reported true changes)) (flat_map answer_line (answers (events (up_calls n ls) v)))
            (closing_lines (after (up_calls n ls) v).numbers (after (up_calls n ls) v).order)));
      }

-- ---- the whole script

cleared_holds : (n : ℕ) → n ≤ max_radios → Holds n [] (cleared n)
unfolding cleared tables_of
cleared_holds n small = record {
  most = small;
  xs = range 0 n;
  valid = valid_cleared n max_neighbours;
  is = tables_ext (cleared n) _ (sym (links_table_cleared n)) (sym (numbers_cleared n)) refl;
}

text_of_lines : (n : ℕ) → 1 ≤ n → (bs : List ℕ) → text_from n bs ≡ lines_text n (lines_of bs) 2 (cleared n) (replicate n 0)
unfolding text_from
text_of_lines zero h bs = absurd (omega arith)
text_of_lines (suc n) h bs = refl

module _ (n : ℕ) (least : 1 ≤ n) (small : n ≤ max_radios) (ls : List Link) where
  abbrev script : List ℕ
  script = script_of (graph n ls)

  names : radios_of (front script) ≡ n
  unfolding script_of
  names = ap radios_of (front_ended (radios_text n) (flat_map up_line ls) (ended_radios n)) ∙ radios_of_text n small

  follows : lines_of (rest script) ≡ map up_line ls
  unfolding script_of
  follows = ap lines_of (rest_ended (radios_text n) (flat_map up_line ls) (ended_radios n)) ∙ lines_of_ups ls

  text_is : run_text script ≡ lines_text n (map up_line ls) 2 (cleared n) (replicate n 0)
  unfolding run_text
  text_is = rw (names, text_of_lines n least (rest script), follows)

  module _ (xs : List ℕ) (valid : Valid max_neighbours (graph n ls) xs) where
    back : Rebuilt (graph n ls)
    back = rebuilt (graph n ls) xs valid

    radios_all : RadiosAll ls
    radios_all l i = let p = in_links_proper n ls l (proper_of n ls valid.links_proper) i in (omega arith, omega arith)

    pub script_calls : calls_in n script ≡ up_calls n ls
    unfolding calls_in
    script_calls = rw follows (calls_of_ups n ls radios_all)

    pub script_came_up : CameUp n ls (cleared n) 2 (replicate n 0)
    script_came_up =
        came_up n least ls [] (cleared n) (cleared_holds n small) back.allowed radios_all 2 (replicate n 0) (omega (arith, length-replicate {A = ℕ} n 0))

    -- the tables left are the graph's, with some order
    pub left_holds : Holds n ls (tables_after n (ups ls) (cleared n))
    left_holds =
        subst (λ (ps : List Link). Holds n ps (tables_after n (ups ls) (cleared n))) back.pairs
        (all_holds n [] (ups ls) (cleared n) (cleared_holds n small) back.allowed)

    pub rebuilds : (t : Tables) → graph_in n t.links ≡ graph n ls → tables_of (graph n ls) xs ≡ t →
        Rebuilds n t script (up_calls n ls) (answers (events (up_calls n ls) (cleared n))) (after (up_calls n ls) (cleared n))
    unfolding tables_of
    rebuilds t g same =
        let c = script_came_up in
        let k = left_holds in
        let v = after (up_calls n ls) (cleared n) in
        let is : v ≡ tables_of (graph n ls) k.xs = c.tables ∙ k.is in
        let numbers : v.numbers ≡ t.numbers = ap (λ (u : Tables). u.numbers) is ∙ ap (λ (u : Tables). u.numbers) same in
        record {
          radios = names;
          all_calls = length_up_calls n ls ∙ sym (length-map up_line ls) ∙ ap length (sym follows);
          line_each = rw g (length_up_calls n ls);
          none_refused = c.none_refused;
          links = ap (λ (u : Tables). u.links) is ∙ ap (λ (u : Tables). u.links) same;
          numbers = numbers;
          prints = text_is ∙ c.text ∙ ap (λ (ns : List ℕ). lines (answers (events (up_calls n ls) (cleared n))) ns v.order) numbers;
        }

pub script_plays : (n : ℕ) (t : Tables) → 1 ≤ n → n ≤ max_radios → TablesOfSize n t → sound n t ≡ true → PlaysBack n t (script_of (graph_in n t.links))
unfolding graph_in sound PlaysBack
script_plays n t least small size is_sound =
    let ls = (graph_in n t.links).links in
    let valid = valid_graph_in max_neighbours n t small is_sound in
    rw (script_calls n least small ls t.order valid)
    (rebuilds n least small ls t.order valid t refl (tables_of_graph_in n t small size is_sound))

-- the bytes that the call wrote; that the table's entries are bytes is all that is asked, as of an image that is read back
pub written_plays :
    (n : ℕ) (t : Tables) (w : List ℕ) → let o = script_outcome n t w in
    o.reply.number ≡ 0 → EntriesBelow 256 t.links → PlaysBack n t (take o.reply.value o.lent)
unfolding script_outcome lengths_of sound
written_plays n t w z bytes =
    let g = graph_in n t.links in
    let c = listing_is (script_refusal n (lengths_of t) (length w) (sound n t) g) _ (script_of g) w z in
    let good = (script_zero n (lengths_of t) (length w) (sound n t) g c.0).0 in
    rw (script_right n t w z).text
    (script_plays n t good.lent.least good.lent.most
    (record {
      links_length = good.lent.lengths.links;
      numbers_length = good.lent.lengths.numbers;
      order_length = good.lent.lengths.order;
      links_bytes = bytes;
    })
    good.is_sound)
