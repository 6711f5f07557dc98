-- How much a byte of the input and its end print at most, and how far the line's number goes.
use Rattle.std.specs.Prelude.{◌≡◌, ◌∷◌, ◌+◌, ◌^◌, ◌≤◌, ◌<◌}
use Rattle.lists.{specs.Kit.{refl, sym, ap, subst, inl, inr, Bool, true, false, List, [], map, ℕ, zero, suc, arith, pos, nat_abs}}
use Rattle.lists.{specs.Kit.{length, take, length-append}, specs.Lists.{range, In}, proofs.Filter.{in_filter, filter_le}, proofs.Range.{length_range, range_in}}
use Rattle.lists.{proofs.Overwrite.{take_overwrite}}
use Rattle.mesh.specs.{Limits.{max_radios}, Graph.{Graph, radios}, Levels.{changed, step_of}, Sound.{sound}, Tables.{Tables, graph_in}}
use Rattle.text.specs.{Text.{bytes_of, decimal, printed_line}, Print.{max_place}}
use Rattle.calls.{specs.Replay.{link_line, bad_line, numbers_line, order_line, closing_lines}, specs.Questions.{ask, Lengths, lengths_of}}
use Rattle.calls.{specs.Questions.{site_refusal, lent_refusal, ends_refusal}, specs.Outcomes.{Linked, linked_with, link_outcome}}
use Rattle.calls.{specs.CallContracts.{LinkContract}, proofs.ChainLaws.{link_zero}}
use Rattle.script.{specs.Lines.{line_of}, specs.declared.lines.Line.{Line}, specs.declared.lines.Line.TheVariants.{Radios, Up, Down, Bad}}
use Rattle.script.{proofs.LengthLaws.{length_line_le, length_link_line_le}}
use Rattle.player.specs.{Lines.{Called, Played}, Machine.{Spot, LineEnds, Step, Takes, TakesAll, longest, closing_longest, closing}}
use Rattle.calls.specs.{Questions.{by_number}, declared.Reply.{Reply}, Chains.{link_refusal}}

-- ---- the reply of a call

ask_le : (k r : ℕ) (yes : Bool) (later : ℕ) → r ≤ k → later ≤ k → ask r yes later ≤ k
unfolding ask
ask_le k r true later h l = l
ask_le k r false later h l = h

link_refusal_le : (up : Bool) (n a b : ℕ) (l : Lengths) (w : ℕ) (s : Bool) (g : Graph) → link_refusal up n a b l w s g ≤ 7
unfolding site_refusal lent_refusal ends_refusal
link_refusal_le up n a b l w s g =
    ask_le 7 1 _ _ (omega arith) (ask_le 7 2 _ _ (omega arith) (ask_le 7 3 _ _ (omega arith) (ask_le 7 4 _ _ (omega arith)
    (ask_le 7 5 _ _ (omega arith) (ask_le 7 6 _ _ (omega arith) (ask_le 7 7 _ 0 (omega arith) (omega arith)))))))

step_small : (up : Bool) (cs : List ℕ) → nat_abs (step_of up cs) < 1000
unfolding step_of
step_small up [] = omega arith
step_small true (c ∷ cs) = omega arith
step_small false (c ∷ cs) = omega arith

changed_small : (up : Bool) (a b n : ℕ) (links : List ℕ) (v : ℕ) → In v (changed up a b (graph_in n links)) → v < n
unfolding changed radios graph_in
changed_small up a b n links v m = omega (arith, range_in 0 n v (in_filter _ (range 0 n) v m).0)

length_changed_le : (up : Bool) (a b n : ℕ) (links : List ℕ) → length (changed up a b (graph_in n links)) ≤ n
unfolding changed radios graph_in
length_changed_le up a b n links = filter_le _ (range 0 n) n (length_range 0 n)

radios_most : (up : Bool) (n a b : ℕ) (l : Lengths) (k : ℕ) (s : Bool) (links : List ℕ) → link_refusal up n a b l k s (graph_in n links) ≡ 0 → n ≤ max_radios
unfolding graph_in
radios_most up n a b l k s links z = (link_zero up a b l k s (graph_in n links) z).0.lent.most

-- the line of a reply, and of the radios in front of the answer table
abbrev reply_line : Linked Reply → List ℕ
reply_line o = link_line o.reply.number o.reply.step (take o.reply.count o.lent)

outcome_length : (up : Bool) (n a b : ℕ) (t : Tables) (w : List ℕ) (R : ℕ) →
    link_refusal up n a b (lengths_of t) (length w) (sound n t) (graph_in n t.links) ≡ R → length (reply_line (link_outcome up n a b t w)) ≤ longest
unfolding link_outcome sound by_number
outcome_length up n a b t w zero e =
    let cs = changed up a b (graph_in n t.links) in
    let small = radios_most up n a b (lengths_of t) (length w) (sound n t) t.links e in
    let below : (y : ℕ) → In y cs → y < 100000 = λ y m. omega (arith, small, changed_small up a b n t.links y m) in
    rw (e, take_overwrite cs w)
    (omega (arith, small, length_changed_le up a b n t.links, length_link_line_le 0 (step_of up cs) cs (omega arith) (step_small up cs) below))
outcome_length up n a b t w (suc q) e =
    let few : suc q < 100 = omega (arith, e, link_refusal_le up n a b (lengths_of t) (length w) (sound n t) (graph_in n t.links)) in
    rw e (omega (arith, length_link_line_le (suc q) (pos 0) [] few (omega arith) (λ y m. absurd m)))

pub called_length : (up : Bool) (n a b : ℕ) (t v : Tables) (w x text : List ℕ) → Called up n a b t w text v x → length text ≤ longest
unfolding LinkContract
called_length up n a b t v w x text h =
    let line : length (reply_line (linked_with h.reply v x)) ≤ longest
    = subst (λ (o : Linked Reply). length (reply_line o) ≤ longest) (sym h.does) (outcome_length up n a b t w _ refl) in
    omega (arith, ap length h.says, line)

-- ---- one byte

played_length : (n : ℕ) (l : Line) (t v : Tables) (w x text : List ℕ) → Played n l t w text v x → length text ≤ longest
unfolding Played
played_length n (Radios k) t v w x text h = omega (arith, ap length h.says)
played_length n (Up a b) t v w x text h = called_length true n a b t v w x text h
played_length n (Down a b) t v w x text h = called_length false n a b t v w x text h
played_length n Bad t v w x text h = omega (arith, ap length h.says)

in_one : (k x : ℕ) → k ≤ max_place → In x (k ∷ []) → x < 10 ^ 20
in_one k x h (inl e) = omega (arith, e)
in_one k x h (inr e) = absurd e

bad_length : (k : ℕ) → k ≤ max_place → length (bad_line k) ≤ longest
unfolding bad_line
bad_length k h = omega (arith, length_line_le (bytes_of "bad") 19 (k ∷ []) (λ x m. in_one k x h m))

ends_length : (c : Bool) (n : ℕ) (line : List ℕ) (p : Spot) (text : List ℕ) (q : Spot) → p.number ≤ max_place → LineEnds c n line p text q
    → length text ≤ longest
unfolding LineEnds
ends_length true n line p text q k h = played_length n (line_of line) p.tables q.tables p.answer q.answer text h.played
ends_length false n line p text q k h = omega (arith, ap length h.says, bad_length p.number k)

step_length : (live full feed : Bool) (n b : ℕ) (p : Spot) (text : List ℕ) (q : Spot) → p.number ≤ max_place → Step live full feed n b p text q
    → length text ≤ longest
unfolding Step
step_length false full feed n b p text q k h = omega (arith, ap length h.says)
step_length true true feed n b p text q k h = omega (arith, ap length h.says, bad_length p.number k)
step_length true false false n b p text q k h = omega (arith, ap length h.says)
step_length true false true n b p text q k h = ends_length _ n _ p text q k h

-- a byte of the input prints at most 3,080 bytes
pub takes_length : (m n b : ℕ) (p : Spot) (text : List ℕ) (q : Spot) → p.number ≤ max_place → Takes m n b p text q → length text ≤ longest
unfolding Takes
takes_length m n b p text q k h = step_length _ _ _ n b p text q k h

-- ---- the line's number

ends_number : (c : Bool) (n : ℕ) (line : List ℕ) (p : Spot) (text : List ℕ) (q : Spot) → LineEnds c n line p text q
    → q.number ≤ p.number + 1
unfolding LineEnds
ends_number true n line p text q h = omega (arith, h.number)
ends_number false n line p text q h = omega (arith, h.number)

step_number : (live full feed : Bool) (n b : ℕ) (p : Spot) (text : List ℕ) (q : Spot) → Step live full feed n b p text q
    → q.number ≤ p.number + 1
unfolding Step
step_number false full feed n b p text q h = omega (arith, ap (λ (s : Spot). s.number) h.same)
step_number true true feed n b p text q h = omega (arith, h.number)
step_number true false false n b p text q h = omega (arith, h.number)
step_number true false true n b p text q h = ends_number _ n _ p text q h

-- a byte ends one line at most
pub takes_number : (m n b : ℕ) (p : Spot) (text : List ℕ) (q : Spot) → Takes m n b p text q → q.number ≤ p.number + 1
unfolding Takes
takes_number m n b p text q h = step_number _ _ _ n b p text q h

-- bytes end as many lines at most as they are
pub takes_all_number : (m n : ℕ) (bs : List ℕ) (p : Spot) (text : List ℕ) (q : Spot) → TakesAll m n bs p text q
    → q.number ≤ p.number + length bs
unfolding TakesAll
takes_all_number m n [] p text q h = omega (arith, ap (λ (s : Spot). s.number) h.same)
takes_all_number m n (b ∷ bs) p text q h =
    omega (arith, takes_number m n b p h.first h.middle h.takes, takes_all_number m n bs h.middle h.more q h.rest)

-- ---- the closing lines

-- numbers of eight bits and radios of sixteen, of at most 512 radios: both lines, or `bad L`
pub closing_length : (h ns xs : List ℕ) (k : ℕ) → k ≤ max_place → length ns ≤ max_radios → length xs ≤ max_radios
    → ((x : ℕ) → In x ns → x < 1000) → ((x : ℕ) → In x xs → x < 100000) → length (closing h ns xs k) ≤ closing_longest
unfolding closing closing_lines numbers_line order_line
closing_length [] ns xs k small f g a b =
    omega (
      arith,
      length-append (printed_line (bytes_of "numbers") (map decimal ns)) (printed_line (bytes_of "order") (map decimal xs)),
      length_line_le (bytes_of "numbers") 2 ns a,
      length_line_le (bytes_of "order") 4 xs b,
    )
closing_length (y ∷ ys) ns xs k small f g a b = omega (arith, bad_length k small)
