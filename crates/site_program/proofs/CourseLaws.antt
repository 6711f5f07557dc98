-- Each way through the code is one thing that a byte, a line or a read does.
use Rattle.std.specs.Prelude.{Option, Some, None, Result, Ok, Err, ◌≡◌, ◌∷◌, ◌++◌, ◌+◌, ◌-◌, ◌≤◌, ◌<◌}
use Rattle.lists.specs.Kit.{refl, sym, ap, subst, ◌∙◌, Bool, true, false, true≢false, cond, inl, inr, List, [], ℕ, suc, arith, add-one}
use Rattle.lists.specs.Kit.{eqb, length, take, drop, set, get_or, replicate, length-take, length-drop, drop_of_length-le, take-suc-set, drop-cons, take_all}
use Rattle.lists.specs.Kit.{eq-eqb, ne_eqb, le-leb, lt-leb, lt-ltb, le-ltb}
use Rattle.mesh.specs.{Limits.{max_radios}, Tables.{Tables}}
use Rattle.calls.specs.{Outcomes.{Tabled, Linked, link_outcome}, CallContracts.{LinkContract, ClearContract}, declared.Reply.{Reply}}
use Rattle.text.specs.{Text.{line_feed}, Print.{max_place, next_place}}
use Rattle.script.specs.{Lines.{line_of}, declared.lines.Line.{Line}, declared.lines.Line.TheVariants.{Radios, Up, Down, Bad}}
use Rattle.std.specs.Option.{is_some}
use Rattle.calls.{specs.Answers.{call_number, link_reply}, specs.declared.{Change.{Change}, Refusal.{Refusal}}, proofs.AnswerLaws.{refused_not}}
use Rattle.player.specs.declared.input.{State.{State}, State.TheVariants.{GoesOn, End, Failed}, Unread.TheVariants.{Other}}
use Rattle.player.{specs.Reads.{goes_on, Read, Found, input_of, Going, ToEnd}, proofs.ReadLaws.{none_found, take_none}}
use Rattle.site_program.specs.{Errors.{fault_number}, Course.{form_of, Lined, lined_with, called, lined, Spot, spot, stopped, held_on}}
use Rattle.site_program.specs.Course.{line_done, byte_live, byte_taken, bytes_taken, first_end, first_room, ReadsOnce, ReadsOn, ReadsRest}
use Rattle.site_program.specs.Course.{closed, ended_by, ended}
use Rattle.site_program.specs.declared.refusals.{Fault.{Fault}, Fault.TheVariants.{Form, NoFeed, Carriage, Refused}}
use Rattle.site_program.specs.{Course.{line_room, begin, Plays}, declared.course.Course.{Course}, declared.course.Turned.{Turned}}

-- ---- a line

pub form_short : (s : List ℕ) → length s < 2 → Form ≡ form_of s
unfolding form_of
form_short s h = rw (lt-ltb (length s) 2 h)

pub form_carriage : (s : List ℕ) → 2 ≤ length s → get_or s (length s - 2) 0 ≡ 13 → Carriage ≡ form_of s
unfolding form_of
form_carriage s h e = rw (le-ltb (length s) 2 h, eq-eqb (get_or s (length s - 2) 0) 13 e)

pub form_other : (s : List ℕ) → 2 ≤ length s → (get_or s (length s - 2) 0 ≡ 13 → ⊥) → Form ≡ form_of s
unfolding form_of
form_other s h e = rw (le-ltb (length s) 2 h, ne_eqb (get_or s (length s - 2) 0) 13 e)

pub next_more : (x : ℕ) → x < max_place → x + 1 ≡ next_place x
unfolding next_place
next_more x h = rw (lt-ltb x max_place h)

pub next_last : (x : ℕ) → max_place ≤ x → x ≡ next_place x
unfolding next_place
next_last x h = rw (le-ltb x max_place h)

-- ---- what is wrong

pub fault_some : (f : Option Fault) → is_some f ≡ true → fault_number f ≡ 0 → ⊥
fault_some None h e = true≢false (sym h)
fault_some (Some Form) h e = omega (arith, e)
fault_some (Some NoFeed) h e = omega (arith, e)
fault_some (Some Carriage) h e = omega (arith, e)
fault_some (Some (Refused r)) h e = refused_not r e

pub fault_none : (f : Option Fault) → is_some f ≡ false → fault_number f ≡ 0
fault_none None h = refl
fault_none (Some f) h = absurd (true≢false h)

reply_number : (r : Result Change Refusal) → (link_reply r).number ≡ call_number r
reply_number (Ok c) = refl
reply_number (Err f) = refl

-- a link call's number and tables
pub called_is : (up : Bool) (n a b q : ℕ) (t v : Tables) (r : Result Change Refusal) (w x : List ℕ) → w ≡ replicate max_radios 0
    → LinkContract up n a b t w (link_reply r) v x → q ≡ call_number r → lined_with q v ≡ called up n a b t
unfolding LinkContract called
called_is up n a b q t v r w x e h f =
    let same : record { reply = link_reply r; tables = v; lent = x } ≡ link_outcome up n a b t (replicate max_radios 0) = h ∙ ap (link_outcome up n a b t) e in
    ap (λ (k : ℕ). lined_with k v) (f ∙ sym (reply_number r)) ∙ ap (λ (o : Linked Reply). lined_with o.reply.number o.tables) same

-- the line l, as the parser tells it
pub lined_by : (n : ℕ) (s : List ℕ) (l m : Line) (t : Tables) (o : Lined) → l ≡ line_of s → l ≡ m → o ≡ lined n s m t → o ≡ lined n s (line_of s) t
lined_by n s l m t o e f h = h ∙ ap (λ (x : Line). lined n s x t) (sym f ∙ e)

pub lined_form : (n : ℕ) (f : Fault) (s : List ℕ) (t : Tables) → f ≡ form_of s → lined_with (fault_number (Some f)) t ≡ lined n s Bad t
unfolding lined
lined_form n f s t e = ap (λ (x : Fault). lined_with (fault_number (Some x)) t) e

pub lined_radios : (n : ℕ) (f : Fault) (m : ℕ) (s : List ℕ) (t : Tables) → f ≡ form_of s → lined_with (fault_number (Some f)) t ≡ lined n s (Radios m) t
unfolding lined
lined_radios n f m s t e = ap (λ (x : Fault). lined_with (fault_number (Some x)) t) e

pub lined_up : (n a b : ℕ) (s : List ℕ) (t : Tables) (o : Lined) → o ≡ called true n a b t → o ≡ lined n s (Up a b) t
unfolding lined
lined_up n a b s t o e = e

pub lined_down : (n a b : ℕ) (s : List ℕ) (t : Tables) (o : Lined) → o ≡ called false n a b t → o ≡ lined n s (Down a b) t
unfolding lined
lined_down n a b s t o e = e

-- ---- a byte: the ways through `take_byte`

pub byte_over : (m n b : ℕ) (t : Tables) (room : List ℕ) (s : Course) → is_some s.fault ≡ true → spot t room s ≡ byte_taken m n b (spot t room s)
unfolding byte_taken spot
byte_over m n b t room s h = rw (ne_eqb (fault_number s.fault) 0 (fault_some s.fault h))

-- the byte is written after the ones held
held_more : (room : List ℕ) (k b : ℕ) → k < length room → take (k + 1) (set room k b) ≡ take k room ++ (b ∷ [])
held_more room k b h = ap (λ (j : ℕ). take j (set room k b)) (add-one k) ∙ take-suc-set room k b h

module _ (n b : ℕ) (t : Tables) (room : List ℕ) (s : Course) (live : is_some s.fault ≡ false) where
  zero_is : fault_number s.fault ≡ 0
  zero_is = fault_none s.fault live

  pub byte_long : length room ≤ s.held
      → spot t room (record { line = s.line; held = 0; fault = Some Form }) ≡ byte_taken (length room) n b (spot t room s)
  unfolding byte_taken byte_live stopped spot
  byte_long h =
      let many : length room ≤ length (take s.held room) = omega (arith, length-take s.held room) in
      rw (eq-eqb (fault_number s.fault) 0 zero_is, le-leb (length room) (length (take s.held room)) many)

  module _ (low : s.held < length room) where
    few : length (take s.held room) < length room
    few = omega (arith, length-take s.held room)

    pub byte_held : (b ≡ line_feed → ⊥)
        → spot t (set room s.held b) (record { line = s.line; held = s.held + 1; fault = None }) ≡ byte_taken (length room) n b (spot t room s)
    unfolding byte_taken byte_live held_on spot
    byte_held f =
        rw (eq-eqb (fault_number s.fault) 0 zero_is, lt-leb (length room) (length (take s.held room)) few, ne_eqb b line_feed f, held_more room s.held b low)

    -- a whole line, played on the tables: v after it, and what is wrong with it
    module _ (feed : b ≡ line_feed) (f : Option Fault) (v : Tables)
        (done : lined_with (fault_number f) v ≡ lined n (take (s.held + 1) (set room s.held b)) (line_of (take (s.held + 1) (set room s.held b))) t) where
      whole : lined n (take s.held room ++ (b ∷ [])) (line_of (take s.held room ++ (b ∷ []))) t ≡ lined_with (fault_number f) v
      whole = ap (λ (x : List ℕ). lined n x (line_of x) t) (sym (held_more room s.held b low)) ∙ sym done

      byte_line : byte_taken (length room) n b (spot t room s) ≡ line_done (lined_with (fault_number f) v) (spot t room s)
      unfolding byte_taken byte_live spot
      byte_line =
          rw (eq-eqb (fault_number s.fault) 0 zero_is, lt-leb (length room) (length (take s.held room)) few, eq-eqb b line_feed feed, whole)

      pub byte_refused : is_some f ≡ true
          → spot v (set room s.held b) (record { line = s.line; held = 0; fault = f }) ≡ byte_taken (length room) n b (spot t room s)
      unfolding line_done spot
      byte_refused h = rw (byte_line, ne_eqb (fault_number f) 0 (fault_some f h))

      pub byte_accepted : (k : ℕ) → is_some f ≡ false → k ≡ next_place s.line
          → spot v (set room s.held b) (record { line = k; held = 0; fault = None }) ≡ byte_taken (length room) n b (spot t room s)
      unfolding line_done spot
      byte_accepted k h e = let z = fault_none f h in rw (byte_line, e, eq-eqb (fault_number f) 0 z, z)

-- ---- bytes in turn

-- the byte at place i, and those after it
pub taken_next : (m n i x : ℕ) (bs : List ℕ) (p q z : Spot) → i < length bs → x ≡ get_or bs i 0 → bytes_taken m n (drop i bs) p ≡ z → q ≡ byte_taken m n x p
    → bytes_taken m n (drop (i + 1) bs) q ≡ z
unfolding bytes_taken
taken_next m n i x bs p q z h e so step =
    let first : drop i bs ≡ get_or bs i 0 ∷ drop (suc i) bs = drop-cons bs i 0 h in
    rw (step, e, add-one) (sym (ap (λ (ys : List ℕ). bytes_taken m n ys p) first) ∙ so)

-- the line keeps its room
pub taken_room : (m k n b : ℕ) (p : Spot) → k ≡ m → byte_taken k n b p ≡ byte_taken m n b p
taken_room m k n b p e = ap (λ (j : ℕ). byte_taken j n b p) e

pub once_room : {m k n : ℕ} {p q : Spot} {r : Turned} → k ≡ m → ReadsOnce k n p r q → ReadsOnce m n p r q
once_room {n = n} {p = p} {q = q} {r = r} e h = subst (λ (j : ℕ). ReadsOnce j n p r q) e h

pub taken_end : (m n i : ℕ) (bs : List ℕ) (p z : Spot) → length bs ≤ i → bytes_taken m n (drop i bs) p ≡ z → p ≡ z
unfolding bytes_taken
taken_end m n i bs p z h so = ap (λ (ys : List ℕ). bytes_taken m n ys p) (sym (drop_of_length-le bs h)) ∙ so

pub taken_append : (m n : ℕ) (xs ys : List ℕ) (p : Spot) → bytes_taken m n (xs ++ ys) p ≡ bytes_taken m n ys (bytes_taken m n xs p)
unfolding bytes_taken
taken_append m n [] ys p = refl
taken_append m n (x ∷ xs) ys p = taken_append m n xs ys (byte_taken m n x p)

-- ---- reads

pub once_read : (m n size count : ℕ) (state : State) (chunk : List ℕ) (p q : Spot) (c : Course) → Found size (record { count = count; state = state })
    → q ≡ bytes_taken m n (take count chunk) p → ReadsOnce m n p (record { course = c; state = state }) q
once_read m n size count state chunk p q c found h =
    record {
      read = record { bytes = take count chunk; state = state; none = λ f. take_none count chunk (none_found found f) };
      found = refl;
      taken = h;
    }

-- the reads so far all went on
pub record OnTo (m n : ℕ) (p q : Spot) : Type 0 where
  pub reads : List Read
  pub going : Going reads
  pub taken : q ≡ bytes_taken m n (input_of reads) p

pub on_none : (m n : ℕ) (p : Spot) → OnTo m n p p
unfolding Going bytes_taken input_of
on_none m n p = record { reads = []; going = tt; taken = refl }

pub on_read : (m n : ℕ) (p q s : Spot) (r : Turned) → OnTo m n p q → ReadsOnce m n q r s → ReadsOn m n p r s
unfolding input_of ToEnd
on_read m n p q s r so once =
    record {
      reads = once.read ∷ so.reads;
      taken = once.taken ∙ ap (bytes_taken m n once.read.bytes) so.taken ∙ sym (taken_append m n (input_of so.reads) once.read.bytes p);
      to_end = λ e. (sym once.found ∙ e, so.going);
    }

pub on_more : (m n : ℕ) (p q s : Spot) (r : Turned) → OnTo m n p q → ReadsOnce m n q r s → r.state ≡ goes_on → OnTo m n p s
unfolding input_of Going
on_more m n p q s r so once e =
    record {
      reads = once.read ∷ so.reads;
      going = (sym once.found ∙ e, so.going);
      taken = once.taken ∙ ap (bytes_taken m n once.read.bytes) so.taken ∙ sym (taken_append m n (input_of so.reads) once.read.bytes p);
    }

-- the reads are used up
pub on_out : (m n : ℕ) (p q : Spot) (c : Course) → OnTo m n p q → ReadsOn m n p (record { course = c; state = Failed Other }) q
on_out m n p q c so = record { reads = so.reads; taken = so.taken; to_end = λ e. absurd (cc) }

-- after the front no read is wanted, or all are
pub rest_none : (m n : ℕ) (front : Turned) (p : Spot) → ReadsRest m n front p front p
unfolding bytes_taken input_of
rest_none m n front p = record { reads = []; taken = refl; to_end = λ e. inl e }

pub rest_on : (m n : ℕ) (front r : Turned) (p q : Spot) → ReadsOn m n p r q → ReadsRest m n front p r q
rest_on m n front r p q on = record { reads = on.reads; taken = on.taken; to_end = λ e. inr (on.to_end e) }

-- ---- the end of the input

pub closed_fault : (s : Turned) → is_some s.course.fault ≡ true → s ≡ closed s
unfolding closed
closed_fault s h = rw h

pub closed_whole : (s : Turned) → is_some s.course.fault ≡ false → s.course.held ≡ 0 → s ≡ closed s
unfolding closed
closed_whole s h k = rw (h, eq-eqb s.course.held 0 k)

pub closed_open : (s : Turned) → is_some s.course.fault ≡ false → (s.course.held ≡ 0 → ⊥)
    → record { course = record { line = s.course.line; held = 0; fault = Some NoFeed }; state = s.state } ≡ closed s
unfolding closed
closed_open s h k = rw (h, ne_eqb s.course.held 0 k)

-- what the last read found
pub ended_is : (s r : Turned) (state : State) → s.state ≡ state → r ≡ ended_by state s → r ≡ ended s
unfolding ended
ended_is s r state e h = h ∙ ap (λ (x : State). ended_by x s) (sym e)

ended_state : (s : Turned) → (ended s).state ≡ s.state
unfolding ended ended_by closed
ended_state s = by s.state
  where
    go : (y z : Bool)
        → (cond y s (cond z s (record { course = record { line = s.course.line; held = 0; fault = Some NoFeed }; state = s.state }))).state ≡ s.state
    go true z = refl
    go false true = refl
    go false false = refl

    by : (state : State) → (ended_by state s).state ≡ s.state
    by GoesOn = refl
    by End = go (is_some s.course.fault) (eqb s.course.held 0)
    by (Failed why) = refl

-- ---- a script

-- a part that goes to the end
pub front_rest : (from : ℕ) (front : List ℕ) → take (length front - from) (drop from front) ≡ drop from front
front_rest from front = take_all (length front - from) (drop from front) (omega (arith, length-drop from front))

pub plays : (n from k m : ℕ) (state : State) (f : Option Fault) (front chunk room spare : List ℕ) (t v after : Tables) (p : Spot) (c : Course) (last r : Turned)
    → from ≡ first_end first_room front → length room ≡ line_room → m ≡ line_room → ClearContract n t k v → fault_number f ≡ k
    → chunk ≡ drop from front → p ≡ bytes_taken (length room) n chunk (spot v room (record { line = 2; held = 0; fault = f }))
    → ReadsRest m n (record { course = c; state = state }) p last (spot after spare last.course) → r ≡ ended last → Plays n front state t r after
unfolding ClearContract spot begin
plays n from k m state f front chunk room spare t v after p c last r begins long kept clear wrong part first rest is =
    let start = spot v room (record { line = 2; held = 0; fault = f }) in
    let begun : start ≡ begin n t =
    ap (λ (q : ℕ). record { tables = v; line = 2; held = []; number = q }) wrong
    ∙ ap (λ (x : Tabled ℕ). record { tables = x.tables; line = 2; held = []; number = x.reply }) clear in
    let reads = input_of rest.reads in
    let after_first = drop (first_end first_room front) front in
    let bytes : chunk ≡ after_first = part ∙ ap (λ (j : ℕ). drop j front) begins in
    let taken : p ≡ bytes_taken line_room n after_first (begin n t) =
    first ∙ ap (λ (xs : List ℕ). bytes_taken (length room) n xs start) bytes ∙ ap (λ (j : ℕ). bytes_taken j n after_first start) long
    ∙ ap (bytes_taken line_room n after_first) begun in
    record {
      reads = rest.reads;
      room = spare;
      last = last;
      taken = rest.taken
          ∙ ap (λ (j : ℕ). bytes_taken j n reads p) kept
          ∙ ap (bytes_taken line_room n reads) taken
          ∙ sym (taken_append line_room n after_first reads (begin n t));
      is = is;
      to_end = λ e. rest.to_end (sym (ended_state last) ∙ sym (ap (λ (x : Turned). x.state) is) ∙ e);
    }
