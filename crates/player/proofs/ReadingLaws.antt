-- Reads, chunks and the printing buffer.
--   writes-..      what is written and what waits
--   chunk-..       the loop of `reading::take_chunk`
--   read-..        the loop of `reading::read_turns`
use Rattle.std.specs.Prelude.{◌≡◌, ◌⊎◌, ◌∷◌, ◌++◌, ◌+◌, ◌-◌, ◌*◌, ◌≤◌, ◌<◌, Option, Some, None}
use Rattle.std.specs.Option.{option_or, is_some}
use Rattle.lists.{specs.Kit.{refl, sym, ap, subst, ◌∙◌, inl, inr, Bool, true, false, cond, true≢false, List, [], append_assoc, append-nil}}
use Rattle.lists.{specs.Kit.{ℕ, zero, suc, arith, add-one, ltb, length, take, drop, get_or, length-append}}
use Rattle.lists.{specs.Kit.{length-take, take-suc, take_at, take_all, length-take-le, ltb-true, lt-ltb, le-ltb}}
use Rattle.lists.{proofs.Tests.{bool_cases}, specs.Lists.{In}}
use Rattle.mesh.specs.{Limits.{max_radios}, Tables.{Tables}}
use Rattle.text.{specs.Print.{Buffer, buffer_at, Puts, max_place}, proofs.PrintLaws.{put_fits}}
use Rattle.player.specs.{Reads.{Found, Read, input_of, Going, Unbroken, ToEnd}, Lines.{Prints}, Machine.{Spot, spot, Marked, Takes}}
use Rattle.player.specs.{Machine.{TakesAll, full, line_room, closing, ending}, Reading.{chunk_room, waiting, Writes, room_made, kept_fault, RoomMade}}
use Rattle.player.specs.{Reading.{broken_off}}
use Rattle.player.specs.{Reading.{Ready, SiteCleared, TakesChunk, Ended, Broken, TakesRead, FoundBy, ReadsOnce, ReadsAll}}
use Rattle.player.specs.{Play.{lines_of, cleared}, Whole.{LinesPrint, RunFrom}, declared.machine.{Progress.{Progress}, Fault.{Fault}, Fault.TheVariants.{Lost}}}
use Rattle.player.specs.declared.input.{State.{State}, State.TheVariants.{GoesOn, End, Failed}}
use Rattle.player.proofs.{ReadLaws.{none_found, take_none}, BytesLaws.{takes_more, takes_append}, SizeLaws.{takes_length, takes_number}}
use Rattle.player.proofs.{SizeLaws.{takes_all_number, closing_length}, WholeLaws.{bytes_print, ending_dead, ending_live}}

-- ---- what is written and what waits

pub writes_none : (b : Buffer) → Writes b [] b
writes_none b = record { written = []; is = append-nil (waiting b) }

pub writes_append : (b c d : Buffer) (t u : List ℕ) → Writes b t c → Writes c u d → Writes b (t ++ u) d
writes_append b c d t u h k =
    record {
      written = h.written ++ k.written;
      is = sym (append_assoc (waiting b) t u)
          ∙ ap (λ (x : List ℕ). x ++ u) h.is
          ∙ append_assoc h.written (waiting c) u
          ∙ ap (λ (x : List ℕ). h.written ++ x) k.is
          ∙ sym (append_assoc h.written k.written (waiting d));
    }

-- a text that fits waits as a whole
pub writes_put : (out text after : List ℕ) (at next : ℕ) → at + length text ≤ length out → length out ≤ max_place
    → Puts (buffer_at out at) text (buffer_at after next) → Writes (buffer_at out at) text (buffer_at after next)
unfolding waiting
writes_put out text after at next h m p =
    let e : buffer_at after next ≡ buffer_at (take at out ++ text ++ drop (at + length text) out) (at + length text) = p.is ∙ put_fits out at text h m in
    let front : length (take at out ++ text) ≡ at + length text
    = omega (arith, length-append (take at out) text, length-take-le at out (omega arith)) in
    record { written = []; is = sym (ap waiting e ∙ take_at (take at out ++ text) (drop (at + length text) out) (at + length text) front) }

-- a full buffer is written, and nothing waits then
pub writes_room : (f : Option Fault) (s : Progress) (out : List ℕ) → Writes (buffer_at out s.at) [] (buffer_at out (room_made f s).at)
unfolding room_made waiting
writes_room f s out = go (ltb s.at full)
  where
    go : (t : Bool) → Writes (buffer_at out s.at) [] (buffer_at out (cond t s.at 0))
    go true = writes_none (buffer_at out s.at)
    go false = record { written = take s.at out; is = refl }

pub room_made_not : (s : Progress) → s.at < full → s ≡ room_made s.fault s
unfolding room_made
room_made_not s h = rw (lt-ltb s.at full h)

pub room_made_full : (f : Option Fault) (s : Progress) → full ≤ s.at
    → record { number = s.number; held = s.held; at = 0; live = s.live; fault = f } ≡ room_made f s
unfolding room_made
room_made_full f s h = rw (le-ltb s.at full h)

pub room_made_at : (f : Option Fault) (s : Progress) → (room_made f s).at < full
unfolding room_made
room_made_at f s = go (bool_cases (ltb s.at full))
  where
    go : (ltb s.at full ≡ true) ⊎ (ltb s.at full ≡ false) → cond (ltb s.at full) s.at 0 < full
    go (inl e) = rw e (ltb-true s.at full e)
    go (inr e) = rw e (omega arith)

-- ---- chunks

-- the bytes before place i are taken, and the rest can be
pub record ChunkTo (m n : ℕ) (chunk : List ℕ) (i : ℕ) (p : Spot) (b : Buffer) (q : Spot) (s : Progress) (out : List ℕ) : Type 0 where
  pub low : i ≤ length chunk
  pub ready : Ready (length chunk - i) s out
  pub taken : TakesChunk m n (take i chunk) p b q (buffer_at out s.at)

pub chunk_none : (m n : ℕ) (chunk : List ℕ) (p : Spot) (s : Progress) (out : List ℕ) → Ready (length chunk) s out
    → ChunkTo m n chunk 0 p (buffer_at out s.at) p s out
unfolding TakesAll
chunk_none m n chunk p s out h =
    record {
      low = omega arith;
      ready = record { at = h.at; number = omega (arith, h.number); room = h.room };
      taken = record { text = []; takes = record { says = refl; same = refl }; writes = writes_none (buffer_at out s.at) };
    }

-- one byte more: x is taken from the spot of s to the one of r, and room is made
pub chunk_more : (m l n k : ℕ) (chunk : List ℕ) (i x : ℕ) (p : Spot) (b : Buffer) (t v : Tables) (w y line kept : List ℕ) (s r d : Progress)
    (out after : List ℕ) → i < length chunk → x ≡ get_or chunk i 0 → l ≡ m → k ≡ n → length after ≡ length out → RoomMade r d
    → ChunkTo m n chunk i p b (spot t w line s) s out
    → Prints (λ text. Takes l k x (spot t w line s) text (spot v y kept r)) (buffer_at out s.at) (buffer_at after r.at)
    → ChunkTo m n chunk (i + 1) p b (spot v y kept d) d after
unfolding spot room_made
chunk_more m l n k chunk i x p b t v w y line kept s r d out after h e room radios same made so byte =
    let taken : Takes m n (get_or chunk i 0) (spot t w line s) byte.text (spot v y kept r) =
    subst (λ (k : ℕ). Takes m n k (spot t w line s) byte.text (spot v y kept r)) e
    (subst (λ (o : ℕ). Takes o n x (spot t w line s) byte.text (spot v y kept r)) room
    (subst (λ (o : ℕ). Takes l o x (spot t w line s) byte.text (spot v y kept r)) radios byte.holds)) in
    let long = takes_length m n (get_or chunk i 0) (spot t w line s) byte.text (spot v y kept r) (omega (arith, so.ready.number)) taken in
    let fits : s.at + length byte.text ≤ length out = omega (arith, long, so.ready.at, so.ready.room) in
    let put = writes_put out byte.text after s.at r.at fits (omega (arith, so.ready.room)) byte.puts in
    let whole = so.taken.text ++ byte.text in
    let more : take (i + 1) chunk ≡ take i chunk ++ (get_or chunk i 0 ∷ []) = ap (λ (k : ℕ). take k chunk) (add-one i) ∙ take-suc chunk i 0 h in
    let takes : TakesAll m n (take (i + 1) chunk) p whole (spot v y kept r) =
    subst (λ (bs : List ℕ). TakesAll m n bs p whole (spot v y kept r)) (sym more)
    (takes_more m n (take i chunk) (get_or chunk i 0) p (spot t w line s) (spot v y kept r) so.taken.text byte.text so.taken.takes taken) in
    let writes : Writes b (whole ++ []) (buffer_at after (room_made d.fault r).at) =
    writes_append b (buffer_at after r.at) (buffer_at after (room_made d.fault r).at) whole []
    (writes_append b (buffer_at out s.at) (buffer_at after r.at) so.taken.text byte.text so.taken.writes put)
    (writes_room d.fault r after) in
    let number = takes_number m n (get_or chunk i 0) (spot t w line s) byte.text (spot v y kept r) taken in
    let rest : ChunkTo m n chunk (i + 1) p b (spot v y kept (room_made d.fault r)) (room_made d.fault r) after =
    record {
      low = omega arith;
      ready = record { at = room_made_at d.fault r; number = omega (arith, number, so.ready.number); room = omega (arith, so.ready.room) };
      taken = record {
        text = whole;
        takes = takes;
        writes = subst (λ (u : List ℕ). Writes b u (buffer_at after (room_made d.fault r).at)) (append-nil whole) writes;
      };
    } in
    subst (λ (z : Progress). ChunkTo m n chunk (i + 1) p b (spot v y kept z) z after) (sym made.is) rest

pub chunk_end : (m n : ℕ) (chunk : List ℕ) (i : ℕ) (p : Spot) (b : Buffer) (q : Spot) (s : Progress) (out : List ℕ) → length chunk ≤ i
    → ChunkTo m n chunk i p b q s out → TakesChunk m n chunk p b q (buffer_at out s.at)
chunk_end m n chunk i p b q s out h so =
    subst (λ (bs : List ℕ). TakesChunk m n bs p b q (buffer_at out s.at)) (take_all i chunk h) so.taken

-- ---- the end of the input

-- what holds at every place holds of every entry
in_below : (k : ℕ) (xs : List ℕ) → ((i : ℕ) → get_or xs i 0 < k) → (x : ℕ) → In x xs → x < k
in_below k [] h x m = absurd m
in_below k (y ∷ xs) h x (inl e) = omega (arith, e, h 0)
in_below k (y ∷ xs) h x (inr m) = in_below k xs (λ i. h (suc i)) x m

-- numbers of eight bits and radios of sixteen: the closing lines fit, and wait
pub closing_writes : (held ns xs out after : List ℕ) (s : Progress) (next : ℕ) → Ready 0 s out → length ns ≤ max_radios → length xs ≤ max_radios
    → ((i : ℕ) → get_or ns i 0 < 256) → ((i : ℕ) → get_or xs i 0 < 65536) → Puts (buffer_at out s.at) (closing held ns xs s.number) (buffer_at after next)
    → Writes (buffer_at out s.at) (closing held ns xs s.number) (buffer_at after next)
closing_writes held ns xs out after s next h few less f g p =
    let long = closing_length held ns xs s.number (omega (arith, h.number)) few less
    (λ x m. omega (arith, in_below 256 ns f x m)) (λ x m. omega (arith, in_below 65536 xs g x m)) in
    writes_put out (closing held ns xs s.number) after s.at next (omega (arith, long, h.at, h.room)) (omega (arith, h.room)) p

-- ---- reads

-- the first line is read
abbrev begin : Tables → (w : List ℕ) → Spot
begin t w = record { tables = t; answer = w; number = 2; held = []; live = true }

-- after some reads, k are left: while the run goes on without a fault they brought all that it took, and the rest can be taken
pub record ReadTo (n k : ℕ) (t : Tables) (w : List ℕ) (b : Buffer) (q : Spot) (s : Progress) (out : List ℕ) : Type 0 where
  pub reads : List Read
  pub text : List ℕ
  pub writes : Writes b text (buffer_at out s.at)
  pub takes : s.live ≡ true → TakesAll line_room n (input_of reads) (begin t w) text q
  pub ready : s.live ≡ true → Ready (chunk_room * k) s out
  pub going : s.live ≡ true → s.fault ≡ None → Going reads
  pub over : s.live ≡ false → LinesPrint n (lines_of (input_of reads)) 2 t w text
  pub unbroken : s.live ≡ false → Unbroken reads
  pub to_end : s.live ≡ false → s.fault ≡ None → ToEnd reads

pub read_none : (n k : ℕ) (t : Tables) (w out : List ℕ) (s : Progress) → s.live ≡ true → Ready (chunk_room * k) s out
    → ReadTo n k t w (buffer_at out s.at) (begin t w) s out
unfolding TakesAll input_of Going
read_none n k t w out s live h =
    record {
      reads = [];
      text = [];
      writes = writes_none (buffer_at out s.at);
      takes = λ l. record { says = refl; same = refl };
      ready = λ l. h;
      going = λ l f. tt;
      over = λ l. absurd (true≢false (sym live ∙ l));
      unbroken = λ l. absurd (true≢false (sym live ∙ l));
      to_end = λ l f. absurd (true≢false (sym live ∙ l));
    }

-- bytes taken to the end of the run print what their lines say
printed : (n : ℕ) (bs : List ℕ) (t : Tables) (w text : List ℕ) (q : Spot) → TakesAll line_room n bs (begin t w) text q
    → LinesPrint n (lines_of bs) 2 t w (text ++ ending q)
printed n bs t w text q h = bytes_print n bs (begin t w) q text refl tt h

printed_over : (n : ℕ) (bs : List ℕ) (t : Tables) (w text : List ℕ) (q : Spot) → q.live ≡ false → TakesAll line_room n bs (begin t w) text q
    → LinesPrint n (lines_of bs) 2 t w text
printed_over n bs t w text q l h =
    subst (λ (u : List ℕ). LinesPrint n (lines_of bs) 2 t w u) (ap (λ (x : List ℕ). text ++ x) (ending_dead q l) ∙ append-nil text)
    (printed n bs t w text q h)

-- one read more: p and q are the spots of s and r
module _ (n l j k : ℕ) (t : Tables) (w : List ℕ) (b : Buffer) (p q : Spot) (s r : Progress) (out after : List ℕ) (left : j < k) (room : l ≡ line_room)
    (live : s.live ≡ true) (none : s.fault ≡ None) (same : q.live ≡ r.live) (from : p.number ≡ s.number) (to : q.number ≡ r.number)
    (long : length after ≡ length out) (at : r.live ≡ true → r.at < full) (so : ReadTo n k t w b p s out) (read : Read) (found : FoundBy read.state r)
  where
    -- what the last read says of all
    abbrev SoFar : (text : List ℕ) → Type 0
    SoFar text = Writes b text (buffer_at after r.at) × (r.live ≡ true → TakesAll line_room n (input_of so.reads ++ read.bytes) (begin t w) text q)
        × (r.live ≡ true → Ready (chunk_room * j) r after)
        × (r.live ≡ false → LinesPrint n (lines_of (input_of so.reads ++ read.bytes)) 2 t w text)

    read_to : (text : List ℕ) → SoFar text → ReadTo n j t w b q r after
    unfolding input_of Going Unbroken ToEnd
    read_to text h =
        record {
          reads = read ∷ so.reads;
          text = text;
          writes = h.0;
          takes = h.1;
          ready = h.2;
          going = λ e f. (found.going e f, so.going live none);
          over = h.3;
          unbroken = λ e. (found.over e, so.going live none);
          to_end = λ e f. (found.ended e f, so.going live none);
        }

    read_some : length read.bytes ≤ chunk_room → TakesChunk l n read.bytes p (buffer_at out s.at) q (buffer_at after r.at)
        → ReadTo n j t w b q r after
    read_some few chunk =
        let bs = read.bytes in
        let taken : TakesAll line_room n bs p chunk.text q = subst (λ (m : ℕ). TakesAll m n bs p chunk.text q) room chunk.takes in
        let all = takes_append line_room n (input_of so.reads) bs (begin t w) p q so.text chunk.text (so.takes live) taken in
        let number = takes_all_number line_room n bs p chunk.text q taken in
        let ready = so.ready live in
        read_to (so.text ++ chunk.text) (
          writes_append b (buffer_at out s.at) (buffer_at after r.at) so.text chunk.text so.writes chunk.writes,
          (λ h. all),
          (λ h. record { at = at h; number = omega (arith, number, ready.number); room = omega (arith, ready.room) }),
          (λ h. printed_over n (input_of so.reads ++ bs) t w (so.text ++ chunk.text) q (same ∙ h) all),
        )

    -- the read brought nothing
    same_input : (read.state ≡ GoesOn → ⊥) → input_of so.reads ++ read.bytes ≡ input_of so.reads
    same_input f = ap (λ (xs : List ℕ). input_of so.reads ++ xs) (read.none f) ∙ append-nil (input_of so.reads)

    read_over : (read.state ≡ GoesOn → ⊥) → Ended p (buffer_at out s.at) q (buffer_at after r.at) → ReadTo n j t w b q r after
    read_over f end =
        read_to (so.text ++ ending p) (
          writes_append b (buffer_at out s.at) (buffer_at after r.at) so.text (ending p) so.writes end.writes,
          (λ h. absurd (true≢false (sym h ∙ sym same ∙ end.over))),
          (λ h. absurd (true≢false (sym h ∙ sym same ∙ end.over))),
          (λ h. subst (λ (bs : List ℕ). LinesPrint n (lines_of bs) 2 t w (so.text ++ ending p)) (sym (same_input f))
              (printed n (input_of so.reads) t w so.text p (so.takes live))),
        )

    read_broken : (read.state ≡ GoesOn → ⊥) → p.live ≡ s.live → Broken p (buffer_at out s.at) q (buffer_at after r.at) → ReadTo n j t w b q r
        after
    read_broken f on broken =
        let ready = so.ready live in
        let number = ap (λ (x : Spot). x.number) broken.same in
        let lives : r.live ≡ true = sym same ∙ ap (λ (x : Spot). x.live) broken.same ∙ on ∙ live in
        read_to so.text (
          subst (λ (c : Buffer). Writes b so.text c) (sym broken.none) so.writes,
          (λ h. subst (λ (x : Spot). TakesAll line_room n (input_of so.reads ++ read.bytes) (begin t w) so.text x) (sym broken.same)
              (subst (λ (bs : List ℕ). TakesAll line_room n bs (begin t w) so.text p) (sym (same_input f)) (so.takes live))),
          (λ h. record { at = at h; number = omega (arith, number, ready.number); room = omega (arith, ready.room) }),
          (λ h. absurd (true≢false (sym lives ∙ h))),
        )

    read_by : (state : State) → read.state ≡ state → p.live ≡ s.live → length read.bytes ≤ chunk_room
        → TakesRead l n read.bytes state p (buffer_at out s.at) q (buffer_at after r.at) → ReadTo n j t w b q r after
    unfolding TakesRead
    read_by GoesOn e on few chunk = read_some few chunk
    read_by End e on few end = read_over (λ f. absurd (cc)) end
    read_by (Failed why) e on few broken = read_broken (λ f. absurd (cc)) on broken

pub read_more : (n o l j k : ℕ) (t : Tables) (w : List ℕ) (b : Buffer) (p q : Spot) (s r : Progress) (out after : List ℕ) → j < k → o ≡ n → l ≡ line_room
    → s.live ≡ true → s.fault ≡ None → p.live ≡ s.live → q.live ≡ r.live → p.number ≡ s.number → q.number ≡ r.number
    → length after ≡ length out → (r.live ≡ true → r.at < full) → ReadTo n k t w b p s out
    → ReadsOnce l o r p (buffer_at out s.at) q (buffer_at after r.at) → ReadTo n j t w b q r after
read_more n o l j k t w b p q s r out after left radios room live none on same from to long at so more =
    let once : ReadsOnce l n r p (buffer_at out s.at) q (buffer_at after r.at)
    = subst (λ (i : ℕ). ReadsOnce l i r p (buffer_at out s.at) q (buffer_at after r.at)) radios more in
    read_by n l j k t w b p q s r out after left room live none same from to long at so once.read once.found once.read.state refl on once.few
    once.taken

-- from a cleared site
run_lines : (n : ℕ) (bs : List ℕ) (t : Tables) (w text : List ℕ) → SiteCleared n t w → LinesPrint n (lines_of bs) 2 t w text → RunFrom n bs text
unfolding RunFrom
run_lines zero bs t w text site h = absurd (omega (arith, site.some))
run_lines (suc n) bs t w text site h =
    subst (λ (y : List ℕ). LinesPrint (suc n) (lines_of bs) 2 (cleared (suc n)) y text) site.answer_zero
    (subst (λ (v : Tables). LinesPrint (suc n) (lines_of bs) 2 v w text) site.is_cleared h)

-- the loop is left
pub read_end : (n k : ℕ) (t : Tables) (w : List ℕ) (b : Buffer) (q : Spot) (s : Progress) (out : List ℕ) → SiteCleared n t w
    → ReadTo n k t w b q s out → ReadsAll n b s out
read_end n k t w b q s out site so =
    record {
      reads = so.reads;
      text = so.text;
      writes = so.writes;
      unbroken = so.unbroken;
      prints = λ h. run_lines n (input_of so.reads) t w so.text site (so.over h);
      to_end = so.to_end;
    }

-- ---- one read

-- fewer bytes can be taken where more can be
pub ready_less : {j k : ℕ} {s : Progress} {out : List ℕ} → j ≤ k → Ready k s out → Ready j s out
ready_less l h = record { at = h.at; number = omega (arith, h.number); room = h.room }

-- a read is left
pub ready_turn : (k : ℕ) (s : Progress) (out : List ℕ) → 0 < k → Ready (chunk_room * k) s out → Ready chunk_room s out
ready_turn k s out l h = ready_less (omega arith) h

pub turn_ended : (t : Tables) (w line out after : List ℕ) (s r : Progress) → s.live ≡ true → r.live ≡ false
    → Writes (buffer_at out s.at) (closing (take s.held line) t.numbers t.order s.number) (buffer_at after r.at)
    → Ended (spot t w line s) (buffer_at out s.at) (spot t w line r) (buffer_at after r.at)
unfolding spot
turn_ended t w line out after s r live over h =
    record {
      over = over;
      writes = subst (λ (u : List ℕ). Writes (buffer_at out s.at) u (buffer_at after r.at)) (sym (ending_live (spot t w line s) live)) h;
    }

-- nothing but the fault is another
pub turn_broken : (t : Tables) (w line out : List ℕ) (s r : Progress) → r ≡ broken_off r.fault s
    → Broken (spot t w line s) (buffer_at out s.at) (spot t w line r) (buffer_at out r.at)
unfolding spot broken_off
turn_broken t w line out s r h = record { same = ap (spot t w line) h; none = ap (λ (x : Progress). buffer_at out x.at) h }

pub broken_live : (s r : Progress) → r ≡ broken_off r.fault s → r.live ≡ s.live
unfolding broken_off
broken_live s r h = ap (λ (x : Progress). x.live) h

pub broken_at : (s r : Progress) → r ≡ broken_off r.fault s → r.at ≡ s.at
unfolding broken_off
broken_at s r h = ap (λ (x : Progress). x.at) h

-- count bytes of a chunk are read
pub reads_once : (m n : ℕ) (chunk : List ℕ) (count size : ℕ) (state : State) (r : Progress) (p q : Spot) (b c : Buffer) → count ≤ length chunk → length chunk ≡ chunk_room
    → Found size (record { count = count; state = state }) → FoundBy state r → TakesRead m n (take count chunk) state p b q c → ReadsOnce m n r p b q c
reads_once m n chunk count size state r p q b c few room found by h =
    record {
      read = record { bytes = take count chunk; state = state; none = λ f. take_none count chunk (none_found found f) };
      few = omega (arith, length-take count chunk);
      found = by;
      taken = h;
    }

-- ---- faults

-- a run that goes on needs no mark
pub marked_live : (s : Progress) → s.live ≡ true → Marked s
unfolding Marked
marked_live s live = λ l f. true≢false (sym live ∙ l)

-- what is marked stays so when room is made
pub marked_room : (s r : Progress) → RoomMade s r → Marked s → Marked r
unfolding Marked room_made
marked_room s r h m = λ l f. m (sym (ap (λ (x : Progress). x.live) h.is) ∙ l) (h.kept f)

-- the fault that came first: none only where there is none
pub some_fault : (old : Option Fault) (new : Fault) → option_or old (Some new) ≡ None → ⊥
some_fault None new e = cc
some_fault (Some f) new e = cc

pub none_is : (f : Option Fault) → is_some f ≡ false → f ≡ None
none_is None e = refl
none_is (Some f) e = absurd (true≢false e)

-- a fault stays
pub kept_none : (kept : Bool) (f r : Option Fault) → r ≡ kept_fault kept f → r ≡ None → f ≡ None
unfolding kept_fault
kept_none true f r e h = sym e ∙ h
kept_none false f r e h = absurd (some_fault f Lost (sym e ∙ h))
