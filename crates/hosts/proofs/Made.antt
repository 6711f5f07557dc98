-- Hosts exist: `HostsExist` of specs/Made.antt. Before each call the host allocates a block for each list beside the tables.
use Rattle.std.specs.Prelude.{◌≡◌, ◌∷◌, ◌++◌, ◌+◌, ◌*◌, ◌<◌, ◌≤◌}
use Rattle.lists.specs.Kit.{refl, sym, ◌∙◌, ap, subst, ∥∥₁_prop, ∥∥₁_elim, ∥∥₁_map, List, [], some, ℕ, arith, length, T}
use mir.{Mem.{Cell}, Syntax.{Ty, Width, w8, w16, w32}, Val.{bytes as size}}
use prog.{Memory.{Memory, Block, entry_at, align, aligned}, Routine.{Routine}}
use Rattle.machine.{specs.Cells.{Form, Mode, Param, by_value, lent, to_read, to_write, Place, Inputs, Span, Stands, Open, Has, Apart, All, Aligned, Sized, GoodList, Ready}}
use Rattle.machine.{specs.Cells.{Runs, BlockKept, outcome_of, unsigned, signed, span, cells_of, cell_at, reads, writes}, specs.Made.{Fitting, blocks, placed}}
use Rattle.machine.{proofs.Left.{aligned_still}, proofs.Made.{From, Above, reads_stand, writes_stand, good, reads_above, writes_above, reads_apart}}
use Rattle.machine.{proofs.Made.{writes_apart, writes_open}, proofs.Chain.{cells_count, run_cell, cell_kept, cell_below, from_end, begun_kept, open_more, open_still, apart_beyond, apart_before}}
use Rattle.mesh.specs.Tables.{Tables}
use Rattle.calls.specs.{Questions.{Lengths, lengths_of}, Book.{Call}, Runs.{done}}
use Rattle.hosts.specs.{Public.{Known, clear, image_read, link, commit, link_batch, hear, mark_set, mark_remove, mark_return, Public, of_book, call}}
use Rattle.hosts.specs.{Public.{bytes, words, site_params}, Hosts.{Site, lent_at, Lie, TableCell, of_links, of_numbers, of_order, Untouched, Spares}}
use Rattle.hosts.specs.{Hosts.{told_of, Turn, on_site, elsewhere, made, Step, Placed, book_call, call_of, Made}, Made.{HostsExist}}
use Rattle.hosts.proofs.Hosts.{step_of, Shows, turn_shows, moved}
use Rattle.hosts.specs.Hosts as hosts

-- a list may begin there
abbrev pub RoomAt : Memory → Ty → Place → Type 0
RoomAt σ τ p = (e : Block) × (entry_at σ p.0 ≡ some e) × T (aligned (align τ) e.0 p.1)

pub aligned_of : (σ : Memory) (τ : Ty) (p : Place) → RoomAt σ τ p → {X : Type 0} (xs : List X) → Aligned σ τ p xs
aligned_of σ τ p h [] = tt
aligned_of σ τ p h (x ∷ xs) = h

pub room_still : (σ τ : Memory) → BlockKept σ τ → (υ : Ty) (p : Place) → RoomAt σ υ p → RoomAt τ υ p
room_still σ τ kept υ p h = let k = kept p.0 h.0 h.1 in (k.0, k.1, subst (λ (a : ℕ). T (aligned (align υ) a p.1)) (sym k.2) h.2)

aligned_more : (σ μ : Memory) (τ : Ty) (p : Place) {X : Type 0} (xs : List X) → Aligned σ τ p xs → Aligned (σ ++ μ) τ p xs
aligned_more σ μ τ p [] h = tt
aligned_more σ μ τ p (x ∷ xs) h = begun_kept σ μ (align τ) p h

good_more : (σ μ : Memory) (F : Form) (p : Place) (xs : List F.Value) → GoodList σ F p xs → GoodList (σ ++ μ) F p xs
good_more σ μ F p xs g = (g.0, aligned_more σ μ F.ty p xs g.1, g.2)

-- as many entries there may be written after a call
pub still_open : (σ τ : Memory) → BlockKept σ τ → (w : Width) (p : Place) (xs ys : List ℕ) → length ys ≡ length xs → Stands σ (span (unsigned w) p xs) →
    Open σ (span (unsigned w) p xs) → Open τ (span (unsigned w) p ys)
still_open σ τ kept w p xs ys l h m =
    let e : length (cells_of (unsigned w) xs) ≡ length (cells_of (unsigned w) ys) =
    cells_count w xs ∙ ap (λ (k : ℕ). size w * k) (sym l) ∙ sym (cells_count w ys) in
    open_still σ τ kept p.0 p.1 (cells_of (unsigned w) xs) (cells_of (unsigned w) ys) e h m

-- a value more
pub with_value : (F : Form) (x : F.Value) → F.Holds x → {σ : Memory} {ps : List Param} {i : Inputs ps} → Ready σ ps i → Ready σ (by_value F ∷ ps) (x, i)
with_value F x h r = record {
  reads_stand = r.reads_stand;
  writes_stand = r.writes_stand;
  reads_apart = r.reads_apart;
  writes_apart = r.writes_apart;
  writes_open = r.writes_open;
  good = (h, r.good);
}

-- ---- the tables, lent at their places, and the other lists in blocks beyond the memory

abbrev Free : Site → Memory → Tables → Type 0
Free s σ t = Ready σ (site_params 0 to_write []) (lent_at s t)

free_lie : (s : Site) (σ : Memory) (t : Tables) → lengths_of t ≡ s.lengths → Free s σ t → Lie s σ t
free_lie s σ t long r = record {
  lengths = long;
  links = r.writes_stand.0;
  numbers = r.writes_stand.1.0;
  order = r.writes_stand.1.1.0;
  links_held = r.good.0.0;
  numbers_held = r.good.1.0.0;
  order_held = r.good.1.1.0.0;
}

module _ (s : Site) (σ : Memory) (t : Tables) (long : lengths_of t ≡ s.lengths) (free : Free s σ t) where
  abbrev lie : Lie s σ t
  lie = free_lie s σ t long free

  links_long : length (cells_of bytes t.links) ≡ s.lengths.links
  unfolding lengths_of
  links_long = let u : length (cells_of bytes t.links) ≡ 1 * length t.links =
      cells_count w8 t.links in omega (arith, u, ap (λ (x : Lengths). x.links) long)

  numbers_long : length (cells_of bytes t.numbers) ≡ s.lengths.numbers
  unfolding lengths_of
  numbers_long = let u : length (cells_of bytes t.numbers) ≡ 1 * length t.numbers =
      cells_count w8 t.numbers in omega (arith, u, ap (λ (x : Lengths). x.numbers) long)

  order_long : length (cells_of words t.order) ≡ 2 * s.lengths.order
  unfolding lengths_of
  order_long = let u : length (cells_of words t.order) ≡ 2 * length t.order =
      cells_count w16 t.order in omega (arith, u, ap (λ (x : Lengths). x.order) long)

  abbrev L : Span
  L = span bytes s.links t.links

  abbrev N : Span
  N = span bytes s.numbers t.numbers

  abbrev O : Span
  O = span words s.order t.order

  -- the cells of the tables are there
  there : (b i : ℕ) → TableCell s b i → (c : Cell) × (cell_at σ b i ≡ some c)
  there b i (of_links w) = subst (λ (a : ℕ). (c : Cell) × (cell_at σ a i ≡ some c)) w.0
      (run_cell σ s.links.0 s.links.1 (cells_of bytes t.links) lie.links i w.1
      (subst (λ (k : ℕ). i < s.links.1 + k) (sym links_long) w.2))
  there b i (of_numbers w) = subst (λ (a : ℕ). (c : Cell) × (cell_at σ a i ≡ some c)) w.0
      (run_cell σ s.numbers.0 s.numbers.1 (cells_of bytes t.numbers) lie.numbers i w.1
      (subst (λ (k : ℕ). i < s.numbers.1 + k) (sym numbers_long) w.2))
  there b i (of_order w) = subst (λ (a : ℕ). (c : Cell) × (cell_at σ a i ≡ some c)) w.0
      (run_cell σ s.order.0 s.order.1 (cells_of words t.order) lie.order i w.1
      (subst (λ (k : ℕ). i < s.order.1 + k) (sym order_long) w.2))

  grown : (μ : Memory) → Untouched s σ (σ ++ μ)
  grown μ b i k = let c = there b i k in cell_kept σ μ b i c.0 c.1 ∙ sym c.1

  lie_more : (μ : Memory) → Lie s (σ ++ μ) t
  lie_more μ = moved s σ (σ ++ μ) (λ b i c k e. cell_kept σ μ b i c e) t lie

  links_good : (μ : Memory) → GoodList (σ ++ μ) bytes s.links t.links
  links_good μ = good_more σ μ bytes s.links t.links free.good.0

  numbers_good : (μ : Memory) → GoodList (σ ++ μ) bytes s.numbers t.numbers
  numbers_good μ = good_more σ μ bytes s.numbers t.numbers free.good.1.0

  order_good : (μ : Memory) → GoodList (σ ++ μ) words s.order t.order
  order_good μ = good_more σ μ words s.order t.order free.good.1.1.0

  open_tables : (μ : Memory) → All (Open (σ ++ μ)) (L ∷ N ∷ O ∷ [])
  open_tables μ = (
    open_more σ μ s.links.0 s.links.1 (cells_of bytes t.links) lie.links free.writes_open.0,
    (
      open_more σ μ s.numbers.0 s.numbers.1 (cells_of bytes t.numbers) lie.numbers free.writes_open.1.0,
      (open_more σ μ s.order.0 s.order.1 (cells_of words t.order) lie.order free.writes_open.1.1.0, tt),
    ),
  )

  free_more : (μ : Memory) → Free s (σ ++ μ) t
  free_more μ = record {
    reads_stand = tt;
    writes_stand = ((lie_more μ).links, ((lie_more μ).numbers, ((lie_more μ).order, tt)));
    reads_apart = tt;
    writes_apart = free.writes_apart;
    writes_open = open_tables μ;
    good = (links_good μ, (numbers_good μ, (order_good μ, tt)));
  }

  module _ (ps : List Param) (g : Inputs ps) (f : Fitting ps g) where
    abbrev more : Memory
    more = σ ++ blocks ps g

    abbrev rest : Inputs ps
    rest = placed (length σ) ps g

    abbrev WS : List Span
    WS = writes ps rest

    abbrev RS : List Span
    RS = reads ps rest

    end : From more (length σ) (blocks ps g)
    end = from_end σ (blocks ps g)

    -- the others alone
    others_ready : Ready more ps rest
    others_ready = record {
      reads_stand = reads_stand more (length σ) ps g end;
      writes_stand = writes_stand more (length σ) ps g end;
      reads_apart = reads_apart (length σ) ps g;
      writes_apart = writes_apart (length σ) ps g;
      writes_open = writes_open more (length σ) ps g end;
      good = good more (length σ) ps g f end;
    }

    others_spare : Spares s WS
    unfolding Above
    others_spare b i k = let c = there b i k in beyond WS (writes_above (length σ) ps g) (cell_below σ b i c.0 c.1)
      where
        beyond : (ws : List Span) → All (λ (w : Span). length σ ≤ w.0) ws → b < length σ → All (λ w. ¬ Has w b i) ws
        beyond [] h l = tt
        beyond (w ∷ ws) h l = (λ x. absurd (omega (arith, h.0, l, x.0)), beyond ws h.1 l)

    abbrev pub lent_all : (m : Mode) → Inputs (site_params 0 m ps)
    lent_all m = ((s.links, t.links), ((s.numbers, t.numbers), ((s.order, t.order), rest)))

    pub ready_to_write : Ready more (site_params 0 to_write ps) (lent_all to_write)
    ready_to_write = record {
      reads_stand = reads_stand more (length σ) ps g end;
      writes_stand = ((lie_more (blocks ps g)).links, ((lie_more (blocks ps g)).numbers, ((lie_more (blocks ps g)).order, writes_stand more (length σ) ps g end)));
      reads_apart = apart_before σ L lie.links RS (N ∷ O ∷ WS) (reads_above (length σ) ps g)
          (apart_before σ N lie.numbers RS (O ∷ WS) (reads_above (length σ) ps g)
          (apart_before σ O lie.order RS WS (reads_above (length σ) ps g) (reads_apart (length σ) ps g)));
      writes_apart = (
        (
          free.writes_apart.0.0,
          (free.writes_apart.0.1.0, apart_beyond σ L lie.links WS (writes_above (length σ) ps g)),
        ),
        (
          (free.writes_apart.1.0.0, apart_beyond σ N lie.numbers WS (writes_above (length σ) ps g)),
          (apart_beyond σ O lie.order WS (writes_above (length σ) ps g), writes_apart (length σ) ps g),
        ),
      );
      writes_open = (
        (open_tables (blocks ps g)).0,
        ((open_tables (blocks ps g)).1.0, ((open_tables (blocks ps g)).1.1.0, writes_open more (length σ) ps g end)),
      );
      good = (links_good (blocks ps g), (numbers_good (blocks ps g), (order_good (blocks ps g), good more (length σ) ps g f end)));
    }

    pub ready_to_read : Ready more (site_params 0 to_read ps) (lent_all to_read)
    ready_to_read = record {
      reads_stand = ((lie_more (blocks ps g)).links, ((lie_more (blocks ps g)).numbers, ((lie_more (blocks ps g)).order, reads_stand more (length σ) ps g end)));
      writes_stand = writes_stand more (length σ) ps g end;
      reads_apart = (
        apart_beyond σ L lie.links WS (writes_above (length σ) ps g),
        (
          apart_beyond σ N lie.numbers WS (writes_above (length σ) ps g),
          (apart_beyond σ O lie.order WS (writes_above (length σ) ps g), reads_apart (length σ) ps g),
        ),
      );
      writes_apart = writes_apart (length σ) ps g;
      writes_open = writes_open more (length σ) ps g end;
      good = (links_good (blocks ps g), (numbers_good (blocks ps g), (order_good (blocks ps g), good more (length σ) ps g f end)));
    }

-- ---- a call, made so

record Asked (s : Site) (σ : Memory) (t : Tables) (c : Call) : Type 0 where
  turn : Turn
  inputs : Inputs (call (made turn)).params
  before : Memory
  untouched : Untouched s σ before
  lie : Lie s before t
  free : Free s before t
  ready : Ready before (call (made turn)).params inputs
  placed : Placed s turn inputs
  is : book_call turn inputs ≡ c

module _ (s : Site) (σ : Memory) (t : Tables) (long : lengths_of t ≡ s.lengths) (free : Free s σ t) where
  -- on the site, where ps are the parameters after the tables
  on_site_asked :
      (ps : List Param) (g : Inputs ps) (x : Known) {i : Inputs (call (of_book x)).params} →
      Ready (σ ++ blocks ps g) (call (of_book x)).params i → (told_of x i).site ≡ s → {c : Call} → (told_of x i).call ≡ c → Asked s σ t c
  on_site_asked ps g x {i} r at e = record {
    turn = on_site x;
    inputs = i;
    before = σ ++ blocks ps g;
    untouched = grown s σ t long free (blocks ps g);
    lie = lie_more s σ t long free (blocks ps g);
    free = free_more s σ t long free (blocks ps g);
    ready = r;
    placed = at;
    is = e;
  }

  -- lent whole
  whole : hosts.site_at (s.links, t.links) (s.numbers, t.numbers) (s.order, t.order) ≡ s
  whole = λ j. record { lengths = long j; links = s.links; numbers = s.numbers; order = s.order }

  abbrev u32 : Form
  u32 = unsigned w32

  writing :
      (ps : List Param) (g : Inputs ps) (f : Fitting ps g) →
      Ready (σ ++ blocks ps g) (site_params 0 to_write ps) (lent_all s σ t long free ps g f to_write)
  writing = ready_to_write s σ t long free

  reading_them :
      (ps : List Param) (g : Inputs ps) (f : Fitting ps g) →
      Ready (σ ++ blocks ps g) (site_params 0 to_read ps) (lent_all s σ t long free ps g f to_read)
  reading_them = ready_to_read s σ t long free

  asked : (w : Turn) (i : Inputs (call (made w)).params) → Fitting (call (made w)).params i → Asked s σ t (book_call w i)
  asked (on_site clear) i f = on_site_asked [] tt clear (with_value u32 i.0 f.0 (writing [] tt tt)) whole refl
  asked (on_site image_read) i f =
      let ps : List Param = lent to_read bytes ∷ [] in
      on_site_asked ps i.1.1.1.1 image_read (with_value u32 i.0 f.0 (writing ps i.1.1.1.1 f.1.1.1.1)) whole refl
  asked (on_site (link up)) i f =
      let ps : List Param = lent to_write words ∷ [] in
      on_site_asked ps i.1.1.1.1.1.1 (link up)
      (with_value u32 i.0 f.0 (with_value u32 i.1.0 f.1.0 (with_value u32 i.1.1.0 f.1.1.0
      (writing ps i.1.1.1.1.1.1 f.1.1.1.1.1.1)))) whole refl
  asked (on_site (commit up)) i f =
      let ps : List Param = lent to_read words ∷ [] in
      on_site_asked ps i.1.1.1.1.1.1.1 (commit up)
      (with_value u32 i.0 f.0 (with_value u32 i.1.0 f.1.0 (with_value u32 i.1.1.0 f.1.1.0
      (with_value (signed w8) i.1.1.1.0 f.1.1.1.0 (writing ps i.1.1.1.1.1.1.1 f.1.1.1.1.1.1.1))))) whole refl
  asked (on_site link_batch) i f =
      let ps : List Param = lent to_read words ∷ [] in
      on_site_asked ps i.1.1.1.1 link_batch (with_value u32 i.0 f.0 (writing ps i.1.1.1.1 f.1.1.1.1)) whole refl
  asked (on_site hear) i f =
      let ps : List Param = lent to_read bytes ∷ lent to_write bytes ∷ [] in
      on_site_asked ps i.1.1.1.1 hear (with_value u32 i.0 f.0 (writing ps i.1.1.1.1 f.1.1.1.1)) whole refl
  asked (on_site mark_set) i f =
      let ps : List Param = lent to_read bytes ∷ lent to_write bytes ∷ [] in
      on_site_asked ps i.1.1.1.1 mark_set (with_value u32 i.0 f.0 (reading_them ps i.1.1.1.1 f.1.1.1.1)) whole refl
  asked (on_site mark_remove) i f =
      let ps : List Param = lent to_read bytes ∷ lent to_write bytes ∷ [] in
      on_site_asked ps i.1.1.1.1 mark_remove (with_value u32 i.0 f.0 (reading_them ps i.1.1.1.1 f.1.1.1.1)) whole refl
  asked (on_site mark_return) i f =
      let ps : List Param = lent to_read bytes ∷ lent to_read bytes ∷ [] in
      on_site_asked ps i.1.1.1.1 mark_return (with_value u32 i.0 f.0 (writing ps i.1.1.1.1 f.1.1.1.1)) whole refl
  asked (elsewhere x) i f = record {
    turn = elsewhere x;
    inputs = placed (length σ) (call x).params i;
    before = σ ++ blocks (call x).params i;
    untouched = grown s σ t long free (blocks (call x).params i);
    lie = lie_more s σ t long free (blocks (call x).params i);
    free = free_more s σ t long free (blocks (call x).params i);
    ready = others_ready s σ t long free (call x).params i f;
    placed = others_spare s σ t long free (call x).params i f;
    is = refl;
  }

-- ---- after a call the tables can be lent again

-- spans as long are apart where these are
apart_same : (s t u v : Span) → s.0 ≡ u.0 → s.1 ≡ u.1 → length s.2 ≡ length u.2 → t.0 ≡ v.0 → t.1 ≡ v.1 → length t.2 ≡ length v.2 →
    Apart s t → Apart u v
apart_same s t u v a b c d e f h i j x y =
    h i j (a ∙ x.0, omega (arith, b, x.1), omega (arith, b, c, x.2)) (d ∙ y.0, omega (arith, e, y.1), omega (arith, e, f, y.2))

free_still : (s : Site) (σ τ : Memory) (t u : Tables) → lengths_of t ≡ s.lengths → BlockKept σ τ → Free s σ t → Lie s τ u → Free s τ u
unfolding lengths_of
free_still s σ τ t u long kept free lie =
    let e : lengths_of u ≡ lengths_of t = lie.lengths ∙ sym long in
    let a : length u.links ≡ length t.links = ap (λ (x : Lengths). x.links) e in
    let b : length u.numbers ≡ length t.numbers = ap (λ (x : Lengths). x.numbers) e in
    let c : length u.order ≡ length t.order = ap (λ (x : Lengths). x.order) e in
    let la : length (cells_of bytes t.links) ≡ length (cells_of bytes u.links) =
    cells_count w8 t.links ∙ ap (λ (k : ℕ). 1 * k) (sym a) ∙ sym (cells_count w8 u.links) in
    let lb : length (cells_of bytes t.numbers) ≡ length (cells_of bytes u.numbers) =
    cells_count w8 t.numbers ∙ ap (λ (k : ℕ). 1 * k) (sym b) ∙ sym (cells_count w8 u.numbers) in
    let lc : length (cells_of words t.order) ≡ length (cells_of words u.order) =
    cells_count w16 t.order ∙ ap (λ (k : ℕ). 2 * k) (sym c) ∙ sym (cells_count w16 u.order) in
    let A : Tables → Span = λ v. span bytes s.links v.links in
    let B : Tables → Span = λ v. span bytes s.numbers v.numbers in
    let C : Tables → Span = λ v. span words s.order v.order in
    let g = free.good in
    record {
      reads_stand = tt;
      writes_stand = (lie.links, (lie.numbers, (lie.order, tt)));
      reads_apart = tt;
      writes_apart = (
        (
          apart_same (A t) (B t) (A u) (B u) refl refl la refl refl lb free.writes_apart.0.0,
          (apart_same (A t) (C t) (A u) (C u) refl refl la refl refl lc free.writes_apart.0.1.0, tt),
        ),
        ((apart_same (B t) (C t) (B u) (C u) refl refl lb refl refl lc free.writes_apart.1.0.0, tt), (tt, tt)),
      );
      writes_open = (
        open_still σ τ kept s.links.0 s.links.1 (A t).2 (A u).2 la free.writes_stand.0 free.writes_open.0,
        (
          open_still σ τ kept s.numbers.0 s.numbers.1 (B t).2 (B u).2 lb free.writes_stand.1.0 free.writes_open.1.0,
          (open_still σ τ kept s.order.0 s.order.1 (C t).2 (C u).2 lc free.writes_stand.1.1.0 free.writes_open.1.1.0, tt),
        ),
      );
      good = (
        (lie.links_held, aligned_still σ τ kept bytes.ty s.links t.links u.links a g.0.1, subst (Sized bytes.ty) (sym a) g.0.2),
        (
          (
            lie.numbers_held,
            aligned_still σ τ kept bytes.ty s.numbers t.numbers u.numbers b g.1.0.1,
            subst (Sized bytes.ty) (sym b) g.1.0.2,
          ),
          (
            (
              lie.order_held,
              aligned_still σ τ kept words.ty s.order t.order u.order c g.1.1.0.1,
              subst (Sized words.ty) (sym c) g.1.1.0.2,
            ),
            tt,
          ),
        ),
      );
    }

module _ (ρ : Public → Routine) (runs : (x : Public) → Runs (ρ x) (call x)) where
  pub hosts_exist : HostsExist ρ
  hosts_exist s t σ long free [] f = ∣ record { steps = []; last = σ; hosted = hosts.ended (λ b i k. refl); calls = refl } ∣₁
  hosts_exist s t σ long free (w ∷ ws) f =
      let a = asked s σ t long free w.0 w.1 f.0 in
      let x = made a.turn in
      ∥∥₁_elim (runs x a.before a.inputs a.ready) ∥∥₁_prop (λ h.
      let k : Step = step_of a.turn a.before a.inputs h.steps ((call x).value (outcome_of (call x) a.inputs).0, h.memory) in
      let d : Shows s k t = turn_shows ρ s h.steps t a.turn a.before a.inputs a.ready a.placed a.lie h in
      let m : Made ρ s k = record { ready = a.ready; returns = h.returns; placed = a.placed } in
      let u : Tables = (done (call_of k) t).tables in
      ∥∥₁_map (hosts_exist s u h.memory d.1.lengths (free_still s a.before h.memory t u long h.blocks_kept a.free d.1) ws f.1)
      (λ r. record {
        steps = k ∷ r.steps;
        last = r.last;
        hosted = hosts.next a.untouched m r.hosted;
        calls = λ j. a.is j ∷ r.calls j;
      }))
