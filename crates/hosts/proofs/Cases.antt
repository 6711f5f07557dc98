-- Three calls of a host, in cells: four blocks, in which three tables of two radios and an answer table of two entries hold anything. The
-- host clears the tables, takes the link between the two radios up, and takes it down again.
--   three_calls    the three runs, what each returns, and every cell of the four tables after each
use Rattle.std.specs.Prelude.{◌≡◌, ◌∷◌, ◌++◌}
use Rattle.lists.specs.{Kit.{refl, sym, ◌∙◌, subst, ∥∥₁_prop, ∥∥₁_elim, ∥∥₁_map, Bool, true, false, List, [], map, ℕ, zero, suc, arith, pos}}
use Rattle.lists.specs.{Kit.{negsuc, length, replicate, lit<}, Lists.{overwrite}}
use mir.{Mem.{byte}, Syntax.{w8, w16, w32, ty_int}, Val.{Val, vint, vstruct, vcons, vnil}}
use prog.{Memory.{Memory}, Machine.{done}, Routine.{Routine, step}}
use Rattle.machine.{specs.Cells.{Form, Inputs, Stands, Open, All, Sized, GoodList, Ready, Runs, span, pointer, passed, writes}, specs.Made.{Fitting, blocks}}
use Rattle.machine.{proofs.Left.{ran_lengths, ran_held}, proofs.Made.{made_ready}, proofs.Again.{stands_still}}
use Rattle.mesh.specs.Tables.{Tables, tables, graph_in, row_links, put_link, put_bit, put_digit}
use Rattle.calls.{specs.Questions.{site_refusal, answer_length}, specs.Outcomes.{Tabled, tabled, Linked, linked_with, reply, clear_outcome, link_outcome}}
use Rattle.calls.{specs.Switches.{switched}, proofs.WorkedState.{compute}}
use Rattle.hosts.specs.Public.{clear, link, Public, of_book, call, bytes, words, number_value, reply_value}
use Rattle.hosts.proofs.Made.{RoomAt, aligned_of, room_still, still_open}
use Rattle.calls.specs.declared.Reply.{Reply}

-- ---- tables in blocks 0 to 2, the answer table in block 3

abbrev clear_inputs : Tables → Inputs (call (of_book clear)).params
clear_inputs t = (2, (((0, 0), t.links), (((1, 0), t.numbers), (((2, 0), t.order), tt))))

abbrev link_inputs : (up : Bool) → Tables → List ℕ → Inputs (call (of_book (link up))).params
link_inputs up t w = (2, (0, (1, (((0, 0), t.links), (((1, 0), t.numbers), (((2, 0), t.order), (((3, 0), w), tt)))))))

-- a list stands in a block of its own
record InBlock (σ : Memory) (F : Form) (b k : ℕ) (xs : List F.Value) : Type 0 where
  stands : Stands σ (span F (b, 0) xs)
  held : All F.Holds xs
  room : RoomAt σ F.ty (b, 0)
  open_there : Open σ (span F (b, 0) xs)
  long : length xs ≡ k

record State (σ : Memory) (t : Tables) (w : List ℕ) : Type 0 where
  links : InBlock σ bytes 0 128 t.links
  numbers : InBlock σ bytes 1 2 t.numbers
  order : InBlock σ words 2 2 t.order
  answer : InBlock σ words 3 2 w

good : (σ : Memory) (F : Form) (b k : ℕ) (xs : List F.Value) → Sized F.ty k → InBlock σ F b k xs → GoodList σ F (b, 0) xs
good σ F b k xs s h = (h.held, aligned_of σ F.ty (b, 0) h.room xs, subst (Sized F.ty) (sym h.long) s)

module _ (σ : Memory) (t : Tables) (w : List ℕ) (q : State σ t w) where
  clear_ready : Ready σ (call (of_book clear)).params (clear_inputs t)
  clear_ready = record {
    reads_stand = tt;
    writes_stand = (q.links.stands, (q.numbers.stands, (q.order.stands, tt)));
    reads_apart = tt;
    writes_apart = (
      (λ b i x y. absurd (omega (arith, x.0, y.0)), (λ b i x y. absurd (omega (arith, x.0, y.0)), tt)),
      ((λ b i x y. absurd (omega (arith, x.0, y.0)), tt), (tt, tt)),
    );
    writes_open = (q.links.open_there, (q.numbers.open_there, (q.order.open_there, tt)));
    good = (
      lit< tt,
      (
        good σ bytes 0 128 t.links (lit< tt, lit< tt) q.links,
        (good σ bytes 1 2 t.numbers (lit< tt, lit< tt) q.numbers, (good σ words 2 2 t.order (lit< tt, lit< tt) q.order, tt)),
      ),
    );
  }

  link_ready : (up : Bool) → Ready σ (call (of_book (link up))).params (link_inputs up t w)
  link_ready up = record {
    reads_stand = tt;
    writes_stand = (q.links.stands, (q.numbers.stands, (q.order.stands, (q.answer.stands, tt))));
    reads_apart = tt;
    writes_apart = (
      (λ b i x y. absurd (omega (arith, x.0, y.0)), (λ b i x y. absurd (omega (arith, x.0, y.0)), (λ b i x y. absurd (omega (arith, x.0, y.0)), tt))),
      (
        (λ b i x y. absurd (omega (arith, x.0, y.0)), (λ b i x y. absurd (omega (arith, x.0, y.0)), tt)),
        ((λ b i x y. absurd (omega (arith, x.0, y.0)), tt), (tt, tt)),
      ),
    );
    writes_open = (q.links.open_there, (q.numbers.open_there, (q.order.open_there, (q.answer.open_there, tt))));
    good = (
      lit< tt,
      (
        lit< tt,
        (
          lit< tt,
          (
            good σ bytes 0 128 t.links (lit< tt, lit< tt) q.links,
            (
              good σ bytes 1 2 t.numbers (lit< tt, lit< tt) q.numbers,
              (good σ words 2 2 t.order (lit< tt, lit< tt) q.order, (good σ words 3 2 w (lit< tt, lit< tt) q.answer, tt)),
            ),
          ),
        ),
      ),
    );
  }

-- ---- one call

record Called (ρ : Routine) (vs : List Val) (v : Val) (σ : Memory) (t : Tables) (w : List ℕ) : Type 0 where
  steps : ℕ
  memory : Memory
  returns : step ρ steps vs σ ≡ done (v, memory)
  state : State memory t w

module _ (ρ : Public → Routine) (runs : (x : Public) → Runs (ρ x) (call x)) (σ : Memory) (t : Tables) (w : List ℕ) (q : State σ t w) where
  clear_called : (o : Tabled ℕ) → clear_outcome 2 t ≡ o → ∥ Called (ρ (of_book clear)) (passed (call (of_book clear)).params (clear_inputs t))
      (number_value o.reply) σ o.tables w ∥₁
  clear_called o e =
      ∥∥₁_map (runs (of_book clear) σ (clear_inputs t) (clear_ready σ t w q)) (λ h.
      let still = room_still σ h.memory h.blocks_kept in
      subst (λ (y : Tabled ℕ). Called (ρ (of_book clear)) (passed (call (of_book clear)).params (clear_inputs t)) (number_value y.reply) σ
      y.tables w) e (record {
        steps = h.steps;
        memory = h.memory;
        returns = h.returns;
        state = record {
          links = record {
            stands = h.stand.0;
            held = (ran_held h).0;
            room = still (ty_int w8) (0, 0) q.links.room;
            open_there = still_open σ h.memory h.blocks_kept w8 (0, 0) _ _ (ran_lengths h).0 q.links.stands q.links.open_there;
            long = (ran_lengths h).0 ∙ q.links.long;
          };
          numbers = record {
            stands = h.stand.1.0;
            held = (ran_held h).1.0;
            room = still (ty_int w8) (1, 0) q.numbers.room;
            open_there = still_open σ h.memory h.blocks_kept w8 (1, 0) _ _ (ran_lengths h).1.0 q.numbers.stands q.numbers.open_there;
            long = (ran_lengths h).1.0
                ∙ q.numbers.long;
          };
          order = record {
            stands = h.stand.1.1.0;
            held = (ran_held h).1.1.0;
            room = still (ty_int w16) (2, 0) q.order.room;
            open_there = still_open σ h.memory h.blocks_kept w16 (2, 0) _ _ (ran_lengths h).1.1.0 q.order.stands q.order.open_there;
            long = (ran_lengths h).1.1.0
                ∙ q.order.long;
          };
          answer = record {
            stands = stands_still σ h.memory (writes (call (of_book clear)).params (clear_inputs t)) h.else_kept 3 0 (span words (3, 0) w).2 (
              λ b i x y. absurd (omega (arith, x.0, y.0)),
              (λ b i x y. absurd (omega (arith, x.0, y.0)), (λ b i x y. absurd (omega (arith, x.0, y.0)), tt)),
            ) q.answer.stands;
            held = q.answer.held;
            room = still (ty_int w16) (3, 0) q.answer.room;
            open_there = still_open σ h.memory h.blocks_kept w16 (3, 0) w w refl q.answer.stands q.answer.open_there;
            long = q.answer.long;
          };
        };
      }))

  link_called : (up : Bool) (o : Linked Reply) → link_outcome up 2 0 1 t w ≡ o →
      ∥ Called (ρ (of_book (link up))) (passed (call (of_book (link up))).params (link_inputs up t w)) (reply_value o.reply) σ o.tables o.lent ∥₁
  link_called up o e =
      ∥∥₁_map (runs (of_book (link up)) σ (link_inputs up t w) (link_ready σ t w q up)) (λ h.
      let still = room_still σ h.memory h.blocks_kept in
      subst (λ (y : Linked Reply). Called (ρ (of_book (link up))) (passed (call (of_book (link up))).params (link_inputs up t w)) (reply_value y.reply) σ
      y.tables y.lent) e (record {
        steps = h.steps;
        memory = h.memory;
        returns = h.returns;
        state = record {
          links = record {
            stands = h.stand.0;
            held = (ran_held h).0;
            room = still (ty_int w8) (0, 0) q.links.room;
            open_there = still_open σ h.memory h.blocks_kept w8 (0, 0) _ _ (ran_lengths h).0 q.links.stands q.links.open_there;
            long = (ran_lengths h).0 ∙ q.links.long;
          };
          numbers = record {
            stands = h.stand.1.0;
            held = (ran_held h).1.0;
            room = still (ty_int w8) (1, 0) q.numbers.room;
            open_there = still_open σ h.memory h.blocks_kept w8 (1, 0) _ _ (ran_lengths h).1.0 q.numbers.stands q.numbers.open_there;
            long = (ran_lengths h).1.0
                ∙ q.numbers.long;
          };
          order = record {
            stands = h.stand.1.1.0;
            held = (ran_held h).1.1.0;
            room = still (ty_int w16) (2, 0) q.order.room;
            open_there = still_open σ h.memory h.blocks_kept w16 (2, 0) _ _ (ran_lengths h).1.1.0 q.order.stands q.order.open_there;
            long = (ran_lengths h).1.1.0
                ∙ q.order.long;
          };
          answer = record {
            stands = h.stand.1.1.1.0;
            held = (ran_held h).1.1.1.0;
            room = still (ty_int w16) (3, 0) q.answer.room;
            open_there = still_open σ h.memory h.blocks_kept w16 (3, 0) _ _ (ran_lengths h).1.1.1.0 q.answer.stands q.answer.open_there;
            long = (ran_lengths h).1.1.1.0 ∙ q.answer.long;
          };
        };
      }))

-- ---- the case

-- what the tables hold before the clearing
abbrev anything : Tables
anything = tables (replicate 128 7) (9 ∷ 9 ∷ []) (5 ∷ 5 ∷ [])

abbrev zeros : List ℕ
zeros = replicate 128 0

-- radio 1 in row 0, radio 0 in row 1
abbrev linked : List ℕ
linked = 2 ∷ replicate 63 0 ++ (1 ∷ replicate 63 0)

clear_is : clear_outcome 2 anything ≡ tabled 0 (tables zeros (0 ∷ 0 ∷ []) (0 ∷ 1 ∷ []))
unfolding compute clear_outcome
clear_is = refl

up_is : link_outcome true 2 0 1 (tables zeros (0 ∷ 0 ∷ []) (0 ∷ 1 ∷ [])) (8 ∷ 8 ∷ []) ≡ linked_with (reply 0 (pos 1) 2)
    (tables linked (1 ∷ 1 ∷ []) (0 ∷ 1 ∷ [])) (0 ∷ 1 ∷ [])
unfolding compute link_outcome site_refusal answer_length graph_in row_links switched overwrite put_link put_bit put_digit
up_is = refl

down_is : link_outcome false 2 0 1 (tables linked (1 ∷ 1 ∷ []) (0 ∷ 1 ∷ [])) (0 ∷ 1 ∷ []) ≡ linked_with (reply 0 (negsuc 0) 2)
    (tables zeros (0 ∷ 0 ∷ []) (0 ∷ 1 ∷ [])) (0 ∷ 1 ∷ [])
unfolding compute link_outcome site_refusal answer_length graph_in row_links switched overwrite put_link put_bit put_digit
down_is = refl

abbrev at_first : Inputs (call (of_book (link true))).params
at_first = link_inputs true anything (8 ∷ 8 ∷ [])

-- the four blocks
abbrev pub memory : Memory
memory = blocks (call (of_book (link true))).params at_first

sevens_held : (n : ℕ) → All bytes.Holds (replicate n 7)
sevens_held zero = tt
sevens_held (suc n) = (lit< tt, sevens_held n)

fitting : Fitting (call (of_book (link true))).params at_first
fitting = (
  lit< tt,
  (
    lit< tt,
    (
      lit< tt,
      (
        (sevens_held 128, (lit< tt, lit< tt)),
        (
          ((lit< tt, (lit< tt, tt)), (lit< tt, lit< tt)),
          (((lit< tt, (lit< tt, tt)), (lit< tt, lit< tt)), (((lit< tt, (lit< tt, tt)), (lit< tt, lit< tt)), tt)),
        ),
      ),
    ),
  ),
)

first_state : State memory anything (8 ∷ 8 ∷ [])
first_state =
    let w = (made_ready (call (of_book (link true))).params at_first fitting).writes_stand in
    let o = (made_ready (call (of_book (link true))).params at_first fitting).writes_open in
    record {
      links = record { stands = w.0; held = sevens_held 128; room = ((1, (span bytes (0, 0) (replicate 128 7)).2, true), refl, tt); open_there = o.0; long = refl };
      numbers = record { stands = w.1.0; held = (lit< tt, (lit< tt, tt)); room = ((1, (span bytes (1, 0) (9 ∷ 9 ∷ [])).2, true), refl, tt); open_there = o.1.0; long = refl };
      order = record { stands = w.1.1.0; held = (lit< tt, (lit< tt, tt)); room = ((2, (span words (2, 0) (5 ∷ 5 ∷ [])).2, true), refl, tt); open_there = o.1.1.0; long = refl };
      answer = record { stands = w.1.1.1.0; held = (lit< tt, (lit< tt, tt)); room = ((2, (span words (3, 0) (8 ∷ 8 ∷ [])).2, true), refl, tt); open_there = o.1.1.1.0; long = refl };
    }

-- what the machine is passed: the site's three tables, and what follows them
abbrev tables_passed : List Val → List Val
tables_passed vs = pointer (0, 0) 128 ∷ pointer (1, 0) 2 ∷ pointer (2, 0) 2 ∷ vs

abbrev link_passed : List Val
link_passed = vint w32 2 ∷ vint w32 0 ∷ vint w32 1 ∷ tables_passed (pointer (3, 0) 2 ∷ [])

abbrev replied : (number step count : ℕ) → Val
replied r z k = vstruct (vcons (vint w32 r) (vcons (vint w8 z) (vcons (vint w32 k) vnil)))

-- the cells of links, numbers, order and answer table
pub record Cells (τ : Memory) (ls ns os ws : List ℕ) : Type 0 where
  pub links : Stands τ (0, 0, map byte ls)
  pub numbers : Stands τ (1, 0, map byte ns)
  pub order : Stands τ (2, 0, map byte os)
  pub answer : Stands τ (3, 0, map byte ws)

pub record ThreeCalls (ρ : Public → Routine) : Type 0 where
  pub n₁ : ℕ
  pub n₂ : ℕ
  pub n₃ : ℕ
  pub τ₁ : Memory
  pub τ₂ : Memory
  pub τ₃ : Memory
  pub clears : step (ρ (of_book clear)) n₁ (vint w32 2 ∷ tables_passed []) memory ≡ done (vint w32 0, τ₁)
  pub cleared : Cells τ₁ (replicate 128 0) (0 ∷ 0 ∷ []) (0 ∷ 0 ∷ 1 ∷ 0 ∷ []) (8 ∷ 0 ∷ 8 ∷ 0 ∷ [])
  pub goes_up : step (ρ (of_book (link true))) n₂ link_passed τ₁ ≡ done (replied 0 1 2, τ₂)
  pub up : Cells τ₂ (2 ∷ replicate 63 0 ++ (1 ∷ replicate 63 0)) (1 ∷ 1 ∷ []) (0 ∷ 0 ∷ 1 ∷ 0 ∷ []) (0 ∷ 0 ∷ 1 ∷ 0 ∷ [])
  -- the step -1 is the byte 255
  pub goes_down : step (ρ (of_book (link false))) n₃ link_passed τ₂ ≡ done (replied 0 255 2, τ₃)
  pub down : Cells τ₃ (replicate 128 0) (0 ∷ 0 ∷ []) (0 ∷ 0 ∷ 1 ∷ 0 ∷ []) (0 ∷ 0 ∷ 1 ∷ 0 ∷ [])

module _ (ρ : Public → Routine) (runs : (x : Public) → Runs (ρ x) (call x)) where
  pub three_calls : ∥ ThreeCalls ρ ∥₁
  three_calls =
      ∥∥₁_elim (clear_called ρ runs memory anything (8 ∷ 8 ∷ []) first_state _ clear_is) ∥∥₁_prop (λ a.
      ∥∥₁_elim (link_called ρ runs a.memory _ _ a.state true _ up_is) ∥∥₁_prop (λ b.
      ∥∥₁_map (link_called ρ runs b.memory _ _ b.state false _ down_is) (λ c. record {
        n₁ = a.steps;
        n₂ = b.steps;
        n₃ = c.steps;
        τ₁ = a.memory;
        τ₂ = b.memory;
        τ₃ = c.memory;
        clears = a.returns;
        cleared = record {
          links = a.state.links.stands;
          numbers = a.state.numbers.stands;
          order = a.state.order.stands;
          answer = a.state.answer.stands;
        };
        goes_up = b.returns;
        up = record {
          links = b.state.links.stands;
          numbers = b.state.numbers.stands;
          order = b.state.order.stands;
          answer = b.state.answer.stands;
        };
        goes_down = c.returns;
        down = record {
          links = c.state.links.stands;
          numbers = c.state.numbers.stands;
          order = c.state.order.stands;
          answer = c.state.answer.stands;
        };
      })))
