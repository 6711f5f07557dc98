-- The functions of the block reader run, in cells: of each the routine that its name means in an environment that has its code, from the
-- triple that is proved of it.
--   reader_held                           the reader's struct, of an image and a number
--   open_runs, step_runs, moved_runs      each runs as crate hosts says of it
--   part_stands                           after a step its part stands in the image's cells
use mathlib.Core.{Path.{◌≡◌, refl, ◌∙◌, ap, subst}, Logic.{∥∥₁_map}, List.{List, [], ◌∷◌}}
use Prim.Native.Nat.{ℕ, ◌+◌, ◌*◌, ◌≤◌}
use native.Mathlib.Omega.{arith}
use lib.{ListN.{length, take, drop, length-drop}, Seq.{length-take-le}}
use mir.{Syntax.{w8, w32, w64}, Val.{Val, vint, vstruct, vcons, vnil}}
use prog.{Memory.{Memory}, Routine.{Routine, Env}, Wired.{Wired}}
use contract.{Lifetimes.{Lfts}, Running.{Running, within}, Closed.{model⁺, real⁺}}
use types.Kit.{‵, ◌$◌, ◌∵◌, !, qed, by, move, fjoin}
use denote.{Builtin.{u8, usize}, Ref.{NamedLft}, Signature.{named_lft}, Slice.{ShrSlice, shr_slice_vals}, Steps.{nothing}, Struct.Rest.{own_shut}}
use Rattle.machine.{specs.Cells.{unsigned, Place, place, entries, Input, pointer, passes, cells_of, span, RunAt, Stands, Ready, Ran, Runs}, proofs.Whole.{𝓥}}
use Rattle.machine.{proofs.Rows.{W₀}, proofs.Lending.{Holder, to_read, to_read_with}, proofs.Law.{Told, in_cells_at}, proofs.Numbers.{number_row}}
use Rattle.machine.{proofs.Numbers.{declared_told}, proofs.Again.{stands_still}, proofs.Chain.{first_entries, later_entries}}
use Rattle.calls.specs.{CallContracts.{BlockContract}, Outcomes.{block_outcome}, declared.Block.{Block}}
use Rattle.block_reader.specs.{Reader.{Stepped, Moved}, declared.blocks.BlockReader.{BlockReader}, declared.blocks.BlockStep.{BlockStep}}
use Rattle.hosts.specs.Public.{reader_open, reader_step, reader_moved, a_reader, call}
use Rattle.block_reader.proofs.StepLaws.{block_inside}
use ghost.Model as Closed
use Rattle.block_reader.specs.contracts.blocks.BlockReader as reader
use Rattle.block_reader.proofs.blocks.BlockReader.TheLaws as reader_laws
use Rattle.block_reader.specs.contracts.blocks.BlockStep as step
use Rattle.block_reader.proofs.blocks.BlockStep.TheLaws as step_laws
use Rattle.block_reader.proofs.blocks.open.Symbol as open_symbol
use Rattle.block_reader.proofs.blocks.open.Met as open_proof
use Rattle.block_reader.proofs.blocks.step.Symbol as step_symbol
use Rattle.block_reader.proofs.blocks.step.Met as step_proof
use Rattle.block_reader.proofs.blocks.moved.Symbol as moved_symbol
use Rattle.block_reader.proofs.blocks.moved.Met as moved_proof

abbrev 𝓡 : Env → Running 𝓥 Closed.H model⁺
𝓡 γ = within 𝓥 Closed.H model⁺ real⁺ γ

-- ---- the structs

abbrev reader_held : Holder (number_row w8) (number_row w64)
reader_held = record {
  row = reader.the_row;
  make = λ a r x. record { image = r; next = x };
  parts = λ a d. (d.image, d.next);
  parts_made = λ a r x. refl;
  made_owns = λ a r x.
      qed W₀ (‵ ((ShrSlice a.mir a.lft u8).own_val r (shr_slice_vals r)) ∷ ‵ (usize.own_val x ((number_row w64).machine x ∷ [])) ∷ []) ∵
      nothing ! $ move ! (2 ∷ 0 ∷ []) $ fjoin ! $ move ! (1 ∷ 0 ∷ []) $ fjoin ! $
      by ! (own_shut W₀ (reader.the_type a) (reader_laws.the_laws a) (r, (x, tt)));
}

abbrev lifetime : Lfts 1 → NamedLft
lifetime κs = named_lft 1 0 tt κs

abbrev a_reader_told : Told 1
a_reader_told = declared_told 1 (λ κs. reader.the_row (lifetime κs)) (λ κs. reader_laws.lowers (lifetime κs)) (Input a_reader)
    (λ κs d. ((d.image.ref_ptr, d.image.now), d.next)) (passes a_reader) (λ κs d. refl)

-- what a step gives: where its part of the image begins, how long it is, and the numbers
record StepGiven : Type 0 where
  place : Place
  length : ℕ
  number : ℕ
  end : ℕ
  next : ℕ

abbrev given_value : StepGiven → Val
given_value s =
    vstruct (vcons (pointer s.place s.length) (vcons (vint w32 s.number) (vcons (vint w32 s.end) (vcons (vint w64 s.next) vnil))))

-- the step whose form for C is this answer, of an image at that place
abbrev given_at : Place → Block → StepGiven
given_at p o = record { place = (p.0, o.offset + p.1); length = o.length; number = o.number; end = o.end; next = o.next }

abbrev step_told : BlockStep → StepGiven
step_told s = record { place = s.part.ref_ptr; length = length s.part.now; number = s.number; end = s.end; next = s.next }

abbrev a_step_told : Told 1
a_step_told = declared_told 1 (λ κs. step.the_row (lifetime κs)) (λ κs. step_laws.lowers (lifetime κs)) StepGiven (λ κs. step_told) given_value (λ κs s. refl)

-- ---- what is told is the outcome

part_length : (bs : List ℕ) (at k : ℕ) → at + k ≤ length bs → length (take k (drop at bs)) ≡ k
part_length bs at k h = length-take-le k (drop at bs) (omega (arith, h, length-drop at bs))

step_is : (d : BlockReader) (s : BlockStep) → Stepped d s → step_told s ≡ given_at d.image.ref_ptr (block_outcome d.image.now d.next)
unfolding BlockContract
step_is d s h =
    let o : Block = h.answer in
    let l : length s.part.now ≡ o.length =
    ap length h.part.is ∙ part_length d.image.now o.offset o.length (block_inside d.image.now d.next o h.answered) in
    let e : step_told s ≡ given_at d.image.ref_ptr o =
    λ k. record { place = (h.part.memory k, h.part.place k); length = l k; number = h.number k; end = h.end k; next = h.next k } in
    e ∙ ap (given_at d.image.ref_ptr) h.answered

moved_is : (d q : BlockReader) → Moved d q → q.next ≡ (block_outcome d.image.now d.next).next
unfolding BlockContract
moved_is d q h = h.next ∙ ap (λ (o : Block). o.next) h.answered

-- ---- the calls

pub open_runs : (γ : Env) → Wired γ open_symbol.code → Runs (γ open_symbol.name) (call reader_open)
open_runs γ wired =
    in_cells_at 1 (to_read 0 tt (number_row w8) ∷ []) a_reader_told (γ open_symbol.name) (λ κs a r e. (r.image ≡ a.0) × (r.next ≡ 0)) _
    (λ κs a r e h k. ((((h.0 k).ref_ptr, (h.0 k).now), h.1 k), tt))
    (open_proof.met 𝓥 W₀ model⁺ (𝓡 γ) wired)

-- by what it gives, and so by the image's place and its form for C
given_runs : (γ : Env) → Wired γ step_symbol.code → Runs (γ step_symbol.name) (record {
  params = a_reader ∷ [];
  Result = StepGiven;
  value = given_value;
  outcome = λ r. (given_at (place r.0) (block_outcome (entries r.0) r.1), tt);
})
given_runs γ wired =
    in_cells_at 1 (to_read_with 0 tt (number_row w8) (number_row w64) reader_held ∷ []) a_step_told (γ step_symbol.name) (λ κs a s e. Stepped a.0 s) _
    (λ κs a s e h k. (step_is a.0 s h k, tt))
    (step_proof.met 𝓥 W₀ model⁺ (𝓡 γ) wired)

pub step_runs : (γ : Env) → Wired γ step_symbol.code → Runs (γ step_symbol.name) (call reader_step)
step_runs γ wired σ i ready = ∥∥₁_map (given_runs γ wired σ i ready) (λ h. record {
  steps = h.steps;
  memory = h.memory;
  returns = h.returns;
  lengths = h.lengths;
  good = h.good;
  stand = h.stand;
  else_kept = h.else_kept;
  blocks_kept = h.blocks_kept;
})

pub moved_runs : (γ : Env) → Wired γ moved_symbol.code → Runs (γ moved_symbol.name) (call reader_moved)
moved_runs γ wired =
    in_cells_at 1 (to_read_with 0 tt (number_row w8) (number_row w64) reader_held ∷ []) a_reader_told (γ moved_symbol.name) (λ κs a q e. Moved a.0 q) _
    (λ κs a q e h k. ((((h.image k).ref_ptr, (h.image k).now), moved_is a.0 q h k), tt))
    (moved_proof.met 𝓥 W₀ model⁺ (𝓡 γ) wired)

-- after a step, as before it, the bytes of its part stand in the image's cells where it says: they are not copied
pub part_stands : (ρ : Routine) (σ : Memory) (r : Input a_reader) → Ready σ (call reader_step).params (r, tt)
    → (h : Ran ρ (call reader_step) σ (r, tt))
    → let o = block_outcome (entries r.0) r.1 in
    Stands h.memory (span (unsigned w8) ((place r.0).0, o.offset + (place r.0).1) (take o.length (drop o.offset (entries r.0))))
part_stands ρ σ r ready h =
    let o = block_outcome (entries r.0) r.1 in
    let p = place r.0 in
    let xs = entries r.0 in
    let still : RunAt h.memory p.0 p.1 (cells_of (unsigned w8) xs) =
    stands_still σ h.memory [] h.else_kept p.0 p.1 (cells_of (unsigned w8) xs) tt ready.reads_stand.0 in
    let e : p.1 + 1 * o.offset ≡ o.offset + p.1 = omega arith in
    first_entries w8 h.memory p.0 (o.offset + p.1) o.length (drop o.offset xs)
    (subst (λ (j : ℕ). RunAt h.memory p.0 j (cells_of (unsigned w8) (drop o.offset xs))) e
    (later_entries w8 h.memory p.0 p.1 o.offset xs still))
