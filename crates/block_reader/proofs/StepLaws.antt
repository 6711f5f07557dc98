-- Laws of a step of the block reader.
--   part_there, part_start_none, part_start_some, part_cut   the part by its length
--   block_named      the part that an answer names lies in the image, and where
--   step_payload     a step that gives a block gives its payload
--   step_end, step_refused   the end and a refusal give an empty part
use mathlib.Core.{Path.{◌≡◌, refl, sym, ap, ap₂, subst, ◌∙◌}, Logic.{inl, inr}, Bool.{Bool, true, false}, List.{List, []}}
use Prim.Native.Nat.{ℕ, zero, suc, ◌+◌, ◌*◌, ◌-◌, ◌/◌, ◌≤◌, ◌<◌}
use native.Mathlib.Omega.{arith}
use lib.{Dec.{ltb}, ListN.{length, take, drop}}
use borrow.Author.Tests.{ltb-true, lt-ltb, le-ltb}
use Rattle.mesh.specs.Image.{block_bytes, payload_bytes, payload_at}
use Rattle.calls.{specs.Outcomes.{no_block, block_or_end, block_outcome}, specs.CallContracts.{BlockContract}}
use Rattle.calls.{specs.declared.Block.{Block}, proofs.ContractLaws.{by_zero, by_other}}
use Rattle.block_reader.specs.{Reader.{PartThere, part_start, Stepped}, declared.blocks.BlockReader.{BlockReader}, declared.blocks.BlockStep.{BlockStep}}
use Rattle.calls.specs.{Chains.{block_refusal}, Questions.{by_number}}

-- ---- the part of a step

pub part_there : (i k : ℕ) (bs : List ℕ) → PartThere i k bs → (k ≡ 0 → ⊥) → (k ≡ payload_bytes) × (block_bytes * i + block_bytes ≤ length bs)
unfolding PartThere
part_there i k bs (inl e) h = absurd (h e)
part_there i k bs (inr e) h = e

pub part_start_none : (i k : ℕ) → k ≡ 0 → 0 ≡ part_start i k
unfolding part_start
part_start_none i k e = rw e

pub part_start_some : (i k : ℕ) → (k ≡ 0 → ⊥) → block_bytes * i + 4 ≡ part_start i k
unfolding part_start
part_start_some i zero h = absurd (h refl)
part_start_some i (suc k) h = refl

pub part_cut : (bs : List ℕ) (i k from to : ℕ) → to - from ≡ k → from ≡ part_start i k → take (to - from) (drop from bs) ≡ take k (drop (part_start i k) bs)
part_cut bs i k from to e d = ap₂ {C = List ℕ} (λ j at. take j (drop at bs)) e d

module _ (bs : List ℕ) (i : ℕ) where
  -- the part that an answer names, where it is no refusal and not the end, and where it lies
  abbrev Named : Block → Type 0
  Named o = PartThere i o.length bs × (o.offset ≡ part_start i o.length)

  given_named : (there : Bool) → ltb i (length bs / block_bytes) ≡ there → Named (block_or_end there i)
  unfolding block_or_end no_block PartThere part_start
  given_named true e = (inr (refl, omega (arith, ltb-true i (length bs / block_bytes) e)), refl)
  given_named false e = (inl refl, refl)

  outcome_named : (R : ℕ) → block_refusal bs ≡ R → Named (block_outcome bs i)
  unfolding block_outcome by_number no_block PartThere part_start
  outcome_named zero e = rw e (given_named _ refl)
  outcome_named (suc q) e = rw e (inl refl, refl)

  pub block_named : (r : Block) → BlockContract bs i r → PartThere i r.length bs × (r.offset ≡ part_start i r.length)
  unfolding BlockContract
  block_named r h = subst Named (sym h) (outcome_named _ refl)

  -- so it lies in the image
  pub block_inside : (r : Block) → BlockContract bs i r → r.offset + r.length ≤ length bs
  unfolding PartThere part_start
  block_inside r h = inside (block_named r h)
    where
      inside : Named r → r.offset + r.length ≤ length bs
      inside (inl e, d) = let at : r.offset ≡ 0 = rw e at d in omega (arith, at, e)
      inside (inr e, d) = let at : r.offset ≡ block_bytes * i + 4 = rw e.0 at d in omega (arith, at, e.0, e.1)

module _ (r : BlockReader) (s : BlockStep) (h : Stepped r s) where
  abbrev bs : List ℕ
  bs = r.image.now

  -- the part that an answer names
  abbrev part : Block → List ℕ
  part o = take o.length (drop o.offset bs)

  accepted : block_refusal bs ≡ 0 → h.answer ≡ block_or_end (ltb r.next (length bs / block_bytes)) r.next
  unfolding BlockContract block_outcome
  accepted e = by_zero _ _ _ e h.answered

  pub step_payload : block_refusal bs ≡ 0 → r.next < length bs / block_bytes → s.part.now ≡ payload_at bs r.next
  unfolding block_or_end payload_at
  step_payload e l = h.part.is ∙ ap part (rw (lt-ltb r.next (length bs / block_bytes) l) at (accepted e))

  pub step_end : block_refusal bs ≡ 0 → length bs / block_bytes ≤ r.next → s.part.now ≡ []
  unfolding block_or_end no_block
  step_end e l = h.part.is ∙ ap part (rw (le-ltb r.next (length bs / block_bytes) l) at (accepted e))

  pub step_refused : (block_refusal bs ≡ 0 → ⊥) → s.part.now ≡ []
  unfolding BlockContract block_outcome no_block
  step_refused e = h.part.is ∙ ap part (by_other _ _ _ e h.answered)
