-- `form::are_formed` meets its contract: the blocks passed are formed, so what is left decides.
use Rattle.lists.specs.Kit.{ℕ}
use Rattle.image.specs.Form.{block_formed, kind_of, used_of}
use Rattle.image.proofs.{CheckLaws.{Testing}}
use Rattle.image.proofs.form.are_formed.Given as goal

abbrev pub invariant-loop-i : goal.invariant-loop-i
invariant-loop-i live =
    Testing (λ (l : ℕ). block_formed live.image l (kind_of live.header.radios l) (used_of live.header.radios live.header.links l)) live.blocks live.i
