-- `zeros::are_all` meets its contract: the bytes passed are x, so what is left decides.
use Rattle.std.specs.Prelude.{◌≡◌}
use Rattle.lists.specs.{Kit.{ℕ, eqb, drop}, Lists.{all}}
use Rattle.marks.proofs.zeros.are_all.Given as goal

abbrev pub invariant-loop-d : goal.invariant-loop-d
invariant-loop-d l = all (λ (d : ℕ). eqb d l.x) l.bytes ≡ all (λ (d : ℕ). eqb d l.x) (drop l.d-index l.bytes)
