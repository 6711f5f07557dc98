-- `form::are_zeros` meets its contract: the answer so far is that of the bytes passed.
use Rattle.std.specs.Prelude.{◌+◌}
use Rattle.lists.specs.Kit.{ℕ, eqb, get_or}
use Rattle.image.proofs.{CheckLaws.{Passing}}
use Rattle.image.proofs.form.are_zeros.Given as goal

abbrev pub invariant-loop-j : goal.invariant-loop-j
invariant-loop-j live = Passing (λ (l : ℕ). eqb (get_or live.image (live.at + l) 0) 0) live.k live.all live.j
