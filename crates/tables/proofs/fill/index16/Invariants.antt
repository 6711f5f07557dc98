-- `fill::index16` meets its contract: 16-bit entries being written, each its own index. The measure is what is left of d.
use Rattle.lists.specs.Kit.{ℕ}
use Rattle.tables.proofs.{WidthLaws.{Writing}}
use Rattle.tables.proofs.fill.index16.Given as goal

abbrev pub invariant-loop-v : goal.invariant-loop-v
invariant-loop-v l = Writing 16 (λ (j : ℕ). j) l.initial.d l.d l.v
