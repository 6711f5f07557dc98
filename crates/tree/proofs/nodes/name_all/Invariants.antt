-- `nodes::name_all` meets its contract: what is left of the list gives what all of it gives (`Folding`).
use Rattle.lists.{specs.Kit.{set}, proofs.Loops.{Folding}}
use Rattle.tree.proofs.nodes.name_all.Given as goal

abbrev pub invariant-loop-w : goal.invariant-loop-w
invariant-loop-w l = Folding (λ w now. set now w l.x) l.list l.initial.answer l.answer l.w-index
