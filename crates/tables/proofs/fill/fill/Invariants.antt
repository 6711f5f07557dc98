-- `fill::fill` meets its contract: the entries so far are x.
use Rattle.std.specs.Prelude.{◌≡◌}
use Rattle.lists.specs.Kit.{take, replicate}
use Rattle.tables.proofs.fill.fill.Given as goal

abbrev pub invariant-loop-y : goal.invariant-loop-y
invariant-loop-y g l = take l.y-index l.d ≡ replicate l.y-index l.x
