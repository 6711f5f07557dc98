-- `checks::add_runs` meets its contract: the runs passed are added.
use Rattle.std.specs.Prelude.{◌≤◌}
use Rattle.image.specs.Columns.{Columns}
use Rattle.image.proofs.checks.add_runs.Given as goal

abbrev pub invariant-loop-r : goal.invariant-loop-r
invariant-loop-r l = (l.r ≤ 21) × Columns l.block l.r l.sums l.twice
