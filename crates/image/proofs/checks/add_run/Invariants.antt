-- `checks::add_run` meets its contract: the columns passed in each third have the run.
use Rattle.std.specs.Prelude.{◌*◌, ◌≤◌}
use Rattle.image.proofs.ColumnLaws.{Summed, runs_at}
use Rattle.image.proofs.checks.add_run.Given as goal

abbrev pub invariant-loop-p : goal.invariant-loop-p
invariant-loop-p l = (l.p ≤ 8) × Summed l.block (runs_at l.r (3 * l.p)) l.sums l.twice
