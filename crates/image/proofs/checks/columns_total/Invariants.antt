-- `checks::columns_total` meets its contract: the sum is the total of the columns passed.
use Rattle.image.proofs.ColumnLaws.{Totalling}
use Rattle.image.proofs.checks.columns_total.Given as goal

abbrev pub invariant-loop-p : goal.invariant-loop-p
invariant-loop-p l = Totalling l.sums l.twice l.sum l.p
