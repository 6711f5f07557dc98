-- `turn::end_row` meets its contract: a copy of the row with one bit put marks what the row with that bit put marks.
use Rattle.std.specs.Prelude.{◌+◌, ◌*◌, ◌-◌}
use Rattle.lists.specs.Kit.{ℕ, arith, replicate, length-replicate}
use Rattle.mesh.specs.Limits.{row_bytes}
use Rattle.plan.proofs.{NearLaws.{row_copied}}
use Rattle.plan.proofs.turn.end_row.Goals as goal

pub returns : goal.returns
returns c =
    row_copied _ c.args.v (row_bytes * c.args.v + row_bytes - row_bytes * c.args.v) (omega arith) c.requires.0 _ _ (replicate row_bytes 0) _ _ c.requires.1
    (length-replicate {A = ℕ} row_bytes 0) c.copy.ensures c.put_bit.ensures
