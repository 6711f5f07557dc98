-- `rows::put_bit` meets its contract: `|` with the mask of the bit sets it, `&` with the mask's complement clears it.
use Rattle.std.specs.Prelude.{◌+◌, ◌*◌, ◌/◌}
use Rattle.lists.specs.Kit.{sym}
use Rattle.rows.proofs.{MaskLaws.{put_bit_true, put_bit_false, put_bit_past}}
use Rattle.rows.proofs.put_bit.Goals as goal

pub returns-then-on : goal.returns-then-on
returns-then-on c = rw c.if-on.true (put_bit_true _ _ _)

pub returns-else-on : goal.returns-else-on
returns-else-on c =
    rw c.if-on.false (put_bit_false _ c.args.a c.args.b (c.slice_known-else-on-1.given (64 * c.args.a + c.args.b / 8)).fits)

pub returns-else-at-links : goal.returns-else-at-links
returns-else-at-links c = sym (put_bit_past _ _ _ _ c.if-at-links.false)
