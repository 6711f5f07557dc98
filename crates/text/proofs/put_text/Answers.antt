-- `text::put_text` meets its contract: the bytes that are left take the buffer where the whole text takes the lent one.
--
use Rattle.std.specs.Prelude.{◌≤◌, ◌+◌}
use Rattle.lists.{specs.Kit.{arith, length, drop, drop_of_length-le}, proofs.Parts.{drop_first}}
use Rattle.text.proofs.PrintLaws.{putting_none, putting_piece, putting_end}
use Rattle.text.proofs.put_text.Goals as goal

pub loop-x-init : goal.loop-x-init
loop-x-init c = (omega arith, putting_none)

pub loop-x-preserved : goal.loop-x-preserved
loop-x-preserved c = (
  omega arith,
  putting_piece (drop c.loop-x.x-index c.args.text.now) (drop (c.loop-x.x-index + 1) c.args.text.now) (drop_first c.args.text.now c.loop-x.x-index (omega arith)) c.loop-x.invariant.1
      c.put_byte-place.ensures,
)

pub returns : goal.returns
returns c =
    let done : length c.args.text.now ≤ c.loop-x.x-index = omega arith in
    putting_end c.loop-x.invariant.1 (drop_of_length-le c.args.text.now done)
