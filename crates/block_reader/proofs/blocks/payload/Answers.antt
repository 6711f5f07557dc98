-- The part lies in the image.
use mathlib.Core.Path.{refl}
use Prim.Native.Nat.{◌+◌, ◌*◌}
use native.Mathlib.Omega.{arith}
use Rattle.block_reader.proofs.StepLaws.{part_there, part_start_none, part_start_some, part_cut}
use Rattle.block_reader.proofs.blocks.payload.Goals as goal

pub returns-then-length-eq0 : goal.returns-then-length-eq0
returns-then-length-eq0 c =
    let at = part_start_none c.args.i c.args.length c.if-length-eq0.true in
    record { is = rw (← at, c.if-length-eq0.true); memory = refl; place = rw (← at) }

pub overflow_mul-result : goal.overflow_mul-result
overflow_mul-result c = omega (arith, (part_there c.args.i c.args.length _ c.requires c.if-length-eq0.false).1)

pub overflow_add-result : goal.overflow_add-result
overflow_add-result c = omega (arith, (part_there c.args.i c.args.length _ c.requires c.if-length-eq0.false).1)

pub overflow_mul-result-2 : goal.overflow_mul-result-2
overflow_mul-result-2 c = omega (arith, (part_there c.args.i c.args.length _ c.requires c.if-length-eq0.false).1)

pub overflow_add-result-2 : goal.overflow_add-result-2
overflow_add-result-2 c = omega (arith, (part_there c.args.i c.args.length _ c.requires c.if-length-eq0.false).1)

pub slice_bounds-result-end-2 : goal.slice_bounds-result-end-2
slice_bounds-result-end-2 c = omega (arith, (part_there c.args.i c.args.length _ c.requires c.if-length-eq0.false).1)

pub returns : goal.returns
returns c =
    let at = part_start_some c.args.i c.args.length c.if-length-eq0.false in
    record {
      is = part_cut _ c.args.i c.args.length (512 * c.args.i + 4) (512 * c.args.i + 508)
          (omega (arith, (part_there c.args.i c.args.length _ c.requires c.if-length-eq0.false).0)) at;
      memory = refl;
      place = rw (← at);
    }
