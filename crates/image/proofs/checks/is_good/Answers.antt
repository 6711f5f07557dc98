-- `checks::is_good` meets its contract: the sum of the block's first 508 bytes is compared with its last four, read as one number.
use Rattle.std.specs.Prelude.{◌≡◌, ◌+◌, ◌*◌, ◌-◌}
use Rattle.lists.specs.Kit.{sym, ap, ap₂, ◌∙◌, Bool, arith, eqb, drop, take-take}
use Rattle.mesh.{specs.Image.{block_bytes, check_sum}, proofs.Images.Checks.{block_check_value}}
use Rattle.image.proofs.{CheckLaws.{words_long}}
use Rattle.image.proofs.checks.is_good.Goals as goal

pub returns : goal.returns
returns c =
    let e : 512 * c.args.i + 512 - 512 * c.args.i ≡ 512 = omega arith in
    ap₂ {C = Bool} eqb
    (rw e at c.check_sum-sum.ensures ∙ ap check_sum (take-take 508 block_bytes (drop (block_bytes * c.args.i) c.args.image.now) (omega arith)))
    (c.long_at.ensures.0 ∙ words_long c.args.image.now (block_bytes * c.args.i + 508))
    ∙ sym (block_check_value c.args.image.now c.args.i (omega arith) (λ j l. (c.type_inv.image j).fits))
