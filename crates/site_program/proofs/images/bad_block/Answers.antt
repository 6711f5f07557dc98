-- `images::bad_block` meets its contract: the blocks before are good, and the measure is how many are left.
use Rattle.lists.specs.Kit.{sym, ◌∙◌, arith}
use Rattle.site_program.proofs.BlockLaws.{good_none, good_more, first_found, first_all}
use Rattle.site_program.proofs.images.bad_block.Goals as goal

pub loop-i-init : goal.loop-i-init
loop-i-init c = (omega arith, good_none _)

pub returns-then-not-is_good : goal.returns-then-not-is_good
returns-then-not-is_good c = first_found _ _ (omega arith) c.loop-i.invariant.1 (sym c.is_good.ensures ∙ c.if-not-is_good.true)

pub loop-i-preserved : goal.loop-i-preserved
loop-i-preserved c = (omega arith, good_more _ _ c.loop-i.invariant.1 (sym c.is_good.ensures ∙ c.if-not-is_good.false))

pub returns : goal.returns
returns c = first_all c.args.image.now c.loop-i.i (omega arith) c.loop-i.invariant.1
