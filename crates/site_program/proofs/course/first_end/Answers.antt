-- `first_end` meets its contract: none of the bytes looked at is a line feed.
use Rattle.lists.specs.Kit.{arith}
use Rattle.player.proofs.ReadLaws.{prefix_len}
use Rattle.site_program.proofs.FirstLaws.{looked_none, looked_out, looked_all, looked_found, looked_more}
use Rattle.site_program.proofs.course.first_end.Goals as goal

pub loop-i-init : goal.loop-i-init
loop-i-init c = looked_none _ _

pub returns-then-front-i : goal.returns-then-front-i
returns-then-front-i c =
    record { counts = prefix_len 0 c.args.front.now (omega arith); end = looked_out _ _ _ c.loop-i.invariant c.if-front-i.true }

pub returns-then-front-i-eq10 : goal.returns-then-front-i-eq10
returns-then-front-i-eq10 c =
    record { counts = prefix_len _ _ (omega arith); end = looked_found _ _ _ c.loop-i.invariant c.loop-i-test.true c.if-front-i.false c.if-front-i-eq10.true }

pub loop-i-preserved : goal.loop-i-preserved
loop-i-preserved c = looked_more _ _ _ c.loop-i.invariant c.loop-i-test.true c.if-front-i.false c.if-front-i-eq10.false

pub returns : goal.returns
returns c =
    record { counts = prefix_len 0 c.args.front.now (omega arith); end = looked_all _ _ _ c.loop-i.invariant c.loop-i-test.false }
