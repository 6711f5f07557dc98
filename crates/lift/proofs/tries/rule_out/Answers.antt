-- `tries::rule_out` meets its contract: the radios below c are ruled out or stay (`Ruling`).
use Rattle.lists.{specs.Kit.{sym, ◌∙◌, arith}}
use Rattle.lift.proofs.{TryLaws.{ruling_in, ruling_out}}
use Rattle.lift.proofs.tries.rule_out.Goals as goal
use Rattle.lift.proofs.tries.rule_out.Goals.{then-is_ruled_out, else-is_ruled_out}

pub loop-c-preserved : goal.loop-c-preserved
loop-c-preserved c = (
  elim c.if-is_ruled_out.branch [
    | then-is_ruled_out w ↦ rw w.untried-is (ruling_in _ _ _ _ _ c.loop-c.c _ c.loop-c.invariant.0 _ (omega (arith, c.requires, c.loop-c-test.true))
        w.take_out.ensures.long w.take_out.ensures.left (sym c.is_ruled_out.ensures ∙ w.if-is_ruled_out.true))
    | else-is_ruled_out w ↦ rw w.untried-is (ruling_out _ _ _ _ _ c.loop-c.c _ c.loop-c.invariant.0
        (sym c.is_ruled_out.ensures ∙ w.if-is_ruled_out.false))
  ],
  omega (arith, c.loop-c-test.true),
)
