-- `search::all_ends` meets its contract: of the radios below c, the set has those that may lift with a (`Has`).
use Rattle.lists.specs.Kit.{sym, ◌∙◌, arith}
use Rattle.lift.proofs.{SetLaws.{has_none, has_in, has_out}}
use Rattle.lift.proofs.search.all_ends.Goals as goal
use Rattle.lift.proofs.search.all_ends.Goals.{then-may_lift, else-may_lift}

pub loop-c-init : goal.loop-c-init
loop-c-init c = (rw c.empty-ends.ensures (has_none _), omega arith)

pub loop-c-preserved : goal.loop-c-preserved
loop-c-preserved c = (
  elim c.if-may_lift.branch [
    | then-may_lift w ↦ rw w.ends-is (has_in _ c.loop-c.c _ c.loop-c.invariant.0 _ (omega (arith, c.requires.0, c.loop-c-test.true))
        w.put_in.ensures.long w.put_in.ensures.joined (sym c.may_lift.ensures ∙ w.if-may_lift.true))
    | else-may_lift w ↦ rw w.ends-is (has_out _ c.loop-c.c _ c.loop-c.invariant.0 (sym c.may_lift.ensures ∙ w.if-may_lift.false))
  ],
  omega (arith, c.loop-c-test.true),
)
