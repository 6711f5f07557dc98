-- `Peel::all_due` meets its contract: of the radios below v, the set has those that are due (`Has`).
use Rattle.lists.specs.Kit.{sym, ◌∙◌}
use Rattle.lift.proofs.{SetLaws.{has_none, has_in, has_out}}
use Rattle.lift.proofs.peel.Peel.all_due.Goals as goal
use Rattle.lift.proofs.peel.Peel.all_due.Goals.{then-is_due, else-is_due}

pub loop-v-init : goal.loop-v-init
loop-v-init c = rw c.empty-due.ensures (has_none _)

pub loop-v-preserved : goal.loop-v-preserved
loop-v-preserved c =
    elim c.if-is_due.branch [
      | then-is_due w ↦ rw w.due-is (has_in _ c.loop-v.v _ c.loop-v.invariant _ c.loop-v-test.true w.put_in.ensures.long w.put_in.ensures.joined
          (sym c.is_due.ensures ∙ w.if-is_due.true))
      | else-is_due w ↦ rw w.due-is (has_out _ c.loop-v.v _ c.loop-v.invariant (sym c.is_due.ensures ∙ w.if-is_due.false))
    ]
