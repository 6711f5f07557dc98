-- `search::all_free` meets its contract: of the radios below v, the set has those that may be ends (`Has`).
use Rattle.lists.specs.Kit.{sym, ◌∙◌, arith}
use Rattle.lift.proofs.{SetLaws.{has_none, has_in, has_out}}
use Rattle.lift.proofs.search.all_free.Goals as goal
use Rattle.lift.proofs.search.all_free.Goals.{then-is_free, else-is_free}

pub loop-v-init : goal.loop-v-init
loop-v-init c = (rw c.empty-free.ensures (has_none _), omega arith)

pub loop-v-preserved : goal.loop-v-preserved
loop-v-preserved c = (
  elim c.if-is_free.branch [
    | then-is_free w ↦ rw w.free-is (has_in _ c.loop-v.v _ c.loop-v.invariant.0 _ (omega (arith, c.requires, c.loop-v-test.true))
        w.put_in.ensures.long w.put_in.ensures.joined (sym c.is_free.ensures ∙ w.if-is_free.true))
    | else-is_free w ↦ rw w.free-is (has_out _ c.loop-v.v _ c.loop-v.invariant.0 (sym c.is_free.ensures ∙ w.if-is_free.false))
  ],
  omega (arith, c.loop-v-test.true),
)
