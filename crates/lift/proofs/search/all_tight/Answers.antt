-- `search::all_tight` meets its contract: of the radios below v, the set has those that a pair may begin at (`Has`).
use Rattle.lists.specs.Kit.{sym, refl, ◌∙◌, arith}
use Rattle.lift.proofs.{SetLaws.{has_none, has_in, has_out}}
use Rattle.lift.proofs.search.all_tight.Goals as goal
use Rattle.lift.proofs.search.all_tight.Goals.{then-is_tight, else-is_tight}

pub loop-v-init : goal.loop-v-init
loop-v-init c = (rw c.empty-tight.ensures (has_none _), omega arith, refl)

pub loop-v-preserved : goal.loop-v-preserved
loop-v-preserved c = (
  elim c.if-is_tight.branch [
    | then-is_tight w ↦ rw w.tight-is (has_in _ c.loop-v.v _ c.loop-v.invariant.0 _ (omega (arith, c.requires.2, c.loop-v-test.true))
        w.put_in.ensures.long w.put_in.ensures.joined (sym (rw (← c.loop-v.invariant.2) c.is_tight.ensures) ∙ w.if-is_tight.true))
    | else-is_tight w ↦ rw w.tight-is (has_out _ c.loop-v.v _ c.loop-v.invariant.0 (sym (rw (← c.loop-v.invariant.2) c.is_tight.ensures) ∙ w.if-is_tight.false))
  ],
  omega (arith, c.loop-v-test.true),
  c.loop-v.invariant.2,
)
