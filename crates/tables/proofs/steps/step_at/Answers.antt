-- `steps::step_at` meets its contract: it writes the stepped number, or there is no entry to write.
use Rattle.lists.specs.Kit.{sym, ap, ◌∙◌, get_or, set, set_out}
use mir.Facts.{to_z-of_z}
use Rattle.tables.specs.Steps.{stepped, step_at}
use Rattle.tables.proofs.steps.step_at.Goals as goal

pub returns-then-v-numbers : goal.returns-then-v-numbers
unfolding step_at
returns-then-v-numbers c =
    ap (set c.args.numbers.now c.args.v)
    (c.stepped.ensures ∙ ap (stepped (get_or c.args.numbers.now c.args.v 0)) (to_z-of_z c.ranges.step))

pub returns-else-v-numbers : goal.returns-else-v-numbers
unfolding step_at
returns-else-v-numbers c = sym (set_out _ _ _ c.if-v-numbers.false)
