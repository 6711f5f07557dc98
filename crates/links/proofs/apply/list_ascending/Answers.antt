-- `apply::list_ascending` meets its contract: the radios put into an empty set are listed by it, ascending, and counted.
use Rattle.lists.specs.{Kit.{ap, ◌∙◌, List, ℕ, length, take}, Lists.{overwrite}}
use Rattle.lists.proofs.Loops.{folding_turn, folding_end}
use Rattle.rows.proofs.SetLaws.{common_own}
use Rattle.links.proofs.Marking.{members_folded}
use Rattle.links.proofs.apply.list_ascending.Goals as goal

pub loop-v-preserved : goal.loop-v-preserved
loop-v-preserved c =
    folding_turn _ _ _ c.loop-v.set _ c.loop-v.v-index c.loop-v.invariant c.loop-v-test.true c.put_in.ensures.joined

pub returns : goal.returns
returns c =
    let is = members_folded _ _ (folding_end _ _ _ _ _ c.loop-v.invariant c.loop-v-test.false) in
    record {
      counted = c.count_common.ensures ∙ ap length (common_own _ ∙ is);
      listed = c.list.ensures.listed ∙ ap (λ (xs : List ℕ). overwrite (take (length c.args.answer.now) xs) c.args.answer.now) is;
    }
