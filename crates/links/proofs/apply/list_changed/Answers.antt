-- `apply::list_changed` meets its contract: each way lists the changed part of the stretch.
use Rattle.lists.specs.{Kit.{ap, ◌∙◌, List, ℕ, length, take}, Lists.{overwrite}}
use Rattle.links.specs.Changes.{in_order}
use Rattle.links.proofs.{ChangeLaws.{changed_up, changed_down}}
use Rattle.links.proofs.apply.list_changed.Goals as goal

pub returns-then-switch : goal.returns-then-switch
returns-then-switch c =
    let is = changed_up c.args.switch.now.up c.args.plan.taken c.args.plan.size c.args.switch.now.stretch.now c.if-switch.true in
    record {
      counted = c.list_ascending.ensures.counted ∙ ap (λ (xs : List ℕ). length (in_order xs)) is;
      listed = c.list_ascending.ensures.listed ∙ ap (λ (xs : List ℕ). overwrite (take (length c.args.answer.now) (in_order xs)) c.args.answer.now) is;
    }

pub returns : goal.returns
returns c =
    let is = changed_down c.args.switch.now.up c.args.plan.taken c.args.plan.size c.args.switch.now.stretch.now c.if-switch.false in
    record {
      counted = c.list_ascending-2.ensures.counted ∙ ap (λ (xs : List ℕ). length (in_order xs)) is;
      listed = c.list_ascending-2.ensures.listed ∙ ap (λ (xs : List ℕ). overwrite (take (length c.args.answer.now) (in_order xs)) c.args.answer.now) is;
    }
