-- `commit::is_proposal` meets its contract: another step settles it, else the lists decide.
use Rattle.lists.specs.Kit.{refl, sym, length-take-le}
use Rattle.links.proofs.{ProposalLaws.{count_fits, other_step, same_list}}
use Rattle.links.proofs.commit.is_proposal.Goals as goal

pub returns-then-change-step : goal.returns-then-change-step
returns-then-change-step c =
    other_step c.args.switch.now.up c.args.plan.size c.args.plan.taken c.args.switch.now.stretch.now
    _ refl _ _ c.report-change.ensures c.args.step c.args.list.now c.if-change-step.true

pub slice_bounds-listed-end : goal.slice_bounds-listed-end
slice_bounds-listed-end c =
    count_fits c.args.switch.now.up c.args.plan.size c.args.plan.taken c.args.switch.now.stretch.now
    _ refl _ _ c.report-change.ensures

pub slice_bounds-is_same-end : goal.slice_bounds-is_same-end
slice_bounds-is_same-end c =
    sym (length-take-le _ _ (count_fits c.args.switch.now.up c.args.plan.size c.args.plan.taken c.args.switch.now.stretch.now
    _ refl _ _ c.report-change.ensures))

pub returns : goal.returns
returns c =
    same_list c.args.switch.now.up c.args.plan.size c.args.plan.taken c.args.switch.now.stretch.now
    _ refl _ _ c.report-change.ensures c.args.step c.args.list.now c.ranges.step
    c.if-change-step.false _ c.is_same.ensures
