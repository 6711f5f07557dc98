-- `commit::commit` meets its contract: a refusal touches nothing but scratch, by the questions of the link call or by 16, and the plan of an
-- accepted call is applied.
use Rattle.std.specs.Prelude.{◌≤◌}
use Rattle.lists.specs.Kit.{refl, arith, length}
use mir.Facts.{to_z-of_z}
use Rattle.mesh.specs.{Limits.{max_radios}, Tables.{tables}}
use Rattle.calls.proofs.AnswerLaws.{refused_not}
use Rattle.links.proofs.ProposalLaws.{commit_refused, commit_fits, commit_not, list_few, commit_accepted}
use Rattle.links.proofs.commit.commit.Goals as goal

pub returns-then-not-is_proposal : goal.returns-then-not-is_proposal
returns-then-not-is_proposal c =
    commit_not c.args.up c.args.n c.args.a c.args.b (tables c.args.links.now c.args.numbers.now c.args.order.now) _ refl _ _ _ _ _ _
    c.in-Ok.ensures c.args.step c.args.list.now refl
    _ c.is_proposal.result (to_z-of_z c.ranges.step) c.is_proposal.ensures c.if-not-is_proposal.true

pub overflow_cast-change : goal.overflow_cast-change
overflow_cast-change c =
    let few : length c.args.list.now ≤ max_radios =
    list_few c.args.up c.args.n c.args.a c.args.b (tables c.args.links.now c.args.numbers.now c.args.order.now) _ refl _ _ _ _ _ _
    c.in-Ok.ensures c.args.step c.args.list.now refl
    _ c.is_proposal.result (to_z-of_z c.ranges.step) c.is_proposal.ensures (c.if-not-is_proposal.false) in
    omega (arith, few)

pub write-requires : goal.write-requires
write-requires c =
    commit_fits c.args.up c.args.n c.args.a c.args.b (tables c.args.links.now c.args.numbers.now c.args.order.now) _ refl _ _ _ _ _ _
    c.in-Ok.ensures c.args.step c.args.list.now refl

pub returns-else-not-is_proposal : goal.returns-else-not-is_proposal
returns-else-not-is_proposal c =
    commit_accepted c.args.up c.args.n c.args.a c.args.b (tables c.args.links.now c.args.numbers.now c.args.order.now) _ refl _ _ _ _ _ _
    c.in-Ok.ensures c.args.step c.args.list.now refl
    _ c.is_proposal.result (to_z-of_z c.ranges.step) c.is_proposal.ensures c.if-not-is_proposal.false _ c.write.ensures

pub returns-in-Err : goal.returns-in-Err
returns-in-Err c =
    commit_refused c.args.up c.args.n c.args.a c.args.b (tables c.args.links.now c.args.numbers.now c.args.order.now) _ refl _ _ _ _ _ _
    c.in-Err.ensures c.args.step c.args.list.now (refused_not c.in-Err.refusal)
