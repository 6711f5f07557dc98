-- `backbone` meets its contract: on sound tables the set that the parts leave is the backbone, and its bits are listed
-- ascending.
use Rattle.lists.specs.Kit.{refl}
use Rattle.mesh.specs.Lent.{read_of}
use Rattle.calls.proofs.AnswerLaws.{refused_not}
use Rattle.queries.proofs.{PartLaws.{backbone_refused, backbone_small, backbone_listed}}
use Rattle.queries.proofs.backbone.backbone.Goals as goal

pub returns-in-Err : goal.returns-in-Err
returns-in-Err c =
    backbone_refused c.args.t.now.radios (read_of c.args.t.now) c.args.answer.now _ c.in-Err.ensures (refused_not c.in-Err.refusal)

pub backbone_of-set-requires : goal.backbone_of-set-requires
backbone_of-set-requires c =
    backbone_small c.args.t.now.radios (read_of c.args.t.now) c.args.answer.now _ c.in_default.ensures refl

pub returns : goal.returns
returns c =
    backbone_listed c.args.t.now.radios (read_of c.args.t.now) c.args.answer.now _ c.in_default.ensures refl _ _ _
    c.backbone_of-set.ensures c.list.ensures
