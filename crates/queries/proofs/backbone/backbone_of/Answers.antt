-- `backbone_of` meets its contract: the parts of the radios below v are taken, and the set has their backbone (`Parting`).
use Rattle.lists.specs.Kit.{rules}
use Rattle.queries.proofs.{PartLaws.{parting_turn, parting_end}}
use Rattle.queries.proofs.backbone.backbone_of.Goals as goal

pub loop-v-preserved : goal.loop-v-preserved
loop-v-preserved c =
    parting_turn c.args.links.now c.args.numbers.now _ _ _ c.loop-v.v _ _ _ _ _ _ c.loop-v-test.true
    (search rules) c.take_part.ensures c.loop-v.invariant

pub returns : goal.returns
returns c =
    parting_end c.args.links.now c.args.numbers.now _ _ _ c.loop-v.v _ _ _ c.requires c.at_least-rest.ensures.long
    c.at_least-rest.ensures.level c.empty-set.ensures c.loop-v-test.false c.loop-v.invariant
