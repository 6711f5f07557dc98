-- `greatest_of` meets its contract: what is left of the list and the greatest so far give the greatest (`Folding`).
use Rattle.lists.{specs.Kit.{ap, ◌∙◌, max}, proofs.Loops.{folding_turn}}
use Rattle.queries.proofs.{PartLaws.{part_greatest_end}}
use Rattle.queries.proofs.backbone.greatest_of.Goals as goal

pub loop-v-preserved : goal.loop-v-preserved
loop-v-preserved c =
    folding_turn _ c.args.list.now 0 c.loop-v.top _ c.loop-v.v-index c.loop-v.invariant c.loop-v-test.true
    (c.larger-top.ensures ∙ ap (max c.loop-v.top) c.number_in.ensures)

pub returns : goal.returns
returns c = part_greatest_end c.args.numbers.now c.args.list.now _ c.loop-v.v-index c.loop-v-test.false c.loop-v.invariant
