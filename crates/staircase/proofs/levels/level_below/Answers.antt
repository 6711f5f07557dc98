-- `levels::level_below` meets its contract: the greatest so far and what is left of the table give the greatest.
use Rattle.staircase.proofs.{SkipLaws.{below_turn, below_end}}
use Rattle.staircase.proofs.levels.level_below.Goals as goal

pub loop-x-preserved : goal.loop-x-preserved
loop-x-preserved c =
    below_turn c.args.level c.args.numbers.now c.loop-x.top c.loop-x.x-index _ _ c.loop-x-test.true
    c.number_below.ensures c.larger-top.ensures c.loop-x.invariant

pub returns : goal.returns
returns c = below_end c.args.level c.args.numbers.now c.loop-x.top c.loop-x.x-index c.loop-x-test.false c.loop-x.invariant
