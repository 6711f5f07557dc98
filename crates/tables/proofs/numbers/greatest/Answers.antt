-- `numbers::greatest` meets its contract: the greatest so far and what is left of the table give the greatest. The measure is
-- what is left of the table.
use Rattle.tables.proofs.{NumberLaws.{greatest_turn, greatest_end}}
use Rattle.tables.proofs.numbers.greatest.Goals as goal

pub loop-x-preserved : goal.loop-x-preserved
loop-x-preserved c =
    rw c.larger-top.ensures (greatest_turn c.args.numbers.now c.loop-x.top c.loop-x.x-index
    c.loop-x-test.true c.loop-x.invariant)

pub returns : goal.returns
returns c = greatest_end c.args.numbers.now c.loop-x.top c.loop-x.x-index c.loop-x-test.false c.loop-x.invariant
