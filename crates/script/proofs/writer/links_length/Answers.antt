-- `links_length` meets its contract: what is counted and the lines of the rows that are left are all of them (`RowsCounted`).
use Rattle.lists.specs.Kit.{arith}
use Rattle.script.proofs.ScriptLengths.{rows_counted_none, rows_counted_next, rows_counted_last}
use Rattle.script.proofs.writer.links_length.Goals as goal

pub loop-a-init : goal.loop-a-init
loop-a-init c = rows_counted_none _ _

pub radio_length-sum-requires : goal.radio_length-sum-requires
radio_length-sum-requires c = (omega (arith, c.requires.listed.most), omega (arith, c.requires.listed.few c.loop-a.a c.loop-a-test.true))

pub overflow_add-sum : goal.overflow_add-sum
overflow_add-sum c =
    let next = rows_counted_next _ _ _ _ _ c.loop-a-test.true c.radio_length-sum.ensures c.loop-a.invariant in
    omega (arith, next.is, c.requires.short)

pub loop-a-preserved : goal.loop-a-preserved
loop-a-preserved c = rows_counted_next _ _ _ _ _ c.loop-a-test.true c.radio_length-sum.ensures c.loop-a.invariant

pub returns : goal.returns
returns c = rows_counted_last _ _ _ _ c.loop-a-test.false c.loop-a.invariant
