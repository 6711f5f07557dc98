-- `rows::row_degree` meets its contract: the radios counted so far and the ones from word k on are all that the row marks, and
-- the byte has not passed the limit on neighbours. The measure is the words that are left.
use Rattle.lists.specs.Kit.{ap, arith, length}
use Rattle.rows.specs.Rows.{row_count}
use Rattle.rows.proofs.{RowWords.{row_counting_turn, row_counting_stop, row_counting_end, row_from_zero}}
use Rattle.rows.proofs.{RowWords.{row_listed_short}}
use Rattle.rows.proofs.row_degree.Goals as goal

pub returns-then-links-start : goal.returns-then-links-start
unfolding row_count
returns-then-links-start c = omega (arith, ap length (row_listed_short c.args.links.now c.args.a c.if-links-start.true))

pub loop-k-init : goal.loop-k-init
loop-k-init c = (omega arith, omega arith, omega (arith, ap length (row_from_zero c.args.links.now c.args.a)))

pub returns-then-n-ge-STOP : goal.returns-then-n-ge-STOP
returns-then-n-ge-STOP c =
    row_counting_stop _ (λ j. (c.type_inv.links j).fits) _ c.loop-k.n c.loop-k.k c.word_at.result
    c.loop-k-test.true c.word_at.ensures c.if-links-start.false c.if-n-ge-STOP.true c.loop-k.invariant

pub loop-k-preserved : goal.loop-k-preserved
loop-k-preserved c =
    row_counting_turn _ (λ j. (c.type_inv.links j).fits) _ c.loop-k.n c.loop-k.k c.word_at.result
    c.loop-k-test.true c.word_at.ensures (omega (arith, c.if-n-ge-STOP.false)) c.loop-k.invariant

pub returns : goal.returns
returns c = row_counting_end _ _ _ _ c.loop-k-test.false c.if-links-start.false c.loop-k.invariant
