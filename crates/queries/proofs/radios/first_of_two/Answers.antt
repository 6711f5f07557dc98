-- `radios::first_of_two` meets its contract: what is left of the list decides.
use Rattle.queries.proofs.AnswerLaws.{first_is_a, first_is_b, first_later, first_neither}
use Rattle.queries.proofs.radios.first_of_two.Goals as goal

pub returns-then-x-a : goal.returns-then-x-a
returns-then-x-a c =
    first_is_a c.args.a c.args.b c.args.order.now c.loop-entry.entry-index c.loop-entry-test.true c.loop-entry.invariant
    c.if-x-a.true

pub returns-then-x-b : goal.returns-then-x-b
returns-then-x-b c =
    first_is_b c.args.a c.args.b c.args.order.now c.loop-entry.entry-index c.loop-entry-test.true c.loop-entry.invariant
    c.if-x-a.false c.if-x-b.true

pub loop-entry-preserved : goal.loop-entry-preserved
loop-entry-preserved c =
    first_later c.args.a c.args.b c.args.order.now c.loop-entry.entry-index c.loop-entry-test.true c.loop-entry.invariant
    c.if-x-a.false c.if-x-b.false

pub returns : goal.returns
returns c =
    first_neither c.args.a c.args.b c.args.order.now c.loop-entry.entry-index c.loop-entry-test.false c.loop-entry.invariant
