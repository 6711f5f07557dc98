-- `machine::finish` meets its contract: bytes are held exactly where the smaller of their count and the line's room is not 0.
use Rattle.lists.specs.Kit.{sym, ◌∙◌}
use Rattle.player.proofs.{MachineLaws.{puts_open, puts_closing}}
use Rattle.player.proofs.machine.finish.Goals as goal

pub returns-then-held-ne0 : goal.returns-then-held-ne0
returns-then-held-ne0 c =
    puts_open c.args.line.now c.args.numbers.now c.args.order.now c.args.s.number c.args.s.held
    (λ e. c.if-held-ne0.true (c.least-held.ensures ∙ e)) c.put_bad_line.ensures

pub returns : goal.returns
returns c =
    puts_closing c.args.line.now c.args.numbers.now c.args.order.now c.args.s.number c.args.s.held
    (sym c.least-held.ensures ∙ c.if-held-ne0.false) c.put_numbers_line-place.ensures
    c.put_order_line.ensures
