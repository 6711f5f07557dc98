-- `hear::hear` meets its contract: a refusal touches nothing but scratch; else the one-sided pairs are marked, and both phases are done.
use Rattle.lists.specs.Kit.{refl, arith}
use Rattle.mesh.specs.Tables.{tables}
use Rattle.calls.{specs.Heard.{heard_lengths}, proofs.AnswerLaws.{refused_not}}
use Rattle.hearing.proofs.HearCall.{hear_refused, hear_size, hear_refused_rows, hear_ready, hear_done}
use Rattle.hearing.proofs.hear.hear.Goals as goal

pub returns-in-Err : goal.returns-in-Err
unfolding heard_lengths
returns-in-Err c =
    hear_refused c.args.n c.args.heard.now c.args.one_sided.now (tables c.args.links.now c.args.numbers.now c.args.order.now) _ _ _
    c.in-Err.ensures (refused_not c.in-Err.refusal)

pub ask-requires : goal.ask-requires
unfolding heard_lengths
ask-requires c = hear_size c.args.n c.args.heard.now c.args.one_sided.now (tables c.args.links.now c.args.numbers.now c.args.order.now) _ _ _
    c.in_default.ensures refl

pub returns-in-Err-ask : goal.returns-in-Err-ask
unfolding heard_lengths
returns-in-Err-ask c =
    hear_refused_rows c.args.n c.args.heard.now c.args.one_sided.now (tables c.args.links.now c.args.numbers.now c.args.order.now) _ _ _
    c.in_default.ensures refl
    _ c.in-Err-ask.ensures (refused_not c.in-Err-ask.refusal)

pub mark-count-requires : goal.mark-count-requires
unfolding heard_lengths
mark-count-requires c = hear_size c.args.n c.args.heard.now c.args.one_sided.now (tables c.args.links.now c.args.numbers.now c.args.order.now) _ _ _
    c.in_default.ensures refl

pub bring-requires : goal.bring-requires
unfolding heard_lengths
bring-requires c =
    hear_ready c.args.n c.args.heard.now c.args.one_sided.now (tables c.args.links.now c.args.numbers.now c.args.order.now) _ _ _
    c.in_default.ensures refl
    _ c.in_default-ask.ensures refl (omega arith) (omega arith) _ _ c.mark-count.ensures

pub returns : goal.returns
unfolding heard_lengths
returns c =
    hear_done c.args.n c.args.heard.now c.args.one_sided.now (tables c.args.links.now c.args.numbers.now c.args.order.now) _ _ _
    c.in_default.ensures refl
    _ c.in_default-ask.ensures refl (omega arith) (omega arith) _ _ c.mark-count.ensures _ c.bring.ensures
