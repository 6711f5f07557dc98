-- `ask` meets its contract: the tests are the questions, in their order.
use Rattle.lists.specs.Kit.{sym, ◌∙◌}
use Rattle.conditions.proofs.AskLaws.{refusal_fourteen, refusal_seven, refusal_none}
use Rattle.hearing.proofs.questions.ask.Goals as goal

pub returns-then-not-is_proper : goal.returns-then-not-is_proper
returns-then-not-is_proper c = refusal_fourteen _ _ (sym c.is_proper.ensures ∙ c.if-not-is_proper.true)

pub returns-then-not-are_few : goal.returns-then-not-are_few
returns-then-not-are_few c =
    let proper = sym c.is_proper.ensures ∙ c.if-not-is_proper.false in
    refusal_seven _ _ proper (sym c.are_few.ensures ∙ c.if-not-are_few.true)

pub returns : goal.returns
returns c =
    let proper = sym c.is_proper.ensures ∙ c.if-not-is_proper.false in
    refusal_none _ _ proper (sym c.are_few.ensures ∙ c.if-not-are_few.false)
