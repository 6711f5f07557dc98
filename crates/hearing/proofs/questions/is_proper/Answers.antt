-- `is_proper` meets its contract: the rows before row a got yes (`ProperBelow`), and a row that gets no decides.
use Rattle.lists.specs.Kit.{sym, ◌∙◌}
use Rattle.conditions.proofs.AskLaws.{proper_end, proper_own, proper_past}
use Rattle.hearing.proofs.questions.is_proper.Goals as goal

pub returns-then-is_marked : goal.returns-then-is_marked
returns-then-is_marked c = proper_own _ _ _ c.loop-a-test.true (sym c.is_marked.ensures ∙ c.if-is_marked.true)

pub returns-then-not-is_within : goal.returns-then-not-is_within
returns-then-not-is_within c = proper_past _ _ _ c.loop-a-test.true (sym c.is_within.ensures ∙ c.if-not-is_within.true)

pub returns : goal.returns
returns c = proper_end _ _ _ c.loop-a.invariant c.loop-a-test.false
