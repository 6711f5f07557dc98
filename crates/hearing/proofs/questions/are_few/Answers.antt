-- `are_few` meets its contract: as few radios as a radio may have neighbours cannot have more agreed links; else the radios before a have few enough agreed
-- links (`FewBelow`), and one that has more decides.
use Rattle.lists.specs.Kit.{sym, ◌∙◌}
use Rattle.conditions.proofs.AskLaws.{few_small, few_end, few_no}
use Rattle.hearing.proofs.questions.are_few.Goals as goal

pub returns-then-n-le-NEIGHBOURS : goal.returns-then-n-le-NEIGHBOURS
returns-then-n-le-NEIGHBOURS c = few_small _ _ c.if-n-le-NEIGHBOURS.true

pub returns-then-not-is_few : goal.returns-then-not-is_few
returns-then-not-is_few c = few_no _ _ _ c.loop-a-test.true (sym (c.is_few.ensures _ c.requires c.loop-a-test.true) ∙ c.if-not-is_few.true)

pub returns : goal.returns
returns c = few_end _ _ _ c.loop-a.invariant c.loop-a-test.false
