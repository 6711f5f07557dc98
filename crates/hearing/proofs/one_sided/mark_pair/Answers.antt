-- `mark_pair` meets its contract: the test is that of `alone_put`.
use Rattle.lists.specs.Kit.{sym, ◌∙◌}
use Rattle.conditions.proofs.MarkLaws.{pair_heard, pair_alone}
use Rattle.hearing.proofs.one_sided.mark_pair.Goals as goal

pub returns-then-is_marked : goal.returns-then-is_marked
returns-then-is_marked c = pair_heard _ _ _ _ (sym c.is_marked.ensures ∙ c.if-is_marked.true)

pub returns : goal.returns
returns c = pair_alone _ _ _ _ _ (sym c.is_marked.ensures ∙ c.if-is_marked.false) c.put_bit.ensures
