-- `is_few` meets its contract: agreed links are at most as many as radios heard, and counted along these.
use Rattle.conditions.proofs.AskLaws.{few_heard, few_counted, counted_whole}
use Rattle.hearing.proofs.questions.is_few.Goals as goal

pub returns-then-row_degree-le-NEIGHBOURS : goal.returns-then-row_degree-le-NEIGHBOURS
returns-then-row_degree-le-NEIGHBOURS c = λ n s l. few_heard _ _ s _ _ c.row_degree.ensures c.if-row_degree-le-NEIGHBOURS.true l

pub count_agreed-requires : goal.count_agreed-requires
count_agreed-requires c = counted_whole _ _ _ c.row_degree.ensures c.if-row_degree-le-NEIGHBOURS.false

pub returns : goal.returns
returns c = λ n s l. few_counted _ _ s _ _ c.count_agreed.ensures l
