-- `put_top` meets its contract: the test is that of `top_put`.
use Rattle.lists.specs.Kit.{eq-eqb, ne_eqb}
use Rattle.queries.specs.Parts.{top_put}
use Rattle.queries.proofs.backbone.put_top.Goals as goal

pub returns-then-number_in-top : goal.returns-then-number_in-top
unfolding top_put
returns-then-number_in-top c = rw (← c.number_in.ensures, ne_eqb _ _ c.if-number_in-top.true)

pub returns : goal.returns
unfolding top_put
returns c = rw (← c.number_in.ensures, eq-eqb _ _ c.if-number_in-top.false) c.put_in.ensures.joined
