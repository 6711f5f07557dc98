-- `take_part` meets its contract: a radio that is not among the rest leaves all as it is; else the flood gives its part, and the
-- radios of the part's greatest number come into the set.
use Rattle.lists.specs.Kit.{sym, ◌∙◌}
use Rattle.queries.proofs.PartLaws.{visited_none, visited_tops}
use Rattle.queries.proofs.backbone.take_part.Goals as goal

pub returns-then-top-eq0 : goal.returns-then-top-eq0
returns-then-top-eq0 c =
    visited_none c.args.links.now c.args.numbers.now c.args.v c.args.rest.now c.args.set.now
    (sym c.has.ensures ∙ c.if-not-has.false) _ _ _ c.flood-k.ensures _ c.greatest_of-top.ensures c.if-top-eq0.true

pub returns : goal.returns
returns c =
    visited_tops c.args.links.now c.args.numbers.now c.args.v c.args.rest.now c.args.set.now
    (sym c.has.ensures ∙ c.if-not-has.false) _ _ _ c.flood-k.ensures _ c.greatest_of-top.ensures
    c.if-top-eq0.false _ c.put_tops.ensures
