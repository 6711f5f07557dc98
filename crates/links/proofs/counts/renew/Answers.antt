-- `counts::renew` meets its contract: the set has the touched radios, which are all radios of the site.
use Rattle.lists.specs.{Kit.{ap, subst, ◌∙◌, List, ℕ, arith, length}, Lists.{In}}
use Rattle.links.specs.Steps.{recounted}
use Rattle.links.proofs.{CountLaws.{touched_listed, touched_radio}}
use Rattle.links.proofs.counts.renew.Goals as goal

pub recount-requires : goal.recount-requires
recount-requires c =
    let is =
    touched_listed c.args.a c.args.b c.args.list.now c.args.links.now _ _ _ (omega (arith, c.requires.2, c.requires.0.small))
    (omega (arith, c.requires.3, c.requires.0.small)) (rw c.empty-set.ensures at c.join_all.ensures) c.put_in.ensures.joined c.put_in.ensures.long
    c.put_in-2.ensures.joined in (
      c.requires.0,
      c.requires.1,
      λ v i. touched_radio (length c.args.numbers.now) c.args.a c.args.b c.args.list.now c.args.links.now c.requires.0 c.requires.2
          c.requires.3 c.requires.4 v (subst (λ (vs : List ℕ). In v vs) is i),
    )

pub returns : goal.returns
returns c =
    let is =
    touched_listed c.args.a c.args.b c.args.list.now c.args.links.now _ _ _ (omega (arith, c.requires.2, c.requires.0.small))
    (omega (arith, c.requires.3, c.requires.0.small)) (rw c.empty-set.ensures at c.join_all.ensures) c.put_in.ensures.joined c.put_in.ensures.long
    c.put_in-2.ensures.joined in
    c.recount.ensures ∙ ap (λ (vs : List ℕ). recounted c.args.links.now c.args.numbers.now vs c.args.not_lower.now) is
