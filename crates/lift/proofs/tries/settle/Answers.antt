-- `tries::settle` meets its contract: the peel shows that no pair of a lifts r (`settled_none`), or some untried radios are ruled out
-- (`settled_first`).
use Rattle.lists.{specs.Kit.{refl, arith}, proofs.Tests.{never}}
use Rattle.lift.proofs.TrySteps.{site_links, site_small, settled_none, settled_first, ruled_fewer}
use Rattle.lift.proofs.tries.settle.Goals as goal

pub run-requires : goal.run-requires
run-requires c =
    let at = c.requires.4 in (
      site_links _ _ _ c.requires.0.site,
      record { base = at.base; kept = at.kept; stop_there = at.base.there },
      omega (arith, c.requires.2, site_small _ _ _ c.requires.0.site),
    )

pub returns-then-not-run : goal.returns-then-not-run
returns-then-not-run c = record {
  is = settled_none _ _ _ c.requires.0.site c.args.p.now.r c.requires.1 _ _ _ _ c.run.ensures c.if-not-run.true c.requires.3;
  fewer = omega arith;
}

pub rule_out-requires : goal.rule_out-requires
rule_out-requires c = site_small _ _ _ c.requires.0.site

pub returns : goal.returns
returns c = record {
  is = settled_first _ _ _ c.requires.0.site c.args.p.now.r c.requires.1 _ _ _ _ c.run.ensures c.if-not-run.false c.requires.3 _ c.rule_out.ensures _
      c.first_common.ensures;
  fewer = ruled_fewer _ _ _ c.requires.0.site c.args.p.now.r c.requires.1 _ _ c.run.ensures.peeling _ (λ q. never _ q refl) _ _ c.requires.3
      c.rule_out.ensures;
}
