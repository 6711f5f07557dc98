-- `tries::lifts` meets its contract: the peel goes through with both ends (`tried_found`), or what it took rules the pair out (`tried_not`).
use Rattle.lists.{specs.Kit.{◌∙◌, ap, refl}}
use Rattle.rows.specs.Sets.{put_in}
use Rattle.lift.proofs.TrySteps.{site_links, site_small, settled_radio, settled_small, pair_begin, tried_found, tried_not}
use Rattle.lift.proofs.tries.lifts.Goals as goal

pub stop_of-requires : goal.stop_of-requires
stop_of-requires c = settled_radio _ _ _ c.requires.0.site c.args.p.now.r c.requires.1 _ _ _ _ c.requires.2

pub run-requires : goal.run-requires
run-requires c = (
  site_links _ _ _ c.requires.0.site,
  pair_begin _ _ _ c.requires.0.site c.args.p.now.r c.requires.1 _ _ _ _ c.requires.2 _
      (c.put_in.ensures.joined ∙ ap (put_in c.args.b) c.empty-held.ensures) _ c.stop_of.ensures _ refl,
  settled_small _ _ _ c.requires.0.site c.args.p.now.r c.requires.1 _ _ _ _ c.requires.2,
)

pub returns-then-run : goal.returns-then-run
returns-then-run c =
    tried_found _ _ _ c.requires.0.site c.args.p.now.r c.requires.1 _ _ _ _ c.requires.2 _
    (c.put_in.ensures.joined ∙ ap (put_in c.args.b) c.empty-held.ensures) _ c.stop_of.ensures _ _ c.run.ensures c.if-run.true

pub rule_out-requires : goal.rule_out-requires
rule_out-requires c = site_small _ _ _ c.requires.0.site

pub returns : goal.returns
returns c =
    tried_not _ _ _ c.requires.0.site c.args.p.now.r c.requires.1 _ _ _ _ c.requires.2 _
    (c.put_in.ensures.joined ∙ ap (put_in c.args.b) c.empty-held.ensures) _ c.stop_of.ensures _ _ c.run.ensures c.if-run.false _ c.is_gone-gone.ensures _ _
    c.rule_out.ensures c.take_out.ensures.long c.take_out.ensures.left
