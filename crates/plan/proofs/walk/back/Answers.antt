-- `walk::back` meets its contract: the candidate's mark goes, and its neighbours are released; the mathematics is in `proofs.WalkMade`.
use Rattle.lists.specs.Kit.{refl, arith}
use Rattle.plan.proofs.{WalkMade.{back_place, back_below, back_fits, back_takes, back_made}}
use Rattle.plan.proofs.walk.back.Goals as goal

pub overflow_sub-v : goal.overflow_sub-v
overflow_sub-v c = (back_place c.requires.site.1 c.requires.state c.args.p c.requires.fallen).0

pub bounds-work-v : goal.bounds-work-v
bounds-work-v c = omega (arith, back_below c.requires.site.1 c.requires.state c.args.p c.requires.fallen, c.requires.site.1.small)

pub bounds-list-taken : goal.bounds-list-taken
bounds-list-taken c = omega (arith, back_fits c.requires.site.1 c.requires.state c.args.p c.requires.fallen)

pub take_radio-requires : goal.take_radio-requires
take_radio-requires c = back_takes c.requires.site.1 c.requires.state c.args.p c.requires.fallen

pub returns : goal.returns
returns c =
    record {
      state = back_made c.requires.site.1 c.requires.state c.args.p c.requires.fallen _ _ _ c.take_radio.ensures.counted c.take_radio.ensures.marked
          c.take_out.ensures.left;
      further = (refl, refl);
    }
