-- `walk::step` meets its contract: the turn tells what is done; the mathematics is in `proofs.WalkSteps`.
use Rattle.lists.specs.Kit.{arith}
use Rattle.plan.proofs.WalkSteps.{back_turn, look_turn, pass_place, pass_turn}
use Rattle.plan.proofs.walk.step.Goals as goal

pub back-requires : goal.back-requires
back-requires c = record {
  site = (_, c.requires.site);
  state = c.requires.state;
  fallen = back_turn c.requires.site c.requires.state _ c.requires.turn _ c.in-Back.is;
}

pub look-requires : goal.look-requires
look-requires c = record {
  site = c.requires.site;
  state = c.requires.state;
  free = look_turn c.requires.site c.requires.state _ c.requires.turn _ c.in-Ahead.is c.if-until-at.true;
}

pub pass-requires : goal.pass-requires
pass-requires c =
    let place = pass_place c.requires.site c.requires.state _ c.requires.turn _ c.in-Ahead.is in (place.0, place.2, place.3)

pub overflow_sub-result : goal.overflow_sub-result
overflow_sub-result c = (pass_place c.requires.site c.requires.state _ c.requires.turn _ c.in-Ahead.is).0

pub returns-else-until-at : goal.returns-else-until-at
returns-else-until-at c =
    let place = pass_place c.requires.site c.requires.state _ c.requires.turn _ c.in-Ahead.is in record {
      state = pass_turn c.requires.site c.requires.state _ c.requires.turn _ c.in-Ahead.is _ c.pass.ensures;
      further = (omega (arith, place.0, c.if-until-at.false), omega (arith, place.0, c.if-until-at.false));
    }
