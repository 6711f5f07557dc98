-- `words::step` meets its contract: the turn tells what is done; the mathematics is in `proofs.WordTurns`.
use Rattle.lists.specs.Kit.{refl, sym, ◌∙◌, arith}
use Rattle.plan.proofs.WordTurns.{step_some, back_turn, front_turn, front_room, pass_done, state_as}
use Rattle.plan.proofs.wide_walk.step.Goals as goal

pub back-requires : goal.back-requires
back-requires c =
    record { site = c.requires.site; state = c.requires.state; fallen = back_turn c.requires.site.1 c.requires.state _ c.requires.turn _ c.in-Back.is }

pub bounds-ground-front : goal.bounds-ground-front
bounds-ground-front c =
    let free = front_turn c.requires.site.1 c.requires.state _ c.requires.turn _ c.in_default.is in omega (arith, free.0, c.requires.site.1.fits)

pub look-requires : goal.look-requires
look-requires c =
    record { site = c.requires.site; state = c.requires.state; free = front_turn c.requires.site.1 c.requires.state _ c.requires.turn _ c.in_default.is }

pub bounds-list-taken : goal.bounds-list-taken
bounds-list-taken c =
    let free = front_turn c.requires.site.1 c.requires.state _ c.requires.turn _ c.in_default.is in
    omega (arith, front_room c.requires.site.1 c.requires.state _ refl free.0 free.1, c.requires.state.room)

pub returns : goal.returns
returns c =
    let free = front_turn c.requires.site.1 c.requires.state _ c.requires.turn _ c.in_default.is in
    let some = step_some c.requires.site.1 c.requires.state _ c.requires.turn in record {
      state = state_as c.take_out.ensures.left refl refl refl refl
          (pass_done c.requires.site.1 c.requires.state _ refl free.0 free.1 (omega (arith, some)) (sym c.has.ensures ∙ c.if-has.false));
      further = (omega arith, omega arith);
    }
