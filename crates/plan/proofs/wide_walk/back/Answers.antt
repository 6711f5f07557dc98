-- `words::back` meets its contract: the candidate leaves the sets, and the candidates among its neighbours lose one; the mathematics is in
-- `proofs.WordTurns`.
use Rattle.lists.specs.Kit.{refl, arith}
use Rattle.plan.proofs.WordTurns.{ends_ready, back_place, back_below, back_fits, back_lowerable, back_done, lowerable_as, lowered_as, state_as}
use Rattle.plan.proofs.wide_walk.back.Goals as goal

pub overflow_sub-v : goal.overflow_sub-v
overflow_sub-v c = (back_place c.requires.site.1 c.requires.state c.args.p c.requires.fallen.0 c.requires.fallen.1).0

pub bounds-ground-p : goal.bounds-ground-p
bounds-ground-p c =
    omega (arith, (back_place c.requires.site.1 c.requires.state c.args.p c.requires.fallen.0 c.requires.fallen.1).2, c.requires.site.1.fits)

pub join_after-requires : goal.join_after-requires
join_after-requires c =
    (_, ends_ready c.requires.site.1 _ (back_below c.requires.site.1 c.requires.state c.args.p c.requires.fallen.0 c.requires.fallen.1 _ refl))

pub bounds-list-taken : goal.bounds-list-taken
bounds-list-taken c =
    omega (arith, back_fits c.requires.site.1 c.requires.state c.args.p c.requires.fallen.0 c.requires.fallen.1 _ refl, c.requires.state.room)

pub lower-requires : goal.lower-requires
lower-requires c =
    let near = rw c.empty-near.ensures at c.join_after.ensures in
    lowerable_as _ c.take_out-3.ensures.left
    (back_lowerable c.requires.site.1 c.requires.state c.args.p c.requires.fallen.0 c.requires.fallen.1 _ refl _ near.long near)

pub returns : goal.returns
returns c =
    let near = rw c.empty-near.ensures at c.join_after.ensures in
    record {
      state = state_as c.take_out-4.ensures.left c.take_out-3.ensures.left refl refl
          c.take_out-2.ensures.left
          (back_done c.requires.site.1 c.requires.state c.args.p c.requires.fallen.0 c.requires.fallen.1 _ refl _ near.long near _ _
          (lowered_as _ c.take_out-3.ensures.left c.take_out.ensures.left c.lower.ensures));
      further = (refl, refl);
    }
