-- `words::look` meets its contract: what both sets have is what the radio has left, and it is held or taken by that; the mathematics is in
-- `proofs.WordTurns`.
use Rattle.lists.specs.Kit.{refl, arith}
use Rattle.plan.proofs.WordTurns.{ends_ready, front_below, look_few, look_held, look_lowerable, look_taken, state_as}
use Rattle.plan.proofs.wide_walk.look.Goals as goal

pub join_after-requires : goal.join_after-requires
join_after-requires c =
    (_, ends_ready c.requires.site.1 _ (front_below c.requires.site.1 c.requires.state _ refl c.requires.free.0 c.requires.free.1))

pub overflow_cast-work : goal.overflow_cast-work
overflow_cast-work c =
    let near = rw c.empty-near.ensures at c.join_after.ensures in
    omega (
      arith,
      look_few c.requires.site.1 c.requires.state _ refl c.requires.free.0 c.requires.free.1 _ near.long near,
      c.count_common-c.ensures,
    )

pub bounds-work-v : goal.bounds-work-v
bounds-work-v c =
    omega (arith, front_below c.requires.site.1 c.requires.state _ refl c.requires.free.0 c.requires.free.1, c.requires.site.1.small)

pub join_after-requires-then-rise-c : goal.join_after-requires-then-rise-c
join_after-requires-then-rise-c c =
    (_, ends_ready c.requires.site.1 _ (front_below c.requires.site.1 c.requires.state _ refl c.requires.free.0 c.requires.free.1))

pub returns-then-rise-c : goal.returns-then-rise-c
returns-then-rise-c c =
    let near = rw c.empty-near.ensures at c.join_after.ensures in record {
      state = state_as refl c.put_in.ensures.joined refl refl c.put_in-then-rise-c.ensures.joined
          (look_held c.requires.site.1 c.requires.state _ refl c.requires.free.0 c.requires.free.1 _ near.long near _ c.count_common-c.ensures _
          c.join_after-then-rise-c.ensures
          c.if-rise-c.true);
      further = (refl, omega arith);
    }

pub lower-requires : goal.lower-requires
lower-requires c =
    let near = rw c.empty-near.ensures at c.join_after.ensures in
    look_lowerable c.requires.site.1 c.requires.state _ refl c.requires.free.0 c.requires.free.1 _ near.long near

pub returns : goal.returns
returns c =
    let near = rw c.empty-near.ensures at c.join_after.ensures in record {
      state = state_as c.take_out.ensures.left refl refl refl refl
          (look_taken c.requires.site.1 c.requires.state _ refl c.requires.free.0 c.requires.free.1 _ near.long near _ _ c.lower.ensures
          (omega (
            arith,
            c.count_common-c.ensures,
            c.if-rise-c.false,
          )));
      further = (refl, omega arith);
    }
