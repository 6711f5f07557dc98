-- `walk::look` meets its contract: the listed neighbours are the ones after the call, what is counted of them is what the radio has left,
-- and it is held or taken by that; the mathematics is in `proofs.WalkMade`.
use Rattle.lists.specs.Kit.{refl, arith, length}
use Rattle.mesh.specs.Limits.{max_neighbours, max_radios}
use Rattle.plan.proofs.{WalkTurns.{near_ready}, WalkMade.{listed_known, look_below, look_release, look_holds, look_takes}}
use Rattle.plan.proofs.walk.look.Goals as goal

pub neighbours_after-k-requires : goal.neighbours_after-k-requires
neighbours_after-k-requires c = near_ready c.requires.site _ (look_below c.requires.site c.requires.state c.requires.free) max_neighbours refl

pub bounds-work-v-then-rise-c : goal.bounds-work-v-then-rise-c
bounds-work-v-then-rise-c c = omega (arith, look_below c.requires.site c.requires.state c.requires.free, c.requires.site.small)

pub touch-requires : goal.touch-requires
touch-requires c =
    (listed_known c.requires.site _ _ _ (length c.args.numbers.now) (look_below c.requires.site c.requires.state c.requires.free)
    (omega (arith, c.requires.site.numbers_length)) c.neighbours_after-k.ensures c.neighbours_after-k.auto.near).1

pub returns-then-rise-c : goal.returns-then-rise-c
returns-then-rise-c c =
    record {
      state = look_holds c.requires.site c.requires.state c.requires.free _ _ c.neighbours_after-k.ensures _ c.take_out.ensures.left _ _ _
          c.count_left-c.ensures
          c.if-rise-c.true c.touch.ensures c.put_in.ensures.joined;
      further = (refl, omega arith);
    }

pub release-requires : goal.release-requires
release-requires c =
    look_release c.requires.site c.requires.state c.requires.free _ _ c.neighbours_after-k.ensures _ c.take_out.ensures.left

pub returns : goal.returns
returns c =
    record {
      state = look_takes c.requires.site c.requires.state c.requires.free _ _ c.neighbours_after-k.ensures _ c.take_out.ensures.left _ _ _
          c.count_left-c.ensures
          c.if-rise-c.false c.release.ensures.counted c.release.ensures.marked;
      further = (refl, omega arith);
    }

pub count_left-c-requires : goal.count_left-c-requires
count_left-c-requires c =
    listed_known c.requires.site _ _ _ max_radios (look_below c.requires.site c.requires.state c.requires.free) c.requires.site.small
    c.neighbours_after-k.ensures c.neighbours_after-k.auto.near

pub bounds-work-v : goal.bounds-work-v
bounds-work-v c = omega (arith, look_below c.requires.site c.requires.state c.requires.free, c.requires.site.small)
