-- `walk::walk` meets its contract: each turn leaves a state of the walk. The measure is how far front and taken are from the end of the part.
use Rattle.plan.proofs.WalkSteps.{start_state, start_free, walk_end, walk_entries, done_as}
use Rattle.plan.proofs.walk.walk.Goals as goal

pub look-at-requires : goal.look-at-requires
look-at-requires c = record {
  site = c.requires.site;
  state = rw (c.empty.ensures, c.empty-2.ensures) (start_state c.requires.site _ c.requires.room);
  free = rw c.empty.ensures (start_free c.requires.site);
}

pub list_entries-requires : goal.list_entries-requires
list_entries-requires c = walk_entries c.requires.site c.loop-turn.invariant.1

pub returns : goal.returns
returns c =
    record {
      start = c.plan_of.ensures.0;
      walked = done_as c.plan_of.ensures.1 c.plan_of.ensures.2
          (walk_end c.requires.site c.loop-turn.invariant.1 c.loop-turn.invariant.0 c.in_default.ensures _ c.list_entries.ensures);
    }
