-- `words::walk` meets its contract: each turn leaves a state of the walk. The measure is how far front and taken are from the end of the part.
use Rattle.rows.proofs.SetLaws.{in_set_zeros}
use Rattle.plan.proofs.{WalkSteps.{done_as}, WordTurns.{words_start, words_entries, words_end}}
use Rattle.plan.proofs.wide_walk.walk.Goals as goal

pub look-at-requires : goal.look-at-requires
look-at-requires c = record {
  site = c.requires.site;
  state = rw (c.empty.ensures, c.empty-2.ensures, c.empty-3.ensures, c.empty-4.ensures)
      (words_start c.requires.site.1 _ _ c.set_of.ensures.long c.set_of.ensures.is c.requires.room);
  free = (c.requires.site.1.some, λ p. rw c.empty-3.ensures (in_set_zeros 8 p));
}

pub list_entries-requires : goal.list_entries-requires
list_entries-requires c = words_entries c.requires.site.1 c.loop-turn.invariant.1

pub returns : goal.returns
returns c =
    record {
      start = c.plan_of.ensures.0;
      walked = done_as c.plan_of.ensures.1 c.plan_of.ensures.2
          (words_end c.requires.site.1 c.loop-turn.invariant.1 c.loop-turn.invariant.0 c.in_default.ensures _ c.list_entries.ensures);
    }
