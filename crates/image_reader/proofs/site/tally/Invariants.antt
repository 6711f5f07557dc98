-- `site::tally` meets its contract: the blocks passed are counted.
use Rattle.std.specs.Prelude.{◌≡◌}
use Rattle.lists.specs.Kit.{length}
use Rattle.image_reader.specs.Site.{links_before, Tallied}
use Rattle.image_reader.proofs.site.tally.Given as goal

abbrev pub invariant-loop-q : goal.invariant-loop-q
invariant-loop-q l = (length l.counts ≡ length l.initial.counts) × Tallied l.header.radios l.ranks l.slack (links_before l.header l.q l.image) l.counts
