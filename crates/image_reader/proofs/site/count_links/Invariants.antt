-- `site::count_links` meets its contract: the blocks passed are counted in both tables.
use Rattle.std.specs.Prelude.{◌≡◌}
use Rattle.lists.specs.Kit.{[], length}
use Rattle.image_reader.specs.Site.{links_before, Tallied}
use Rattle.image_reader.proofs.site.count_links.Given as goal

abbrev pub invariant-loop-q : goal.invariant-loop-q
invariant-loop-q l = (length l.counts ≡ length l.initial.counts) × (length l.later ≡ length l.initial.later) × Tallied l.header.radios [] 1
    (links_before l.header l.q l.image) l.counts × Tallied l.header.radios l.places 0 (links_before l.header l.q l.image) l.later
