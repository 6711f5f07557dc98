-- `site::are_listed` meets its contract: what the blocks passed and the rest decide is what all links decide.
use Rattle.image_reader.specs.Site.{passed, Listed}
use Rattle.image_reader.proofs.site.are_listed.Given as goal

abbrev pub invariant-loop-q : goal.invariant-loop-q
invariant-loop-q l = Listed l.header l.image l.last (passed l.header.links l.q)
