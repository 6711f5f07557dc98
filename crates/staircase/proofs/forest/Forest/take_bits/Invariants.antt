-- `take_bits` meets its contract: each turn takes the lowest set bit off the word, and what is left gives what the whole word gives
-- (`Taking`). The measure is the word that is left.
use Rattle.std.specs.Prelude.{◌^◌, ◌<◌}
use Rattle.rows.{specs.Rows.{set_bits}, specs.Links.{links_to}}
use Rattle.staircase.proofs.TakingLaws.{Taking}
use Rattle.staircase.proofs.forest.Forest.take_bits.Given as goal

abbrev pub invariant-loop-rest : goal.invariant-loop-rest
invariant-loop-rest l = (l.rest < 2 ^ 64) × Taking (links_to l.a (set_bits 64 l.first l.word)) l.initial.self
    (links_to l.a (set_bits 64 l.first l.rest)) l.self

abbrev pub decreases-loop-rest : goal.decreases-loop-rest
decreases-loop-rest l = l.rest
