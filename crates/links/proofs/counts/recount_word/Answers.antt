-- `counts::recount_word` meets its contract: each turn takes the lowest set bit off the word and counts its radio anew, and what is left of
-- the set bits brings the counts to what all of them bring them to (`WordRecounting`). The measure is the word that is left.
use Rattle.std.specs.Prelude.{◌+◌}
use Rattle.lists.specs.Kit.{ap, ℕ, arith, count_trailing_zeros, set}
use Rattle.links.proofs.CountLaws.{lowest_known, word_recounted, word_recounted_end}
use Rattle.links.proofs.counts.recount_word.Goals as goal

pub high_of-requires : goal.high_of-requires
high_of-requires c = (c.requires.0, lowest_known _ _ _ _ _ _ c.loop-rest.rest _ c.loop-rest-test.true c.loop-rest.invariant)

pub bounds-not_lower-v : goal.bounds-not_lower-v
bounds-not_lower-v c =
    omega (arith, lowest_known _ _ _ _ _ _ c.loop-rest.rest _ c.loop-rest-test.true c.loop-rest.invariant, c.requires.0.small)

pub loop-rest-preserved : goal.loop-rest-preserved
loop-rest-preserved c =
    word_recounted _ _ _ _ _ _ c.loop-rest.rest _ c.loop-rest-test.true c.loop-rest.invariant _
    (ap (λ (x : ℕ). set c.loop-rest.not_lower (c.args.first + count_trailing_zeros 64 c.loop-rest.rest) x) c.high_of.ensures)

pub returns : goal.returns
returns c = word_recounted_end _ _ _ _ _ _ _ _ c.loop-rest-test.false c.loop-rest.invariant
