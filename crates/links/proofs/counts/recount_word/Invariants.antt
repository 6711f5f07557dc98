-- `counts::recount_word` meets its contract: each turn takes the lowest set bit off the word and counts its radio anew, and what is left of
-- the set bits brings the counts to what all of them bring them to (`WordRecounting`). The measure is the word that is left.
use Rattle.lists.specs.Kit.{length}
use Rattle.links.proofs.CountLaws.{WordRecounting}
use Rattle.links.proofs.counts.recount_word.Given as goal

abbrev pub invariant-loop-rest : goal.invariant-loop-rest
invariant-loop-rest l = WordRecounting (length l.numbers) l.links l.numbers l.first l.word l.initial.not_lower l.rest l.not_lower

abbrev pub decreases-loop-rest : goal.decreases-loop-rest
decreases-loop-rest l = l.rest
