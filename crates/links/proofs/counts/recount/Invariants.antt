-- `counts::recount` meets its contract: the words of the set are counted one by one, and the radios from word k on bring the counts to what
-- all of them bring them to (`SetRecounting`).
use Rattle.lists.specs.Kit.{length}
use Rattle.links.proofs.{CountLaws.{SetRecounting}}
use Rattle.links.proofs.counts.recount.Given as goal

abbrev pub invariant-loop-k : goal.invariant-loop-k
invariant-loop-k l = SetRecounting (length l.numbers) l.links l.numbers l.set l.initial.not_lower l.k l.not_lower
