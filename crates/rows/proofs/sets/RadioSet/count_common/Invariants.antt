-- `RadioSet::count_common` meets its contract: what is counted so far and the radios from word k on are all (`CommonCounting`). The measure
-- is the words that are left.
use Rattle.rows.proofs.SetLaws.{CommonCounting}
use Rattle.rows.proofs.sets.RadioSet.count_common.Given as goal

abbrev pub invariant-loop-k : goal.invariant-loop-k
invariant-loop-k l = CommonCounting l.self-inside.words l.other-inside.words l.n l.k
