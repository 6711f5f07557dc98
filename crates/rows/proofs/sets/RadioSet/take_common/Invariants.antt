-- `RadioSet::take_common` meets its contract: the words before word k are done, their radios listed and taken out (`CommonTaking`). The
-- measure is the words that are left.
use Rattle.rows.proofs.SetLaws.{CommonTaking}
use Rattle.rows.proofs.sets.RadioSet.take_common.Given as goal

abbrev pub invariant-loop-k : goal.invariant-loop-k
invariant-loop-k l = CommonTaking l.other-inside.words l.initial.self-inside.words l.initial.list l.n l.k l.self-inside.words l.list
