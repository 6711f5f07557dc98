-- `RadioSet::take_set` meets its contract: the words before word k are without the other set's bits (`Changing`). The measure is the words
-- that are left.
use Rattle.lists.specs.Kit.{get_or}
use Rattle.rows.specs.Sets.{word_left}
use Rattle.rows.proofs.{SetLaws.{Changing}}
use Rattle.rows.proofs.sets.RadioSet.take_set.Given as goal

abbrev pub invariant-loop-k : goal.invariant-loop-k
invariant-loop-k l = Changing (λ j w. word_left (get_or l.other-inside.words j 0) w) l.initial.self-inside.words l.k l.self-inside.words
