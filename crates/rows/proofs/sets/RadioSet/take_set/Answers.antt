-- `RadioSet::take_set` meets its contract: the words before word k are without the other set's bits (`Changing`). The measure is the words
-- that are left.
use Rattle.lists.specs.Kit.{refl}
use Rattle.rows.specs.Sets.{word_left}
use Rattle.rows.proofs.{SetLaws.{changing_turn, set_taken_end}}
use Rattle.rows.proofs.sets.RadioSet.take_set.Goals as goal

pub loop-k-preserved : goal.loop-k-preserved
unfolding word_left
loop-k-preserved c = changing_turn _ _ c.loop-k.k _ c.loop-k.self-inside.words c.loop-k-test.true refl c.loop-k.invariant

pub returns : goal.returns
returns c =
    rw (← c.self.view_is, ← c.other.view_is)
    (set_taken_end _ _ c.loop-k.self-inside.words c.loop-k.k c.loop-k-test.false c.self.invariant c.loop-k.invariant)
