-- `RadioSet::take_common` meets its contract: the words before word k are done, their radios listed and taken out (`CommonTaking`). The
-- measure is the words that are left.
use Rattle.rows.proofs.SetLaws.{common_taking_turn, common_taking_end}
use Rattle.rows.proofs.sets.RadioSet.take_common.Goals as goal

pub loop-k-preserved : goal.loop-k-preserved
loop-k-preserved c =
    common_taking_turn c.other.inside.words c.self.inside.words c.args.list.now c.loop-k.n c.loop-k.k _ c.loop-k.self-inside.words
    c.loop-k.list
    _ _
    c.loop-k-test.true c.take_word-n.ensures.counted c.take_word-n.ensures.listed c.take_word-n.ensures.left c.loop-k.invariant

pub returns : goal.returns
returns c =
    rw (← c.self.view_is, ← c.other.view_is)
    (common_taking_end _ _ _ c.loop-k.n c.loop-k.k c.loop-k.self-inside.words c.loop-k.list c.loop-k-test.false c.self.invariant
    c.loop-k.invariant)
