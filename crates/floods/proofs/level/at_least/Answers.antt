-- `level::at_least` meets its contract: the words before word k are the level's (`LevelSetting`). The measure is the words that
-- are left.
use Rattle.floods.proofs.{LevelLaws.{level_setting_end}}
use Rattle.floods.proofs.level.at_least.Goals as goal

pub returns-clause-level : goal.returns-clause-level
returns-clause-level c = rw c.of.ensures (level_setting_end _ _ c.loop-k.k c.loop-k.words c.loop-k-test.false c.loop-k.invariant)
