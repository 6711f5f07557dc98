-- `level::at_least` meets its contract: the words before word k are the level's (`LevelSetting`). The measure is the words that
-- are left.
use Rattle.floods.proofs.{LevelLaws.{LevelSetting}}
use Rattle.floods.proofs.level.at_least.Given as goal

abbrev pub invariant-loop-k : goal.invariant-loop-k
invariant-loop-k l = LevelSetting l.numbers l.level l.k l.words
