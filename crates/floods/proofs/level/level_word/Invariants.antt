-- `level::level_word` meets its contract: the first i bits are told, and no other one is set (`LevelWording`). The measure is what is
-- left of the bits.
use Rattle.floods.proofs.LevelLaws.{LevelWording}
use Rattle.floods.proofs.level.level_word.Given as goal

abbrev pub invariant-loop-i : goal.invariant-loop-i
invariant-loop-i l = LevelWording l.numbers l.level l.first l.many l.word l.i
