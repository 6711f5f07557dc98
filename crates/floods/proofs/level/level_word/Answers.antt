-- `level::level_word` meets its contract: the first i bits are told, and no other one is set (`LevelWording`). The measure is what is
-- left of the bits.
use Rattle.std.specs.Prelude.{◌+◌}
use Rattle.lists.{specs.Kit.{arith, leb, get_or, rules}, proofs.Tests.{byte_bit}}
use Rattle.floods.proofs.LevelLaws.{level_wording_none, level_wording_turn, level_wording_end, level_word_past}
use Rattle.floods.proofs.level.level_word.Goals as goal

pub returns-then-numbers-first : goal.returns-then-numbers-first
returns-then-numbers-first c = search (rules, level_word_past)

pub loop-i-init : goal.loop-i-init
loop-i-init c = search (rules, level_wording_none)

pub loop-i-preserved : goal.loop-i-preserved
loop-i-preserved c =
    level_wording_turn c.args.numbers.now c.args.level c.args.first c.least-many.result c.loop-i.word c.loop-i.i _
    (omega (arith, c.least-many.ensures)) c.loop-i-test.true
    (byte_bit (leb c.args.level (get_or c.args.numbers.now (c.args.first + c.loop-i.i) 0))) c.loop-i.invariant

pub returns : goal.returns
returns c = search (rules, level_wording_end)
