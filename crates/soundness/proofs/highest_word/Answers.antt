-- `soundness::highest_word` meets its contract: no bit, every bit, or the bits below the one after the last.
use Rattle.std.specs.Prelude.{◌-◌}
use Rattle.lists.specs.Kit.{arith}
use lib.Pow.{pow_pos}
use Rattle.conditions.proofs.HighestWord.{highest_word_none, highest_word_whole, bit_after, highest_word_part}
use Rattle.soundness.proofs.highest_word.Goals as goal

pub returns-then-n-first : goal.returns-then-n-first
returns-then-n-first c = highest_word_none _ _ c.if-n-first.true

pub returns-then-many-ge-WORD_BITS : goal.returns-then-many-ge-WORD_BITS
returns-then-many-ge-WORD_BITS c = highest_word_whole _ _ c.if-many-ge-WORD_BITS.true

pub overflow_sub-result : goal.overflow_sub-result
overflow_sub-result c = omega (arith, bit_after (c.args.n - c.args.first) c.if-many-ge-WORD_BITS.false, pow_pos (c.args.n - c.args.first))

pub returns : goal.returns
returns c = highest_word_part _ _ c.if-many-ge-WORD_BITS.false
