-- `lines::digit_of` meets its contract: the pattern is the test.
use Rattle.lists.specs.Kit.{arith}
use Rattle.script.proofs.LineLaws.{digit_in, digit_below, digit_above}
use Rattle.script.proofs.lines.digit_of.Goals as goal

pub returns-in-48-to-57 : goal.returns-in-48-to-57
returns-in-48-to-57 c = digit_in c.args.byte (omega arith) (omega arith)

pub returns-in_default : goal.returns-in_default
returns-in_default c = digit_below c.args.byte (omega arith)

pub returns-in_default-2 : goal.returns-in_default-2
returns-in_default-2 c = digit_above c.args.byte (omega arith)
