-- `digits` meets its contract: a number has a digit more from each power of ten on.
use Rattle.lists.specs.Kit.{sym, arith}
use Rattle.text.proofs.DecimalLaws.{length_decimal_digit}
use Rattle.script.proofs.{ScriptLengths.{digits_two, digits_three}}
use Rattle.script.proofs.writer.digits.Goals as goal

pub returns-then-x-lt10 : goal.returns-then-x-lt10
returns-then-x-lt10 c = (sym (length_decimal_digit _ c.if-x-lt10.true), omega arith)

pub returns-then-x-lt100 : goal.returns-then-x-lt100
returns-then-x-lt100 c = (sym (digits_two _ c.if-x-lt10.false c.if-x-lt100.true), omega arith)

pub returns : goal.returns
returns c = (sym (digits_three _ c.if-x-lt100.false c.requires), omega arith)
