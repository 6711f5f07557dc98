-- `lines::read_alone` meets its contract: the tests decide whether anything follows the number.
use Rattle.script.proofs.{LineLaws.{alone_none, alone_other, alone_is}}
use Rattle.script.proofs.lines.read_alone.Goals as goal

pub returns-in_default : goal.returns-in_default
returns-in_default c = alone_none c.args.s.now c.in_default.ensures

pub returns-then-r-s : goal.returns-then-r-s
returns-then-r-s c = alone_other c.args.s.now _ _ c.in-Some.ensures c.if-r-s.true

pub returns : goal.returns
returns c = alone_is c.args.s.now _ _ c.in-Some.ensures c.if-r-s.false
