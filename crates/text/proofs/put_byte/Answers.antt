-- `text::put_byte` meets its contract: each branch is a case of one step of `put`.
use Rattle.lists.specs.Kit.{arith, rules}
use Rattle.text.proofs.{PrintLaws.{puts_byte_in, puts_byte_past, puts_byte_last}}
use Rattle.text.proofs.put_byte.Goals as goal

pub returns-then-at-buffer : goal.returns-then-at-buffer
returns-then-at-buffer c = puts_byte_in c.args.buffer.now c.args.at c.args.byte (omega arith)

pub returns-then-at-lt18446744073709551615 : goal.returns-then-at-lt18446744073709551615
returns-then-at-lt18446744073709551615 c = search (rules, puts_byte_past)

pub returns : goal.returns
returns c = search (rules, puts_byte_last)
