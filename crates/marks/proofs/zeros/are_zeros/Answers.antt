-- `zeros::are_zeros` meets its contract: a first byte that is not zero decides, else all are joined.
use Rattle.lists.specs.Kit.{sym, arith}
use Rattle.marks.proofs.{Left.{first_nonzero}}
use Rattle.marks.proofs.zeros.are_zeros.Goals as goal

pub returns-then-bytes-ne0-2 : goal.returns-then-bytes-ne0-2
returns-then-bytes-ne0-2 c = sym (first_nonzero _ (omega arith) c.if-bytes-ne0-2.true)
