-- `layout::blocks_for` meets its contract: rounded up.
use Rattle.lists.specs.Kit.{sym, arith}
use Rattle.image.proofs.{LayoutLaws.{blocks_even, blocks_more}}
use Rattle.image.proofs.layout.blocks_for.Goals as goal

pub returns-then-entries-each-eq0 : goal.returns-then-entries-each-eq0
returns-then-entries-each-eq0 c = sym (blocks_even _ _ (omega arith) c.if-entries-each-eq0.true)

pub returns : goal.returns
returns c = sym (blocks_more _ _ (omega arith) (omega arith))
