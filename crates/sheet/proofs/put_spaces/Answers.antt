-- `put_spaces` meets its contract: the spaces that are left take the page where all of them do (`Spaces`).
use Rattle.lists.specs.Kit.{arith}
use Rattle.text.proofs.PrintLaws.{length_putting}
use Rattle.sheet.proofs.{PutLaws.{spaces_none, spaces_next, spaces_last}}
use Rattle.sheet.proofs.put_spaces.Goals as goal

pub loop-i-init : goal.loop-i-init
loop-i-init c = spaces_none _ _ _

pub overflow_add-page : goal.overflow_add-page
overflow_add-page c = omega (arith, c.requires)

pub bounds-page-at : goal.bounds-page-at
bounds-page-at c = omega (arith, c.requires, length_putting c.loop-i.invariant.is)

pub loop-i-preserved : goal.loop-i-preserved
loop-i-preserved c = spaces_next (omega arith) (omega (arith, c.requires)) c.loop-i.invariant

pub returns : goal.returns
returns c = spaces_last (omega arith) c.loop-i.invariant
