-- `soundness::row_checked` meets its contract: each test is one condition of `row_good`.
use Rattle.lists.specs.Kit.{refl}
use Rattle.soundness.proofs.RowChecks.{row_room, row_ends_bad, row_later_bad, row_high_bad, row_right}
use Rattle.soundness.proofs.row_checked.Goals as goal

pub count_ends-requires : goal.count_ends-requires
count_ends-requires c = row_room _ _ _ _ _ _ c.requires.0 c.requires.1 c.requires.2

pub returns-in_default : goal.returns-in_default
returns-in_default c = row_ends_bad _ _ _ _ _ c.requires.0 _ _ _ _ c.in_default.ensures refl

pub returns-then-number-ends : goal.returns-then-number-ends
returns-then-number-ends c =
    row_later_bad _ _ _ _ _ c.requires.0 _ _ _ _ c.in-Some.ensures refl c.if-number-ends.true

pub returns-then-ends-number : goal.returns-then-ends-number
returns-then-ends-number c =
    row_high_bad _ _ _ _ _ c.requires.0 _ _ _ _ c.in-Some.ensures refl c.if-number-ends.false c.if-ends-number.true

pub returns : goal.returns
returns c =
    row_right _ _ _ _ _ c.requires.0 _ _ _ _ c.in-Some.ensures refl c.if-number-ends.false c.if-ends-number.false
