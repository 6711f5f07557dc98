-- `names::is_alphanumeric` meets its contract: by the bounds of 0 to 9 and A to Z.
use Rattle.lists.specs.Kit.{sym}
use Rattle.marks.proofs.Left.{alphanumeric_low, alphanumeric_digit, alphanumeric_gap, alphanumeric_high}
use Rattle.marks.proofs.names.is_alphanumeric.Goals as goal

pub returns-then-c-lt48 : goal.returns-then-c-lt48
returns-then-c-lt48 c = sym (alphanumeric_low _ c.if-c-lt48.true)

pub returns-then-c-le57 : goal.returns-then-c-le57
returns-then-c-le57 c = sym (alphanumeric_digit _ c.if-c-lt48.false c.if-c-le57.true)

pub returns-then-c-lt65 : goal.returns-then-c-lt65
returns-then-c-lt65 c = sym (alphanumeric_gap _ c.if-c-le57.false c.if-c-lt65.true)

pub returns : goal.returns
returns c = alphanumeric_high _ c.if-c-le57.false c.if-c-lt65.false
