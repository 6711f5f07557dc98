-- Laws of what a call answers.
--   refusal_positive     no question has the number 0
--   refused_not          a refused call has not the number 0
use Rattle.std.specs.Prelude.{◌≡◌, ◌≤◌}
use Rattle.lists.specs.Kit.{arith}
use Rattle.calls.specs.{Answers.{refusal_number}, declared.Refusal.{Refusal}}
use Rattle.calls.specs.declared.Refusal.TheVariants.{Size, Length, Unsound, Radio, SameEnds, LinkState, NoRoom, Level, ImageSize, ImageCheck}
use Rattle.calls.specs.declared.Refusal.TheVariants.{Image, Page, Text, Heard, OtherSize, Proposal, Mark, NoMark, MarksFull, NoLift}

pub refusal_positive : (r : Refusal) → 1 ≤ refusal_number r
refusal_positive Size = omega arith
refusal_positive Length = omega arith
refusal_positive Unsound = omega arith
refusal_positive Radio = omega arith
refusal_positive SameEnds = omega arith
refusal_positive LinkState = omega arith
refusal_positive NoRoom = omega arith
refusal_positive Level = omega arith
refusal_positive ImageSize = omega arith
refusal_positive ImageCheck = omega arith
refusal_positive Image = omega arith
refusal_positive Page = omega arith
refusal_positive Text = omega arith
refusal_positive Heard = omega arith
refusal_positive OtherSize = omega arith
refusal_positive Proposal = omega arith
refusal_positive Mark = omega arith
refusal_positive NoMark = omega arith
refusal_positive MarksFull = omega arith
refusal_positive NoLift = omega arith

pub refused_not : (r : Refusal) → refusal_number r ≡ 0 → ⊥
refused_not r e = omega (arith, e, refusal_positive r)
