-- What a call answers, in its form for C: a refusal is its number and zeros.
--   refusal_number r     documents 01 and 02: the number of the question that got "no"
--   call_number a        the number of a call: 0 when it was carried out
--   value_reply a        the reply of a question, and likewise link_reply, later_reply, pair_reply
-- Definitions only.
use Rattle.std.specs.Prelude.{Result, Ok, Err}
use Rattle.lists.specs.Kit.{ℕ, pos}
use Rattle.calls.specs.declared.{Refusal.{Refusal}, Change.{Change}, Wake.{Wake}, Ends.{Ends}}
use Rattle.calls.specs.declared.{Reply.{Reply}, Value.{Value}, Later.{Later}, Pair.{Pair}}
use Rattle.calls.specs.declared.Refusal.TheVariants.{Size, Length, Unsound, Radio, SameEnds, LinkState, NoRoom, Level, ImageSize, ImageCheck}
use Rattle.calls.specs.declared.Refusal.TheVariants.{Image, Page, Text, Heard, OtherSize, Proposal, Mark, NoMark, MarksFull, NoLift}

abbrev pub refusal_number : Refusal → ℕ
refusal_number Size = 1
refusal_number Length = 2
refusal_number Unsound = 3
refusal_number Radio = 4
refusal_number SameEnds = 5
refusal_number LinkState = 6
refusal_number NoRoom = 7
refusal_number Level = 8
refusal_number ImageSize = 9
refusal_number ImageCheck = 10
refusal_number Image = 11
refusal_number Page = 12
refusal_number Text = 13
refusal_number Heard = 14
refusal_number OtherSize = 15
refusal_number Proposal = 16
refusal_number Mark = 17
refusal_number NoMark = 18
refusal_number MarksFull = 19
refusal_number NoLift = 20

abbrev pub call_number : {A : Type 0} → Result A Refusal → ℕ
call_number (Ok x) = 0
call_number (Err r) = refusal_number r

abbrev pub value_reply : Result ℕ Refusal → Value
value_reply (Ok x) = record { number = 0; value = x }
value_reply (Err r) = record { number = refusal_number r; value = 0 }

abbrev pub link_reply : Result Change Refusal → Reply
link_reply (Ok x) = record { number = 0; step = x.step; count = x.count }
link_reply (Err r) = record { number = refusal_number r; step = pos 0; count = 0 }

abbrev pub later_reply : Result Wake Refusal → Later
later_reply (Ok x) = record { number = 0; count = x.count; first = x.first }
later_reply (Err r) = record { number = refusal_number r; count = 0; first = 0 }

abbrev pub pair_reply : Result Ends Refusal → Pair
pair_reply (Ok x) = record { number = 0; low = x.low; high = x.high }
pair_reply (Err r) = record { number = refusal_number r; low = 0; high = 0 }
