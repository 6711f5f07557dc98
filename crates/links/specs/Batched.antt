-- What a batch answers, in its form for C: a refusal is its number and the count of links done before.
-- Definitions only.
use Rattle.std.specs.Prelude.{Result, Ok, Err}
use Rattle.lists.specs.Kit.{ℕ}
use Rattle.calls.specs.{Answers.{refusal_number}, declared.Value.{Value}}
use Rattle.links.specs.declared.batch.Stopped.{Stopped}

abbrev pub batch_reply : Result ℕ Stopped → Value
batch_reply (Ok x) = record { number = 0; value = x }
batch_reply (Err s) = record { number = refusal_number s.refusal; value = s.done }
