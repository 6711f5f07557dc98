-- `reader::put_numbers` meets its contract: 8-bit entries being written.
use Rattle.lists.specs.Kit.{ℕ, get_or}
use Rattle.tables.proofs.WidthLaws.{Writing}
use Rattle.image_reader.proofs.reader.put_numbers.Given as goal

abbrev pub invariant-loop-v : goal.invariant-loop-v
invariant-loop-v l = Writing 8 (λ (i : ℕ). get_or l.cores i 0) l.initial.numbers l.numbers l.v
