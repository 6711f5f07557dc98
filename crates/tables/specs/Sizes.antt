-- The lengths that questions 1 and 2 are put to, as the code has them.
--   lengths l k o      l for links, k for numbers, o for the order
-- Definitions only.
use Rattle.lists.specs.Kit.{ℕ}
use Rattle.calls.specs.Questions.{Lengths}

abbrev pub lengths : (links numbers order : ℕ) → Lengths
lengths l k o = record { links = l; numbers = k; order = o }
