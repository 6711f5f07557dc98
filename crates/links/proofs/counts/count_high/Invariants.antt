-- `counts::count_high` meets its contract: what is counted so far and what the listed radios from place i on come to is the whole
-- count.
use Rattle.lists.{specs.Kit.{ℕ, leb, get_or}, proofs.Loops.{CountedFrom}}
use Rattle.links.proofs.counts.count_high.Given as goal

abbrev pub invariant-loop-b : goal.invariant-loop-b
invariant-loop-b l = CountedFrom (λ (b : ℕ). leb l.number (get_or l.numbers b 0)) l.near l.high l.b-index
