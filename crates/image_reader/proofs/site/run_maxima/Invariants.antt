-- `site::run_maxima` meets its contract: the radios passed have their maximum.
use Rattle.lists.specs.Kit.{ℕ, get_or}
use Rattle.image_reader.proofs.MaximaLaws.{Running}
use Rattle.image_reader.proofs.site.run_maxima.Given as goal

abbrev pub invariant-loop-radio : goal.invariant-loop-radio
invariant-loop-radio l = Running (λ (v : ℕ). get_or l.counts v 0) l.order l.initial.cores l.cores l.top l.radio-index
