-- `reading::broken` meets its contract: nothing but the fault is another, and a failure is one.
use Rattle.lists.specs.Kit.{refl, sym, ◌∙◌}
use Rattle.player.specs.Reading.{broken_off}
use Rattle.player.proofs.{ReadingLaws.{some_fault}}
use Rattle.player.proofs.reading.broken.Goals as goal

pub returns : goal.returns
unfolding broken_off
returns c = record { value = refl; fault = λ e. some_fault c.args.s.fault _ (sym c.or.ensures ∙ e) }
