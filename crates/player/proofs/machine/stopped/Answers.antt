-- `machine::stopped` meets its contract: `bad L` is put, and the run has a fault.
use Rattle.lists.specs.Kit.{refl, sym, ◌∙◌}
use Rattle.player.proofs.{ReadingLaws.{some_fault}}
use Rattle.player.proofs.machine.stopped.Goals as goal

pub returns : goal.returns
returns c =
    record {
      puts = c.put_bad_line-at.ensures;
      number = refl;
      held = refl;
      live = refl;
      fault = λ e. some_fault c.args.s.fault _ (sym c.or.ensures ∙ e);
    }
