-- `machine::end` meets its contract: the closing lines fit the printing buffer.
use Rattle.lists.specs.Kit.{refl, arith}
use Rattle.player.proofs.{ReadingLaws.{closing_writes}}
use Rattle.player.proofs.machine.end.Goals as goal

pub returns : goal.returns
returns c =
    record {
      over = refl;
      whole = c.end_fault.ensures;
      closed = closing_writes _ _ _ _ _ c.args.s _ c.requires.ready c.requires.few.0 c.requires.few.1 (λ i. omega (arith, c.type_inv.numbers i))
          (λ i. omega (arith, c.type_inv.order i)) c.finish-at.ensures;
    }
