-- `put_row` meets its contract: the lines that are left take the buffer where all of them do, and fit (`Ends`).
use Rattle.lists.specs.Kit.{refl, arith}
use Rattle.text.{proofs.PrintLaws.{length_putting}}
use Rattle.script.proofs.{PutLaws.{ends_none, ends_room, ends_next, ends_last}}
use Rattle.script.proofs.writer.put_row.Goals as goal

pub loop-b-init : goal.loop-b-init
loop-b-init c = ends_none _ _

pub put_up-place-requires : goal.put_up-place-requires
put_up-place-requires c =
    let entry = c.requires.radios.1 c.loop-b.b-index (omega arith) in
    let room = ends_room c.loop-b.invariant _ (omega arith) refl in (
      omega (arith, c.requires.radios.0),
      omega (arith, entry),
      omega (arith, room, c.requires.room, length_putting c.loop-b.invariant.is.is),
    )

pub loop-b-preserved : goal.loop-b-preserved
loop-b-preserved c =
    ends_next c.loop-b.invariant _ (omega arith) refl (omega (arith, c.requires.room)) (c.put_up-place.ensures)

pub returns : goal.returns
returns c = ends_last c.loop-b.invariant (omega arith)
