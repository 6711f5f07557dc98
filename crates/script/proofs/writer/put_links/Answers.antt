-- `put_links` meets its contract: the rows that are left take the buffer where all of them do, and fit (`Rows`).
use Rattle.lists.specs.Kit.{arith}
use Rattle.text.{proofs.PrintLaws.{length_putting}}
use Rattle.script.proofs.{PutLaws.{rows_none, rows_room, rows_next, rows_last}}
use Rattle.script.proofs.writer.put_links.Goals as goal

pub loop-a-init : goal.loop-a-init
loop-a-init c = rows_none _ _

pub put_radio-place-requires : goal.put_radio-place-requires
put_radio-place-requires c =
    record { listed = (omega (arith, c.requires.listed.most), omega (arith, c.requires.listed.few c.loop-a.a (omega arith))); room = omega (arith, rows_room c.loop-a.invariant (omega arith), c.requires.room, length_putting c.loop-a.invariant.is.is) }

pub loop-a-preserved : goal.loop-a-preserved
loop-a-preserved c = rows_next c.loop-a.invariant (omega arith) (omega (arith, c.requires.room)) (c.put_radio-place.ensures)

pub returns : goal.returns
returns c = rows_last c.loop-a.invariant (omega arith)
