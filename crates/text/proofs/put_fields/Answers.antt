-- `text::put_fields` meets its contract: the fields of the numbers so far are put.
use Rattle.lists.specs.Kit.{arith}
use Rattle.text.proofs.PrintLaws.{fields_none, fields_next, fields_last}
use Rattle.text.proofs.put_fields.Goals as goal

pub loop-x-init : goal.loop-x-init
loop-x-init g c = fields_none _ c.args.list.now

pub loop-x-preserved : goal.loop-x-preserved
loop-x-preserved g c = fields_next c.x-item.result _ c.loop-x-test.true c.x-item.is c.wide.ensures c.loop-x.invariant c.put_field-place.ensures

pub returns : goal.returns
returns g c = fields_last (omega arith) c.loop-x.invariant c.put_byte.ensures
