-- `printing::put_link_line` meets its contract: one text after another.
use Rattle.lists.specs.Kit.{refl, sym, arith, take, take_all}
use mir.Facts.{to_z-of_z}
use Rattle.script.proofs.{PrintedLaws.{puts_link_line}}
use Rattle.script.proofs.printing.put_link_line.Goals as goal

pub returns-then-changed-n : goal.returns-then-changed-n
returns-then-changed-n c =
    puts_link_line c.args.number c.args.step (take c.args.count c.args.changed.now) (to_z-of_z c.ranges.step)
    (sym (take_all c.args.count c.args.changed.now (omega arith)))
    c.put_decimal-after_number.ensures
    c.put_byte-after_space.ensures
    c.put_step-after_step.ensures c.put_fields.ensures

pub returns : goal.returns
returns c =
    puts_link_line c.args.number c.args.step (take c.args.count c.args.changed.now) (to_z-of_z c.ranges.step) refl
    c.put_decimal-after_number.ensures
    c.put_byte-after_space.ensures
    c.put_step-after_step.ensures c.put_fields-2.ensures
