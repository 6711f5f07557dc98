-- `text::put_decimal` meets its contract: the text that is put is the digits filled in.
use Rattle.std.specs.Prelude.{◌≡◌, ◌-◌}
use Rattle.lists.specs.Kit.{◌∙◌, arith, take, drop, length-drop, take_all}
use Rattle.text.proofs.{PrintLaws.{puts_as}}
use Rattle.text.proofs.put_decimal.Goals as goal

pub slice_bounds-put_text-count : goal.slice_bounds-put_text-count
slice_bounds-put_text-count c = c.fill_digits-from.ensures.0

pub returns : goal.returns
returns c =
    let whole : take (20 - c.fill_digits-from.result) (drop c.fill_digits-from.result c.fill_digits-from.new.digits) ≡ drop c.fill_digits-from.result c.fill_digits-from.new.digits =
    take_all (20 - c.fill_digits-from.result) (drop c.fill_digits-from.result c.fill_digits-from.new.digits) (omega (arith, length-drop c.fill_digits-from.result c.fill_digits-from.new.digits, c.fill_digits-from.auto.digits)) in
    puts_as (whole ∙ c.fill_digits-from.ensures.1) (c.put_text.ensures)
