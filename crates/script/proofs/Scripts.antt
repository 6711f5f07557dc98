-- Every worked script is right: computed.
use Rattle.std.specs.Prelude.{◌≡◌}
use Rattle.lists.specs.{Kit.{refl, true, flat_map}, Lists.{same}}
use Rattle.text.specs.Text.{digit_byte, digits_in, decimal, further_fields, printed_line}
use Rattle.calls.specs.Script.{up_line, script_of, script_length}
use Rattle.script.specs.Scripts.{case_good, cases_good, cases}

pub cases_right : cases_good cases ≡ true
unfolding cases cases_good case_good same script_length script_of up_line flat_map printed_line further_fields decimal digits_in digit_byte
cases_right = refl
