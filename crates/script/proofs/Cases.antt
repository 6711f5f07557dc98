-- Every worked case of the parser holds.
use Rattle.std.specs.Prelude.{◌≡◌}
use Rattle.lists.specs.{Kit.{refl, map}, Lists.{same}}
use Rattle.text.specs.Text.{digit_byte}
use Rattle.script.specs.{Cases.{Case, cases}, Lines.{is_digit, digits_on, number_of, ended, last_number_of, starts, radios_line, link_with, link_after}}
use Rattle.script.specs.{Lines.{link_from, line_of}}

pub cases_right : map (λ (c : Case). line_of c.text) cases ≡ map (λ (c : Case). c.line) cases
unfolding cases same digit_byte is_digit digits_on number_of ended last_number_of starts radios_line link_with link_after link_from line_of
cases_right = refl
