-- `play_line` meets its contract: the cases of the parser are the cases of `lined`.
use Rattle.site_program.proofs.CourseLaws.{lined_by, lined_form, lined_radios, lined_up, lined_down}
use Rattle.site_program.proofs.course.play_line.Goals as goal

pub returns-in-Up : goal.returns-in-Up
returns-in-Up c = lined_by _ _ _ _ _ _ c.parse.ensures c.in-Up.is (lined_up _ _ _ _ _ _ c.call.ensures)

pub returns-in-Down : goal.returns-in-Down
returns-in-Down c = lined_by _ _ _ _ _ _ c.parse.ensures c.in-Down.is (lined_down _ _ _ _ _ _ c.call-in-Down.ensures)

pub returns-in-Radios : goal.returns-in-Radios
returns-in-Radios c = lined_by _ _ _ _ _ _ c.parse.ensures c.in-Radios.is (lined_radios _ _ _ _ _ c.form_of.ensures)

pub returns-in-Bad : goal.returns-in-Bad
returns-in-Bad c = lined_by _ _ _ _ _ _ c.parse.ensures c.in-Bad.is (lined_form _ _ _ _ c.form_of-in-Bad.ensures)
