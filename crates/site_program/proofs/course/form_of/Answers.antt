-- `form_of` meets its contract: by the byte before the last.
use Rattle.site_program.proofs.{CourseLaws.{form_short, form_carriage, form_other}}
use Rattle.site_program.proofs.course.form_of.Goals as goal

pub returns-then-line-lt2 : goal.returns-then-line-lt2
returns-then-line-lt2 c = form_short _ c.if-line-lt2.true

pub returns-then-line-eq13 : goal.returns-then-line-eq13
returns-then-line-eq13 c = form_carriage c.args.line.now c.if-line-lt2.false c.if-line-eq13.true

pub returns : goal.returns
returns c = form_other c.args.line.now c.if-line-lt2.false c.if-line-eq13.false
