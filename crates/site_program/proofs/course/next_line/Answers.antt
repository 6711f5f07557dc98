-- `next_line` meets its contract: by whether the number is the largest.
use Rattle.site_program.proofs.{CourseLaws.{next_more, next_last}}
use Rattle.site_program.proofs.course.next_line.Goals as goal

pub returns-then-line-lt18446744073709551615 : goal.returns-then-line-lt18446744073709551615
returns-then-line-lt18446744073709551615 c = next_more _ c.if-line-lt18446744073709551615.true

pub returns : goal.returns
returns c = next_last _ c.if-line-lt18446744073709551615.false
