-- `first_fault` meets its contract: by the place after the first line, and by the length of an input without one.
use Rattle.lists.specs.Kit.{rules}
use Rattle.site_program.proofs.{FirstLaws.{fault_line, fault_open, fault_long}}
use Rattle.site_program.proofs.course.first_fault.Goals as goal

pub returns-then-end-ne0 : goal.returns-then-end-ne0
returns-then-end-ne0 c = search (rules, fault_line)

pub returns-then-front-lt-LINE_BYTES : goal.returns-then-front-lt-LINE_BYTES
returns-then-front-lt-LINE_BYTES c = search (rules, fault_open)

pub returns : goal.returns
returns c = search (rules, fault_long)
