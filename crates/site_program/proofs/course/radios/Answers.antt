-- `radios` meets its contract: the first line is the bytes before its end.
use Rattle.lists.specs.Kit.{rules}
use Rattle.site_program.proofs.{FirstLaws.{named_is}}
use Rattle.site_program.proofs.course.radios.Goals as goal

pub returns : goal.returns
returns c = search (rules, named_is)
