-- `ended` meets its contract: by what the last read found.
use Rattle.lists.specs.Kit.{refl}
use Rattle.site_program.specs.Course.{ended_by}
use Rattle.site_program.proofs.{CourseLaws.{ended_is}}
use Rattle.site_program.proofs.course.ended.Goals as goal

pub returns-in-End : goal.returns-in-End
unfolding ended_by
returns-in-End c = ended_is c.args.s _ _ c.in-End.is c.closed.ensures

pub returns-in-GoesOn : goal.returns-in-GoesOn
unfolding ended_by
returns-in-GoesOn c = ended_is c.args.s _ _ c.in-GoesOn.is refl

pub returns-in-Failed : goal.returns-in-Failed
unfolding ended_by
returns-in-Failed c = ended_is c.args.s _ _ c.in-Failed.is refl
