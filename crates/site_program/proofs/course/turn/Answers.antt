-- `turn` meets its contract: what the read brought is taken.
use Rattle.site_program.proofs.CourseLaws.{once_read}
use Rattle.site_program.proofs.course.turn.Goals as goal

pub returns : goal.returns
returns g c = once_read _ _ _ _ _ _ _ _ _ c.read-got.ensures.found c.take_chunk.ensures
