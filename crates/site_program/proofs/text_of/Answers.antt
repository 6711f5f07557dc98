-- `text_of` meets its contract: the buffer holds every text.
use Rattle.site_program.proofs.{RoomLaws.{verb_held}}
use Rattle.site_program.proofs.text_of.Goals as goal

pub returns : goal.returns
returns c = record { held = verb_held c.args.verb _ _ _ _ _ _ _ c.requires c.answer.ensures; said = c.answer.ensures }
