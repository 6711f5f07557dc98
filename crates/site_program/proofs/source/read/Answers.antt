-- `source::read` meets its contract: by what the input is.
use Rattle.site_program.proofs.{StatusLaws.{source_script, source_image}}
use Rattle.site_program.proofs.source.read.Goals as goal

pub returns-in-Script : goal.returns-in-Script
returns-in-Script g c = source_script _ _ _ _ _ _ _ c.in-Script.ensures c.play-end.ensures c.played.ensures

pub returns-in-Image : goal.returns-in-Image
returns-in-Image g c = source_image _ _ _ _ _ _ c.in-Image.ensures c.read.ensures
