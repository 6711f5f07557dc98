-- `source::played` meets its contract: by what ended the run.
use Rattle.site_program.proofs.{StatusLaws.{whole_wrong, whole_right}}
use Rattle.site_program.proofs.source.played.Goals as goal

pub returns-in-Some : goal.returns-in-Some
returns-in-Some g c = whole_wrong _ _ c.say_line.ensures

pub returns-in-None : goal.returns-in-None
returns-in-None g c = whole_right _ _ c.in-None.is c.read_out.ensures.few c.read_out.ensures.to_end
