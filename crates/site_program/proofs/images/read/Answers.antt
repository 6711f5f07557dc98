-- `images::read` meets its contract: an image that is accepted is read, and any other goes wrong.
use Rattle.lists.specs.Kit.{refl, rules}
use Rattle.site_program.proofs.{StatusLaws.{image_wrong, image_right}}
use Rattle.site_program.proofs.images.read.Goals as goal

pub returns-then-image-gt-IMAGE_BYTES : goal.returns-then-image-gt-IMAGE_BYTES
returns-then-image-gt-IMAGE_BYTES g c = search (rules, image_wrong)

pub returns-in-Ok : goal.returns-in-Ok
returns-in-Ok g c = image_right _ _ _ _ _ refl c.in-Ok.ensures

pub returns-in-Err : goal.returns-in-Err
returns-in-Err g c = image_wrong _ _ _ _ _ c.say_where.ensures
