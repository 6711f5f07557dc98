-- `images::radios` meets its contract: a size is at most 512.
use Rattle.lists.specs.Kit.{sym, ◌∙◌}
use Rattle.mesh.proofs.Sizes.{size_good_true}
use Rattle.site_program.proofs.images.radios.Goals as goal

pub returns-then-is_size : goal.returns-then-is_size
returns-then-is_size c = (size_good_true _ (sym c.is_size.ensures ∙ c.if-is_size.true)).1
