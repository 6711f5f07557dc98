-- `keeping::copy_on` meets its contract: what the read found is handed on, unless the write failed.
use Rattle.lists.specs.Kit.{[]}
use Rattle.player.proofs.StatusLaws.{copy_once}
use Rattle.player.proofs.keeping.copy_on.Goals as goal

pub returns : goal.returns
returns g c = copy_once _ [] c.read-got.result c.read-got.ensures.found
