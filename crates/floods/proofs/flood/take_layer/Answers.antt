-- `flood::take_layer` meets its contract: the rows are joined into an empty set, and what is written into the rest of the queue stands
-- behind its first entries.
use Rattle.lists.specs.Kit.{rules}
use Rattle.floods.proofs.{FloodSteps.{layer_taken}}
use Rattle.floods.proofs.flood.take_layer.Goals as goal

pub returns : goal.returns
returns c = search (rules, layer_taken)
