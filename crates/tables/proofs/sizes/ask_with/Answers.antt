-- `sizes::ask_with` meets its contract: the lengths are those of the lent tables.
use Rattle.calls.specs.Questions.{lengths_of}
use Rattle.tables.proofs.sizes.ask_with.Goals as goal

pub returns : goal.returns
unfolding lengths_of
returns c = c.with_others.ensures
