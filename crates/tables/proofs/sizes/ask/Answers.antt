-- `sizes::ask` meets its contract: no further table is asked for.
use Rattle.calls.specs.Questions.{tables_refusal}
use Rattle.tables.proofs.sizes.ask.Goals as goal

pub returns : goal.returns
unfolding tables_refusal
returns c = c.ask_with.ensures
