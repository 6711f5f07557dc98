-- `sizes::with_others` meets its contract: each test is a question of the chain, and its "no" the number.
use Rattle.calls.specs.Questions.{ask, lent_refusal}
use Rattle.tables.proofs.sizes.with_others.Goals as goal

pub returns-then-not-is_size : goal.returns-then-not-is_size
unfolding lent_refusal ask
returns-then-not-is_size c = rw (← c.is_size.ensures, c.if-not-is_size.true)

pub returns-then-not-are_lengths : goal.returns-then-not-are_lengths
unfolding lent_refusal ask
returns-then-not-are_lengths c = rw (← c.is_size.ensures, c.if-not-is_size.false, ← c.are_lengths.ensures, c.if-not-are_lengths.true)

pub returns-then-not-others : goal.returns-then-not-others
unfolding lent_refusal ask
returns-then-not-others c =
    rw (← c.is_size.ensures, c.if-not-is_size.false, ← c.are_lengths.ensures)
    (rw (c.if-not-are_lengths.false, c.if-not-others.true))

pub returns : goal.returns
unfolding lent_refusal ask
returns c =
    rw (← c.is_size.ensures, c.if-not-is_size.false, ← c.are_lengths.ensures)
    (rw (c.if-not-are_lengths.false, c.if-not-others.false))
