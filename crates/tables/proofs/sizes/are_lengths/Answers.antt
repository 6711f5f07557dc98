-- `sizes::are_lengths` meets its contract: each test is one table's, and 64 times 32 bits fit the product.
use Rattle.lists.specs.Kit.{eq-eqb, ne_eqb}
use Rattle.calls.specs.Questions.{site_lengths}
use Rattle.tables.proofs.sizes.are_lengths.Goals as goal

pub returns-then-links-n : goal.returns-then-links-n
unfolding site_lengths
returns-then-links-n c = simp (ne_eqb _ _ c.if-links-n.true)

pub returns-then-numbers-n : goal.returns-then-numbers-n
unfolding site_lengths
returns-then-numbers-n c = simp (eq-eqb _ _ c.if-links-n.false, ne_eqb _ _ c.if-numbers-n.true)

pub returns : goal.returns
unfolding site_lengths
returns c = simp (eq-eqb _ _ c.if-links-n.false, eq-eqb _ _ c.if-numbers-n.false)
