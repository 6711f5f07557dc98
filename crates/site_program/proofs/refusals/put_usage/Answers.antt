-- `refusals::put_usage` meets its contract: each number in turn.
use Rattle.lists.specs.Kit.{eq-eqb, ne_eqb}
use Rattle.site_program.specs.Errors.{usage_words}
use Rattle.site_program.proofs.refusals.put_usage.Goals as goal

pub returns-then-takes-eq0 : goal.returns-then-takes-eq0
unfolding usage_words
returns-then-takes-eq0 c = rw (eq-eqb _ 0 c.if-takes-eq0.true) c.put_text.ensures

pub returns-then-takes-eq1 : goal.returns-then-takes-eq1
unfolding usage_words
returns-then-takes-eq1 c = rw (ne_eqb _ 0 c.if-takes-eq0.false, eq-eqb _ 1 c.if-takes-eq1.true) c.put_text-then-takes-eq1.ensures

pub returns : goal.returns
unfolding usage_words
returns c = rw (ne_eqb _ 0 c.if-takes-eq0.false, ne_eqb _ 1 c.if-takes-eq1.false) c.put_text-2.ensures
