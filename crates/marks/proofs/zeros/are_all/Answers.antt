-- `zeros::are_all` meets its contract: the bytes passed are x, so what is left decides.
use Rattle.lists.specs.{Kit.{sym, eq-eqb, ne_eqb}}
use Rattle.marks.proofs.{Left.{all_pass, all_stop, all_end}}
use Rattle.marks.proofs.zeros.are_all.Goals as goal

pub returns-then-d-x : goal.returns-then-d-x
returns-then-d-x c = sym (all_stop _ _ c.loop-d.d-index c.loop-d.invariant c.loop-d-test.true (ne_eqb _ _ c.if-d-x.true))

pub loop-d-preserved : goal.loop-d-preserved
loop-d-preserved c = all_pass _ _ c.loop-d.d-index c.loop-d.invariant c.loop-d-test.true (eq-eqb _ _ c.if-d-x.false)

pub returns : goal.returns
returns c = sym (all_end _ _ c.loop-d.d-index c.loop-d.invariant c.loop-d-test.false)
