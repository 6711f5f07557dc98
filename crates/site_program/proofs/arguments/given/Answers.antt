-- `arguments::given` meets its contract: each way through it is a case of `given_of`.
use Rattle.site_program.proofs.GivenLaws.{given_other, given_none, given_bad, given_one, given_second_bad, given_two}
use Rattle.site_program.proofs.arguments.given.Goals as goal

pub returns-then-takes-count : goal.returns-then-takes-count
returns-then-takes-count c = given_other _ _ _ _ c.if-takes-count.true

pub returns-then-takes-eq0 : goal.returns-then-takes-eq0
returns-then-takes-eq0 c = given_none _ _ _ _ c.if-takes-count.false c.if-takes-eq0.true

pub returns-in_err-a : goal.returns-in_err-a
returns-in_err-a c = rw c.from_residual.ensures (given_bad _ _ _ _ c.if-takes-count.false c.if-takes-eq0.false c.in_err-a.ensures)

pub returns-then-takes-eq1 : goal.returns-then-takes-eq1
returns-then-takes-eq1 c = given_one _ _ _ _ c.if-takes-count.false c.if-takes-eq0.false _ c.in_ok-a.ensures c.if-takes-eq1.true

pub returns-in_err-b : goal.returns-in_err-b
returns-in_err-b c =
    rw c.from_residual-in_err-b.ensures
    (given_second_bad _ _ _ _ c.if-takes-count.false c.if-takes-eq0.false _ c.in_ok-a.ensures c.if-takes-eq1.false c.in_err-b.ensures)

pub returns : goal.returns
returns c =
    given_two _ _ _ _ c.if-takes-count.false c.if-takes-eq0.false _ c.in_ok-a.ensures c.if-takes-eq1.false _ c.in_ok-b.ensures
