-- `cores::ask_core` meets its contract: questions 1 to 3, then 4, then 8 by the entry of the numbers table.
use Rattle.lists.specs.Kit.{refl, arith}
use Rattle.mesh.specs.Lent.{read_of}
use Rattle.calls.proofs.AnswerLaws.{refused_not}
use Rattle.queries.proofs.RefusalLaws.{core_no, core_four, core_eight, core_none, core_site}
use Rattle.queries.proofs.cores.ask_core.Goals as goal

pub returns-in-Err : goal.returns-in-Err
returns-in-Err c =
    core_no c.args.t.now.radios c.args.v c.args.k c.args.answer (read_of c.args.t.now) _ c.in-Err.ensures
    (refused_not c.in-Err.refusal)

pub returns-then-t-v : goal.returns-then-t-v
returns-then-t-v c =
    core_four c.args.t.now.radios c.args.v c.args.k c.args.answer (read_of c.args.t.now) _ c.in_default.ensures refl
    c.if-t-v.true

pub bounds-t-v : goal.bounds-t-v
bounds-t-v c =
    let site =
    core_site c.args.t.now.radios c.args.v c.args.k c.args.answer (read_of c.args.t.now) _ c.in_default.ensures refl in
    omega (arith, site.numbers_long, c.if-t-v.false)

pub returns-then-t-v-2 : goal.returns-then-t-v-2
returns-then-t-v-2 c =
    core_eight c.args.t.now.radios c.args.v c.args.k c.args.answer (read_of c.args.t.now) _ c.in_default.ensures refl
    c.if-t-v.false c.if-t-v-2.true

pub returns : goal.returns
returns c =
    core_none c.args.t.now.radios c.args.v c.args.k c.args.answer (read_of c.args.t.now) _ c.in_default.ensures refl
    c.if-t-v.false c.if-t-v-2.false
