-- `clear::clear` meets its contract: a refusal touches nothing, and an accepted call fills each table to its length, which is the
-- one that question 2 wants.
use Rattle.lists.specs.Kit.{sym}
use Rattle.mesh.specs.Tables.{tables}
use Rattle.calls.proofs.AnswerLaws.{refused_not}
use Rattle.tables.proofs.{ClearLaws.{clear_refused, clear_accepted}}
use Rattle.tables.proofs.clear.clear.Goals as goal

pub returns-in-Err : goal.returns-in-Err
returns-in-Err c =
    clear_refused c.args.n _ (tables c.args.links.now c.args.numbers.now c.args.order.now) c.in-Err.ensures (refused_not c.in-Err.refusal)

pub returns : goal.returns
returns c =
    clear_accepted c.args.n (tables c.args.links.now c.args.numbers.now c.args.order.now)
    (tables c.fill.new.d c.fill-2.new.d c.index16.new.d)
    (sym c.in_default.ensures) c.fill.ensures c.fill-2.ensures c.index16.ensures
