-- `cores::core` meets its contract: what the flood leaves out of its level's set is the connected core, and its bits are listed
-- ascending.
use Rattle.lists.specs.Kit.{sym, arith}
use Rattle.mesh.specs.Lent.{read_of}
use Rattle.calls.proofs.AnswerLaws.{refused_not}
use Rattle.queries.proofs.CoreLaws.{core_refused, core_radio, core_tables, core_level, core_listed}
use Rattle.queries.proofs.cores.core.Goals as goal

pub returns-in-Err : goal.returns-in-Err
returns-in-Err c =
    core_refused c.args.t.now.radios c.args.v c.args.k (read_of c.args.t.now) c.args.answer.now _ c.in-Err.ensures
    (refused_not c.in-Err.refusal)

pub overflow_cast-k : goal.overflow_cast-k
overflow_cast-k c =
    let level =
    core_level c.args.t.now.radios c.args.v c.args.k (read_of c.args.t.now) c.args.answer.now (sym c.in_default.ensures) in
    omega (arith, level, c.args.t.now.number_bytes c.args.v)

pub flood-requires : goal.flood-requires
flood-requires c =
    let n = c.args.t.now.radios in
    let t = read_of c.args.t.now in
    let zero = sym c.in_default.ensures in
    record {
      radio = omega (
        arith,
        core_radio n c.args.v c.args.k t c.args.answer.now zero,
        (core_tables n c.args.v c.args.k t c.args.answer.now zero).small,
      );
      room = omega arith;
    }

pub returns : goal.returns
returns c =
    core_listed c.args.t.now.radios c.args.v c.args.k (read_of c.args.t.now) c.args.answer.now (sym c.in_default.ensures)
    _ _ _ _ _ _ _ c.at_least-set.ensures.long c.at_least-set.ensures.level c.flood.ensures c.take_set.ensures c.list.ensures
