-- `levels::shell_tree` meets its contract: where questions 1 to 3 get yes the tables are sound, so that the tree grows. The columns of the
-- list are the tree in three tables then (`columns_tree`).
use Rattle.lists.specs.Kit.{refl, length}
use Rattle.mesh.specs.Lent.{read_of}
use Rattle.calls.proofs.AnswerLaws.{refused_not}
use Rattle.tree.specs.Trees.{lists}
use Rattle.tree.proofs.TreeAnswer.{room_test, tree_refused, tree_ready, tree_accepted}
use Rattle.tree.proofs.ThreeTables.{columns_tree}
use Rattle.tree.proofs.levels.shell_tree.Goals as goal

pub returns-in-Err : goal.returns-in-Err
returns-in-Err c =
    let n = c.args.t.now.radios in
    let s = lists c.args.nodes.now c.args.answer.now in
    let is = tree_refused n (read_of c.args.t.now) s _ _ (room_test n (length s.nodes) (length s.answer) _ c.least.ensures) c.in-Err.ensures
    (refused_not c.in-Err.refusal) in
    record { tree = is; tables = columns_tree n (read_of c.args.t.now) _ _ _ _ _ is }

pub grow-requires : goal.grow-requires
grow-requires c =
    let n = c.args.t.now.radios in
    let s = lists c.args.nodes.now c.args.answer.now in
    tree_ready n (read_of c.args.t.now) s _ _ (room_test n (length s.nodes) (length s.answer) _ c.least.ensures) c.in_default.ensures
    refl

pub returns : goal.returns
returns c =
    let n = c.args.t.now.radios in
    let s = lists c.args.nodes.now c.args.answer.now in
    let is = tree_accepted n (read_of c.args.t.now) s _ _ (room_test n (length s.nodes) (length s.answer) _ c.least.ensures) c.in_default.ensures
    refl _ _ c.grow.ensures in
    record { tree = is; tables = columns_tree n (read_of c.args.t.now) _ _ _ _ _ is }
