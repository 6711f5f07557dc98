-- `board::Board::cleared` meets its contract: the tables have their lengths, and clearing is not refused.
use Rattle.std.specs.Prelude.{◌≤◌}
use Rattle.lists.specs.Kit.{arith}
use Rattle.player.specs.Board.{tables_of, answer_of}
use Rattle.player.proofs.BoardLaws.{board_cleared}
use Rattle.player.proofs.board.Board.cleared.Goals as goal

pub returns-clause-cleared : goal.returns-clause-cleared
unfolding tables_of answer_of
returns-clause-cleared c =
    let few : c.args.n ≤ 512 = c.requires.1 in
    board_cleared _ _ 32768 512 _ _ _ c.requires.0 c.requires.1 (omega arith) (omega arith) c.clear.ensures c.clear.auto.links c.clear.auto.numbers c.clear.auto.order
