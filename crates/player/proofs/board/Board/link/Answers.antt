-- `Board::link` meets its contract: the tables are the parts.
use Rattle.player.specs.Board.{tables_of, answer_of}
use Rattle.player.proofs.board.Board.link.Goals as goal

pub returns-clause-called : goal.returns-clause-called
unfolding tables_of answer_of
returns-clause-called c = c.link_parts.ensures
