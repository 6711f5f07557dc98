-- `reading::read_all` meets its contract: the line and the printing buffer have their room.
use Rattle.lists.specs.Kit.{ℕ, sym, subst, rules}
use Rattle.player.specs.{Board.{tables_of, answer_of}, Reading.{SiteCleared, LinesStatus}}
use Rattle.player.proofs.{StatusLaws.{lines_status}}
use Rattle.player.proofs.reading.read_all.Goals as goal

pub read_turns-s-requires : goal.read_turns-s-requires
read_turns-s-requires g c =
    let board = c.cleared-board.result in
    record {
      line = search rules;
      out = search rules;
      start = subst (λ (k : ℕ). SiteCleared k (tables_of board) (answer_of board)) (sym c.cleared-board.ensures.radios) c.cleared-board.ensures.cleared;
    }

pub returns : goal.returns
returns g c =
    subst (λ (k : ℕ). LinesStatus k c.conclude.result) c.cleared-board.ensures.radios (lines_status _ _ _ _ _ c.read_turns-s.ensures c.conclude.ensures)
