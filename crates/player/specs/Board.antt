-- The site that a run plays on, as its lists: of each table the part of its radios.
--   tables_of b   its tables
--   answer_of b   the table for a call's list
-- Definitions only.
use Rattle.std.specs.Prelude.{◌*◌}
use Rattle.lists.specs.Kit.{List, ℕ, take}
use Rattle.mesh.specs.{Limits.{row_bytes}, Tables.{Tables, tables}}
use Rattle.player.specs.declared.board.Board.{Board}

unfoldable pub tables_of : Board → Tables
tables_of b = tables (take (row_bytes * b.radios) b.links) (take b.radios b.numbers) (take b.radios b.order)

unfoldable pub answer_of : Board → List ℕ
answer_of b = take b.radios b.answer
