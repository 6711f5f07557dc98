-- `reading::take_chunk` meets its contract: the bytes passed so far are taken.
use Rattle.std.specs.Prelude.{◌≡◌}
use Rattle.lists.specs.Kit.{length}
use Rattle.text.specs.Print.{buffer_at}
use Rattle.player.specs.{Board.{tables_of, answer_of}, Machine.{spot, Marked}}
use Rattle.player.proofs.ReadingLaws.{ChunkTo}
use Rattle.player.proofs.reading.take_chunk.Given as goal

abbrev pub invariant-loop-byte : goal.invariant-loop-byte
invariant-loop-byte l = record {
  line : length l.line ≡ length l.initial.line;
  out : length l.out ≡ length l.initial.out;
  radios : l.board.radios ≡ l.initial.board.radios;
  marked : Marked l.initial.s → Marked l.s;
  taken : ChunkTo (length l.initial.line) l.initial.board.radios l.chunk l.byte-index
      (spot (tables_of l.initial.board) (answer_of l.initial.board) l.initial.line l.initial.s) (buffer_at l.initial.out l.initial.s.at)
      (spot (tables_of l.board) (answer_of l.board) l.line l.s) l.s l.out;
}
