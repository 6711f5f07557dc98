-- `reading::read_turns` meets its contract: what the reads so far brought is taken, and the others can be.
use Rattle.std.specs.Prelude.{◌≡◌, ◌-◌}
use Rattle.lists.specs.Kit.{length}
use Rattle.text.specs.Print.{buffer_at}
use Rattle.player.specs.{Board.{tables_of, answer_of}, Machine.{spot}, Reads.{most_reads}}
use Rattle.player.proofs.ReadingLaws.{ReadTo}
use Rattle.player.proofs.reading.read_turns.Given as goal

abbrev pub invariant-loop-done : goal.invariant-loop-done
invariant-loop-done g l = record {
  line : length l.line ≡ length l.initial.line;
  out : length l.out ≡ length l.initial.out;
  radios : l.board.radios ≡ l.initial.board.radios;
  taken : ReadTo l.initial.board.radios (most_reads - l.done) (tables_of l.initial.board) (answer_of l.initial.board) (buffer_at l.initial.out 0)
      (spot (tables_of l.board) (answer_of l.board) l.line l.s) l.s l.out;
}
