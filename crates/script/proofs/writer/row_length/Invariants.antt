-- `row_length` meets its contract: what is counted and the lines that are left are all of them (`EndsCounted`).
use Rattle.script.proofs.ScriptLengths.{EndsCounted}
use Rattle.script.proofs.writer.row_length.Given as goal

abbrev pub invariant-loop-b : goal.invariant-loop-b
invariant-loop-b l = EndsCounted l.a l.list l.b-index l.sum
