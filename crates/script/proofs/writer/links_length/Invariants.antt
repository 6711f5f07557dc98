-- `links_length` meets its contract: what is counted and the lines of the rows that are left are all of them (`RowsCounted`).
use Rattle.script.proofs.ScriptLengths.{RowsCounted}
use Rattle.script.proofs.writer.links_length.Given as goal

abbrev pub invariant-loop-a : goal.invariant-loop-a
invariant-loop-a l = RowsCounted l.n l.links l.a l.sum
