-- `lines::starts_with` meets its contract: what is left of the word and of the text gives what the whole gives.
use Rattle.std.specs.Prelude.{◌≡◌, ◌≤◌}
use Rattle.lists.specs.Kit.{length, drop}
use Rattle.script.specs.Lines.{starts}
use Rattle.script.proofs.lines.starts_with.Given as goal

abbrev pub invariant-loop-i : goal.invariant-loop-i
invariant-loop-i l = (l.i ≤ length l.word) × (starts (drop l.i l.word) (drop l.i l.s) ≡ starts l.word l.s)
