-- `words::lower` meets its contract: what the words from word k on leave, all of them leave (`WordsLowering`).
use Rattle.plan.proofs.WordLaws.{WordsLowering}
use Rattle.plan.proofs.wide_steps.lower.Given as goal

abbrev pub invariant-loop-k : goal.invariant-loop-k
invariant-loop-k l = WordsLowering l.most l.places l.near l.held l.initial.counters l.initial.due l.k l.counters l.due
