-- `turn::release` meets its contract: the listed radios that are left give what all of them give (`ListReleasing`).
use Rattle.plan.proofs.TurnLoops.{ListReleasing}
use Rattle.plan.proofs.turn.release.Given as goal

abbrev pub invariant-loop-v : goal.invariant-loop-v
invariant-loop-v l = ListReleasing l.by.numbers.now l.by.places.now l.by.level l.by.most l.near l.initial.counters l.initial.fits l.v-index
    l.counters l.fits
