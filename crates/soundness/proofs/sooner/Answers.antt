-- `soundness::sooner` meets its contract: an earlier place leaves the key, of a later one the smaller key counts.
use Rattle.lists.specs.Kit.{arith}
use Rattle.soundness.proofs.{Tallies.{sooner_early, sooner_late}}
use Rattle.soundness.proofs.sooner.Goals as goal

pub returns-then-p-place : goal.returns-then-p-place
returns-then-p-place c = sooner_early _ _ _ _ c.if-p-place.true

pub returns-then-key-own : goal.returns-then-key-own
returns-then-key-own c = omega (arith, c.if-key-own.true, sooner_late c.args.place c.args.p c.args.b c.args.key c.if-p-place.false)

pub returns : goal.returns
returns c = omega (arith, c.if-key-own.false, sooner_late c.args.place c.args.p c.args.b c.args.key c.if-p-place.false)
