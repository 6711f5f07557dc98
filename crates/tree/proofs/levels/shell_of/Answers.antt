-- `levels::shell_of` meets its contract: the radios passed have the level's number and are in the set (`ShellPutting`); where another
-- number stands, or the order ends, no radio of the level is left. The measure is what is left of the order.
use Rattle.lists.specs.Kit.{arith}
use Rattle.tree.proofs.ShellSets.{shell_putting_none, shell_putting_turn, shell_putting_set, shell_putting_next}
use Rattle.tree.proofs.levels.shell_of.Goals as goal

pub loop-i-init : goal.loop-i-init
loop-i-init c = shell_putting_none _ _ _ _ c.requires _ c.empty-set.ensures

pub bounds-numbers-v : goal.bounds-numbers-v
bounds-numbers-v c = c.requires.radio c.loop-i.i c.loop-i-test.true

pub returns-then-numbers-v : goal.returns-then-numbers-v
returns-then-numbers-v c = record {
  own = shell_putting_set c.args.numbers.now c.args.order.now c.args.level c.args.from c.requires c.loop-i.i _ (λ l. c.if-numbers-v.true)
      c.loop-i.invariant;
  next = shell_putting_next c.args.numbers.now c.args.order.now c.args.level c.args.from c.requires c.loop-i.i _ (λ l. c.if-numbers-v.true)
      c.loop-i.invariant;
}

pub loop-i-preserved : goal.loop-i-preserved
loop-i-preserved c =
    shell_putting_turn c.args.numbers.now c.args.order.now c.args.level c.args.from c.requires c.loop-i.i c.loop-i.set _
    c.loop-i-test.true c.if-numbers-v.false c.put_in.ensures.joined c.loop-i.invariant

pub returns : goal.returns
returns c = record {
  own = shell_putting_set c.args.numbers.now c.args.order.now c.args.level c.args.from c.requires c.loop-i.i _
      (λ l e. omega (arith, c.loop-i-test.false)) c.loop-i.invariant;
  next = shell_putting_next c.args.numbers.now c.args.order.now c.args.level c.args.from c.requires c.loop-i.i _
      (λ l e. omega (arith, c.loop-i-test.false)) c.loop-i.invariant;
}
