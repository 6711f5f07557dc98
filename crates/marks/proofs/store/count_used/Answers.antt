-- `store::count_used` meets its contract: the places passed are used, so what is left decides.
use Rattle.lists.specs.Kit.{arith}
use Rattle.marks.proofs.StoreLoops.{counting_none, counting_turn, counting_stop, counting_end}
use Rattle.marks.proofs.store.count_used.Goals as goal

pub loop-i-init : goal.loop-i-init
loop-i-init c = counting_none _

pub returns-then-are_zeros : goal.returns-then-are_zeros
returns-then-are_zeros c =
    record {
      long = c.requires;
      counted = counting_stop _ c.loop-i.i c.are_zeros.result c.loop-i.invariant (omega arith) c.are_zeros.ensures
          c.if-are_zeros.true;
      few = c.loop-i.invariant.low;
    }

pub loop-i-preserved : goal.loop-i-preserved
loop-i-preserved c = counting_turn _ c.loop-i.i c.are_zeros.result c.loop-i.invariant (omega arith) c.are_zeros.ensures c.if-are_zeros.false

pub returns : goal.returns
returns c =
    record {
      long = c.requires;
      counted = counting_end _ c.loop-i.i c.loop-i.invariant (omega arith);
      few = omega arith;
    }
