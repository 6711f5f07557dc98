-- `fill` meets its contract: each read fills the buffer on.
use Rattle.player.proofs.ReadLaws.{filled_none, filled_more, filled_on, filled_out, prefix_len}
use Rattle.player.proofs.input.fill.Goals as goal

pub loop-init : goal.loop-init
loop-init g c = filled_none _

pub fill_on-got-requires : goal.fill_on-got-requires
fill_on-got-requires g c = c.loop.invariant.low

pub returns-then-is_filled-clause-fills : goal.returns-then-is_filled-clause-fills
returns-then-is_filled-clause-fills g c = filled_more _ _ _ _ _ c.loop.invariant c.fill_on-got.ensures.fills

pub loop-preserved : goal.loop-preserved
loop-preserved g c =
    filled_on _ _ _ c.fill_on-got.ensures.counts.0 (c.is_filled.ensures c.if-is_filled.false)
    (filled_more _ _ _ _ _ c.loop.invariant c.fill_on-got.ensures.fills)

pub returns-clause-counts : goal.returns-clause-counts
returns-clause-counts g c = prefix_len _ _ c.loop.invariant.low

pub returns-clause-fills : goal.returns-clause-fills
returns-clause-fills g c = filled_out _ _ _ c.loop.invariant
