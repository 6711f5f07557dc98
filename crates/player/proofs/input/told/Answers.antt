-- `told` meets its contract: no room, a failure, the end, bytes.
use Rattle.lists.specs.Kit.{ap, ◌∙◌}
use Rattle.std.proofs.Common.{w32}
use Rattle.std.proofs.Math.Facts.{to_z-of_z}
use Rattle.player.specs.Reads.{failure}
use Rattle.player.proofs.ReadLaws.{found_nowhere, found_failed, found_end, found_bytes}
use Rattle.player.proofs.input.told.Goals as goal

pub returns-then-chunk-eq0-clause-told : goal.returns-then-chunk-eq0-clause-told
returns-then-chunk-eq0-clause-told c = found_nowhere _ _ c.if-chunk-eq0.true

pub returns-in-Err-clause-told : goal.returns-in-Err-clause-told
returns-in-Err-clause-told c = rw c.in-Err.is (found_failed _ _ _ c.if-chunk-eq0.false (c.finds.ensures ∙ ap failure (to_z-of_z {w = w32} (search))))

pub returns-then-count-eq0-clause-told : goal.returns-then-count-eq0-clause-told
returns-then-count-eq0-clause-told c =
    rw c.in-Ok.is (found_end _ _ _ c.if-chunk-eq0.false c.within-count.ensures.least c.if-count-eq0.true)

pub returns-clause-told : goal.returns-clause-told
returns-clause-told c = rw c.in-Ok.is (found_bytes _ _ _ c.if-chunk-eq0.false c.within-count.ensures.least c.if-count-eq0.false)
