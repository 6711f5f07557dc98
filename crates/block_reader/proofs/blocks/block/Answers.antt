-- A refusal, the end, or a block.
use mathlib.Core.Path.{sym, ◌∙◌}
use borrow.Author.Tests.{lt-ltb, le-ltb}
use Rattle.calls.{specs.Outcomes.{no_block, block_or_end, block_outcome}, specs.CallContracts.{BlockContract}, proofs.ContractLaws.{by_accepted, by_refused}, proofs.AnswerLaws.{refused_not}}
use Rattle.block_reader.proofs.blocks.block.Goals as goal

pub returns-in-Err : goal.returns-in-Err
unfolding BlockContract block_outcome no_block
returns-in-Err c =
    by_refused _ _ _ (λ e. refused_not c.in-Err.refusal (c.in-Err.ensures ∙ e)) (rw (c.from.ensures, c.in-Err.ensures))

pub returns-then-image-next : goal.returns-then-image-next
unfolding BlockContract block_outcome block_or_end no_block
returns-then-image-next c = by_accepted _ _ (sym c.in_default.ensures) (rw (le-ltb _ _ c.if-image-next.true))

pub returns : goal.returns
unfolding BlockContract block_outcome block_or_end
returns c = by_accepted _ _ (sym c.in_default.ensures) (rw (lt-ltb _ _ c.if-image-next.false))
