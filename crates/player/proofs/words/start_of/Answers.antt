-- `words::start_of` meets its contract: by the first word.
use Rattle.lists.specs.Kit.{sym, ◌∙◌, true≢false}
use Rattle.player.proofs.WordLaws.{start_told, start_plain}
use Rattle.player.proofs.words.start_of.Goals as goal

pub returns-then-is_same : goal.returns-then-is_same
returns-then-is_same c = rw c.descriptor.ensures (start_told _ _ (c.is_same.ensures.0 c.if-is_same.true))

pub returns : goal.returns
returns c = start_plain _ _ (λ e. true≢false (sym (c.is_same.ensures.1 e) ∙ c.if-is_same.false))
