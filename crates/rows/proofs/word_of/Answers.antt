-- `rows::word_of` meets its contract: the test of the row's length is that of `word_of`.
use Rattle.lists.specs.Kit.{sym, ◌∙◌}
use Rattle.rows.proofs.{RowWords.{word_of_short, word_of_whole}}
use Rattle.rows.proofs.word_of.Goals as goal

pub returns-then-row-at : goal.returns-then-row-at
returns-then-row-at c = sym (word_of_short _ _ c.if-row-at.true)

pub returns : goal.returns
returns c = c.word_at.ensures ∙ sym (word_of_whole _ _ c.if-row-at.false)
