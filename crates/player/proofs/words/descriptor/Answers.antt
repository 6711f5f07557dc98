-- `words::descriptor` meets its contract: by the word's length, and by its byte.
use Rattle.lists.specs.Kit.{◌∙◌}
use Rattle.player.proofs.WordLaws.{descriptor_other, descriptor_one}
use Rattle.player.proofs.words.descriptor.Goals as goal

pub returns-then-word-ne1 : goal.returns-then-word-ne1
returns-then-word-ne1 c = descriptor_other _ c.if-word-ne1.true

pub returns : goal.returns
returns c = c.digit_of.ensures ∙ descriptor_one _ c.if-word-ne1.false
