-- `rows::word_at` meets its contract: bytes shifted to places that do not overlap are joined.
use Rattle.rows.proofs.{WordLaws.{word_at_joined}}
use Rattle.rows.proofs.word_at.Goals as goal

pub returns : goal.returns
returns c = word_at_joined _ (λ j. (c.type_inv.links j).fits) _
