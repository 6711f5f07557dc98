-- `sets::take_word` meets its contract: a word without radios of the set changes nothing, any other one is listed and taken out.
use Rattle.rows.proofs.{SetLaws.{nothing_of_word, some_of_word}}
use Rattle.rows.proofs.sets.take_word.Goals as goal

pub returns-then-word-eq0 : goal.returns-then-word-eq0
returns-then-word-eq0 c =
    let both = nothing_of_word c.args.other c.args.k c.args.set.now c.args.list.now c.args.n c.requires.2 c.if-word-eq0.true in
    record { counted = both.0; listed = both.1.0; left = both.1.1 }

pub returns : goal.returns
returns c =
    let both = some_of_word c.args.other c.args.k c.args.set.now c.args.list.now c.args.n _ _ c.requires.2
    c.list_word.ensures.counted c.list_word.ensures.listed in record { counted = both.0; listed = both.1.0; left = both.1.1 }
