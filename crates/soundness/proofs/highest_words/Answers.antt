-- `soundness::highest_words` meets its contract: each entry is the highest word of its place.
use Rattle.soundness.proofs.{Tallies.{highest_words_all}}
use Rattle.soundness.proofs.highest_words.Goals as goal

pub returns : goal.returns
returns c =
    highest_words_all _ _ _ _ _ _ _ _ _ c.highest_word.ensures c.highest_word-2.ensures c.highest_word-3.ensures
    c.highest_word-4.ensures c.highest_word-5.ensures c.highest_word-6.ensures c.highest_word-7.ensures
    c.highest_word-8.ensures
