-- `list` meets its contract: the words of the rows are taken one by one, and what is left gives with what is written what all of
-- them give (`WordsListing`).
use Rattle.conditions.{specs.Hearing.{wanted_in, above_from}, proofs.WantLaws.{WordsListing}}
use Rattle.hearing.proofs.wanted.list.Given as goal

abbrev pub invariant-loop-k : goal.invariant-loop-k
invariant-loop-k l =
    WordsListing (wanted_in l.up l.hearing.heard.now l.hearing.one_sided.now l.links l.a) l.a
    (above_from l.up l.hearing.heard.now l.hearing.one_sided.now l.links l.a) l.initial.list l.k l.n l.list
