-- `take_words` meets its contract: the links from word k on give what all of them give (`Taking`). The measure is the words left.
use Rattle.std.specs.Prelude.{◌≤◌}
use Rattle.lists.specs.{Lists.{filter}}
use Rattle.rows.specs.{Rows.{row_from}, Sets.{in_set}, Links.{links_to}}
use Rattle.staircase.proofs.{TakingLaws.{Taking}}
use Rattle.staircase.proofs.forest.Forest.take_words.Given as goal

abbrev pub invariant-loop-k : goal.invariant-loop-k
invariant-loop-k l = (l.k ≤ 8) × Taking (links_to l.a (filter (in_set l.set) (row_from l.links l.a l.from))) l.initial.self
    (links_to l.a (filter (in_set l.set) (row_from l.links l.a l.k))) l.self
