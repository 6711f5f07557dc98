-- `places::list_word` meets its contract: each turn takes the lowest set bit off the word, and what is left of its set bits gives what all
-- of them give (`WordEntries`). The measure is the word that is left.
use Rattle.lists.specs.Kit.{ap, ◌∙◌, arith}
use Rattle.rows.{specs.Rows.{set_bits}, proofs.WordLaws.{set_bits_nothing}}
use Rattle.plan.proofs.EntryLists.{entries_end, word_place, word_room, word_turn}
use Rattle.plan.proofs.places.list_word.Goals as goal

pub overflow_sub-p : goal.overflow_sub-p
overflow_sub-p c =
    (word_place _ _ _ _ _ _ c.loop-rest.rest c.loop-rest.n _ c.loop-rest.invariant
    c.loop-rest-test.true).0

pub bounds-tail-p : goal.bounds-tail-p
bounds-tail-p c = (word_place _ _ _ _ _ _ c.loop-rest.rest c.loop-rest.n _ c.loop-rest.invariant c.loop-rest-test.true).1

pub overflow_add-n : goal.overflow_add-n
overflow_add-n c =
    omega (
      arith,
      word_room _ _ _ _ _ _ c.loop-rest.rest c.loop-rest.n _ c.loop-rest.invariant c.loop-rest-test.true,
      c.requires.1,
      c.requires.0,
    )

pub loop-rest-preserved : goal.loop-rest-preserved
loop-rest-preserved c =
    rw c.put16.ensures (word_turn _ _ _ _ _ _ c.loop-rest.rest c.loop-rest.n _ c.loop-rest.invariant
    c.loop-rest-test.true)

pub returns : goal.returns
returns c =
    let both = entries_end _ _ _ _ _ _ _ _ (ap (set_bits 64 _) c.loop-rest-test.false ∙ set_bits_nothing 64 _) c.loop-rest.invariant.1 in record { counted = both.0; listed = both.1 }
