-- `mark_row` meets its contract: the words of the row are taken one by one, and what is left of the row gives with what is marked
-- what the whole row gives (`WordsMarking`).
use Rattle.std.specs.Prelude.{◌+◌, ◌*◌, ◌-◌, ◌<◌}
use Rattle.lists.specs.Kit.{◌∙◌, ℕ, arith, get_or}
use Rattle.mesh.specs.Limits.{row_bytes}
use Rattle.rows.proofs.RowWords.{word_of_row}
use Rattle.conditions.proofs.{TallyLaws.{row_fits}, MarkLaws.{words_marking_none, words_marking_turn, words_marking_end}}
use Rattle.hearing.proofs.one_sided.mark_row.Goals as goal

pub loop-k-init : goal.loop-k-init
loop-k-init c = words_marking_none _ _ _

pub overflow_add-n : goal.overflow_add-n
overflow_add-n c =
    let bytes : (j : ℕ) → get_or c.args.heard.now j 0 < 256 = λ j. (c.type_inv.heard j).fits in
    row_fits _ _ (words_marking_turn bytes c.loop-k.invariant c.loop-k-test.true
    (c.word_of.ensures
    ∙ word_of_row c.args.heard.now c.args.a c.loop-k.k (row_bytes * c.args.a + row_bytes - row_bytes * c.args.a) (omega arith) c.requires c.loop-k-test.true)
    c.mark_word-n.ensures).1.tally

pub loop-k-preserved : goal.loop-k-preserved
loop-k-preserved c =
    let bytes : (j : ℕ) → get_or c.args.heard.now j 0 < 256 = λ j. (c.type_inv.heard j).fits in
    words_marking_turn bytes c.loop-k.invariant c.loop-k-test.true
    (c.word_of.ensures
    ∙ word_of_row c.args.heard.now c.args.a c.loop-k.k (row_bytes * c.args.a + row_bytes - row_bytes * c.args.a) (omega arith) c.requires c.loop-k-test.true)
    c.mark_word-n.ensures

pub returns : goal.returns
returns c = words_marking_end c.loop-k.invariant c.loop-k-test.false
