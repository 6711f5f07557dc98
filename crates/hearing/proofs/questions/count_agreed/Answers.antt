-- `count_agreed` meets its contract: the words of the row are taken one by one, and what is left of the row comes with what is
-- counted to what the whole row comes to (`WordsCounting`).
use Rattle.std.specs.Prelude.{◌+◌, ◌*◌, ◌-◌, ◌<◌}
use Rattle.lists.specs.Kit.{◌∙◌, ℕ, arith, get_or}
use Rattle.mesh.specs.Limits.{row_bytes}
use Rattle.rows.proofs.RowWords.{word_of_row}
use Rattle.conditions.{proofs.TallyLaws.{row_fits, words_counting_none, words_counting_turn, words_counting_end}}
use Rattle.hearing.proofs.questions.count_agreed.Goals as goal

pub loop-k-init : goal.loop-k-init
loop-k-init c = words_counting_none _ _ _

pub overflow_add-n : goal.overflow_add-n
overflow_add-n c =
    let bytes : (j : ℕ) → get_or c.args.heard.now j 0 < 256 = λ j. (c.type_inv.heard j).fits in
    row_fits _ _ (words_counting_turn _ bytes c.args.a c.loop-k.k c.loop-k.invariant c.loop-k-test.true c.word_of.result
    (c.word_of.ensures
    ∙ word_of_row c.args.heard.now c.args.a c.loop-k.k (row_bytes * c.args.a + row_bytes - row_bytes * c.args.a) (omega arith) c.requires c.loop-k-test.true)
    c.count_word-n.ensures).1

pub loop-k-preserved : goal.loop-k-preserved
loop-k-preserved c =
    let bytes : (j : ℕ) → get_or c.args.heard.now j 0 < 256 = λ j. (c.type_inv.heard j).fits in
    words_counting_turn _ bytes c.args.a c.loop-k.k c.loop-k.invariant c.loop-k-test.true c.word_of.result
    (c.word_of.ensures
    ∙ word_of_row c.args.heard.now c.args.a c.loop-k.k (row_bytes * c.args.a + row_bytes - row_bytes * c.args.a) (omega arith) c.requires c.loop-k-test.true)
    c.count_word-n.ensures

pub returns : goal.returns
returns c = words_counting_end _ _ c.loop-k.k c.loop-k.invariant c.loop-k-test.false
