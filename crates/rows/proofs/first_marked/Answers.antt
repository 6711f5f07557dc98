-- `rows::first_marked` meets its contract: no radio is marked before word k (`Searching`), and the lowest set bit of the first
-- word that is not 0 is the row's. The measure is the words that are left.
use Rattle.std.specs.Prelude.{◌<◌}
use Rattle.lists.specs.{Kit.{sym, ap, ◌∙◌, ℕ, get_or}}
use Rattle.rows.specs.Rows.{first_in, neighbours_of}
use Rattle.rows.proofs.{RowWords.{searching_turn, searching_found, searching_end, marked_read, read_less, row_listed_whole}}
use Rattle.rows.proofs.{RowWords.{row_listed_short}}
use Rattle.rows.proofs.first_marked.Goals as goal

pub returns-then-links-start : goal.returns-then-links-start
unfolding first_in
returns-then-links-start c = sym (ap first_in (row_listed_short _ _ c.if-links-start.true))

pub returns-then-word-ne0 : goal.returns-then-word-ne0
unfolding neighbours_of
returns-then-word-ne0 c =
    let bytes : (j : ℕ) → get_or c.args.links.now j 0 < 256 = λ j. (c.type_inv.links j).fits in
    searching_found _ c.loop-k.k _ c.loop-k-test.true
    (marked_read c.args.links.now bytes c.args.a c.loop-k.k c.word_at-word.result c.word_at-word.ensures)
    c.loop-k.invariant (read_less c.args.links.now bytes _ c.word_at-word.ensures) c.if-word-ne0.true
    ∙ sym (ap first_in (row_listed_whole c.args.links.now c.args.a c.if-links-start.false))

pub loop-k-preserved : goal.loop-k-preserved
loop-k-preserved c =
    searching_turn _ c.loop-k.k _ c.loop-k-test.true
    (marked_read c.args.links.now (λ j. (c.type_inv.links j).fits) c.args.a c.loop-k.k c.word_at-word.result
    c.word_at-word.ensures)
    c.loop-k.invariant c.if-word-ne0.false

pub returns : goal.returns
unfolding neighbours_of
returns c =
    searching_end _ c.loop-k.k c.loop-k-test.false c.loop-k.invariant
    ∙ sym (ap first_in (row_listed_whole c.args.links.now c.args.a c.if-links-start.false))
