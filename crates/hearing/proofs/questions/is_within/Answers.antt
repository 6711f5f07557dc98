-- `is_within` meets its contract: no radio from n on is marked as far as none from b on is, and none of the word of b from b
-- on is where what is left of the word is 0. The measure is the radios left.
use Rattle.std.specs.Prelude.{◌+◌, ◌*◌, ◌-◌, ◌/◌, ◌<◌}
use Rattle.lists.specs.Kit.{◌∙◌, ℕ, arith, get_or}
use Rattle.mesh.specs.Limits.{row_bytes}
use Rattle.rows.proofs.RowWords.{word_of_row}
use Rattle.conditions.{proofs.AskLaws.{within_end, word_turn, word_no}}
use Rattle.hearing.proofs.questions.is_within.Goals as goal

pub returns-then-word_of-b-ne0 : goal.returns-then-word_of-b-ne0
returns-then-word_of-b-ne0 c =
    let bytes : (j : ℕ) → get_or c.args.heard.now j 0 < 256 = λ j. (c.type_inv.heard j).fits in
    word_no c.args.heard.now bytes c.args.a c.loop-b.b c.word_of.result c.loop-b-test.true
    (c.word_of.ensures
    ∙ word_of_row c.args.heard.now c.args.a (c.loop-b.b / 64) (row_bytes * c.args.a + row_bytes - row_bytes * c.args.a) (omega arith) c.requires
    (omega (arith, c.loop-b-test.true)))
    c.args.n c.loop-b.invariant c.if-word_of-b-ne0.true

pub loop-b-preserved : goal.loop-b-preserved
loop-b-preserved c =
    let bytes : (j : ℕ) → get_or c.args.heard.now j 0 < 256 = λ j. (c.type_inv.heard j).fits in
    word_turn c.args.heard.now bytes c.args.a c.loop-b.b c.word_of.result c.loop-b-test.true
    (c.word_of.ensures
    ∙ word_of_row c.args.heard.now c.args.a (c.loop-b.b / 64) (row_bytes * c.args.a + row_bytes - row_bytes * c.args.a) (omega arith) c.requires
    (omega (arith, c.loop-b-test.true)))
    c.args.n c.loop-b.invariant c.if-word_of-b-ne0.false

pub returns : goal.returns
returns c = within_end _ _ _ _ c.loop-b.invariant c.loop-b-test.false
