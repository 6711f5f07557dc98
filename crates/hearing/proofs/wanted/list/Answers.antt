-- `list` meets its contract: the words of the rows are taken one by one, and what is left gives with what is written what all of
-- them give (`WordsListing`).
use Rattle.std.specs.Prelude.{◌≡◌, ◌+◌, ◌*◌, ◌-◌}
use Rattle.lists.specs.Kit.{◌∙◌, arith, rules}
use Rattle.mesh.specs.Limits.{row_bytes}
use Rattle.rows.proofs.RowWords.{word_of_row}
use Rattle.conditions.{specs.Hearing.{above_from}, proofs.WantLaws.{row_tells, words_listing_none, words_listing_turn}}
use Rattle.conditions.{proofs.WantLaws.{words_listing_end}}
use Rattle.hearing.proofs.wanted.list.Goals as goal

pub loop-k-init : goal.loop-k-init
unfolding above_from
loop-k-init c = words_listing_none _ _ _ _

pub loop-k-preserved : goal.loop-k-preserved
loop-k-preserved c =
    let long = row_bytes * c.args.a + row_bytes - row_bytes * c.args.a in
    let same : long ≡ row_bytes = omega arith in
    words_listing_turn _ _ c.loop-k.invariant c.loop-k-test.true c.wanted_word-word.result
    (row_tells _ _ _ _ c.args.hearing.now.heard_bytes c.args.hearing.now.one_sided_bytes
    (λ j. (c.type_inv.links j).fits) c.args.a c.loop-k.k _ _ _ _
    (c.word_of.ensures ∙ word_of_row c.args.hearing.now.heard.now c.args.a c.loop-k.k long same c.requires.0 c.loop-k-test.true)
    (c.word_of-in-loop-k.ensures ∙ word_of_row c.args.hearing.now.one_sided.now c.args.a c.loop-k.k long same c.requires.1 c.loop-k-test.true)
    (c.word_of-in-loop-k-2.ensures ∙ word_of_row c.args.links.now c.args.a c.loop-k.k long same c.requires.2 c.loop-k-test.true)
    c.wanted_word-word.ensures)
    (search rules) c.list_above-n.ensures

pub returns : goal.returns
returns c = words_listing_end _ _ c.loop-k.invariant c.loop-k-test.false
