-- `rows::list_above` meets its contract: what is left of the row's own word is listed, and then the words after it.
use Rattle.std.specs.Prelude.{◌+◌, ◌/◌, ◌%◌, ◌^◌}
use Rattle.lists.{specs.Kit.{refl, [], arith}, proofs.Overwrite.{sets_front}}
use Rattle.rows.specs.Rows.{row_from, set_bits}
use Rattle.rows.proofs.{AboveWords.{above_past, above_short, above_words, two_listed}}
use Rattle.rows.proofs.list_above.Goals as goal

pub returns-then-a-ge-RADIOS : goal.returns-then-a-ge-RADIOS
returns-then-a-ge-RADIOS c =
    rw (above_past c.args.links.now c.args.a c.if-a-ge-RADIOS.true) record { counted = omega arith; listed = sets_front c.args.list.now [] }

pub returns-then-links-start : goal.returns-then-links-start
returns-then-links-start c =
    rw (above_short c.args.links.now c.args.a c.if-links-start.true) record { counted = omega arith; listed = sets_front c.args.list.now [] }

pub returns : goal.returns
returns c =
    let left = c.word_at.result / 2 ^ (c.args.a % 64) / 2 ^ 1 in
    let both = two_listed (set_bits 64 (c.args.a + 1) left) (row_from c.args.links.now c.args.a (c.args.a / 64 + 1)) _ c.args.list.now _ _ _ _
    (above_words c.args.links.now c.args.a c.if-a-ge-RADIOS.false c.if-links-start.false (λ j. (c.type_inv.links j).fits) c.word_at.result
    left
    c.word_at.ensures refl)
    c.list_bits-n.ensures.counted c.list_bits-n.ensures.listed c.list_words.ensures.counted c.list_words.ensures.listed in
    record { counted = both.0; listed = both.1 }
