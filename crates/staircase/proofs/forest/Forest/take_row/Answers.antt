-- `take_row` meets its contract: the links of what is left of the row's own word, and then of the words after it.
use Rattle.std.specs.Prelude.{◌+◌, ◌*◌, ◌-◌, ◌/◌, ◌%◌, ◌^◌}
use Rattle.lists.specs.{Kit.{sym, arith, bit_and}, Lists.{filter}}
use Rattle.mesh.specs.Limits.{row_bytes}
use Rattle.rows.specs.{Rows.{row_from, set_bits}, Sets.{in_set}, Links.{links_to}}
use Rattle.staircase.proofs.{TakingLaws.{taking_none, taking_front, taking_part, taking_last}, RowLaws.{row_words}}
use Rattle.staircase.proofs.forest.Forest.take_row.Goals as goal

pub take_bits-requires : goal.take_bits-requires
take_bits-requires c =
    let x = bit_and c.word_of.result c.word.result / 2 ^ (c.args.a % 64) / 2 ^ 1 in
    let words =
    row_words c.args.links.now (λ j. (c.type_inv.links j).fits) c.args.set.now c.args.a _ x
    (row_bytes * c.args.a + row_bytes - row_bytes * c.args.a) c.requires.0 c.requires.1 (omega arith) c.word_of.ensures (rw c.word.ensures) in
    let rest = links_to c.args.a (filter (in_set c.args.set.now) (row_from c.args.links.now c.args.a (c.args.a / 64 + 1))) in (
      omega (arith, c.requires.0),
      taking_front _ _ (links_to c.args.a (set_bits 64 (c.args.a + 1) x)) rest _
          (taking_none _ _ _ (sym words) c.requires.2),
    )

pub take_words-requires : goal.take_words-requires
take_words-requires c =
    let x = bit_and c.word_of.result c.word.result / 2 ^ (c.args.a % 64) / 2 ^ 1 in
    let words =
    row_words c.args.links.now (λ j. (c.type_inv.links j).fits) c.args.set.now c.args.a _ x
    (row_bytes * c.args.a + row_bytes - row_bytes * c.args.a) c.requires.0 c.requires.1 (omega arith) c.word_of.ensures (rw c.word.ensures) in
    let rest = links_to c.args.a (filter (in_set c.args.set.now) (row_from c.args.links.now c.args.a (c.args.a / 64 + 1))) in
    let left = taking_part _ _ (links_to c.args.a (set_bits 64 (c.args.a + 1) x)) rest _ _
    (taking_none _ _ _ (sym words) c.requires.2)
    c.take_bits.ensures in
    (c.requires.0, omega (arith, c.requires.0), c.requires.1, left.ready)

pub returns : goal.returns
returns c =
    let x = bit_and c.word_of.result c.word.result / 2 ^ (c.args.a % 64) / 2 ^ 1 in
    let words =
    row_words c.args.links.now (λ j. (c.type_inv.links j).fits) c.args.set.now c.args.a _ x
    (row_bytes * c.args.a + row_bytes - row_bytes * c.args.a) c.requires.0 c.requires.1 (omega arith) c.word_of.ensures (rw c.word.ensures) in
    let rest = links_to c.args.a (filter (in_set c.args.set.now) (row_from c.args.links.now c.args.a (c.args.a / 64 + 1))) in
    let left = taking_part _ _ (links_to c.args.a (set_bits 64 (c.args.a + 1) x)) rest _ _
    (taking_none _ _ _ (sym words) c.requires.2)
    c.take_bits.ensures in
    taking_last _ _ _ _ _ left c.take_words.ensures
