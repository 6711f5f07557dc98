-- `take_words` meets its contract: the links from word k on give what all of them give (`Taking`). The measure is the words left.
use Rattle.std.specs.Prelude.{◌+◌, ◌*◌, ◌-◌, ◌<◌}
use Rattle.lists.specs.{Kit.{arith, bit_and}, Lists.{filter}}
use Rattle.mesh.specs.Limits.{row_bytes}
use Rattle.rows.specs.{Rows.{row_from, set_bits}, Sets.{in_set}, Links.{links_to}}
use Rattle.staircase.proofs.{TakingLaws.{taking_front, taking_part, taking_end}, RowLaws.{words_among, words_past}}
use Rattle.staircase.proofs.forest.Forest.take_words.Goals as goal

pub take_bits-requires : goal.take_bits-requires
take_bits-requires c =
    let less : c.loop-k.k < 8 = omega (arith, c.loop-k-test.true, c.least-words.ensures) in
    let word = rw (← c.word.ensures) at (words_among c.args.links.now (λ j. (c.type_inv.links j).fits) c.args.set.now c.args.a c.loop-k.k c.word_of.result
    (row_bytes * c.args.a + row_bytes - row_bytes * c.args.a) less c.requires.2 (omega arith) c.word_of.ensures) in (
      omega (arith, less),
      taking_front _ _ (links_to c.args.a (set_bits 64 (64 * c.loop-k.k) (bit_and c.word_of.result c.word.result)))
          (links_to c.args.a (filter (in_set c.args.set.now) (row_from c.args.links.now c.args.a (c.loop-k.k + 1)))) _ (rw word at c.loop-k.invariant.1),
    )

pub loop-k-preserved : goal.loop-k-preserved
loop-k-preserved c =
    let less : c.loop-k.k < 8 = omega (arith, c.loop-k-test.true, c.least-words.ensures) in
    let word = rw (← c.word.ensures) at (words_among c.args.links.now (λ j. (c.type_inv.links j).fits) c.args.set.now c.args.a c.loop-k.k c.word_of.result
    (row_bytes * c.args.a + row_bytes - row_bytes * c.args.a) less c.requires.2 (omega arith) c.word_of.ensures) in (
      omega (arith, less),
      taking_part _ _ (links_to c.args.a (set_bits 64 (64 * c.loop-k.k) (bit_and c.word_of.result c.word.result)))
          (links_to c.args.a (filter (in_set c.args.set.now) (row_from c.args.links.now c.args.a (c.loop-k.k + 1)))) _ _
          (rw word at c.loop-k.invariant.1)
          c.take_bits.ensures,
    )

pub returns : goal.returns
returns c =
    taking_end _ _ _ _
    (words_past c.args.links.now (λ j. (c.type_inv.links j).fits) c.args.set.now c.args.a c.loop-k.self c.loop-k.k
    (omega (arith, c.least-words.ensures, c.loop-k-test.false, c.loop-k.invariant.1.long)) c.loop-k.invariant.1.ready) c.loop-k.invariant.1
