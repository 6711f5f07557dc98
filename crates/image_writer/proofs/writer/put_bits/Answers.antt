-- `writer::put_bits` meets its contract: each turn takes the lowest set bit off the word, and what is put so far leaves the links of the others
-- (`LinksPut`). The measure is the word that is left.
use Rattle.lists.specs.Kit.{refl, ◌∙◌, arith, rules}
use Rattle.rows.{proofs.WordLaws.{word_less}}
use Rattle.image_writer.proofs.{LinksPut.{put_none, bits_turn}}
use Rattle.image_writer.proofs.writer.put_bits.Goals as goal

pub loop-rest-init : goal.loop-rest-init
loop-rest-init c = (search rules, c.requires.1.0, refl, put_none _ _ _ c.requires.1.1)

pub loop-rest-preserved : goal.loop-rest-preserved
loop-rest-preserved c = (
  word_less c.loop-rest.rest c.loop-rest.invariant.0,
  omega (arith, c.loop-rest.invariant.1),
  c.put_link.auto.part ∙ c.loop-rest.invariant.2,
  bits_turn _ _ c.loop-rest.rest c.loop-rest-test.true c.loop-rest.invariant.0 _ c.loop-rest.invariant.3 (omega (arith, c.loop-rest.invariant.1, c.loop-rest.invariant.3.within, c.if-at-eq-BODY.false))
      (c.put_link.ensures),
)
