-- `writer::put_words` meets its contract: what is put so far leaves the links of the words from k on.
use Rattle.lists.specs.Kit.{refl, ◌∙◌, inl, arith}
use Rattle.image_writer.proofs.LinksPut.{put_none, words_stop, words_turn, words_end, row_left_none}
use Rattle.image_writer.proofs.writer.put_words.Goals as goal

pub loop-k-init : goal.loop-k-init
loop-k-init c = (c.requires.2, c.requires.1.0, refl, put_none _ _ _ c.requires.1.1)

pub returns-then-put-ne0-clause-put : goal.returns-then-put-ne0-clause-put
returns-then-put-ne0-clause-put c =
    words_stop c.args.links.now (λ j. (c.type_inv.links j).fits) c.args.a c.loop-k.k _ (omega arith) (c.row_word.ensures)
    c.loop-k.invariant.3 _ _ _ (c.put_bits-put.ensures.put)

pub loop-k-preserved : goal.loop-k-preserved
loop-k-preserved c = (
  omega arith,
  omega (arith, c.loop-k.invariant.1, c.put_bits-put.ensures.put.place),
  c.put_bits-put.auto.part ∙ c.loop-k.invariant.2,
  words_turn c.args.links.now (λ j. (c.type_inv.links j).fits) c.args.a c.loop-k.k _ (omega arith)
      (c.row_word.ensures)
      c.loop-k.invariant.3 _ _ _ (c.put_bits-put.ensures.put) c.if-put-ne0.false,
)

pub returns : goal.returns
returns c =
    record {
      put = words_end c.args.links.now c.args.a c.loop-k.k c.loop-k-test.false c.loop-k.invariant.3;
      stopped = (inl (refl, row_left_none c.args.links.now c.args.a 0 0 refl), record { same = refl; low = omega arith; small = omega arith });
    }
