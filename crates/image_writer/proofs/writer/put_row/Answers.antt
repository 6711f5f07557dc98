-- `writer::put_row` meets its contract: the cursor's word first; where nothing of it is left, the words after it.
use Rattle.image_writer.proofs.{LinksPut.{row_stop, row_turn}}
use Rattle.image_writer.proofs.writer.put_row.Goals as goal

pub returns-then-own-ne0-clause-put : goal.returns-then-own-ne0-clause-put
returns-then-own-ne0-clause-put c = row_stop c.args.links.now _ c.args.c.k _ _ _ (c.put_bits-own.ensures.put)

pub returns-clause-put : goal.returns-clause-put
returns-clause-put c =
    row_turn c.args.links.now _ c.args.c.k _ _ _ (c.put_bits-own.ensures.put) c.if-own-ne0.false _ _ _ c.put_words.ensures.put
