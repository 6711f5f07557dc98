-- `writer::put_links` meets its contract: what the cursor leaves of its row first; where nothing of that is left, the rows after it.
use Rattle.image_writer.proofs.{LinksPut.{left_stop_as, left_turn_as, row_none}}
use Rattle.image_writer.proofs.writer.put_links.Goals as goal

pub returns-then-own-ne0-clause-put : goal.returns-then-own-ne0-clause-put
returns-then-own-ne0-clause-put c = left_stop_as _ _ _ _ _ _ c.requires.1 _ _ _ (c.put_row-own.ensures.put) _ c.put_row-own.ensures.stopped.1.same

pub returns-clause-put : goal.returns-clause-put
returns-clause-put c =
    left_turn_as _ _ _ _ _ _ c.requires.1 _ _ _ (c.put_row-own.ensures.put)
    (row_none _ _ _ _ _ _ (c.put_row-own.ensures.stopped.0) c.if-own-ne0.false) _ _ _ c.put_rows.ensures.put
