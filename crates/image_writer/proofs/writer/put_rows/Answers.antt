-- `writer::put_rows` meets its contract: what is put so far leaves the links of the rows from a on.
use Rattle.lists.specs.Kit.{refl, ◌∙◌, inr, arith}
use Rattle.image_writer.proofs.LinksPut.{put_none, rows_stop_as, rows_turn_as, rows_end, links_left_end, row_none}
use Rattle.image_writer.proofs.writer.put_rows.Goals as goal

pub loop-a-init : goal.loop-a-init
loop-a-init c = (c.requires.2, c.requires.1.0, refl, put_none _ _ _ c.requires.1.1)

pub returns-then-put-ne0-clause-put : goal.returns-then-put-ne0-clause-put
returns-then-put-ne0-clause-put c =
    rows_stop_as _ _ _ (c.loop-a-test.true) c.loop-a.invariant.3 _ _ _ c.row_start.ensures.started c.row_start.ensures.there _ _ _
    (c.put_row-put.ensures.put) _ c.put_row-put.ensures.stopped.1.same

pub loop-a-preserved : goal.loop-a-preserved
loop-a-preserved c = (
  omega arith,
  omega (arith, c.loop-a.invariant.1, c.put_row-put.ensures.put.place, c.row_start.ensures.there.0),
  c.put_row-put.auto.part ∙ c.loop-a.invariant.2,
  rows_turn_as _ _ _ (c.loop-a-test.true) c.loop-a.invariant.3 _ _ _ c.row_start.ensures.started c.row_start.ensures.there _ _ _ (c.put_row-put.ensures.put)
      (row_none _ _ _ _ _ _ (c.put_row-put.ensures.stopped.0) c.if-put-ne0.false),
)

pub returns : goal.returns
returns c =
    record {
      put = rows_end c.args.n c.args.links.now c.loop-a.a c.loop-a-test.false c.loop-a.invariant.3;
      stopped = record {
        low = omega arith;
        small = omega arith;
        either = inr (
          omega arith,
          links_left_end c.args.n c.args.links.now c.args.n 0
              (omega arith),
        );
      };
    }
