-- `rows::list_word` meets its contract: what is written into the rest of the list is written from its place on.
use Rattle.lists.{specs.Kit.{sym, arith, length}, proofs.Overwrite.{sets_full}}
use borrow.Rule.Slice.PartMut.{mid_len}
use Rattle.rows.specs.Rows.{set_bits}
use Rattle.rows.proofs.{Listing.{put_rest}}
use Rattle.rows.proofs.list_word.Goals as goal

pub returns-then-list-at : goal.returns-then-list-at
returns-then-list-at c =
    record {
      counted = omega (arith, c.if-list-at.true);
      listed = sym (sets_full c.args.list.now c.args.at (set_bits 64 c.args.first c.args.word) c.if-list-at.true);
    }

pub returns : goal.returns
returns c =
    let rest = mid_len c.args.at (length c.args.list.now) c.args.list.now (omega arith) in
    record {
      counted = omega (arith, c.list_bits.ensures.counted, rest);
      listed = put_rest c.args.list.now _ (set_bits 64 c.args.first c.args.word) c.args.at (omega arith) c.list_bits.ensures.listed;
    }
