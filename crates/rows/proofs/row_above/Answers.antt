-- `rows::row_above` meets its contract: the part of the list that is lent stops the byte, and what is written into it stands in
-- front of the list.
use Rattle.lists.specs.{Kit.{ap, ◌∙◌, ℕ, arith, take, length-take}, Lists.{overwrite}}
use Rattle.rows.specs.Rows.{neighbours_above}
use Rattle.rows.proofs.{Listing.{put_front}}
use Rattle.rows.proofs.row_above.Goals as goal

pub returns : goal.returns
returns c =
    let xs = neighbours_above c.args.links.now c.args.a in record {
      counted = omega (arith, c.list_above.ensures.counted, c.row_room-room.ensures, length-take c.row_room-room.result c.args.list.now);
      listed = put_front c.args.list.now _ xs c.row_room-room.result (omega (arith, c.row_room-room.ensures)) c.list_above.ensures.listed
          ∙ ap (λ (k : ℕ). overwrite (take k xs) c.args.list.now) c.row_room-room.ensures;
    }
