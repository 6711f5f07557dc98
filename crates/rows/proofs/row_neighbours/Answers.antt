-- `rows::row_neighbours` meets its contract: all words of the row are listed; the part of the list that is lent stops the byte, and what
-- is written into it stands in front of the list.
use Rattle.lists.specs.{Kit.{sym, ap, ◌∙◌, ℕ, suc, min, arith, length, take}, Lists.{overwrite}}
use Rattle.mesh.specs.Limits.{max_neighbours}
use Rattle.rows.specs.Rows.{row_listed, row_count}
use Rattle.rows.proofs.{Listing.{front_part, front_none}, RowWords.{row_from_zero, row_listed_whole, row_listed_short, front_listed}}
use Rattle.rows.proofs.row_neighbours.Goals as goal

pub returns-then-links-a : goal.returns-then-links-a
unfolding row_count
returns-then-links-a c =
    rw (row_listed_short c.args.links.now c.args.a c.if-links-a.true)
    record { counted = omega arith; listed = front_none c.args.list.now (min (length c.args.list.now) (suc max_neighbours)) }

pub returns : goal.returns
unfolding row_count
returns c =
    let xs = row_listed c.args.links.now c.args.a in
    let all = row_from_zero c.args.links.now c.args.a ∙ sym (row_listed_whole c.args.links.now c.args.a c.if-links-a.false) in
    let front = front_part c.args.list.now _ xs c.row_room-room.result _ (omega (arith, c.row_room-room.ensures))
    (front_listed _ xs (take c.row_room-room.result c.args.list.now) _ _ all c.list_words.ensures.counted c.list_words.ensures.listed) in
    record {
      counted = omega (arith, front.0, c.row_room-room.ensures);
      listed = front.1 ∙ ap (λ (k : ℕ). overwrite (take k xs) c.args.list.now) c.row_room-room.ensures;
    }
