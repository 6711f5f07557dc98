-- `turn::take_left` meets its contract: of the row of an end, with one bit put, and of any other row as it is, what is left is released.
use Rattle.std.specs.Prelude.{◌+◌, ◌*◌, ◌-◌}
use Rattle.lists.specs.Kit.{refl, ◌∙◌, true, arith, rules}
use Rattle.mesh.specs.Limits.{row_bytes}
use Rattle.plan.proofs.NearLaws.{releasable_same, released_same, near_left_same, length_part, neighbours_of_end, neighbours_of_lent}
use Rattle.plan.proofs.turn.take_left.Goals as goal

pub end_row-row-requires : goal.end_row-row-requires
end_row-row-requires c = (c.requires.0.row, (neighbours_of_end true _ _ _ _ _ c.other_end-w.ensures c.if-w-v.true c.requires.0).0)

pub release_left-requires : goal.release_left-requires
release_left-requires c =
    let same = neighbours_of_end _ _ _ _ _ _ c.other_end-w.ensures c.if-w-v.true c.requires.0 in
    (search rules, releasable_same _ _ _ _ (near_left_same _ _ _ _ _ _ (c.end_row-row.ensures ∙ same.1) refl) c.requires.1)

pub returns-then-w-v : goal.returns-then-w-v
returns-then-w-v c =
    let same = neighbours_of_end _ _ _ _ _ _ c.other_end-w.ensures c.if-w-v.true c.requires.0 in
    let both = released_same _ _ _ _ _ _ _ _ _ (near_left_same _ _ _ _ _ _ (c.end_row-row.ensures ∙ same.1) refl) c.take_out.ensures.left
    c.release_left.ensures.counted c.release_left.ensures.marked in record { counted = both.0; marked = both.1 }

pub release_left-requires-2 : goal.release_left-requires-2
release_left-requires-2 c =
    let long = row_bytes * c.args.v + row_bytes - row_bytes * c.args.v in (
      length_part _ c.args.v long (omega arith) c.requires.0.row,
      releasable_same _ _ _ _ (near_left_same _ _ _ _ _ _ (neighbours_of_lent _ _ _ _ _ _ c.other_end-w.ensures long (omega arith) c.if-w-v.false
          c.requires.0)
          refl) c.requires.1,
    )

pub returns : goal.returns
returns c =
    let long = row_bytes * c.args.v + row_bytes - row_bytes * c.args.v in
    let same = neighbours_of_lent _ _ _ _ _ _ c.other_end-w.ensures long (omega arith) c.if-w-v.false c.requires.0 in
    let both = released_same _ _ _ _ _ _ _ _ _ (near_left_same _ _ _ _ _ _ same refl) c.take_out.ensures.left
    c.release_left-2.ensures.counted c.release_left-2.ensures.marked in record { counted = both.0; marked = both.1 }
