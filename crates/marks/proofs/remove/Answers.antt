-- `remove` meets its contract: a refusal touches nothing; accepted, later places move down and the last used one is zeroed.
use Rattle.std.specs.Prelude.{◌≡◌, ◌+◌, ◌*◌, ◌-◌}
use Rattle.lists.specs.Kit.{ap, ◌∙◌, List, ℕ, arith, length, drop, replicate, length-drop, length-take-le, not-true, not-false}
use borrow.Rule.Slice.PartMut.{mid_of}
use Rattle.mesh.specs.{Marks.{place_bytes}, Lent.{read_of}}
use Rattle.calls.proofs.AnswerLaws.{refused_not}
use Rattle.marks.specs.Placing.{put_place}
use Rattle.marks.proofs.{Moving.{length_moved_down}, Placed.{placed_at}, CallLaws.{remove_refused, remove_absent, removed}}
use Rattle.marks.proofs.remove.Goals as goal

pub returns-in-Err : goal.returns-in-Err
returns-in-Err c = remove_refused _ _ (read_of c.args.t.now) _ _ c.in-Err.ensures.asked (refused_not c.in-Err.refusal)

pub returns-then-not-spot : goal.returns-then-not-spot
returns-then-not-spot c =
    remove_absent _ _ (read_of c.args.t.now) _ c.in-Ok.ensures.asked _ _ _ c.in-Ok.ensures.located (not-true _ c.if-not-spot.true)

pub returns : goal.returns
returns c =
    let s = c.in-Ok.ensures.located in
    let there = not-false _ c.if-not-spot.false in
    let less = s.less there in
    let long = ap length c.move_down.ensures ∙ length_moved_down c.args.kept.now _ _ (omega arith) (omega (arith, less)) (omega
    (arith, s.long, s.few)) ∙ s.long in
    let ds = c.move_down.new.kept in
    let i = c.in-Ok.spot.used - 1 in
    let e : place_bytes * i + place_bytes - place_bytes * i ≡ place_bytes = omega arith in
    removed _ _ (read_of c.args.t.now) _ c.in-Ok.ensures.asked _ _ _ s there
    (length (mid_of (place_bytes * i) (place_bytes * i + place_bytes - place_bytes * i) ds)) _
    (rw e (length-take-le place_bytes (drop (place_bytes * i) ds) (omega (arith, length-drop (place_bytes * i) ds, long, s.few, less))))
    (placed_at ds i c.fill.new.d _ c.fill.ensures
    ∙ ap (λ (os : List ℕ). put_place os i (replicate (length (mid_of (place_bytes * i) (place_bytes * i + place_bytes - place_bytes * i) ds)) 0))
    c.move_down.ensures)
