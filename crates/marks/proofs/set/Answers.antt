-- `set` meets its contract: a refusal touches nothing; a mark of that name is replaced; a new one is put where it belongs, after later
-- places have moved up.
use Rattle.lists.specs.Kit.{ap, ◌∙◌, List, ℕ, arith, length}
use Rattle.mesh.specs.Lent.{read_of}
use Rattle.calls.proofs.AnswerLaws.{refused_not}
use Rattle.marks.specs.Placing.{mark_place, put_place}
use Rattle.marks.proofs.{Moving.{length_moved_up}, CallLaws.{set_refused, markable, set_again, set_full, set_new}}
use Rattle.marks.proofs.set.Goals as goal

pub returns-in-Err : goal.returns-in-Err
returns-in-Err c = set_refused _ _ (read_of c.args.t.now) _ _ c.in-Err.ensures.asked (refused_not c.in-Err.refusal)

pub put_at-requires : goal.put_at-requires
put_at-requires c =
    let s = c.in-Ok.ensures.located in (markable _ _ (read_of c.args.t.now) _ c.in-Ok.ensures.asked, s.long, omega (arith, s.few, s.less c.if-spot.true))

pub returns-then-spot : goal.returns-then-spot
returns-then-spot c = set_again _ _ (read_of c.args.t.now) _ c.in-Ok.ensures.asked _ _ _ c.in-Ok.ensures.located c.if-spot.true _ c.put_at.ensures

pub returns-then-spot-eq-PLACES : goal.returns-then-spot-eq-PLACES
returns-then-spot-eq-PLACES c =
    set_full _ _ (read_of c.args.t.now) _ c.in-Ok.ensures.asked _ _ _ c.in-Ok.ensures.located c.if-spot.false c.if-spot-eq-PLACES.true

pub put_at-requires-2 : goal.put_at-requires-2
put_at-requires-2 c =
    let s = c.in-Ok.ensures.located in
    let long = ap length c.move_up.ensures ∙ length_moved_up c.args.kept.now _ _ (omega (arith, s.low)) (omega
    (arith, s.long, s.few, c.if-spot-eq-PLACES.false)) ∙ s.long in
    (markable _ _ (read_of c.args.t.now) _ c.in-Ok.ensures.asked, long, omega (arith, s.low, s.few, c.if-spot-eq-PLACES.false))

pub returns : goal.returns
returns c =
    let t = read_of c.args.t.now in
    set_new _ _ t _ c.in-Ok.ensures.asked _ _ _ c.in-Ok.ensures.located c.if-spot.false c.if-spot-eq-PLACES.false _
    (c.put_at-2.ensures ∙ ap (λ (os : List ℕ). put_place os c.in-Ok.spot.rank (mark_place c.args.t.now.radios t c.args.name.now)) c.move_up.ensures)
