-- `soundness::is_sound` meets its contract: with the order placed and its numbers rising, the rows decide (`sound_rows`).
use Rattle.mesh.specs.Lent.{read_of}
use Rattle.soundness.proofs.CheckLaws.{place_room, held_unplaced, entries_below, held_falls, rows_room, held_rows}
use Rattle.soundness.proofs.is_sound.Goals as goal

pub place-requires : goal.place-requires
place-requires c =
    let t = read_of c.args.t.now in
    place_room c.args.t.now.radios t c.args.places.now c.args.not_lower.now c.requires

pub returns-then-not-place : goal.returns-then-not-place
returns-then-not-place c =
    let t = read_of c.args.t.now in
    held_unplaced c.args.t.now.radios t c.args.places.now c.args.not_lower.now c.requires _ _ _ c.place.ensures (c.if-not-place.true)

pub rises-requires : goal.rises-requires
rises-requires c =
    let t = read_of c.args.t.now in
    entries_below c.args.t.now.radios t c.args.places.now c.args.not_lower.now c.requires _ _ c.place.ensures (c.if-not-place.false)

pub returns-then-not-rises : goal.returns-then-not-rises
returns-then-not-rises c =
    let t = read_of c.args.t.now in
    held_falls c.args.t.now.radios t c.args.places.now c.args.not_lower.now c.requires _ _ c.place.ensures (c.if-not-place.false) _ _
    c.rises.ensures (c.if-not-rises.true)

pub rows_checked-requires : goal.rows_checked-requires
rows_checked-requires c =
    let t = read_of c.args.t.now in
    rows_room c.args.t.now.radios t c.args.places.now c.args.not_lower.now c.requires _ _ c.place.ensures (c.if-not-place.false)

pub returns : goal.returns
returns c =
    let t = read_of c.args.t.now in
    held_rows c.args.t.now.radios t c.args.places.now c.args.not_lower.now c.requires _ _ c.place.ensures (c.if-not-place.false) _
    c.rises.ensures (c.if-not-rises.false) _ _ c.rows_checked.ensures
