-- `wake::wake_of` meets its contract: the places are the order's, and the ends of the row are counted.
use Rattle.lists.specs.Kit.{arith}
use Rattle.mesh.specs.Lent.{read_of}
use Rattle.soundness.proofs.{WakeLaws.{ends_site, ends_placed, ends_room, ends_later}}
use Rattle.soundness.proofs.wake.wake_of.Goals as goal

pub place-requires : goal.place-requires
place-requires c =
    let t = read_of c.args.t.now in
    let small = (ends_site c.args.v t c.requires).small in (omega (arith, small), small)

pub overflow_cast-t : goal.overflow_cast-t
overflow_cast-t c =
    let t = read_of c.args.t.now in
    let site = ends_site c.args.v t c.requires in
    omega (arith, site.numbers_long, site.small)

pub count_ends-requires : goal.count_ends-requires
count_ends-requires c =
    let t = read_of c.args.t.now in
    (ends_room c.args.v t c.requires _ (omega (arith, c.place.auto.places)), c.highest_words-highest.ensures)

pub returns-in-Some : goal.returns-in-Some
returns-in-Some c =
    let t = read_of c.args.t.now in
    ends_later c.args.v t c.requires _ (ends_placed c.args.v t c.requires _ _ _ c.place.ensures) _ _ _ _
    c.in-Some.ensures

pub returns-in-None : goal.returns-in-None
returns-in-None c =
    let t = read_of c.args.t.now in
    ends_later c.args.v t c.requires _ (ends_placed c.args.v t c.requires _ _ _ c.place.ensures) _ _ _ _
    c.in-None.ensures
