-- `reader::read_site` meets its contract: nothing is written before questions 15 and 11 got yes.
use Rattle.lists.specs.{Kit.{refl, arith}, Facts.{Bytes}}
use Rattle.calls.proofs.AnswerLaws.{refused_not}
use Rattle.mesh.specs.Tables.{tables}
use Rattle.mesh.proofs.Sizes.{size_good_true}
use Rattle.image_reader.proofs.{SiteLaws.{site_accepted, links_room}, SourceLaws.{source_refused, source_accepted, source_site, source_says}}
use Rattle.image_reader.proofs.reader.read_site.Goals as goal

pub returns-in-Err : goal.returns-in-Err
returns-in-Err c = source_refused _ _ _ c.requires.asked _ _ _ c.in-Err.ensures (refused_not c.in-Err.refusal)

pub put_links-requires : goal.put_links-requires
put_links-requires c =
    let same = source_says _ _ _ _ _ _ c.requires.room.this_size c.requires.room.room.says.radios_said c.in_default.ensures refl in
    let bytes : Bytes c.args.image.now = λ j l. (c.type_inv.image j).fits in
    rw same (
      links_room _ _ (size_good_true _ c.requires.room.this_size).1 _ _ _ (source_site _ _ _ _ _ c.in_default.ensures refl) refl bytes
          c.requires.room.room.checked _ c.requires.room.room.says.links_said c.requires.room.room.says.links_fit,
      c.requires.sized.0,
    )

pub put_numbers-requires : goal.put_numbers-requires
put_numbers-requires c =
    omega (
      arith,
      source_says _ _ _ _ _ _ c.requires.room.this_size c.requires.room.room.says.radios_said c.in_default.ensures refl,
      c.ask.auto.cores,
      c.requires.room.room.cores_long,
      c.requires.sized.1,
    )

pub returns : goal.returns
returns c =
    let same = source_says _ _ _ _ _ _ c.requires.room.this_size c.requires.room.room.says.radios_said c.in_default.ensures refl in
    source_accepted _ _ _ c.requires.asked _ _ _ c.in_default.ensures refl _
    (site_accepted _ _ (size_good_true _ c.requires.room.this_size).1 _ _ _ (source_site _ _ _ _ _ c.in_default.ensures refl) refl
    _ (tables c.args.links.now c.args.numbers.now c.args.order.now) _ _ _ c.requires.room.room.says.links_said c.requires.sized.1 c.requires.sized.2
    (rw same at c.put_links.ensures) c.put_numbers.ensures c.copy.ensures)
