-- `reader::read` meets its contract: lengths, then the header, then of which tables it is the image. Scratch is cut to the header's radios.
use Rattle.lists.specs.Kit.{refl, length-take-le}
use Rattle.calls.proofs.AnswerLaws.{refused_not}
use Rattle.image_reader.proofs.ReadLaws.{header_room, read_not_lent, read_not_header, read_size, read_sized, read_asked}
use Rattle.image_reader.proofs.reader.read.Goals as goal

pub returns-in-Err : goal.returns-in-Err
returns-in-Err c = read_not_lent _ _ _ _ c.in-Err.ensures (refused_not c.in-Err.refusal)

pub returns-in-Err-open : goal.returns-in-Err-open
returns-in-Err-open c = read_not_header _ _ _ _ c.in_default.ensures refl _ c.in-Err-open.ensures (refused_not c.in-Err-open.refusal)

pub read_site-requires : goal.read_site-requires
read_site-requires c =
    let cut = length-take-le _ _ c.in-Ok.ensures.small in record {
      room = header_room _ _ c.in-Ok.ensures _ (read_size _ c.args.image.now _ _ c.in_default.ensures refl) _ _ cut cut;
      sized = read_sized _ c.args.image.now _ _ c.in_default.ensures refl;
      asked = read_asked _ c.args.image.now _ _ c.in_default.ensures refl _ c.in-Ok.ensures;
    }
