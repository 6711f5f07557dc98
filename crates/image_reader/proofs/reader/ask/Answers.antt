-- `reader::ask` meets its contract: n, then the header, then of which tables it is the image. Scratch is cut to the header's radios.
use Rattle.lists.specs.Kit.{sym, ◌∙◌, length-take-le}
use Rattle.calls.proofs.AnswerLaws.{refused_not}
use Rattle.image_reader.proofs.ReadLaws.{header_room, alone_no_size, alone_header, alone_decided}
use Rattle.image_reader.proofs.reader.ask.Goals as goal

pub returns-then-not-is_size : goal.returns-then-not-is_size
returns-then-not-is_size c = alone_no_size _ _ (sym c.is_size.ensures ∙ c.if-not-is_size.true)

pub returns-in-Err : goal.returns-in-Err
returns-in-Err c =
    alone_header _ _ (sym c.is_size.ensures ∙ c.if-not-is_size.false) _ c.in-Err.ensures (refused_not c.in-Err.refusal)

pub ask-requires : goal.ask-requires
ask-requires c =
    header_room _ _ c.in-Ok.ensures _ (sym c.is_size.ensures ∙ c.if-not-is_size.false) _ _
    (length-take-le _ _ c.in-Ok.ensures.small) (length-take-le _ _ c.in-Ok.ensures.small)

pub returns : goal.returns
returns c =
    alone_decided _ _
    (sym c.is_size.ensures ∙ c.if-not-is_size.false) _ c.in-Ok.ensures _ _ _ c.ask.ensures
