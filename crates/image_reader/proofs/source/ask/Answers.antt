-- `source::ask` meets its contract: the bytes are an image of the header's m or of none, and m is n or another.
use Rattle.image_reader.proofs.{SourceLaws.{source_none, source_other, source_this}}
use Rattle.image_reader.proofs.source.ask.Goals as goal

pub returns-then-not-is_image : goal.returns-then-not-is_image
returns-then-not-is_image c =
    source_none _ _ _ c.requires.this_size c.requires.room.says.radios_said c.requires.says_size _ _ _ c.is_image.ensures
    (c.if-not-is_image.true)

pub returns-then-header-n : goal.returns-then-header-n
returns-then-header-n c =
    source_other _ _ _ c.requires.this_size c.requires.room.says.radios_said c.requires.says_size _ _ _ c.is_image.ensures
    (c.if-not-is_image.false) c.if-header-n.true

pub returns : goal.returns
returns c =
    source_this _ _ _ c.requires.this_size c.requires.room.says.radios_said c.requires.says_size _ _ _ c.is_image.ensures
    (c.if-not-is_image.false) c.if-header-n.false
