-- `places::is_mark` meets its contract: name, image and zeros, each through its part of the place.
use Rattle.lists.specs.Kit.{sym, ◌∙◌}
use Rattle.calls.proofs.AnswerLaws.{refused_not}
use Rattle.marks.proofs.{MarkTests.{not_name, not_long, not_image, image_and_zeros}}
use Rattle.marks.proofs.places.is_mark.Goals as goal

pub returns-then-not-is_name : goal.returns-then-not-is_name
returns-then-not-is_name c = sym (not_name _ _ (sym c.is_name.ensures ∙ c.if-not-is_name.true))

pub returns-then-end-gt-PLACE : goal.returns-then-end-gt-PLACE
returns-then-end-gt-PLACE c = sym (not_long _ _ _ c.requires.1 c.image_size-end.ensures.0 c.if-end-gt-PLACE.true)

pub returns-in-Err : goal.returns-in-Err
returns-in-Err c =
    sym (not_image _ _ _ c.requires.0 c.image_size-end.ensures.0 (sym c.is_name.ensures ∙ c.if-not-is_name.false)
    _ c.in-Err.ensures (refused_not _))

pub returns : goal.returns
returns c =
    image_and_zeros _ _ _ c.requires.0 c.image_size-end.ensures.0 (sym c.is_name.ensures ∙ c.if-not-is_name.false)
    c.are_zeros.result c.in_default.ensures c.are_zeros.ensures
