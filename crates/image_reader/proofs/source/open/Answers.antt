-- `source::open` meets its contract: questions 9 and 10, then the size that the header says.
use Rattle.lists.specs.Kit.{refl, sym, ◌∙◌}
use Rattle.mesh.proofs.Sizes.{size_good_true}
use Rattle.calls.proofs.AnswerLaws.{refused_not}
use Rattle.image_reader.proofs.SourceLaws.{opened_blocks, first_block, opened_no_size, opened_size}
use Rattle.image_reader.proofs.source.open.Goals as goal

pub returns-in-Err : goal.returns-in-Err
returns-in-Err c = opened_blocks _ _ c.in-Err.ensures (refused_not c.in-Err.refusal)

pub header_of-header-requires : goal.header_of-header-requires
header_of-header-requires c = first_block _ _ c.in_default.ensures refl

pub returns-then-not-is_size : goal.returns-then-not-is_size
returns-then-not-is_size c =
    opened_no_size _ _ c.in_default.ensures refl _ _ c.header_of-header.ensures _ c.is_size.ensures c.if-not-is_size.true

pub returns : goal.returns
returns c = record {
  asked = opened_size _ _ c.in_default.ensures refl _ _ c.header_of-header.ensures _ c.is_size.ensures c.if-not-is_size.false;
  said = c.header_of-header.ensures;
  small = (size_good_true _ (sym c.is_size.ensures ∙ c.if-not-is_size.false)).1;
}
