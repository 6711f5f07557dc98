-- `soundness::marks` meets its contract: the shifted and masked byte is the digit that `marked` names.
use Rattle.rows.proofs.MaskLaws.{marked_shift}
use Rattle.soundness.proofs.marks.Goals as goal

pub returns : goal.returns
returns c = marked_shift _ _ _
