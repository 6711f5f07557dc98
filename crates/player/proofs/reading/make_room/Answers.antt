-- `reading::make_room` meets its contract: the two cases of a buffer that is full or not.
use Rattle.lists.specs.Kit.{rules}
use Rattle.player.proofs.{ReadingLaws.{room_made_not, room_made_full, kept_none}}
use Rattle.player.proofs.reading.make_room.Goals as goal

pub returns-then-s-lt-FULL : goal.returns-then-s-lt-FULL
returns-then-s-lt-FULL c = record { is = room_made_not _ c.if-s-lt-FULL.true; kept = λ e. e }

pub returns : goal.returns
returns c = record { is = room_made_full _ _ (search rules); kept = kept_none _ _ _ c.kept_fault.ensures }
