-- `Peel::lower_one` meets its contract: of a radio that is left the counter falls by one, and the test says whether it is due.
use Rattle.lists.{specs.Kit.{arith, refl}}
use Rattle.lift.proofs.{PeelLaws.{lowered_gone, lowered_one}, SetLaws.{put_yes, put_no}}
use Rattle.lift.proofs.peel.Peel.lower_one.Goals as goal

pub returns-then-x-ge-GONE : goal.returns-then-x-ge-GONE
returns-then-x-ge-GONE c = record { lowered = lowered_gone _ _ _ _ _ _ (omega (arith, c.requires)) c.if-x-ge-GONE.true; stay = refl }

pub returns-then-is_due : goal.returns-then-is_due
returns-then-is_due c = record {
  lowered = lowered_one _ _ _ _ _ _ (omega (arith, c.requires)) _ _ _ c.if-x-ge-GONE.false c.one_less.ensures c.is_due.ensures
      (put_yes _ _ _ c.requires c.put_in.ensures.long _ c.if-is_due.true c.put_in.ensures.joined);
  stay = refl;
}

pub returns-else-is_due : goal.returns-else-is_due
returns-else-is_due c = record {
  lowered = lowered_one _ _ _ _ _ _ (omega (arith, c.requires)) _ _ _ c.if-x-ge-GONE.false c.one_less.ensures c.is_due.ensures
      (put_no _ _ _ c.if-is_due.false);
  stay = refl;
}
