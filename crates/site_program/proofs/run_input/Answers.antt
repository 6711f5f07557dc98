-- `run_input` meets its contract: the front is what the reads brought.
use Rattle.lists.specs.Kit.{inl, inr}
use Rattle.site_program.proofs.{StatusLaws.{input_wrong, input_answers}}
use Rattle.site_program.proofs.run_input.Goals as goal

pub returns-in-Failed : goal.returns-in-Failed
returns-in-Failed g c = input_wrong _ _ _ c.say_unread.ensures

pub run_front-requires : goal.run_front-requires
run_front-requires g c = elim c.in-GoesOn.is [ inl e ↦ rw e tt | inr e ↦ rw e tt ]

pub returns-in-GoesOn : goal.returns-in-GoesOn
returns-in-GoesOn g c = input_answers _ _ _ _ _ _ c.fill-got.ensures.fills c.run_front.ensures
