-- `run` meets its contract: by the word.
use Rattle.site_program.proofs.{StatusLaws.{status_help, status_version}}
use Rattle.site_program.proofs.run.Goals as goal

pub returns-then-is_same : goal.returns-then-is_same
returns-then-is_same g c = status_help _ _ _ _ _ (c.is_same.ensures.0 c.if-is_same.true) c.print.ensures

pub returns-then-is_same-2 : goal.returns-then-is_same-2
returns-then-is_same-2 g c = status_version _ _ _ _ _ (c.is_same-2.ensures.0 c.if-is_same-2.true) c.print-then-is_same-2.ensures
