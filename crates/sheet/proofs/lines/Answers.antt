-- `lines` meets its contract by the definition.
use Rattle.lists.specs.Kit.{rules}
use Rattle.calls.specs.Sheet.{sheet_lines}
use Rattle.sheet.proofs.lines.Goals as goal

pub returns : goal.returns
unfolding sheet_lines
returns c = search rules
