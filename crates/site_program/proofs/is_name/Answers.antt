-- `is_name` meets its contract: by the first byte.
use Rattle.lists.specs.Kit.{rules}
use Rattle.site_program.proofs.{GivenLaws.{name_none, name_below, name_above}}
use Rattle.site_program.proofs.is_name.Goals as goal

pub returns-then-word-eq0 : goal.returns-then-word-eq0
returns-then-word-eq0 c = search (rules, name_none)

pub returns-then-byte-lt48 : goal.returns-then-byte-lt48
returns-then-byte-lt48 c = search (rules, name_below)

pub returns : goal.returns
returns c = search (rules, name_above)
