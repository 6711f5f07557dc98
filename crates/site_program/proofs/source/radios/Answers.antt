-- `source::radios` meets its contract: a first line names at most 512 radios, and an image is taken to have no more.
use Rattle.std.specs.Prelude.{◌≤◌}
use Rattle.lists.specs.Kit.{List, ℕ}
use Rattle.mesh.specs.Limits.{max_radios}
use Rattle.player.proofs.PlayLaws.{radios_of_le, some_le}
use Rattle.site_program.specs.Course.{named_radios}
use Rattle.site_program.proofs.source.radios.Goals as goal

named_le : (s : List ℕ) → named_radios s ≤ max_radios
unfolding named_radios
named_le s = radios_of_le _

pub returns-in-Script : goal.returns-in-Script
returns-in-Script c = rw c.radios.ensures (some_le (named_radios c.args.front.now) (named_le c.args.front.now))
