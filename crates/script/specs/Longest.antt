-- How long a script can be.
--   max_links        the most links of a site
--   longest_script   the most bytes of a script
-- Definitions only.
use Rattle.std.specs.Prelude.{◌+◌, ◌*◌, ◌/◌}
use Rattle.lists.specs.Kit.{ℕ}
use Rattle.mesh.specs.Limits.{max_radios, max_neighbours}

-- each radio has at most 40
abbrev pub max_links : ℕ
max_links = max_radios * max_neighbours / 2

-- `radios 512`, and `up 510 511` for each link: 11 bytes a line
abbrev pub longest_script : ℕ
longest_script = 11 * (1 + max_links)
