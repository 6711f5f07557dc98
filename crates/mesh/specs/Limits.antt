-- The limits of a site, each number once. `Site` in src/lib.rt has the three that hold; proofs/SiteLimits.antt ties them.
--   max_radios        how many radios a site may have
--   max_neighbours    how many neighbours a radio may have
--   former_neighbours how many it might have before: tables and images of that time are older ones
--   row_bytes         how many bytes a row of the links table has
--   size_good         question 1: is n from 1 to 512?
-- Definitions only.
use Rattle.std.specs.Prelude.{◌&&◌}
use Rattle.lists.specs.Kit.{Bool, ℕ, leb}

-- document 01: a site has 1 to 512 radios
abbrev pub max_radios : ℕ
max_radios = 512

-- document 01: the most neighbours of a radio; 32 there, and 40 since W-208
abbrev pub max_neighbours : ℕ
max_neighbours = 40

-- document 02, W-208: the limit that stood here before
abbrev pub former_neighbours : ℕ
former_neighbours = 32

-- document 01: 64 bytes a radio
abbrev pub row_bytes : ℕ
row_bytes = 64

-- document 01, question 1: is n from 1 to 512?
unfoldable pub size_good : (n : ℕ) → Bool
size_good n = leb 1 n && leb n max_radios
