-- The radios of the site that a first line names, for the code: `radios_of` (Play.antt) as an option. Definitions only.
use Rattle.std.specs.Prelude.{Option, Some, None}
use Rattle.lists.specs.Kit.{ℕ, zero, suc}

abbrev pub some_radios : ℕ → Option ℕ
some_radios zero = None
some_radios (suc n) = Some (suc n)
