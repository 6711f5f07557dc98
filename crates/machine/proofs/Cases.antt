-- How cells look: a byte is one cell, a 16-bit entry two, the lower byte first; a list that has no entry has no cell.
use mathlib.Core.{Path.{◌≡◌, refl}, List.{[], ◌∷◌}}
use mir.{Mem.{byte}, Syntax.{w8, w16}}
use Rattle.machine.specs.Cells.{unsigned, cells_of}

pub bytes : cells_of (unsigned w8) (7 ∷ 0 ∷ 255 ∷ []) ≡ byte 7 ∷ byte 0 ∷ byte 255 ∷ []
bytes = refl

pub entries : cells_of (unsigned w16) (1 ∷ 512 ∷ 65535 ∷ []) ≡ byte 1 ∷ byte 0 ∷ byte 0 ∷ byte 2 ∷ byte 255 ∷ byte 255 ∷ []
entries = refl

pub none : cells_of (unsigned w16) [] ≡ []
none = refl
