-- The machine: a memory made for a call: a block that may be written for each lent list, in the order of the parameters, and
-- nothing else.
--   Fitting     each number, each entry and each length is one that its type holds; it goes by no place
--   blocks      the memory
--   placed      what is passed, each list at the start of its block; the first block is the given one
-- Definitions only.
use mathlib.Core.{Option.{some}, List.{List, [], ◌∷◌}, Bool.{true}}
use Rattle.std.specs.Prelude.{ℕ, suc, length}
use prog.Memory.{Memory, align}
use Rattle.machine.specs.Cells.{Param, by_value, lent, lent_with, Inputs, All, Sized, cells_of}

abbrev pub Fitting : (ps : List Param) → Inputs ps → Type 0
Fitting [] i = Unit {0}
Fitting (by_value F ∷ ps) i = F.Holds i.0 × Fitting ps i.1
Fitting (lent m F ∷ ps) i = (All F.Holds i.0.1 × Sized F.ty (length i.0.1)) × Fitting ps i.1
Fitting (lent_with F G ∷ ps) i = ((All F.Holds i.0.0.1 × Sized F.ty (length i.0.0.1)) × G.Holds i.0.1) × Fitting ps i.1

abbrev pub blocks : (ps : List Param) → Inputs ps → Memory
blocks [] i = []
blocks (by_value F ∷ ps) i = blocks ps i.1
blocks (lent m F ∷ ps) i = some (align F.ty, cells_of F i.0.1, true) ∷ blocks ps i.1
blocks (lent_with F G ∷ ps) i = some (align F.ty, cells_of F i.0.0.1, true) ∷ blocks ps i.1

abbrev pub placed : ℕ → (ps : List Param) → Inputs ps → Inputs ps
placed k [] i = tt
placed k (by_value F ∷ ps) i = (i.0, placed k ps i.1)
placed k (lent m F ∷ ps) i = (((k, 0), i.0.1), placed (suc k) ps i.1)
placed k (lent_with F G ∷ ps) i = ((((k, 0), i.0.0.1), i.0.1), placed (suc k) ps i.1)
