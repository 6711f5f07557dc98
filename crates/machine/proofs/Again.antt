-- What a call did not write stands as it stood.
use mathlib.Core.{Path.{refl}, List.{List, [], ◌∷◌}}
use Prim.Native.Nat.{ℕ, suc}
use native.Mathlib.Omega.{arith}
use mir.Mem.{Cell}
use prog.Memory.{Memory}
use Rattle.machine.specs.Cells.{Span, RunAt, Has, Apart, All, ElseKept}

-- ---- what is not written stands

module _ (σ σ' : Memory) (ws : List Span) (else_kept : ElseKept σ σ' ws) where
  away : (b o : ℕ) (c : Cell) (cs : List Cell) (ss : List Span) → All (Apart (b, o, c ∷ cs)) ss → All (λ s. ¬ Has s b o) ss
  away b o c cs [] a = tt
  away b o c cs (s ∷ ss) a = (λ h. a.0 b o (refl, omega arith, omega arith) h, away b o c cs ss a.1)

  shorter : (b o : ℕ) (c : Cell) (cs : List Cell) (ss : List Span) → All (Apart (b, o, c ∷ cs)) ss → All (Apart (b, suc o, cs)) ss
  shorter b o c cs [] a = tt
  shorter b o c cs (s ∷ ss) a = (λ b' i h k. a.0 b' i (h.0, omega (arith, h.1), omega (arith, h.2)) k, shorter b o c cs ss a.1)

  pub stands_still : (b o : ℕ) (cs : List Cell) → All (Apart (b, o, cs)) ws → RunAt σ b o cs → RunAt σ' b o cs
  stands_still b o [] a h = tt
  stands_still b o (c ∷ cs) a h = (else_kept b o c (away b o c cs ws a) h.0, stands_still b (suc o) cs (shorter b o c cs ws a) h.1)
