-- A memory that is made for a call is ready for it: so the premise of `Runs` can be had, for every call and all lists that fit.
use mathlib.Core.{Path.{◌≡◌, refl, sym, ◌∙◌, ap, subst}, Option.{Option, some, some-injective}, Bool.{Bool, true, false, ◌&&◌}, List.{List, [], ◌∷◌}}
use Prim.Native.Nat.{ℕ, suc, ◌≤◌}
use native.Mathlib.Omega.{arith}
use lib.{ListN.{get_elem?}, Dec.{T}}
use mir.{Mem.{Cell}, Val.{Val}}
use prog.{Memory.{Memory, Block, entry_at, bind, align, divides}, Align.{dv_self, dv_zero}, Machine.{done}, Routine.{Routine, step, ends-one}}
use store.Seg.{seg-nth}
use Rattle.machine.specs.{Cells.{Form, Param, by_value, lent, lent_with, to_read, to_write, Inputs, Span, Stands, MayWrite, Open, Apart, All, AllApart, AllGood}}
use Rattle.machine.specs.{Cells.{Aligned, reads, writes, cells_of, span, Ready, Call, Ran, Runs, passed, outcome_of}, Made.{Fitting, blocks, placed}}
use Rattle.machine.proofs.Heap.{run_out}

-- from block k on the memory has these
unfoldable pub From : Memory → ℕ → Memory → Type 0
From σ k [] = Unit {0}
From σ k (x ∷ bs) = (entry_at σ k ≡ x) × From σ (suc k) bs

pub shift : (y : Option Block) (σ : Memory) (k : ℕ) (bs : Memory) → From σ k bs → From (y ∷ σ) (suc k) bs
unfolding From
shift y σ k [] h = tt
shift y σ k (x ∷ bs) h = (h.0, shift y σ (suc k) bs h.1)

pub from_all : (bs : Memory) → From bs 0 bs
unfolding From
from_all [] = tt
from_all (x ∷ bs) = (refl, shift x bs 0 bs (from_all bs))

stands : (σ : Memory) (k a : ℕ) (cs : List Cell) → entry_at σ k ≡ some (a, cs, true) → Stands σ (k, 0, cs)
stands σ k a cs h = run_out σ k 0 cs (λ i w e. ap (λ (X : Option Block). bind X (λ x. get_elem? x.1 i)) h ∙ sym (seg-nth cs i) ∙ e)

begins : (σ : Memory) (F : Form) (k : ℕ) (xs : List F.Value) → entry_at σ k ≡ some (align F.ty, cells_of F xs, true) → Aligned σ F.ty (k, 0) xs
begins σ F k [] h = tt
begins σ F k (x ∷ xs)
    h = (
      (align F.ty, cells_of F (x ∷ xs), true),
      h,
      both (divides (align F.ty) (align F.ty)) (divides (align F.ty) 0) (dv_self (align F.ty))
          (dv_zero (align F.ty)),
    )
  where
    both : (s t : Bool) → T s → T t → T (s && t)
    both true t p q = q
    both false t p q = absurd p

pub reads_stand : (σ : Memory) (k : ℕ) (ps : List Param) (g : Inputs ps) → From σ k (blocks ps g) → All (Stands σ) (reads ps (placed k ps g))
unfolding From
reads_stand σ k [] g h = tt
reads_stand σ k (by_value F ∷ ps) g h = reads_stand σ k ps g.1 h
reads_stand σ k (lent to_read F ∷ ps) g h = (stands σ k (align F.ty) (cells_of F g.0.1) h.0, reads_stand σ (suc k) ps g.1 h.1)
reads_stand σ k (lent to_write F ∷ ps) g h = reads_stand σ (suc k) ps g.1 h.1
reads_stand σ k (lent_with F G ∷ ps) g h = (stands σ k (align F.ty) (cells_of F g.0.0.1) h.0, reads_stand σ (suc k) ps g.1 h.1)

pub writes_stand : (σ : Memory) (k : ℕ) (ps : List Param) (g : Inputs ps) → From σ k (blocks ps g) → All (Stands σ) (writes ps (placed k ps g))
unfolding From
writes_stand σ k [] g h = tt
writes_stand σ k (by_value F ∷ ps) g h = writes_stand σ k ps g.1 h
writes_stand σ k (lent to_read F ∷ ps) g h = writes_stand σ (suc k) ps g.1 h.1
writes_stand σ k (lent to_write F ∷ ps) g h = (stands σ k (align F.ty) (cells_of F g.0.1) h.0, writes_stand σ (suc k) ps g.1 h.1)
writes_stand σ k (lent_with F G ∷ ps) g h = writes_stand σ (suc k) ps g.1 h.1

may_write : (σ : Memory) (k a : ℕ) (cs ds : List Cell) → entry_at σ k ≡ some (a, cs, true) → MayWrite σ k ds
may_write σ k a cs [] h = tt
may_write σ k a cs (d ∷ ds) h = λ e q. subst (λ (z : Block). T z.2) (some-injective {A = Block} (a, cs, true) e (sym h ∙ q)) tt

pub writes_open : (σ : Memory) (k : ℕ) (ps : List Param) (g : Inputs ps) → From σ k (blocks ps g) → All (Open σ) (writes ps (placed k ps g))
unfolding From
writes_open σ k [] g h = tt
writes_open σ k (by_value F ∷ ps) g h = writes_open σ k ps g.1 h
writes_open σ k (lent to_read F ∷ ps) g h = writes_open σ (suc k) ps g.1 h.1
writes_open σ k (lent to_write F ∷ ps) g h =
    (may_write σ k (align F.ty) (cells_of F g.0.1) (cells_of F g.0.1) h.0, writes_open σ (suc k) ps g.1 h.1)
writes_open σ k (lent_with F G ∷ ps) g h = writes_open σ (suc k) ps g.1 h.1

pub good : (σ : Memory) (k : ℕ) (ps : List Param) (g : Inputs ps) → Fitting ps g → From σ k (blocks ps g) → AllGood σ ps (placed k ps g)
unfolding From
good σ k [] g f h = tt
good σ k (by_value F ∷ ps) g f h = (f.0, good σ k ps g.1 f.1 h)
good σ k (lent to_read F ∷ ps) g f h = ((f.0.0, begins σ F k g.0.1 h.0, f.0.1), good σ (suc k) ps g.1 f.1 h.1)
good σ k (lent to_write F ∷ ps) g f h = ((f.0.0, begins σ F k g.0.1 h.0, f.0.1), good σ (suc k) ps g.1 f.1 h.1)
good σ k (lent_with F G ∷ ps) g f h =
    (((f.0.0.0, begins σ F k g.0.0.1 h.0, f.0.0.1), f.0.1), good σ (suc k) ps g.1 f.1 h.1)

-- ---- blocks are numbered upwards

unfoldable pub Above : ℕ → List Span → Type 0
Above k ss = All (λ s. k ≤ s.0) ss

above_less : (k : ℕ) (ss : List Span) → Above (suc k) ss → Above k ss
unfolding Above
above_less k [] h = tt
above_less k (s ∷ ss) h = (omega (arith, h.0), above_less k ss h.1)

pub reads_above : (k : ℕ) (ps : List Param) (g : Inputs ps) → Above k (reads ps (placed k ps g))
unfolding Above
reads_above k [] g = tt
reads_above k (by_value F ∷ ps) g = reads_above k ps g.1
reads_above k (lent to_read F ∷ ps) g = (omega arith, above_less k (reads ps (placed (suc k) ps g.1)) (reads_above (suc k) ps g.1))
reads_above k (lent to_write F ∷ ps) g = above_less k (reads ps (placed (suc k) ps g.1)) (reads_above (suc k) ps g.1)
reads_above k (lent_with F G ∷ ps) g = (omega arith, above_less k (reads ps (placed (suc k) ps g.1)) (reads_above (suc k) ps g.1))

pub writes_above : (k : ℕ) (ps : List Param) (g : Inputs ps) → Above k (writes ps (placed k ps g))
unfolding Above
writes_above k [] g = tt
writes_above k (by_value F ∷ ps) g = writes_above k ps g.1
writes_above k (lent to_read F ∷ ps) g = above_less k (writes ps (placed (suc k) ps g.1)) (writes_above (suc k) ps g.1)
writes_above k (lent to_write F ∷ ps) g = (omega arith, above_less k (writes ps (placed (suc k) ps g.1)) (writes_above (suc k) ps g.1))
writes_above k (lent_with F G ∷ ps) g = above_less k (writes ps (placed (suc k) ps g.1)) (writes_above (suc k) ps g.1)

apart_of : (s t : Span) → suc s.0 ≤ t.0 → Apart s t
apart_of s t h b i x y = omega (arith, h, x.0, y.0)

apart_all : (s : Span) (ss : List Span) → Above (suc s.0) ss → All (Apart s) ss
unfolding Above
apart_all s [] h = tt
apart_all s (t ∷ ss) h = (apart_of s t h.0, apart_all s ss h.1)

-- each of the first is apart from one more
one_more : (t : Span) (rs ws : List Span) → Above (suc t.0) rs → All (λ s. All (Apart s) ws) rs → All (λ s. All (Apart s) (t ∷ ws)) rs
unfolding Above
one_more t [] ws h a = tt
one_more t (r ∷ rs) ws h a = ((λ b i x y. apart_of t r h.0 b i y x, a.0), one_more t rs ws h.1 a.1)

pub reads_apart : (k : ℕ) (ps : List Param) (g : Inputs ps) → All (λ s. All (Apart s) (writes ps (placed k ps g))) (reads ps (placed k ps g))
reads_apart k [] g = tt
reads_apart k (by_value F ∷ ps) g = reads_apart k ps g.1
reads_apart k (lent to_read F ∷ ps)
    g = (apart_all (span F (k, 0) g.0.1) (writes ps (placed (suc k) ps g.1)) (writes_above (suc k) ps g.1), reads_apart (suc k) ps g.1)
reads_apart k (lent to_write F ∷ ps) g =
    one_more (span F (k, 0) g.0.1) (reads ps (placed (suc k) ps g.1)) (writes ps (placed (suc k) ps g.1)) (reads_above (suc k) ps g.1)
    (reads_apart (suc k) ps g.1)
reads_apart k (lent_with F G ∷ ps) g =
    (apart_all (span F (k, 0) g.0.0.1) (writes ps (placed (suc k) ps g.1)) (writes_above (suc k) ps g.1), reads_apart (suc k) ps g.1)

pub writes_apart : (k : ℕ) (ps : List Param) (g : Inputs ps) → AllApart (writes ps (placed k ps g))
writes_apart k [] g = tt
writes_apart k (by_value F ∷ ps) g = writes_apart k ps g.1
writes_apart k (lent to_read F ∷ ps) g = writes_apart (suc k) ps g.1
writes_apart k (lent to_write F ∷ ps)
    g = (apart_all (span F (k, 0) g.0.1) (writes ps (placed (suc k) ps g.1)) (writes_above (suc k) ps g.1), writes_apart (suc k) ps g.1)
writes_apart k (lent_with F G ∷ ps) g = writes_apart (suc k) ps g.1

pub made_ready : (ps : List Param) (g : Inputs ps) → Fitting ps g → Ready (blocks ps g) ps (placed 0 ps g)
made_ready ps g f = record {
  reads_stand = reads_stand (blocks ps g) 0 ps g (from_all (blocks ps g));
  writes_stand = writes_stand (blocks ps g) 0 ps g (from_all (blocks ps g));
  reads_apart = reads_apart 0 ps g;
  writes_apart = writes_apart 0 ps g;
  writes_open = writes_open (blocks ps g) 0 ps g (from_all (blocks ps g));
  good = good (blocks ps g) 0 ps g f (from_all (blocks ps g));
}

-- so a call that runs from every ready memory runs from the one that is made for it
pub made_runs : (ρ : Routine) (C : Call) → Runs ρ C → (g : Inputs C.params) → Fitting C.params g
    → ∥ Ran ρ C (blocks C.params g) (placed 0 C.params g) ∥₁
made_runs ρ C runs g f = runs (blocks C.params g) (placed 0 C.params g) (made_ready C.params g f)

-- the run is the only one: whatever the routine is done with, at any count of steps, is that value and that memory
pub ran_one : (ρ : Routine) (C : Call) (σ : Memory) (i : Inputs C.params) (h : Ran ρ C σ i) (steps : ℕ) (end : Val × Memory)
    → step ρ steps (passed C.params i) σ ≡ done end → ◌≡◌ {A = Val × Memory} (C.value (outcome_of C i).0, h.memory) end
ran_one ρ C σ i h steps end e = ends-one ρ (passed C.params i) σ (C.value (outcome_of C i).0, h.memory) end (h.steps, h.returns) (steps, e)
