-- What calls made one after the other need to know of cells: cells that stand at one place are one list; a list of unsigned integers is
-- the only one of its length that its cells stand for; what stands is carried to another memory that has the same cells there.
use mathlib.Core.{Path.{◌≡◌, refl, sym, ◌∙◌, ap, subst}, Logic.{inl, inr}, Option.{Option, none, some}, List.{List, [], ◌∷◌, ◌++◌}}
use Prim.Native.Nat.{ℕ, zero, suc, ◌+◌, ◌*◌, ◌<◌, ◌≤◌}
use native.Mathlib.{Nat.{mul-zero, mul-suc, suc-ne-zero, add_comm, eq-or-lt_of_le}, Omega.{arith}}
use lib.{ListN.{length, take, drop, get_elem?, length-append}, Dec.{T}}
use mir.{Mem.{Cell}, Syntax.{Width}, Val.{bytes}}
use prog.Memory.{Memory, Block, entry_at, bind, aligned, le, un_le}
use store.Enc.{length-le, un_le-le, two_256}
use Rattle.machine.specs.Cells.{Place, Span, unsigned, cell_at, cells_of, RunAt, Stands, MayWrite, BlockKept, Apart, All}
use Rattle.machine.proofs.Made.{From, shift, from_all, Above}

-- ---- parts of what stands

pub run_front : (σ : Memory) (b o : ℕ) (cs ds : List Cell) → RunAt σ b o (cs ++ ds) → RunAt σ b o cs
run_front σ b o [] ds h = tt
run_front σ b o (c ∷ cs) ds h = (h.0, run_front σ b (suc o) cs ds h.1)

pub run_back : (σ : Memory) (b o : ℕ) (cs ds : List Cell) → RunAt σ b o (cs ++ ds) → RunAt σ b (o + length cs) ds
run_back σ b o [] ds h = subst (λ (k : ℕ). RunAt σ b k ds) (omega arith) h
run_back σ b o (c ∷ cs) ds h = subst (λ (k : ℕ). RunAt σ b k ds) (omega arith) (run_back σ b (suc o) cs ds h.1)

pub run_both : (σ : Memory) (b o : ℕ) (cs ds : List Cell) → RunAt σ b o cs → RunAt σ b (o + length cs) ds → RunAt σ b o (cs ++ ds)
run_both σ b o [] ds h k = subst (λ (j : ℕ). RunAt σ b j ds) (omega arith) k
run_both σ b o (c ∷ cs) ds h k = (h.0, run_both σ b (suc o) cs ds h.1 (subst (λ (j : ℕ). RunAt σ b j ds) (omega arith) k))

-- the first entries of a list
pub first_entries : (w : Width) (σ : Memory) (b o : ℕ) (k : ℕ) (xs : List ℕ) → RunAt σ b o (cells_of (unsigned w) xs)
    → RunAt σ b o (cells_of (unsigned w) (take k xs))
first_entries w σ b o zero xs h = tt
first_entries w σ b o (suc k) [] h = tt
first_entries w σ b o (suc k) (x ∷ xs) h =
    run_both σ b o (le (bytes w) x) (cells_of (unsigned w) (take k xs)) (run_front σ b o (le (bytes w) x) (cells_of (unsigned w) xs) h)
    (first_entries w σ b (o + length (le (bytes w) x)) k xs (run_back σ b o (le (bytes w) x) (cells_of (unsigned w) xs) h))

-- and the later ones
pub later_entries : (w : Width) (σ : Memory) (b o : ℕ) (k : ℕ) (xs : List ℕ) → RunAt σ b o (cells_of (unsigned w) xs)
    → RunAt σ b (o + bytes w * k) (cells_of (unsigned w) (drop k xs))
later_entries w σ b o zero xs h =
    let e : o ≡ o + bytes w * 0 = omega (arith, mul-zero (bytes w)) in
    subst (λ (j : ℕ). RunAt σ b j (cells_of (unsigned w) xs)) e h
later_entries w σ b o (suc k) [] h = tt
later_entries w σ b o (suc k) (x ∷ xs) h =
    let m = bytes w in
    let e : o + m + m * k ≡ o + m * suc k = omega (arith, mul-suc m k) in
    subst (λ (j : ℕ). RunAt σ b j (cells_of (unsigned w) (drop k xs))) e (later_entries w σ b (o + m) k xs
    (subst (λ (j : ℕ). RunAt σ b (o + j) (cells_of (unsigned w) xs)) (length-le m x) (run_back σ b o (le m x) (cells_of (unsigned w) xs) h)))

-- ---- one list of cells, one list of entries

or_else : {A : Type 0} → A → Option A → A
or_else a none = a
or_else a (some x) = x

some_one : {A : Type 0} {x y : A} → some x ≡ some y → x ≡ y
unfolding or_else
some_one {x = x} e = ap (or_else x) e

pub run_one : (σ : Memory) (b o : ℕ) (cs ds : List Cell) → length cs ≡ length ds → RunAt σ b o cs → RunAt σ b o ds → cs ≡ ds
run_one σ b o [] [] l h k = refl
run_one σ b o [] (d ∷ ds) l h k = absurd (suc-ne-zero (length ds) (sym l))
run_one σ b o (c ∷ cs) [] l h k = absurd (suc-ne-zero (length cs) l)
run_one σ b o (c ∷ cs) (d ∷ ds) l h k =
    let e : c ≡ d = some_one (sym h.0 ∙ k.0) in
    let es : cs ≡ ds = run_one σ b (suc o) cs ds (omega (arith, l)) h.1 k.1 in
    λ j. e j ∷ es j

pub list_one : (w : Width) (σ : Memory) (b o : ℕ) (xs ys : List ℕ) → length xs ≡ length ys → All (unsigned w).Holds xs → All (unsigned w).Holds ys
    → RunAt σ b o (cells_of (unsigned w) xs) → RunAt σ b o (cells_of (unsigned w) ys) → xs ≡ ys
list_one w σ b o [] [] l p q h k = refl
list_one w σ b o [] (y ∷ ys) l p q h k = absurd (suc-ne-zero (length ys) (sym l))
list_one w σ b o (x ∷ xs) [] l p q h k = absurd (suc-ne-zero (length xs) l)
list_one w σ b o (x ∷ xs) (y ∷ ys) l p q h k =
    let m = bytes w in
    let c : le m x ≡ le m y = run_one σ b o (le m x) (le m y) (length-le m x ∙ sym (length-le m y))
    (run_front σ b o (le m x) (cells_of (unsigned w) xs) h) (run_front σ b o (le m y) (cells_of (unsigned w) ys) k) in
    let e : x ≡ y = some_one (sym (un_le-le m x (subst (λ (j : ℕ). x < j) (two_256 w) p.0)) ∙ ap un_le c
    ∙ un_le-le m y (subst (λ (j : ℕ). y < j) (two_256 w) q.0)) in
    let es : xs ≡ ys = list_one w σ b (o + m) xs ys (omega (arith, l)) p.1 q.1
    (subst (λ (j : ℕ). RunAt σ b (o + j) (cells_of (unsigned w) xs)) (length-le m x) (run_back σ b o (le m x) (cells_of (unsigned w) xs) h))
    (subst (λ (j : ℕ). RunAt σ b (o + j) (cells_of (unsigned w) ys)) (length-le m y) (run_back σ b o (le m y) (cells_of (unsigned w) ys) k)) in
    λ j. e j ∷ es j

pub cells_count : (w : Width) (xs : List ℕ) → length (cells_of (unsigned w) xs) ≡ bytes w * length xs
cells_count w [] = sym (mul-zero (bytes w))
cells_count w (x ∷ xs) =
    length-append (le (bytes w) x) (cells_of (unsigned w) xs) ∙ ap (λ (k : ℕ). k + length (cells_of (unsigned w) xs)) (length-le (bytes w) x)
    ∙ ap (λ (k : ℕ). bytes w + k) (cells_count w xs) ∙ add_comm (bytes w) (bytes w * length xs) ∙ sym (mul-suc (bytes w) (length xs))

-- ---- carried to another memory

pub carried : (σ τ : Memory) (b o : ℕ) (cs : List Cell)
    → ((i : ℕ) (c : Cell) → o ≤ i → i < o + length cs → cell_at σ b i ≡ some c → cell_at τ b i ≡ some c) → RunAt σ b o cs → RunAt τ b o cs
carried σ τ b o [] f h = tt
carried σ τ b o (c ∷ cs) f h =
    (f o c (omega arith) (omega arith) h.0, carried σ τ b (suc o) cs (λ i d p q. f i d (omega (arith, p)) (omega (arith, q))) h.1)

-- ---- more blocks

pub run_cell : (σ : Memory) (b o : ℕ) (cs : List Cell) → RunAt σ b o cs → (i : ℕ) → o ≤ i → i < o + length cs → (c : Cell) × (cell_at σ b i ≡ some c)
run_cell σ b o [] h i p q = absurd (omega (arith, p, q))
run_cell σ b o (c ∷ cs) h i p q =
    elim (eq-or-lt_of_le p) [ inl e ↦ (c, subst (λ (k : ℕ). cell_at σ b k ≡ some c) e h.0) | inr l ↦ run_cell σ b (suc o) cs h.1 i l (omega (arith, q)) ]

IsNone : {A : Type 0} → Option A → Type 0
IsNone none = Unit {0}
IsNone (some x) = ⊥

none_some : {A : Type 0} {x : A} → none ≡ some x → ⊥
unfolding IsNone
none_some e = subst IsNone e tt

entry_kept : (σ μ : Memory) (b : ℕ) (e : Block) → entry_at σ b ≡ some e → entry_at (σ ++ μ) b ≡ some e
entry_kept [] μ b e h = absurd (none_some h)
entry_kept (x ∷ σ) μ zero e h = h
entry_kept (x ∷ σ) μ (suc b) e h = entry_kept σ μ b e h

entry_below : (σ : Memory) (b : ℕ) (e : Block) → entry_at σ b ≡ some e → b < length σ
entry_below [] b e h = absurd (none_some h)
entry_below (x ∷ σ) zero e h = omega arith
entry_below (x ∷ σ) (suc b) e h = omega (arith, entry_below σ b e h)

-- a cell that is there is in a live block
cell_entry : (X : Option Block) (i : ℕ) (c : Cell) → bind X (λ x. get_elem? x.1 i) ≡ some c → (e : Block) × (X ≡ some e)
cell_entry none i c h = absurd (none_some h)
cell_entry (some e) i c h = (e, refl)

pub cell_below : (σ : Memory) (b i : ℕ) (c : Cell) → cell_at σ b i ≡ some c → b < length σ
cell_below σ b i c h = let e = cell_entry (entry_at σ b) i c h in entry_below σ b e.0 e.1

pub cell_kept : (σ μ : Memory) (b i : ℕ) (c : Cell) → cell_at σ b i ≡ some c → cell_at (σ ++ μ) b i ≡ some c
cell_kept σ μ b i c h =
    let e = cell_entry (entry_at σ b) i c h in
    ap (λ (X : Option Block). bind X (λ x. get_elem? x.1 i)) (entry_kept σ μ b e.0 e.1 ∙ sym e.1) ∙ h

pub from_end : (σ μ : Memory) → From (σ ++ μ) (length σ) μ
from_end [] μ = from_all μ
from_end (x ∷ σ) μ = shift x (σ ++ μ) (length σ) μ (from_end σ μ)

pub begun_kept : (σ μ : Memory) (a : ℕ) (p : Place) → (e : Block) × (entry_at σ p.0 ≡ some e) × T (aligned a e.0 p.1) →
    (e : Block) × (entry_at (σ ++ μ) p.0 ≡ some e) × T (aligned a e.0 p.1)
begun_kept σ μ a p h = (h.0, entry_kept σ μ p.0 h.0 h.1, h.2)

-- ---- what may be written

has_one : (cs : List Cell) (i : ℕ) (c : Cell) → get_elem? cs i ≡ some c → 0 < length cs
has_one [] i c h = absurd (none_some h)
has_one (d ∷ cs) i c h = omega arith

-- still may in a memory of more blocks
pub open_more : (σ μ : Memory) (b o : ℕ) (cs : List Cell) → RunAt σ b o cs → MayWrite σ b cs → MayWrite (σ ++ μ) b cs
open_more σ μ b o [] h w = tt
open_more σ μ b o (c ∷ cs) h w = λ e q.
    let x = cell_entry (entry_at σ b) o c h.0 in
    subst (λ (y : Block). T y.2) (some_one (sym (entry_kept σ μ b x.0 x.1) ∙ q)) (w x.0 x.1)

-- and so may as many cells there after a call
pub open_still : (σ τ : Memory) → BlockKept σ τ → (b o : ℕ) (cs ds : List Cell) → length cs ≡ length ds → RunAt σ b o cs → MayWrite σ b cs
    → MayWrite τ b ds
open_still σ τ k b o cs [] l h w = tt
open_still σ τ k b o [] (d ∷ ds) l h w = absurd (suc-ne-zero (length ds) (sym l))
open_still σ τ k b o (c ∷ cs) (d ∷ ds) l h w = λ e q.
    let x = cell_entry (entry_at σ b) o c h.0 in
    let y = k b x.0 x.1 in
    let n : 0 < length x.0.1 = has_one x.0.1 o c (ap (λ (X : Option Block). bind X (λ z. get_elem? z.1 o)) (sym x.1) ∙ h.0) in
    subst (λ (z : Block). T z.2) (some_one (sym y.1 ∙ q)) (y.4 n (w x.0 x.1))

-- what stands in a memory has no cell in common with blocks beyond it
pub apart_beyond : (σ : Memory) (s : Span) → Stands σ s → (ws : List Span) → Above (length σ) ws → All (Apart s) ws
unfolding Above
apart_beyond σ s h [] a = tt
apart_beyond σ s h (w ∷ ws) a = (
  λ b i x y.
      let c = run_cell σ s.0 s.1 s.2 h i x.1 x.2 in
      let e = cell_entry (entry_at σ s.0) i c.0 c.1 in
      absurd (omega (arith, entry_below σ s.0 e.0 e.1, x.0, y.0, a.0)),
  apart_beyond σ s h ws a.1,
)

pub apart_before : (σ : Memory) (s : Span) → Stands σ s → (rs ws : List Span) → Above (length σ) rs → All (λ r. All (Apart r) ws) rs
    → All (λ r. All (Apart r) (s ∷ ws)) rs
unfolding Above
apart_before σ s h [] ws a k = tt
apart_before σ s h (r ∷ rs) ws a k =
    let x = apart_beyond σ s h (r ∷ []) (a.0, tt) in
    ((λ b i p q. x.0 b i q p, k.0), apart_before σ s h rs ws a.1 k.1)
