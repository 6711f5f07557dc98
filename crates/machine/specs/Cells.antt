-- The machine: a call in cells of its memory. Nothing of the program logic is cited here.
--   Form              how the values of a type are passed and stored: the machine's type, the machine's value of each, and which it can hold
--   unsigned, signed  the forms of the unsigned and the signed integers
--   Mode              whether a list is lent to be read or to be written
--   Param             a parameter: a value, a list that is lent, a struct of a list that is lent to be read and a value
--   Inputs, Outputs   what is passed, a place and a list for each lent one; and the lists on return, for each that is lent to be written
--   left              what was passed, with these lists in place of the ones that were lent to be written
--   OfInputs         a function of what is passed that takes the parameters one by one, by name;   of_inputs: its value
--   passed            the machine's values for what is passed: a lent list as its pointer and its length, and these beside the value in a
--                     struct that holds both
--   cells_of          a list as cells, by the machine's own encoding of an array
--   Span              cells side by side: block, offset, cells;   reads, writes: those of what is lent, to be read and to be written
--   Ready             a memory from which a call may be made: each span stands in it; no span that is lent to be written has a cell in
--                     common with another, and its block may be written; each list is aligned as its entries are; each entry and each
--                     number is one that its type holds; no list is longer than an address can say
--   Call              a call: its parameters, its results as machine values, and its outcome, worked out from what is passed;
--                     after_call: what was passed, as it is on return
--   Ran               after so many steps the routine is done; its value is the outcome's; each list that was lent to be written stands
--                     with the outcome's entries, where it was and as long as it was, each entry one that its type holds; every other
--                     cell of the memory, and each block's length and alignment, is as it was, and what could be written still can
--   Runs              from every memory that is ready the routine runs so
-- Definitions only.
use mathlib.Core.{Path.{◌≡◌}, Option.{Option, some}, List.{List, [], ◌∷◌, map}}
use Rattle.std.specs.Prelude.{ℕ, suc, ◌+◌, ◌*◌, ◌<◌, ◌≤◌, ◌^◌}
use lib.{ListN.{length, get_elem?}, IntN.{ℤ}, Signed.{mag}, Dec.{T}}
use mir.{Mem.{Cell}, Syntax.{Width, w64, Ty, ty_int, ty_array}, Val.{Val, vint, vptr, vstruct, vnil, vcons, of_list, bits, hbits, of_z}}
use prog.{Memory.{Memory, Block, entry_at, align, aligned, size, enc, bind}, Machine.{done}, Routine.{Routine, step}}

-- ---- types, as the machine holds their values

pub record Form : Type 1 where
  pub Value : Type 0
  pub ty : Ty
  pub machine : Value → Val
  pub Holds : Value → Type 0

abbrev pub unsigned : Width → Form
unsigned w = record { Value = ℕ; ty = ty_int w; machine = vint w; Holds = λ n. n < 2 ^ bits w }

abbrev pub signed : Width → Form
signed w = record { Value = ℤ; ty = ty_int w; machine = λ z. vint w (of_z w z); Holds = λ z. mag z < 2 ^ hbits w }

-- ---- parameters

pub data Mode : Type 0 where
  to_read : Mode
  to_write : Mode

pub data Param : Type 1 where
  by_value : Form → Param
  lent : Mode → Form → Param
  lent_with : Form → Form → Param

-- a block and an offset in it
abbrev pub Place : Type 0
Place = ℕ × ℕ

-- a lent list: where it is, and its entries
abbrev pub Lent : Type 0 → Type 0
Lent A = Place × List A

abbrev pub place : {A : Type 0} → Lent A → Place
place x = x.0

abbrev pub entries : {A : Type 0} → Lent A → List A
entries x = x.1

abbrev pub Input : Param → Type 0
Input (by_value F) = F.Value
Input (lent m F) = Lent F.Value
Input (lent_with F G) = Lent F.Value × G.Value

abbrev pub Inputs : List Param → Type 0
Inputs [] = Unit {0}
Inputs (p ∷ ps) = Input p × Inputs ps

abbrev pub Outputs : List Param → Type 0
Outputs [] = Unit {0}
Outputs (by_value F ∷ ps) = Outputs ps
Outputs (lent to_read F ∷ ps) = Outputs ps
Outputs (lent to_write F ∷ ps) = List F.Value × Outputs ps
Outputs (lent_with F G ∷ ps) = Outputs ps

abbrev pub left : (ps : List Param) → Inputs ps → Outputs ps → Inputs ps
left [] i o = tt
left (by_value F ∷ ps) i o = (i.0, left ps i.1 o)
left (lent to_read F ∷ ps) i o = (i.0, left ps i.1 o)
left (lent to_write F ∷ ps) i o = ((i.0.0, o.0), left ps i.1 o.1)
left (lent_with F G ∷ ps) i o = (i.0, left ps i.1 o)

-- a function of what is passed, and its value
abbrev pub OfInputs : List Param → Type 0 → Type 0
OfInputs [] A = A
OfInputs (p ∷ ps) A = Input p → OfInputs ps A

abbrev pub of_inputs : (ps : List Param) → {A : Type 0} → OfInputs ps A → Inputs ps → A
of_inputs [] f i = f
of_inputs (p ∷ ps) f i = of_inputs ps (f i.0) i.1

-- the pointer and the length
abbrev pub pointer : Place → ℕ → Val
pointer p n = vstruct (vcons (vptr p.0 p.1) (vcons (vint w64 n) vnil))

abbrev pub passes : (p : Param) → Input p → Val
passes (by_value F) x = F.machine x
passes (lent m F) x = pointer x.0 (length x.1)
passes (lent_with F G) x = vstruct (vcons (pointer x.0.0 (length x.0.1)) (vcons (G.machine x.1) vnil))

abbrev pub passed : (ps : List Param) → Inputs ps → List Val
passed [] i = []
passed (p ∷ ps) i = passes p i.0 ∷ passed ps i.1

-- ---- cells

-- cell i of block b, where the block is live and has it
abbrev pub cell_at : Memory → ℕ → ℕ → Option Cell
cell_at σ b i = bind (entry_at σ b) (λ e. get_elem? e.1 i)

-- the cells of a list, as the machine stores an array
abbrev pub cells_of : (F : Form) → List F.Value → List Cell
cells_of F xs = enc (ty_array F.ty (length xs)) (vstruct (of_list (map F.machine xs)))

-- block, offset, cells
abbrev pub Span : Type 0
Span = ℕ × ℕ × List Cell

abbrev pub RunAt : Memory → ℕ → ℕ → List Cell → Type 0
RunAt σ b o [] = Unit {0}
RunAt σ b o (c ∷ cs) = (cell_at σ b o ≡ some c) × RunAt σ b (suc o) cs

abbrev pub Stands : Memory → Span → Type 0
Stands σ s = RunAt σ s.0 s.1 s.2

-- cell i of block b is one of these
abbrev pub Has : Span → ℕ → ℕ → Type 0
Has s b i = (s.0 ≡ b) × (s.1 ≤ i) × (i < s.1 + length s.2)

abbrev pub Apart : Span → Span → Type 0
Apart s t = (b i : ℕ) → Has s b i → Has t b i → ⊥

abbrev pub All : {A : Type 0} → (A → Type 0) → List A → Type 0
All P [] = Unit {0}
All P (x ∷ xs) = P x × All P xs

abbrev pub AllApart : List Span → Type 0
AllApart [] = Unit {0}
AllApart (s ∷ ss) = All (Apart s) ss × AllApart ss

-- ---- what is lent, as cells

abbrev pub span : (F : Form) → Place → List F.Value → Span
span F p xs = (p.0, p.1, cells_of F xs)

abbrev pub reads : (ps : List Param) → Inputs ps → List Span
reads [] i = []
reads (by_value F ∷ ps) i = reads ps i.1
reads (lent to_read F ∷ ps) i = span F i.0.0 i.0.1 ∷ reads ps i.1
reads (lent to_write F ∷ ps) i = reads ps i.1
reads (lent_with F G ∷ ps) i = span F i.0.0.0 i.0.0.1 ∷ reads ps i.1

abbrev pub writes : (ps : List Param) → Inputs ps → List Span
writes [] i = []
writes (by_value F ∷ ps) i = writes ps i.1
writes (lent to_read F ∷ ps) i = writes ps i.1
writes (lent to_write F ∷ ps) i = span F i.0.0 i.0.1 ∷ writes ps i.1
writes (lent_with F G ∷ ps) i = writes ps i.1

-- ---- before the call

-- a list that has an entry begins in a live block, aligned as its entries are
abbrev pub Aligned : Memory → Ty → Place → {X : Type 0} → List X → Type 0
Aligned σ τ p [] = Unit {0}
Aligned σ τ p (x ∷ xs) = (e : Block) × (entry_at σ p.0 ≡ some e) × T (aligned (align τ) e.0 p.1)

-- the length is one that a pointer's length can say, and the bytes are at most as many as an address can count
abbrev pub Sized : Ty → ℕ → Type 0
Sized τ n = (n < 2 ^ 64) × (n * size τ < 2 ^ 63)

abbrev pub GoodList : Memory → (F : Form) → Place → List F.Value → Type 0
GoodList σ F p xs = All F.Holds xs × Aligned σ F.ty p xs × Sized F.ty (length xs)

abbrev pub Good : Memory → (p : Param) → Input p → Type 0
Good σ (by_value F) x = F.Holds x
Good σ (lent m F) x = GoodList σ F x.0 x.1
Good σ (lent_with F G) x = GoodList σ F x.0.0 x.0.1 × G.Holds x.1

abbrev pub AllGood : Memory → (ps : List Param) → Inputs ps → Type 0
AllGood σ [] i = Unit {0}
AllGood σ (p ∷ ps) i = Good σ p i.0 × AllGood σ ps i.1

-- a span that has a cell lies in a block that may be written
abbrev pub MayWrite : Memory → ℕ → List Cell → Type 0
MayWrite σ b [] = Unit {0}
MayWrite σ b (c ∷ cs) = (e : Block) → entry_at σ b ≡ some e → T e.2

abbrev pub Open : Memory → Span → Type 0
Open σ s = MayWrite σ s.0 s.2

pub record Ready (σ : Memory) (ps : List Param) (i : Inputs ps) : Type 0 where
  pub reads_stand : All (Stands σ) (reads ps i)
  pub writes_stand : All (Stands σ) (writes ps i)
  pub reads_apart : All (λ s. All (Apart s) (writes ps i)) (reads ps i)
  pub writes_apart : AllApart (writes ps i)
  pub writes_open : All (Open σ) (writes ps i)
  pub good : AllGood σ ps i

-- ---- after it

-- a block is as long and as aligned as it was; one that has a cell and could be written still can
abbrev pub BlockKept : Memory → Memory → Type 0
BlockKept σ σ' =
    (b : ℕ) (e : Block) → entry_at σ b ≡ some e →
    (e' : Block) × (entry_at σ' b ≡ some e') × (e'.0 ≡ e.0) × (length e'.1 ≡ length e.1) × (0 < length e.1 → T e.2 → T e'.2)

-- a cell that is none of these is as it was
abbrev pub ElseKept : Memory → Memory → List Span → Type 0
ElseKept σ σ' ss =
    (b i : ℕ) (c : Cell) → All (λ s. ¬ Has s b i) ss → cell_at σ b i ≡ some c → cell_at σ' b i ≡ some c

pub record Call : Type 1 where
  pub params : List Param
  pub Result : Type 0
  pub value : Result → Val
  pub outcome : OfInputs params (Result × Outputs params)

-- the result, and the lists on return, for what is passed
abbrev pub outcome_of : (C : Call) → Inputs C.params → C.Result × Outputs C.params
outcome_of C i = of_inputs C.params C.outcome i

-- what was passed, on return
abbrev pub after_call : (C : Call) → Inputs C.params → Inputs C.params
after_call C i = left C.params i (outcome_of C i).1

pub record Ran (ρ : Routine) (C : Call) (σ : Memory) (i : Inputs C.params) : Type 0 where
  pub steps : ℕ
  pub memory : Memory
  pub returns : step ρ steps (passed C.params i) σ ≡ done (C.value (outcome_of C i).0, memory)
  pub lengths : passed C.params (after_call C i) ≡ passed C.params i
  pub good : AllGood memory C.params (after_call C i)
  pub stand : All (Stands memory) (writes C.params (after_call C i))
  pub else_kept : ElseKept σ memory (writes C.params i)
  pub blocks_kept : BlockKept σ memory

abbrev pub Runs : Routine → Call → Type 0
Runs ρ C = (σ : Memory) (i : Inputs C.params) → Ready σ C.params i → ∥ Ran ρ C σ i ∥₁
