-- The machine's memory owned whole, and cut: what is lent, and the rest, by which a cell that is not lent is told to be as it was.
use mathlib.Core.{Logic.{inl, inr}, Path.{◌≡◌, refl, sym, ◌∙◌, ap, subst}, Option.{Option, none, some, none-ne-some, some-injective}, List.{List, [], ◌∷◌}, Bool.{Bool}}
use mathlib.Core.{Bool.{true, false}}
use Prim.Native.Nat.{ℕ, suc, ◌+◌, ◌<◌, ◌≤◌}
use lib.{ListN.{length, get_elem?}, Dec.{T, eqb}}
use native.Mathlib.{Nat.{suc-ne-zero, eq-or-lt_of_le}, Omega.{arith}}
use base.Share
use seplogic.{Ra.Pcs.{OpDef}, Ra.Ura.{Ura}, Ra.Constructions.{UEmb}}
use mir.Mem.{Cell}
use base.{Fml.{Share}, Fraction.{full_share}, Share.{halves, quarter, three_quarters, quarters}}
use base.{Logic.{SProp, ent, sep, emp, ex, guard, upd, via, with_fact, ex_i, ex_e, ex∗, guard_e, upd_mono, emp∗, mono_l, mono_r, mono∗, comm∗, assoc∗, assoc', fst∗, snd∗}}
use contract.Monad.{fact, fact_i}
use prog.{Memory.{Memory, Block, entry_at, pick, bind}, Align.{Dv}}
use Rattle.machine.specs.Cells.{cell_at, RunAt, Span, Stands, Has, All, MayWrite, Open}
use store.Table
use store.{Piece.{Off, or, Met, Met-some}, Table.{Table, ∅, Sub, Apart, Meet, union}}
use store.{Own.{auth, frag, frag-∅, frag_split, frag_join, frag_less, frag_cut, frag-Meet, auth-sub, move, Sub-prop, Meet-prop}}
use store.{View.{Key, cell, len, algn, Ent, Ent-set, HMap, Row, row_of, row_at, view, gate, only, RSub, sub-Row, Row-sub, Kept, shut, shut_row, shut-view, shut_open}}
use store.{Seg.{seg, eqb→≡, eqb_same, seg_before, seg_head}}
use store.{Rows.{pt_row, len_row, run_row, algn_row}, Cells.{mem_a, mem_h, other, has, cells, run→cells, lies, known, known_intro}}
use Rattle.machine.specs.Cells as machine

-- ---- a table less a part of it

unfoldable pub keep : {A : Type 0} → Option A → Option A → Option A
keep none y = y
keep (some x) y = none

unfoldable pub less : HMap → HMap → HMap
unfolding keep
less m f k = keep (f k) (m k)

keep_off : {A : Type 0} (x y : Option A) → Off x (keep x y)
unfolding Off keep
keep_off none none = tt
keep_off none (some y) = tt
keep_off (some x) y = tt

keep_or : {A : Type 0} (x y : Option A) → ((w : A) → x ≡ some w → y ≡ some w) → or x (keep x y) ≡ y
unfolding or keep
keep_or none y h = refl
keep_or (some x) y h = sym (h x refl)

pub keep_at : {A : Type 0} (x y : Option A) (w : A) → x ≡ none → y ≡ some w → keep x y ≡ some w
unfolding keep
keep_at none y w e h = h
keep_at (some x) y w e h = absurd (none-ne-some x (sym e))

-- what is kept is in neither what was taken nor new
keep_is : {A : Type 0} (x y : Option A) (w : A) → keep x y ≡ some w → (x ≡ none) × (y ≡ some w)
unfolding keep
keep_is none y w h = (refl, h)
keep_is (some x) y w h = absurd (none-ne-some w h)

less_apart : (m f : HMap) → Apart Ent-set f (less m f)
unfolding Apart less Off
less_apart m f k = keep_off (f k) (m k)

less_union : (m f : HMap) → Sub Ent-set f m → union Ent-set f (less m f) ≡ m
unfolding Sub union less
less_union m f S = λ j k. keep_or (f k) (m k) (S k) j

keep_some : {A : Type 0} (x y z : Option A) (w : A) → Off z x → z ≡ some w → y ≡ some w → keep x y ≡ some w
unfolding Off keep
keep_some none y z w o e h = h
keep_some (some x) y none w o e h = absurd (none-ne-some w e)
keep_some (some x) y (some z) w o e h = absurd o

-- what is apart from what was taken is still there
pub sub_less : (m f g : HMap) → Sub Ent-set g m → Apart Ent-set g f → Sub Ent-set g (less m f)
unfolding Sub Apart less
sub_less m f g S a k w e = keep_some (f k) (m k) (g k) w (a k) e (S k w e)

-- the cells that may be written, and all else but the cells that may not
abbrev pub opened : List ℕ → Memory → HMap
opened A σ = less (view A σ) (shut σ)

-- no entry of it is a cell that may not be written
abbrev pub NotShut : Memory → HMap → Type 0
NotShut σ f = (k : Key) (w : Ent k) → f k ≡ some w → shut σ k ≡ none

met_none : {A : Type 0} (Aset : IsSet A) (q q' : Share) → ¬ OpDef Share.op q q' → (x y : Option A) (w : A) → Met Aset q q' x y → x ≡ some w → y ≡ none
met_none Aset q q' n x none w m e = refl
met_none Aset q q' n none (some v) w m e = absurd (none-ne-some w e)
met_none Aset q q' n (some u) (some v) w m e = absurd (n (Met-some Aset q q' u v m).0)

-- a row is the memory's, beside some list of all blocks' alignments
abbrev pub Seen : Memory → ℕ → Row → Type 0
Seen σ b r = (A : List ℕ) × Kept A σ × RSub r (row_at A σ b)

-- ---- the empty memory has no entry

gate_some : {A : Type 0} (t : Bool) (x : Option A) (w : A) → gate t x ≡ some w → (t ≡ true) × (x ≡ some w)
unfolding gate
gate_some true x w e = (refl, e)
gate_some false x w e = absurd (none-ne-some w e)

gate_none : {A : Type 0} (t : Bool) → gate {A = A} t none ≡ none
unfolding gate
gate_none true = refl
gate_none false = refl

pub pick_some : {A : Type 0} (t : Bool) (c w : A) → pick t c ≡ some w → (t ≡ true) × (c ≡ w)
pick_some true c w e = (refl, some-injective c w e)
pick_some false c w e = absurd (none-ne-some w e)

not_gate : {A : Type 0} {X : Type 0} (t : Bool) (w : A) → gate {A = A} t none ≡ some w → X
not_gate t w e = absurd (none-ne-some w (sym (gate_none t) ∙ e))

one_cell : (A : List ℕ) (σ : Memory) (b i : ℕ) (w : Cell) → view A σ (cell b i) ≡ some w → Sub Ent-set (only b (pt_row i w)) (view A σ)
unfolding Sub only pt_row
one_cell A σ b i w e (cell b' i') v d =
    let x : (eqb b b' ≡ true) × (pick (eqb i i') w ≡ some v) = gate_some (eqb b b') (pick (eqb i i') w) v d in
    let y : (eqb i i' ≡ true) × (w ≡ v) = pick_some (eqb i i') w v x.1 in
    subst (λ (c : ℕ). view A σ (cell c i') ≡ some v) (eqb→≡ b b' x.0)
    (subst (λ (j : ℕ). view A σ (cell b j) ≡ some v) (eqb→≡ i i' y.0) (e ∙ ap some y.1))
one_cell A σ b i w e (len b') v d = not_gate (eqb b b') v d
one_cell A σ b i w e (algn b') v d = not_gate (eqb b b') v d

one_length : (A : List ℕ) (σ : Memory) (b n : ℕ) → view A σ (len b) ≡ some n → Sub Ent-set (only b (len_row n)) (view A σ)
unfolding Sub only len_row
one_length A σ b n e (cell b' i') v d = not_gate (eqb b b') v d
one_length A σ b n e (len b') v d =
    let x : (eqb b b' ≡ true) × (some n ≡ some v) = gate_some (eqb b b') (some n) v d in
    subst (λ (c : ℕ). view A σ (len c) ≡ some v) (eqb→≡ b b' x.0) (e ∙ x.1)
one_length A σ b n e (algn b') v d = not_gate (eqb b b') v d

one_alignment : (A : List ℕ) (σ : Memory) (b a : ℕ) → view A σ (algn b) ≡ some a → Sub Ent-set (only b (algn_row a)) (view A σ)
unfolding Sub only algn_row
one_alignment A σ b a e (cell b' i') v d = not_gate (eqb b b') v d
one_alignment A σ b a e (len b') v d = not_gate (eqb b b') v d
one_alignment A σ b a e (algn b') v d =
    let x : (eqb b b' ≡ true) × (some a ≡ some v) = gate_some (eqb b b') (some a) v d in
    subst (λ (c : ℕ). view A σ (algn c) ≡ some v) (eqb→≡ b b' x.0) (e ∙ x.1)

none_there : (A : List ℕ) → length A ≡ 0 → (b a : ℕ) → get_elem? A b ≡ some a → ⊥
none_there [] l b a e = none-ne-some a e
none_there (x ∷ A) l b a e = suc-ne-zero (length A) l

no_entry : (A : List ℕ) → length A ≡ 0 → (k : Key) (w : Ent k) → view A [] k ≡ some w → ⊥
unfolding RSub pt_row len_row algn_row row_of
no_entry A l (cell b i) w e = none-ne-some w ((sub-Row A [] b (pt_row i w) (one_cell A [] b i w e)).0 i w (ap (λ (t : Bool). pick t w) (eqb_same i)))
no_entry A l (len b) n e = none-ne-some n ((sub-Row A [] b (len_row n) (one_length A [] b n e)).1 n refl)
no_entry A l (algn b) a e = none_there A l b a ((sub-Row A [] b (algn_row a) (one_alignment A [] b a e)).2 a refl)

module _ {M : Type 1} (𝓤 : Ura M) (ι : UEmb (Table Ent-set) M (Table.op Ent-set) (Table.one Ent-set) 𝓤.op 𝓤.one) where
  abbrev ◌⊢◌ : SProp 𝓤 → SProp 𝓤 → Type 1
  P ⊢ Q = ent 𝓤 P Q

  abbrev ◌∗◌ : SProp 𝓤 → SProp 𝓤 → SProp 𝓤
  P ∗ Q = sep 𝓤 P Q

  infix 26 ◌⊢◌
  infixr 35 ◌∗◌
  abbrev pub owned : Share → HMap → SProp 𝓤
  owned q m = frag Ent-set 𝓤 ι q m

  pub take : (q : Share) (m f : HMap) → Sub Ent-set f m → owned q m ⊢ owned q f ∗ owned q (less m f)
  take q m f S = subst (λ (x : HMap). owned q x ⊢ owned q f ∗ owned q (less m f)) (less_union m f S) (frag_split Ent-set 𝓤 ι q f (less m f) (less_apart m f))

  -- what may be had of a memory: the whole of each cell that may be written, and a half of each other
  abbrev pub all_of : List ℕ → Memory → SProp 𝓤
  all_of A σ = owned full_share (opened A σ) ∗ owned (Share.right full_share) (shut σ)

  turned : (P Q R S : SProp 𝓤) → P ∗ ((Q ∗ R) ∗ S) ⊢ (P ∗ Q) ∗ (S ∗ R)
  turned P Q R S =
      via 𝓤 (P ∗ (Q ∗ (R ∗ S))) (mono_r 𝓤 P (assoc∗ 𝓤 Q R S))
      (via 𝓤 ((P ∗ Q) ∗ (R ∗ S)) (assoc' 𝓤 P Q (R ∗ S)) (mono_r 𝓤 (P ∗ Q) (comm∗ 𝓤 R S)))

  -- from the empty memory: any other, with all that may be had of it
  pub all_in_hand : (A : List ℕ) (σ : Memory) → mem_h 𝓤 ι [] ⊢ upd 𝓤 (mem_a 𝓤 ι A σ ∗ all_of A σ)
  unfolding mem_h mem_a Sub ∅ Kept
  all_in_hand A σ =
      let m : HMap = view A σ in
      let s : HMap = shut σ in
      let split : auth Ent-set 𝓤 ι m ∗ owned full_share m ⊢ mem_a 𝓤 ι A σ ∗ all_of A σ =
      via 𝓤 (auth Ent-set 𝓤 ι m ∗ ((owned (other 𝓤 ι) s ∗ owned (Share.right full_share) s) ∗ owned full_share (less m s)))
      (mono_r 𝓤 (auth Ent-set 𝓤 ι m) (via 𝓤 (owned full_share s ∗ owned full_share (less m s)) (take full_share m s (shut-view A σ))
      (mono_l 𝓤 (owned full_share (less m s))
      (frag_cut Ent-set 𝓤 ι full_share (Share.left full_share) (Share.right full_share) (halves full_share) s))))
      (turned (auth Ent-set 𝓤 ι m) (owned (other 𝓤 ι) s) (owned (Share.right full_share) s) (owned full_share (less m s))) in
      ex_e 𝓤 (λ (B : List ℕ). guard 𝓤 (Kept B []) (mem_a 𝓤 ι B [])) (λ B.
      guard_e 𝓤 (Kept B []) (mem_a 𝓤 ι B []) (λ K.
      let G : SProp 𝓤 = auth Ent-set 𝓤 ι (view B []) in
      via 𝓤 G (fst∗ 𝓤 G (owned (other 𝓤 ι) (shut [])))
      (via 𝓤 (G ∗ owned full_share (∅ Ent-set))
      (via 𝓤 (emp 𝓤 ∗ G) (emp∗ 𝓤 G) (via 𝓤 (G ∗ emp 𝓤) (comm∗ 𝓤 (emp 𝓤) G) (mono_r 𝓤 G (frag-∅ Ent-set 𝓤 ι full_share))))
      (via 𝓤 (upd 𝓤 (auth Ent-set 𝓤 ι m ∗ owned full_share m))
      (move Ent-set 𝓤 ι (view B []) (∅ Ent-set) m m (λ _ k w d e. absurd (no_entry B K.0 k w e)) (λ _ k w e. e))
      (upd_mono 𝓤 split)))))

  -- ---- looking

  pub look : (q : Share) (σ : Memory) (b : ℕ) (r : Row) → mem_h 𝓤 ι σ ∗ has 𝓤 ι q b r ⊢ fact 𝓤 (Seen σ b r)
  unfolding mem_h mem_a has Sub
  look q σ b r =
      ex∗ 𝓤 (λ (A : List ℕ). guard 𝓤 (Kept A σ) (mem_a 𝓤 ι A σ)) (has 𝓤 ι q b r) (λ A.
      ex∗ 𝓤 (λ (_ : Kept A σ). mem_a 𝓤 ι A σ) (has 𝓤 ι q b r) (λ K.
      via 𝓤 (auth Ent-set 𝓤 ι (view A σ) ∗ has 𝓤 ι q b r)
      (mono_l 𝓤 (has 𝓤 ι q b r) (fst∗ 𝓤 (auth Ent-set 𝓤 ι (view A σ)) (owned (other 𝓤 ι) (shut σ))))
      (with_fact 𝓤 (Sub Ent-set (only b r) (view A σ)) (Sub-prop Ent-set 𝓤 ι (only b r) (view A σ)) (auth-sub Ent-set 𝓤 ι q (view A σ) (only b r)) (λ S.
      fact_i 𝓤 (Seen σ b r) (auth Ent-set 𝓤 ι (view A σ) ∗ frag Ent-set 𝓤 ι q (only b r)) (A, K, sub-Row A σ b r S)))))

  -- what is owned at a share that is beside no half is not among the cells that may not be written
  pub look_open : (q : Share) → ¬ OpDef Share.op q (other 𝓤 ι) → (σ : Memory) (f : HMap) → mem_h 𝓤 ι σ ∗ owned q f ⊢ fact 𝓤 (NotShut σ f)
  unfolding mem_h mem_a Meet
  look_open q n σ f =
      let S : SProp 𝓤 = owned (other 𝓤 ι) (shut σ) in
      ex∗ 𝓤 (λ (A : List ℕ). guard 𝓤 (Kept A σ) (mem_a 𝓤 ι A σ)) (owned q f) (λ A.
      ex∗ 𝓤 (λ (_ : Kept A σ). mem_a 𝓤 ι A σ) (owned q f) (λ K.
      via 𝓤 (S ∗ owned q f) (mono_l 𝓤 (owned q f) (snd∗ 𝓤 (auth Ent-set 𝓤 ι (view A σ)) S))
      (via 𝓤 (owned q f ∗ S) (comm∗ 𝓤 S (owned q f))
      (with_fact 𝓤 (Meet Ent-set q (other 𝓤 ι) f (shut σ)) (Meet-prop Ent-set 𝓤 ι q (other 𝓤 ι) f (shut σ))
      (frag-Meet Ent-set 𝓤 ι q (other 𝓤 ι) f (shut σ)) (λ m.
      fact_i 𝓤 (NotShut σ f) (owned q f ∗ S) (λ k w e. met_none (Ent-set k) q (other 𝓤 ι) n (f k) (shut σ k) w (m k) e))))))

-- ---- rows

pub row_cell : (X : Option Block) (k : Option ℕ) (i : ℕ) → (row_of X k).0 i ≡ bind X (λ e. get_elem? e.1 i)
unfolding row_of
row_cell none k i = refl
row_cell (some e) k i = refl

pub row_algn : (X : Option Block) (k : Option ℕ) → (row_of X k).2 ≡ k
unfolding row_of
row_algn none k = refl
row_algn (some e) k = refl

-- a run stands where its cells are
run_step : {A : Type 0} (t : Bool) (o i : ℕ) (c w : A) (x : Option A) (P : ℕ → A → Type 0) → eqb o i ≡ t → P o c → (x ≡ some w → P i w)
    → or (pick t c) x ≡ some w → P i w
unfolding or
run_step true o i c w x P q h k e = subst (λ (j : ℕ). P j w) (eqb→≡ o i q) (subst (P o) (some-injective c w e) h)
run_step false o i c w x P q h k e = k e

pub run_in : (σ : Memory) (b o : ℕ) (cs : List Cell) → RunAt σ b o cs → (i : ℕ) (w : Cell) → seg o cs i ≡ some w → cell_at σ b i ≡ some w
unfolding seg
run_in σ b o [] h i w e = absurd (none-ne-some w e)
run_in σ b o (c ∷ cs) h i w e = run_step (eqb o i) o i c w (seg (suc o) cs i) (λ j v. cell_at σ b j ≡ some v) refl h.0 (run_in σ b (suc o) cs h.1 i w) e

late : {A : Type 0} (t : Bool) (o i : ℕ) (c w : A) (cs : List A) → eqb o i ≡ t → seg (suc o) cs i ≡ some w → or (pick t c) (seg (suc o) cs i) ≡ some w
unfolding or seg
late false o i c w cs q e = e
late true o i c w cs q e = absurd (none-ne-some w (sym (seg_before o cs) ∙ subst (λ (j : ℕ). seg (suc o) cs j ≡ some w) (sym (eqb→≡ o i q)) e))

pub run_out : (σ : Memory) (b o : ℕ) (cs : List Cell) → ((i : ℕ) (w : Cell) → seg o cs i ≡ some w → cell_at σ b i ≡ some w) → RunAt σ b o cs
unfolding seg
run_out σ b o [] h = tt
run_out σ b o (c ∷ cs) h = (h o c (seg_head o c cs), run_out σ b (suc o) cs (λ i w e. h i w (late (eqb o i) o i c w cs refl e)))

-- within a run
pub seg_range : {A : Type 0} (o : ℕ) (cs : List A) (i : ℕ) (w : A) → seg o cs i ≡ some w → (o ≤ i) × (i < o + length cs)
unfolding seg
seg_range o [] i w e = absurd (none-ne-some w e)
seg_range {A} o (c ∷ cs) i w e =
    run_step (eqb o i) o i c w (seg (suc o) cs i) (λ j v. (o ≤ j) × (j < o + suc (length cs))) refl (omega arith, omega arith)
    (λ h. let r : (suc o ≤ i) × (i < suc o + length cs) = seg_range (suc o) cs i w h in (omega (arith, r.0), omega (arith, r.1))) e

pub seg_inside : {A : Type 0} (o : ℕ) (cs : List A) (i : ℕ) → o ≤ i → i < o + length cs → (w : A) × (seg o cs i ≡ some w)
unfolding seg
seg_inside {A} o [] i p q = absurd (omega (arith, p, q))
seg_inside {A} o (c ∷ cs) i p q =
    elim (eq-or-lt_of_le p) [ inl e ↦ (c, subst (λ (j : ℕ). seg o (c ∷ cs) j ≡ some c) e (seg_head o c cs)) | inr l ↦ further l (seg_inside (suc o) cs i l (omega (arith, q))) ]
  where
    further : suc o ≤ i → (w : A) × (seg (suc o) cs i ≡ some w) → (w : A) × (seg o (c ∷ cs) i ≡ some w)
    further l x = (x.0, late (eqb o i) o i c x.0 cs refl x.1)

-- ---- tables of spans

off_of : {A : Type 0} (x y : Option A) → ((w v : A) → x ≡ some w → y ≡ some v → ⊥) → Off x y
unfolding Off
off_of none none h = tt
off_of none (some y) h = tt
off_of (some x) none h = tt
off_of (some x) (some y) h = h x y refl refl

unfoldable pub map_of : Span → HMap
unfolding only
map_of s = only s.0 (run_row s.1 s.2)

pub not_of : (s : Span) (b i : ℕ) → ¬ Has s b i → map_of s (cell b i) ≡ none
unfolding map_of only run_row
not_of s b i n = go (gate (eqb s.0 b) (seg s.1 s.2 i)) (λ w e.
    let x : (eqb s.0 b ≡ true) × (seg s.1 s.2 i ≡ some w) = gate_some (eqb s.0 b) (seg s.1 s.2 i) w e in
    let z : (s.1 ≤ i) × (i < s.1 + length s.2) = seg_range s.1 s.2 i w x.1 in
    n (eqb→≡ s.0 b x.0, z.0, z.1))
  where
    go : {A : Type 0} (x : Option A) → ((w : A) → x ≡ some w → ⊥) → x ≡ none
    go none h = refl
    go (some w) h = absurd (h w refl)

pub here_of : (s : Span) (b i : ℕ) → Has s b i → (w : Cell) × (map_of s (cell b i) ≡ some w)
unfolding map_of only run_row gate
here_of s b i h =
    let x = seg_inside s.1 s.2 i h.1 h.2 in
    (x.0, subst (λ (c : ℕ). gate (eqb s.0 c) (seg s.1 s.2 i) ≡ some x.0) h.0 (ap (λ (t : Bool). gate t (seg s.1 s.2 i)) (eqb_same s.0) ∙ x.1))

-- a row of block b is apart from a span that has none of its cells
pub row_span_apart : (b : ℕ) (r : Row) (s : Span) → ((i : ℕ) (w : Cell) → r.0 i ≡ some w → Has s b i → ⊥) → Apart Ent-set (only b r) (map_of s)
unfolding Apart only map_of run_row
row_span_apart b r s h (cell b' i) =
    off_of (gate (eqb b b') (r.0 i)) (gate (eqb s.0 b') (seg s.1 s.2 i)) (λ w v e d.
    let x : (eqb b b' ≡ true) × (r.0 i ≡ some w) = gate_some (eqb b b') (r.0 i) w e in
    let y : (eqb s.0 b' ≡ true) × (seg s.1 s.2 i ≡ some v) = gate_some (eqb s.0 b') (seg s.1 s.2 i) v d in
    let z : (s.1 ≤ i) × (i < s.1 + length s.2) = seg_range s.1 s.2 i v y.1 in
    h i w x.1 (eqb→≡ s.0 b' y.0 ∙ sym (eqb→≡ b b' x.0), z.0, z.1))
row_span_apart b r s h (len b') = off_of (gate (eqb b b') r.1) (gate (eqb s.0 b') none)
    (λ w v e d. none-ne-some v (sym (gate_none (eqb s.0 b')) ∙ d))
row_span_apart b r s h (algn b') = off_of (gate (eqb b b') r.2) (gate (eqb s.0 b') none)
    (λ w v e d. none-ne-some v (sym (gate_none (eqb s.0 b')) ∙ d))

pub spans_apart : (s t : Span) → machine.Apart s t → Apart Ent-set (map_of s) (map_of t)
unfolding map_of run_row
spans_apart s t h = row_span_apart s.0 (run_row s.1 s.2) t (λ i w e d.
    let z : (s.1 ≤ i) × (i < s.1 + length s.2) = seg_range s.1 s.2 i w e in
    h s.0 i (refl, z.0, z.1) d)

-- a span that stands is in the memory's table
cells_row : (A : List ℕ) (σ : Memory) (s : Span) → Stands σ s → RSub (run_row s.1 s.2) (row_at A σ s.0)
unfolding run_row RSub
cells_row A σ s h = (
  λ i w e. row_cell (entry_at σ s.0) (get_elem? A s.0) i
      ∙ run_in σ s.0 s.1 s.2 h i w e,
  λ n e. absurd (none-ne-some n e),
  λ a e. absurd (none-ne-some a e),
)

span_sub : (A : List ℕ) (σ : Memory) (s : Span) → Stands σ s → Sub Ent-set (map_of s) (view A σ)
unfolding map_of
span_sub A σ s h = Row-sub A σ s.0 (run_row s.1 s.2) (cells_row A σ s h)

-- and, where its block may be written, among the cells that may be
pub open_row : (X : Option Block) → ((e : Block) → X ≡ some e → T e.2) → (i : ℕ) → shut_row X i ≡ none
unfolding shut_row
open_row none h i = refl
open_row (some e) h i = subst (λ (t : Bool). shut_row (some (e.0, e.1, t)) i ≡ none) (sym (T_true e.2 (h e refl))) (shut_open e.0 e.1 i)
  where
    T_true : (t : Bool) → T t → t ≡ true
    T_true true h = refl
    T_true false h = absurd h

open_span : (σ : Memory) (b o : ℕ) (cs : List Cell) → MayWrite σ b cs → (i : ℕ) (w : Cell) → seg o cs i ≡ some w → shut_row (entry_at σ b) i ≡ none
unfolding seg
open_span σ b o [] h i w e = absurd (none-ne-some w e)
open_span σ b o (c ∷ cs) h i w e = open_row (entry_at σ b) h i

span_open : (A : List ℕ) (σ : Memory) (s : Span) → Stands σ s → Open σ s → Sub Ent-set (map_of s) (opened A σ)
unfolding Sub map_of only run_row less shut
span_open A σ s h k (cell b i) w e =
    let x : (eqb s.0 b ≡ true) × (seg s.1 s.2 i ≡ some w) = gate_some (eqb s.0 b) (seg s.1 s.2 i) w e in
    let n : shut_row (entry_at σ b) i ≡ none =
    subst (λ (b' : ℕ). shut_row (entry_at σ b') i ≡ none) (eqb→≡ s.0 b x.0) (open_span σ s.0 s.1 s.2 k i w x.1) in
    keep_at (shut_row (entry_at σ b) i) (view A σ (cell b i)) w n (span_sub A σ s h (cell b i) w e)
span_open A σ s h k (len b) w e = absurd (none-ne-some w (sym (gate_none (eqb s.0 b)) ∙ e))
span_open A σ s h k (algn b) w e = absurd (none-ne-some w (sym (gate_none (eqb s.0 b)) ∙ e))

pub alignment_row : (A : List ℕ) (σ : Memory) (b a : ℕ) → get_elem? A b ≡ some a → RSub (algn_row a) (row_at A σ b)
unfolding algn_row RSub
alignment_row A σ b a h = (λ i v d. absurd (none-ne-some v d), λ n d. absurd (none-ne-some n d), λ k d. row_algn (entry_at σ b) (get_elem? A b) ∙ h ∙ d)

-- ---- the rest

pub rest : HMap → List Span → HMap
rest m [] = m
rest m (s ∷ ss) = rest (less m (map_of s)) ss

AllSub : HMap → List Span → Type 0
AllSub m ss = All (λ s. Sub Ent-set (map_of s) m) ss

all_sub_less : (m : HMap) (s : Span) (ss : List Span) → All (machine.Apart s) ss → AllSub m ss → AllSub (less m (map_of s)) ss
unfolding AllSub
all_sub_less m s [] a h = tt
all_sub_less m s (t ∷ ss) a h = (sub_less m (map_of s) (map_of t) h.0 (spans_apart t s (λ b i x y. a.0 b i y x)), all_sub_less m s ss a.1 h.1)

all_in : (A : List ℕ) (σ : Memory) (ss : List Span) → All (Stands σ) ss → All (Open σ) ss → AllSub (opened A σ) ss
unfolding AllSub
all_in A σ [] h k = tt
all_in A σ (s ∷ ss) h k = (span_open A σ s h.0 k.0, all_in A σ ss h.1 k.1)

-- at one key
abbrev pub NoneOf : (k : Key) → List Span → Type 0
NoneOf k ss = All (λ s. map_of s k ≡ none) ss

rest_is : (m : HMap) (ss : List Span) (k : Key) (w : Ent k) → rest m ss k ≡ some w → (m k ≡ some w) × NoneOf k ss
unfolding rest less
rest_is m [] k w e = (e, tt)
rest_is m (s ∷ ss) k w e =
    let x : (less m (map_of s) k ≡ some w) × NoneOf k ss = rest_is (less m (map_of s)) ss k w e in
    let y : (map_of s k ≡ none) × (m k ≡ some w) = keep_is (map_of s k) (m k) w x.0 in
    (y.1, (y.0, x.1))

pub rest_has : (m : HMap) (ss : List Span) (k : Key) (w : Ent k) → m k ≡ some w → NoneOf k ss → rest m ss k ≡ some w
unfolding rest less
rest_has m [] k w e n = e
rest_has m (s ∷ ss) k w e n = rest_has (less m (map_of s)) ss k w (keep_at (map_of s k) (m k) w n.0 e) n.1

-- what is left of all, beside the cells that may not be written
rest_apart : (A : List ℕ) (σ : Memory) (ss : List Span) → Apart Ent-set (shut σ) (rest (opened A σ) ss)
unfolding Apart less
rest_apart A σ ss k = off_of (shut σ k) (rest (opened A σ) ss k) (λ w v e d.
    none-ne-some w (sym (keep_is (shut σ k) (view A σ k) v (rest_is (opened A σ) ss k v d).0).0 ∙ e))

or_has : {A : Type 0} (x y : Option A) (w : A) → ((v : A) → x ≡ some v → v ≡ w) → (x ≡ none → y ≡ some w) → or x y ≡ some w
unfolding or
or_has none y w h k = k refl
or_has (some v) y w h k = ap some (h v refl)

rest_both : (A : List ℕ) (σ : Memory) (ss : List Span) → Sub Ent-set (rest (view A σ) ss) (union Ent-set (shut σ) (rest (opened A σ) ss))
unfolding Sub union less
rest_both A σ ss k w e =
    let x : (view A σ k ≡ some w) × NoneOf k ss = rest_is (view A σ) ss k w e in
    or_has (shut σ k) (rest (opened A σ) ss k) w (λ v d. some-injective v w (sym (shut-view A σ k v d) ∙ x.0))
    (λ d. rest_has (opened A σ) ss k w (keep_at (shut σ k) (view A σ k) w d x.0) x.1)

-- what is apart from every span is in the rest
pub rest_sub : (m : HMap) (ss : List Span) (g : HMap) → Sub Ent-set g m → All (λ s. Apart Ent-set g (map_of s)) ss → Sub Ent-set g (rest m ss)
unfolding rest
rest_sub m [] g S a = S
rest_sub m (s ∷ ss) g S a = rest_sub (less m (map_of s)) ss g (sub_less m (map_of s) g S a.0) a.1

pub no_cells : (b : ℕ) (ss : List Span) → All (λ s. (i : ℕ) (w : Cell) → none ≡ some w → Has s b i → ⊥) ss
no_cells b [] = tt
no_cells b (s ∷ ss) = (λ i w d x. none-ne-some w d, no_cells b ss)

own_cells : (s : Span) (ss : List Span) → All (machine.Apart s) ss → All (λ t. (i : ℕ) (w : Cell) → seg s.1 s.2 i ≡ some w → Has t s.0 i → ⊥) ss
own_cells s [] a = tt
own_cells s (t ∷ ss) a = (
  λ i w e x. let z : (s.1 ≤ i) × (i < s.1 + length s.2) = seg_range s.1 s.2 i w e in a.0 s.0 i (refl, z.0, z.1) x,
  own_cells s ss a.1,
)

all_apart : (b : ℕ) (r : Row) (ss : List Span) → All (λ s. (i : ℕ) (w : Cell) → r.0 i ≡ some w → Has s b i → ⊥) ss
    → All (λ s. Apart Ent-set (only b r) (map_of s)) ss
all_apart b r [] a = tt
all_apart b r (s ∷ ss) a = (row_span_apart b r s a.0, all_apart b r ss a.1)

module _ {M : Type 1} (𝓤 : Ura M) (ι : UEmb (Table Ent-set) M (Table.op Ent-set) (Table.one Ent-set) 𝓤.op 𝓤.one) where
  -- the cells of spans, each whole
  abbrev pub lie : List Span → SProp 𝓤
  lie [] = emp 𝓤
  lie (s ∷ ss) = sep 𝓤 (cells 𝓤 ι full_share s.0 s.1 s.2) (lie ss)

  cut : (m : HMap) (ss : List Span) → AllSub m ss → machine.AllApart ss → ent 𝓤 (owned 𝓤 ι full_share m) (sep 𝓤 (lie ss) (owned 𝓤 ι full_share (rest m ss)))
  unfolding AllSub rest map_of has
  cut m [] h a = emp∗ 𝓤 (owned 𝓤 ι full_share m)
  cut m (s ∷ ss) h a =
      via 𝓤 (sep 𝓤 (owned 𝓤 ι full_share (map_of s)) (owned 𝓤 ι full_share (less m (map_of s)))) (take 𝓤 ι full_share m (map_of s) h.0)
      (via 𝓤 (sep 𝓤 (cells 𝓤 ι full_share s.0 s.1 s.2) (sep 𝓤 (lie ss) (owned 𝓤 ι full_share (rest m (s ∷ ss)))))
      (mono∗ 𝓤 (run→cells 𝓤 ι full_share s.0 s.1 s.2) (cut (less m (map_of s)) ss (all_sub_less m s ss a.0 h.1) a.1))
      (assoc' 𝓤 (cells 𝓤 ι full_share s.0 s.1 s.2) (lie ss) (owned 𝓤 ι full_share (rest m (s ∷ ss)))))

  -- a row of the memory that has no cell of a span is in the rest
  in_rest : (q : Share) (A : List ℕ) (σ : Memory) (ss : List Span) (b : ℕ) (r : Row) → RSub r (row_at A σ b)
      → All (λ s. (i : ℕ) (w : Cell) → r.0 i ≡ some w → Has s b i → ⊥) ss
      → ent 𝓤 (owned 𝓤 ι q (rest (view A σ) ss)) (has 𝓤 ι q b r)
  unfolding has
  in_rest q A σ ss b r S a =
      frag_less Ent-set 𝓤 ι q (only b r) (rest (view A σ) ss) (rest_sub (view A σ) ss (only b r) (Row-sub A σ b r S) (all_apart b r ss a))

  -- some share of the rest, from which any row of it is lent, at some share, as often as is wished
  abbrev pub shared : List ℕ → Memory → List Span → SProp 𝓤
  shared A σ ss = ex 𝓤 (λ (q : Share). owned 𝓤 ι q (rest (view A σ) ss))

  -- more than a half of each cell that may be written and is not lent
  abbrev pub kept : List ℕ → Memory → List Span → SProp 𝓤
  kept A σ ss = owned 𝓤 ι three_quarters (rest (opened A σ) ss)

  -- a memory: what is lent to be written, some share of the rest, and more than a half of what of it may be written
  pub parts_of : (A : List ℕ) (σ : Memory) (ss : List Span) → All (Stands σ) ss → All (Open σ) ss → machine.AllApart ss
      → ent 𝓤 (all_of 𝓤 ι A σ) (sep 𝓤 (lie ss) (sep 𝓤 (shared A σ ss) (kept A σ ss)))
  parts_of A σ ss h k a =
      let o : HMap = rest (opened A σ) ss in
      let s : HMap = shut σ in
      let L : SProp 𝓤 = lie ss in
      let N : SProp 𝓤 = owned 𝓤 ι quarter o in
      let K : SProp 𝓤 = owned 𝓤 ι three_quarters o in
      let S : SProp 𝓤 = owned 𝓤 ι (Share.right full_share) s in
      let B : SProp 𝓤 = owned 𝓤 ι quarter s in
      via 𝓤 (sep 𝓤 (sep 𝓤 L (sep 𝓤 N K)) S)
      (mono_l 𝓤 S (via 𝓤 (sep 𝓤 L (owned 𝓤 ι full_share o)) (cut (opened A σ) ss (all_in A σ ss h k) a)
      (mono_r 𝓤 L (frag_cut Ent-set 𝓤 ι full_share quarter three_quarters quarters o))))
      (via 𝓤 (sep 𝓤 L (sep 𝓤 (sep 𝓤 N K) S)) (assoc∗ 𝓤 L (sep 𝓤 N K) S)
      (mono_r 𝓤 L (via 𝓤 (sep 𝓤 S (sep 𝓤 N K)) (comm∗ 𝓤 (sep 𝓤 N K) S)
      (via 𝓤 (sep 𝓤 (sep 𝓤 S N) K) (assoc' 𝓤 S N K)
      (mono_l 𝓤 K (via 𝓤 (sep 𝓤 B N)
      (mono_l 𝓤 N (via 𝓤 (sep 𝓤 B B) (frag_cut Ent-set 𝓤 ι (Share.right full_share) quarter quarter (halves (Share.right full_share)) s) (fst∗ 𝓤 B B)))
      (via 𝓤 (owned 𝓤 ι quarter (union Ent-set s o)) (frag_join Ent-set 𝓤 ι quarter s o (rest_apart A σ ss))
      (via 𝓤 (owned 𝓤 ι quarter (rest (view A σ) ss)) (frag_less Ent-set 𝓤 ι quarter (rest (view A σ) ss) (union Ent-set s o) (rest_both A σ ss))
      (ex_i 𝓤 (λ (q : Share). owned 𝓤 ι q (rest (view A σ) ss)) quarter)))))))))

  pub share_row : (A : List ℕ) (σ : Memory) (ss : List Span) (b : ℕ) (r : Row) → RSub r (row_at A σ b)
      → All (λ s. (i : ℕ) (w : Cell) → r.0 i ≡ some w → Has s b i → ⊥) ss
      → ent 𝓤 (shared A σ ss) (sep 𝓤 (ex 𝓤 (λ (q : Share). has 𝓤 ι q b r)) (shared A σ ss))
  share_row A σ ss b r S a = ex_e 𝓤 (λ (q : Share). owned 𝓤 ι q (rest (view A σ) ss)) (λ q.
      via 𝓤 (sep 𝓤 (owned 𝓤 ι (Share.left q) (rest (view A σ) ss)) (owned 𝓤 ι (Share.right q) (rest (view A σ) ss)))
      (frag_cut Ent-set 𝓤 ι q (Share.left q) (Share.right q) (halves q) (rest (view A σ) ss))
      (mono∗ 𝓤 (via 𝓤 (has 𝓤 ι (Share.left q) b r) (in_rest (Share.left q) A σ ss b r S a) (ex_i 𝓤 (λ (q' : Share). has 𝓤 ι q' b r) (Share.left q)))
      (ex_i 𝓤 (λ (q' : Share). owned 𝓤 ι q' (rest (view A σ) ss)) (Share.right q))))

  -- of a block, that it is aligned so
  pub share_known : (A : List ℕ) (σ : Memory) (ss : List Span) (b k a : ℕ) → get_elem? A b ≡ some a → Dv k a
      → ent 𝓤 (shared A σ ss) (sep 𝓤 (known 𝓤 ι b k) (shared A σ ss))
  unfolding lies algn_row
  share_known A σ ss b k a h d =
      via 𝓤 (sep 𝓤 (ex 𝓤 (λ (q : Share). has 𝓤 ι q b (algn_row a))) (shared A σ ss)) (share_row A σ ss b (algn_row a) (alignment_row A σ b a h) (no_cells b ss))
      (mono_l 𝓤 (shared A σ ss) (ex_e 𝓤 (λ (q : Share). has 𝓤 ι q b (algn_row a)) (λ q. known_intro 𝓤 ι q b k a d)))

  -- and of cells, some share
  pub share_cells : (A : List ℕ) (σ : Memory) (ss : List Span) (s : Span) → Stands σ s → All (machine.Apart s) ss
      → ent 𝓤 (shared A σ ss) (sep 𝓤 (ex 𝓤 (λ (q : Share). cells 𝓤 ι q s.0 s.1 s.2)) (shared A σ ss))
  unfolding run_row
  share_cells A σ ss s h a =
      via 𝓤 (sep 𝓤 (ex 𝓤 (λ (q : Share). has 𝓤 ι q s.0 (run_row s.1 s.2))) (shared A σ ss))
      (share_row A σ ss s.0 (run_row s.1 s.2) (cells_row A σ s h) (own_cells s ss a))
      (mono_l 𝓤 (shared A σ ss) (ex_e 𝓤 (λ (q : Share). has 𝓤 ι q s.0 (run_row s.1 s.2)) (λ q.
      via 𝓤 (cells 𝓤 ι q s.0 s.1 s.2) (run→cells 𝓤 ι q s.0 s.1 s.2) (ex_i 𝓤 (λ (q' : Share). cells 𝓤 ι q' s.0 s.1 s.2) q))))
