-- Types of the logic whose values are plain data, and lists of them in memory: from cells to what the logic owns, and back.
use mathlib.Core.{Path.{◌≡◌, refl, sym, ap, subst}, Bool.{Bool, true, false, ◌&&◌}, List.{List, [], ◌∷◌, map}}
use Prim.Native.Nat.{ℕ, ◌+◌, ◌*◌}
use lib.{ListN.{length}, Dec.{T}}
use base.Fraction.{full_share}
use mir.{Syntax.{Ty, ty_array}, Val.{Val, vstruct, of_list, has_ty, all_n, WT, WTs}}
use base.{Fml.{Share, Fml, fsep, fat}, Logic.{SProp, ent, sep, emp, ex, via, ex∗, ex_i, guard_i, guard_e, id⊢, mono_l, mono_r, mono∗, assoc', fst∗, snd∗}}
use contract.{Monad.{fact, fact_i, fact_mono}, BorrowModel.{logic₀}}
use prog.{Memory.{Memory, Block, size, align, divides}, Model.{elems}, Align.{Dv, off_Dv, Off}}
use store.{View.{Kept}, Cells.{cells, known}, Runs.{know_n, known-know_n}, Typed.{at, heap, Good}, Instance.{heap×}, Enc.{and_l, and_r, enc_ok}}
use ghost.Atoms.{Atoms}
use types.Logic.{Logic, sem}
use types.{Kit.{‵, raw, given, ◌$◌, ◌∵◌, !, qed, by, move, use0, use1, drop, learn, rewrite, fsplit, fjoin, fpick, fpack, done}, Share.{parts}}
use denote.{RattleType.{RattleType}, Memory.{mem, shares, raw_all, lone, cell_raw, part_of, part_at}, Copied.{Copied}}
use Rattle.machine.specs.Cells.{Form, cells_of, Aligned, Place, Span, Stands, All, Apart, span}
use Rattle.machine.proofs.{Whole.{𝓥}, Heap.{shared, share_known, share_cells}}
use ghost.Model as Closed
use types.SemTy as sem_types

abbrev pub W₀ : Logic 𝓥
W₀ = logic₀

abbrev pub A₀ : Atoms 𝓥
A₀ = W₀.A

abbrev pub ⟦◌⟧ : Fml → SProp 𝓥
⟦ P ⟧ = sem W₀ P

-- the logic is affine
pub nothing : (P : SProp 𝓥) → ent 𝓥 P (emp 𝓥)
nothing P = record { apply = λ a h. tt }

pub both_facts : (A B : Type 0) → ent 𝓥 (sep 𝓥 (fact 𝓥 A) (fact 𝓥 B)) (fact 𝓥 (A × B))
both_facts A B = ex∗ 𝓥 (λ (_ : A). emp 𝓥) (fact 𝓥 B) (λ a. via 𝓥 (fact 𝓥 B) (snd∗ 𝓥 (emp 𝓥) (fact 𝓥 B)) (fact_mono 𝓥 B (A × B) (λ b. (a, b))))

-- a type of the logic, with the machine's type and value: what it owns is that its machine value is this one, and that the value is one it holds;
-- and it can be copied
pub record Row : Type 2 where
  pub row : RattleType
  pub ty : Ty
  pub one : raw_all row.mir ≡ ty ∷ []
  pub size_is : size (lone row.mir) ≡ size ty
  pub machine : row.Denot → Val
  pub Holds : row.Denot → Type 0
  pub typed : (x : row.Denot) → Holds x → T (has_ty ty (machine x)) × WT (machine x)
  pub makes : (x : row.Denot) → Holds x → ent 𝓥 (emp 𝓥) ⟦ row.own_val x (machine x ∷ []) ⟧
  pub shows : (x : row.Denot) (vs : List Val) → ent 𝓥 ⟦ row.own_val x vs ⟧ (fact 𝓥 ((vs ≡ machine x ∷ []) × Holds x))
  pub copied : Copied W₀ row

abbrev pub form : Row → Form
form R = record { Value = R.row.Denot; ty = R.ty; machine = R.machine; Holds = R.Holds }

-- ---- one value, at any share

module _ (R : Row) (q : Share) where
  abbrev X : Type 0
  X = R.row.Denot

  elem_in : (x : X) (b o : ℕ) → R.Holds x → ent 𝓥 ((Closed.H).at q R.ty b o (R.machine x)) ⟦ part_at R.row q x b o ⟧
  unfolding part_of
  elem_in x b o h = subst (λ (ρs : List Ty). ent 𝓥 ((Closed.H).at q R.ty b o (R.machine x)) ⟦ part_of ρs R.row.own_val q x b o ⟧) (sym R.one)
      (qed W₀ (‵ (fat q R.ty b o (R.machine x)) ∷ []) ∵ use0 W₀ (‵ (R.row.own_val x (R.machine x ∷ []))) (R.makes x h) $ move ! (1 ∷ 0 ∷ []) $ fjoin ! $
      fpack ! (List Val) (λ vs. fsep (cell_raw q (R.ty ∷ []) vs b o) (R.row.own_val x vs)) (R.machine x ∷ []) $ done !)

  elem_out : (x : X) (b o : ℕ) → ent 𝓥 ⟦ part_at R.row q x b o ⟧ ((Closed.H).at q R.ty b o (R.machine x))
  unfolding part_of
  elem_out x b o = subst (λ (ρs : List Ty). ent 𝓥 ⟦ part_of ρs R.row.own_val q x b o ⟧ ((Closed.H).at q R.ty b o (R.machine x))) (sym R.one)
      (qed W₀ (‵ (part_of (R.ty ∷ []) R.row.own_val q x b o) ∷ []) ∵ fpick ! (λ vs. fsplit ! $ move ! (1 ∷ []) $
      use1 W₀ (given ((vs ≡ R.machine x ∷ []) × R.Holds x) (raw (emp 𝓥))) (R.shows x vs) $ learn ! (λ e. drop ! $
      rewrite ! 0 (λ (us : List Val). ‵ (cell_raw q (R.ty ∷ []) us b o)) e.0 refl $ done !)))

  elem_held : (x : X) (b o : ℕ) → ent 𝓥 ⟦ part_at R.row q x b o ⟧ (fact 𝓥 (R.Holds x))
  unfolding part_of
  elem_held x b o = qed W₀ (‵ (part_at R.row q x b o) ∷ []) ∵ fpick ! (λ vs. fsplit ! $ move ! (1 ∷ []) $
      use1 W₀ (given ((vs ≡ R.machine x ∷ []) × R.Holds x) (raw (emp 𝓥))) (R.shows x vs) $ learn ! (λ e. by ! (fact_i 𝓥 (R.Holds x) _ e.1)))

  -- ---- a list

  abbrev pub row_parts : List X → ℕ → ℕ → SProp 𝓥
  row_parts xs b o = ⟦ parts (mem R.row) (shares R.row) q xs b o ⟧

  abbrev els : List X → ℕ → ℕ → SProp 𝓥
  els xs b o = elems 𝓥 Closed.H q R.ty b o (map R.machine xs)

  list_in : (xs : List X) (b o : ℕ) → All (form R).Holds xs → ent 𝓥 (els xs b o) (row_parts xs b o)
  list_in [] b o h = id⊢ 𝓥 (emp 𝓥)
  list_in (x ∷ xs) b o h = mono∗ 𝓥 (elem_in x b o h.0)
      (subst (λ (s : ℕ). ent 𝓥 (els xs b (o + s)) (row_parts xs b (o + size (lone R.row.mir)))) R.size_is
      (list_in xs b (o + size (lone R.row.mir)) h.1))

  list_out : (xs : List X) (b o : ℕ) → ent 𝓥 (row_parts xs b o) (els xs b o)
  list_out [] b o = id⊢ 𝓥 (emp 𝓥)
  list_out (x ∷ xs) b o = mono∗ 𝓥 (elem_out x b o)
      (subst (λ (s : ℕ). ent 𝓥 (row_parts xs b (o + size (lone R.row.mir))) (els xs b (o + s))) R.size_is
      (list_out xs b (o + size (lone R.row.mir))))

  pub list_held : (xs : List X) (b o : ℕ) → ent 𝓥 (row_parts xs b o) (fact 𝓥 (All (form R).Holds xs))
  list_held [] b o = fact_i 𝓥 (Unit {0}) (emp 𝓥) tt
  list_held (x ∷ xs) b o =
      via 𝓥 (sep 𝓥 (fact 𝓥 (R.Holds x)) (fact 𝓥 (All (form R).Holds xs))) (mono∗ 𝓥 (elem_held x b o) (list_held xs b (o + size (lone R.row.mir))))
      (both_facts (R.Holds x) (All (form R).Holds xs))

  -- ---- as an array

  both_T : (s t : Bool) → T s → T t → T (s && t)
  both_T true t p q = q
  both_T false t p q = absurd p

  pub array_typed : (xs : List X) → All (form R).Holds xs
      → T (all_n (has_ty R.ty) (length xs) (of_list (map R.machine xs))) × WTs (of_list (map R.machine xs))
  array_typed [] h = (tt, tt)
  array_typed (x ∷ xs) h = (
    both_T (has_ty R.ty (R.machine x)) (all_n (has_ty R.ty) (length xs) (of_list (map R.machine xs))) (R.typed x h.0).0
        (array_typed xs h.1).0,
    ((R.typed x h.0).1, (array_typed xs h.1).1),
  )

  abbrev arr_val : List X → Val
  arr_val xs = vstruct (of_list (map R.machine xs))

  abbrev arr_cells : List X → ℕ → ℕ → SProp 𝓥
  arr_cells xs b o = cells 𝓥 Closed.ι q b o (cells_of (form R) xs)

  at_in : (xs : List X) (b o : ℕ) → All (form R).Holds xs → Dv (align R.ty) o
      → ent 𝓥 (sep 𝓥 (arr_cells xs b o) (known 𝓥 Closed.ι b (align R.ty))) ((Closed.H).at q (ty_array R.ty (length xs)) b o (arr_val xs))
  unfolding Closed.H Closed.ι heap× heap at Good Off
  at_in xs b o h d =
      via 𝓥 (sep 𝓥 (arr_cells xs b o) (know_n 𝓥 Closed.ι (length xs * size R.ty) (align R.ty) b))
      (mono_r 𝓥 (arr_cells xs b o) (known-know_n 𝓥 Closed.ι (length xs * size R.ty) (align R.ty) b))
      (guard_i 𝓥 ((T (has_ty (ty_array R.ty (length xs)) (arr_val xs)) × WT (arr_val xs)) × Off (ty_array R.ty (length xs)) o)
      (sep 𝓥 (arr_cells xs b o) (know_n 𝓥 Closed.ι (length xs * size R.ty) (align R.ty) b))
      (array_typed xs h, off_Dv (length xs * size R.ty) (align R.ty) o d))

  at_out : (xs : List X) (n b o : ℕ) → ent 𝓥 ((Closed.H).at q (ty_array R.ty n) b o (arr_val xs)) (arr_cells xs b o)
  unfolding Closed.H Closed.ι heap× heap at Good Off
  at_out xs n b o =
      guard_e 𝓥 ((T (has_ty (ty_array R.ty n) (arr_val xs)) × WT (arr_val xs)) × Off (ty_array R.ty n) o)
      (sep 𝓥 (arr_cells xs b o) (know_n 𝓥 Closed.ι (n * size R.ty) (align R.ty) b))
      (λ _. fst∗ 𝓥 (arr_cells xs b o) (know_n 𝓥 Closed.ι (n * size R.ty) (align R.ty) b))

  -- from what the logic has in cells to the cells, and back
  pub parts_cells : (xs : List X) (b o : ℕ) → ent 𝓥 (row_parts xs b o) (arr_cells xs b o)
  parts_cells xs b o =
      via 𝓥 (els xs b o) (list_out xs b o)
      (via 𝓥 ((Closed.H).at q (ty_array R.ty (length (map R.machine xs))) b o (arr_val xs)) ((Closed.model).elems_at q R.ty b o (map R.machine xs))
      (at_out xs (length (map R.machine xs)) b o))

  pub cells_parts : (xs : List X) (b o : ℕ) → All (form R).Holds xs → Dv (align R.ty) o
      → ent 𝓥 (sep 𝓥 (arr_cells xs b o) (known 𝓥 Closed.ι b (align R.ty))) (row_parts xs b o)
  cells_parts xs b o h d =
      via 𝓥 ((Closed.H).at q (ty_array R.ty (length xs)) b o (arr_val xs)) (at_in xs b o h d)
      (via 𝓥 (els xs b o) ((Closed.model).at_elems q R.ty (length xs) b o (map R.machine xs)) (list_in xs b o h))

  -- beside a share of all that is not written
  pub lent_parts : (A : List ℕ) (σ : Memory) → Kept A σ → (ss : List Span) (xs : List X) (p : Place) → All (form R).Holds xs → Aligned σ R.ty p xs
      → ent 𝓥 (sep 𝓥 (arr_cells xs p.0 p.1) (shared 𝓥 Closed.ι A σ ss)) (sep 𝓥 (row_parts xs p.0 p.1) (shared 𝓥 Closed.ι A σ ss))
  unfolding Kept
  lent_parts A σ kept ss [] p h al = mono_l 𝓥 (shared 𝓥 Closed.ι A σ ss) (nothing (arr_cells [] p.0 p.1))
  lent_parts A σ kept ss (x ∷ xs) p h al =
      let C : SProp 𝓥 = arr_cells (x ∷ xs) p.0 p.1 in
      let K : SProp 𝓥 = known 𝓥 Closed.ι p.0 (align R.ty) in
      let S : SProp 𝓥 = shared 𝓥 Closed.ι A σ ss in
      let e : Block = al.0 in
      via 𝓥 (sep 𝓥 C (sep 𝓥 K S))
      (mono_r 𝓥 C (share_known 𝓥 Closed.ι A σ ss p.0 (align R.ty) e.0 (kept.1 p.0 e al.1)
      (and_l (divides (align R.ty) e.0) (divides (align R.ty) p.1) al.2)))
      (via 𝓥 (sep 𝓥 (sep 𝓥 C K) S) (assoc' 𝓥 C K S)
      (mono_l 𝓥 S (cells_parts (x ∷ xs) p.0 p.1 h (and_r (divides (align R.ty) e.0) (divides (align R.ty) p.1) al.2))))

-- ---- the whole share

parts_in : (R : Row) (xs : List R.row.Denot) (b o : ℕ) → ent 𝓥 (row_parts R full_share xs b o) ⟦ sem_types.cells (mem R.row) xs b o ⟧
parts_in R [] b o = id⊢ 𝓥 (emp 𝓥)
parts_in R (x ∷ xs) b o = mono_r 𝓥 ⟦ (mem R.row).own_at x b o ⟧ (parts_in R xs b (o + (mem R.row).size))

parts_out : (R : Row) (xs : List R.row.Denot) (b o : ℕ) → ent 𝓥 ⟦ sem_types.cells (mem R.row) xs b o ⟧ (row_parts R full_share xs b o)
parts_out R [] b o = id⊢ 𝓥 (emp 𝓥)
parts_out R (x ∷ xs) b o = mono_r 𝓥 ⟦ (mem R.row).own_at x b o ⟧ (parts_out R xs b (o + (mem R.row).size))

abbrev pub row_cells : (R : Row) → List R.row.Denot → Place → SProp 𝓥
row_cells R xs p = ⟦ sem_types.cells (mem R.row) xs p.0 p.1 ⟧

pub cells_out : (R : Row) (xs : List R.row.Denot) (p : Place) → ent 𝓥 (row_cells R xs p) (cells 𝓥 Closed.ι full_share p.0 p.1 (cells_of (form R) xs))
cells_out R xs p = via 𝓥 (row_parts R full_share xs p.0 p.1) (parts_out R xs p.0 p.1) (parts_cells R full_share xs p.0 p.1)

pub cells_held : (R : Row) (xs : List R.row.Denot) (p : Place) → ent 𝓥 (row_cells R xs p) (fact 𝓥 (All (form R).Holds xs))
cells_held R xs p = via 𝓥 (row_parts R full_share xs p.0 p.1) (parts_out R xs p.0 p.1) (list_held R full_share xs p.0 p.1)

pub lent_cells : (R : Row) (A : List ℕ) (σ : Memory) → Kept A σ → (ss : List Span) (xs : List R.row.Denot) (p : Place) → All (form R).Holds xs
    → Aligned σ R.ty p xs
    → ent 𝓥 (sep 𝓥 (cells 𝓥 Closed.ι full_share p.0 p.1 (cells_of (form R) xs)) (shared 𝓥 Closed.ι A σ ss))
    (sep 𝓥 (row_cells R xs p) (shared 𝓥 Closed.ι A σ ss))
lent_cells R A σ kept ss xs p h al =
    via 𝓥 (sep 𝓥 (row_parts R full_share xs p.0 p.1) (shared 𝓥 Closed.ι A σ ss)) (lent_parts R full_share A σ kept ss xs p h al)
    (mono_l 𝓥 (shared 𝓥 Closed.ι A σ ss) (parts_in R xs p.0 p.1))

-- as many cells as the entries take
pub cells_long : (R : Row) (xs : List R.row.Denot) → All (form R).Holds xs → length (cells_of (form R) xs) ≡ length xs * size R.ty
cells_long R xs h =
    let t = array_typed R full_share xs h in
    (enc_ok (ty_array R.ty (length xs)) (arr_val R full_share xs) t.0 t.1).0

-- ---- some share

abbrev pub row_share : (R : Row) → List R.row.Denot → Place → SProp 𝓥
row_share R xs p = ex 𝓥 (λ (q : Share). row_parts R q xs p.0 p.1)

pub lent_share : (R : Row) (A : List ℕ) (σ : Memory) → Kept A σ → (ss : List Span) (xs : List R.row.Denot) (p : Place) → All (form R).Holds xs
    → Aligned σ R.ty p xs → Stands σ (span (form R) p xs) → All (Apart (span (form R) p xs)) ss
    → ent 𝓥 (shared 𝓥 Closed.ι A σ ss) (sep 𝓥 (row_share R xs p) (shared 𝓥 Closed.ι A σ ss))
lent_share R A σ kept ss xs p h al st ap =
    let S : SProp 𝓥 = shared 𝓥 Closed.ι A σ ss in
    let C : Share → SProp 𝓥 = λ q. cells 𝓥 Closed.ι q p.0 p.1 (cells_of (form R) xs) in
    via 𝓥 (sep 𝓥 (ex 𝓥 C) S) (share_cells 𝓥 Closed.ι A σ ss (span (form R) p xs) st ap)
    (ex∗ 𝓥 C S (λ q. via 𝓥 (sep 𝓥 (row_parts R q xs p.0 p.1) S) (lent_parts R q A σ kept ss xs p h al)
    (mono_l 𝓥 S (ex_i 𝓥 (λ (q' : Share). row_parts R q' xs p.0 p.1) q))))
