-- The parameters of a call, by recursion over them: lifetimes are made, each list is lent, and once the lifetimes are over each comes back.
use mathlib.Core.{Path.{◌≡◌, refl, sym, ap, subst}, List.{List, [], ◌∷◌}}
use Prim.Native.Nat.{ℕ, zero, suc, ◌*◌, ◌<◌, ◌^◌}
use lib.ListN.{length}
use base.Fraction.{full_share}
use mir.{Syntax.{named}, Val.{vstruct, vcons, vnil}}
use base.{Fml.{Lft, GName, Share, Fml, fsep, fhide, feq, flft, fdead, flent, fbor}, Logic.{SProp, ent, sep, emp, ex, via, ex_i, ex_e, emp∗, id⊢, mono_l, fst∗, snd∗}}
use contract.{Monad.{fact}, Lifetimes.{Lfts, Shares, Within, lft_at, toks}}
use prog.Memory.{Memory}
use store.{View.{Kept}, Cells.{cells}}
use types.{Kit.{‵, raw, ◌⊛◌, some, later, ◌$◌, ◌∵◌, !, qed, by, move, keep, use0, use1, use2, use3, split, join, pick, show, await, updating, now as at_once}}
use types.{Kit.{fsplit, fjoin, frame, drop, done}, Tokens.{lft_new, lft_end}, Share.{parts}}
use denote.{RattleType.{RattleType, Denots, Valss, owns, flat}, Signature.{Slot, plain, mut_slice_of, shr_slice_of, named_lft, types_at}, Exit.{yes, Last, left}}
use denote.{Memory.{mem, shares}, Bor.{Bor}, Ref.{NamedLft}, Slice.{slice_val, shr_slice_vals, shr_slice_at, elements_shared, ShrSlice, Room, finally}}
use denote.{Lend.{Held, lends_slice, slice_back}, Copied.{each_lends}, Shadow.{pure_i}, Triple.End.{all, Fins, Outs, outs, lasts_of}}
use Rattle.machine.specs.Cells.{Param, Input, Inputs, Outputs, Good, AllGood, Aligned, Sized, reads, writes, cells_of, passes, passed, Span}
use Rattle.machine.specs.Cells.{span, Stands, All, Apart}
use Rattle.machine.proofs.{Whole.{𝓥}, Heap.{shared, lie}, Rows.{Row, form, A₀, W₀, ⟦◌⟧, nothing, row_parts, row_cells, row_share, lent_cells}}
use Rattle.machine.proofs.{Rows.{lent_share}}
use ghost.Model as Closed
use types.SemTy as sem_types
use Rattle.machine.specs.Cells as machine

-- ---- parameters, as the logic has them

-- a type of the logic for structs of a `&[R]` and an S: made of the two, and what it owns is had of what they own
pub record Holder (R S : Row) : Type 2 where
  pub row : NamedLft → RattleType
  pub make : (a : NamedLft) → Bor (List R.row.Denot) → S.row.Denot → (row a).Denot
  pub parts : (a : NamedLft) → (row a).Denot → Bor (List R.row.Denot) × S.row.Denot
  pub parts_made : (a : NamedLft) (r : Bor (List R.row.Denot)) (x : S.row.Denot) → parts a (make a r x) ≡ (r, x)
  pub made_owns : (a : NamedLft) (r : Bor (List R.row.Denot)) (x : S.row.Denot)
      → ent 𝓥 (sep 𝓥 ⟦ (ShrSlice a.mir a.lft R.row).own_val r (shr_slice_vals r) ⟧ ⟦ S.row.own_val x (S.machine x ∷ []) ⟧)
      ⟦ (row a).own_val (make a r x) (vstruct (vcons (slice_val r.ref_ptr (length r.now)) (vcons (S.machine x) vnil)) ∷ []) ⟧

pub data Lending (n : ℕ) : Type 2 where
  by_value : Row → Lending n
  to_read : (j : ℕ) → Within n j → Row → Lending n
  to_write : (j : ℕ) → Within n j → Row → Lending n
  to_read_with : (j : ℕ) → Within n j → (R S : Row) → Holder R S → Lending n

abbrev pub param : {n : ℕ} → Lending n → Param
param (by_value R) = machine.Param.by_value (form R)
param (to_read j ok R) = machine.Param.lent machine.Mode.to_read (form R)
param (to_write j ok R) = machine.Param.lent machine.Mode.to_write (form R)
param (to_read_with j ok R S T) = machine.Param.lent_with (form R) (form S)

abbrev pub params : {n : ℕ} → List (Lending n) → List Param
params [] = []
params (p ∷ ps) = param p ∷ params ps

abbrev pub slot : {n : ℕ} → Lending n → Slot n
slot (by_value R) = plain (λ _. R.row)
slot (to_read j ok R) = shr_slice_of (j ∷ []) ok (plain (λ _. R.row))
slot (to_write j ok R) = mut_slice_of (j ∷ []) ok (plain (λ _. R.row))
slot {n} (to_read_with j ok R S T) = plain (λ κs. T.row (named_lft n j ok κs))

abbrev pub slots : {n : ℕ} → List (Lending n) → List (Slot n)
slots [] = []
slots (p ∷ ps) = slot p ∷ slots ps

-- ---- lifetimes

abbrev pub Nums : ℕ → Type 0
Nums zero = Unit {0}
Nums (suc n) = ℕ × Nums n

abbrev pub made : (n : ℕ) → Nums n → Lfts n
made zero αs = tt
made (suc n) αs = (αs.0 ∷ [], made n αs.1)

abbrev pub fulls : (n : ℕ) → Shares n
fulls zero = tt
fulls (suc n) = (full_share, fulls n)

abbrev pub alive : (n : ℕ) → Nums n → SProp 𝓥
alive n αs = toks W₀ n (made n αs) (fulls n)

abbrev pub over : (n : ℕ) → Nums n → SProp 𝓥
over zero αs = emp 𝓥
over (suc n) αs = sep 𝓥 (A₀.dead (αs.0 ∷ [])) (over n αs.1)

pub begin : (n : ℕ) → ent 𝓥 (emp 𝓥) ((Closed.H).⇛ (ex 𝓥 (alive n)))
begin zero = via 𝓥 (ex 𝓥 (alive zero)) (ex_i 𝓥 (alive zero) tt) (W₀.laws.⇛_intro (ex 𝓥 (alive zero)))
begin (suc n) = qed W₀ [] ∵ updating ! $ lft_new ! tt
    (λ α. use0 W₀ (later (some (λ (αs : Nums n). raw (alive n αs)))) (begin n) $ await ! tt $ pick ! (λ αs. at_once ! $
    show ! (alive (suc n)) (α, αs) $ move ! (1 ∷ 0 ∷ []) $ done !))

pub end : (n : ℕ) (αs : Nums n) → ent 𝓥 (alive n αs) ((Closed.H).⇛ (over n αs))
end zero αs = W₀.laws.⇛_intro (emp 𝓥)
end (suc n) αs = qed W₀ (‵ (flft (αs.0 ∷ []) full_share) ∷ raw (alive n αs.1) ∷ []) ∵ updating ! $ lft_end ! tt $ move ! (1 ∷ 0 ∷ []) $
    use1 W₀ (later (raw (over n αs.1))) (end n αs.1) $ await ! tt $ at_once ! $ move ! (1 ∷ 0 ∷ []) $ done !

over_at : (n j : ℕ) (ok : Within n j) (αs : Nums n) → ent 𝓥 (over n αs) (A₀.dead (lft_at n j ok (made n αs)))
over_at zero j ok αs = absurd ok
over_at (suc n) zero ok αs = fst∗ 𝓥 (A₀.dead (αs.0 ∷ [])) (over n αs.1)
over_at (suc n) (suc j) ok αs = via 𝓥 (over n αs.1) (snd∗ 𝓥 (A₀.dead (αs.0 ∷ [])) (over n αs.1)) (over_at n j ok αs.1)

over_dup : (n : ℕ) (αs : Nums n) → ent 𝓥 (over n αs) (sep 𝓥 (over n αs) (over n αs))
over_dup zero αs = emp∗ 𝓥 (emp 𝓥)
over_dup (suc n) αs = qed W₀ (‵ (fdead (αs.0 ∷ [])) ∷ raw (over n αs.1) ∷ []) ∵
    use1 W₀ (‵ (fdead (αs.0 ∷ [])) ⊛ ‵ (fdead (αs.0 ∷ []))) (W₀.lfts.dead_dup (αs.0 ∷ [])) $ split ! $ move ! (2 ∷ []) $
    use1 W₀ (raw (over n αs.1) ⊛ raw (over n αs.1)) (over_dup n αs.1) $ split ! $ move ! (2 ∷ 0 ∷ []) $ join ! $ frame ! $ move ! (1 ∷ 0 ∷ []) $ done !

-- ---- one parameter

module _ {n : ℕ} (κs : Lfts n) where
  abbrev pub arg : (p : Lending n) → Input (param p) → GName → ((slot p).row κs).Denot
  arg (by_value R) x γ = x
  arg (to_read j ok R) x γ = record { ref_ptr = x.0; now = x.1 }
  arg (to_write j ok R) x γ = record { ref_ptr = x.0; ghost_name = γ; now = x.1 }
  arg (to_read_with j ok R S T) x γ = T.make (named_lft n j ok κs) (record { ref_ptr = x.0.0; now = x.0.1 }) x.1

  -- what the caller keeps while a list is lent to be written; of one that is lent to be read it has a share anyway
  abbrev pub aside : (p : Lending n) → Input (param p) → GName → SProp 𝓥
  aside (by_value R) x γ = emp 𝓥
  aside (to_read j ok R) x γ = emp 𝓥
  aside (to_write j ok R) x γ = A₀.lent (lft_at n j ok κs) (Held R.row (length x.1) x.0.0 x.0.1 γ)
  aside (to_read_with j ok R S T) x γ = emp 𝓥

abbrev pub lent : {n : ℕ} (p : Lending n) → Input (param p) → SProp 𝓥
lent (by_value R) x = emp 𝓥
lent (to_read j ok R) x = row_share R x.1 x.0
lent (to_write j ok R) x = row_cells R x.1 x.0
lent (to_read_with j ok R S T) x = row_share R x.0.1 x.0.0

room_of : (R : Row) (k : ℕ) → Sized R.ty k → Room R.row k
room_of R k h = (h.0, subst (λ (s : ℕ). k * s < 2 ^ 63) (sym R.size_is) h.1)

-- a list that is lent to be read
abbrev Read : (j : ℕ) → Lft → (R : Row) → machine.Lent R.row.Denot → Fml
Read j κ R x = (ShrSlice (named j) κ R.row).own_val (record { ref_ptr = x.0; now = x.1 }) (slice_val x.0 (length x.1) ∷ [])

lend_read : (j : ℕ) (κ : Lft) (R : Row) (x : machine.Lent R.row.Denot) → Sized R.ty (length x.1)
    → ent 𝓥 (row_share R x.1 x.0) ((Closed.H).⇛ ⟦ Read j κ R x ⟧)
lend_read j κ R x sized = ex_e 𝓥 (λ (q : Share). row_parts R q x.1 x.0.0 x.0.1) (λ q.
    let P : Fml = parts (mem R.row) (shares R.row) q x.1 x.0.0 x.0.1 in
    let E : Fml = elements_shared R.row x.1 x.0.0 x.0.1 κ in
    let r : Bor (List R.row.Denot) = record { ref_ptr = x.0; now = x.1 } in
    qed W₀ (‵ P ∷ []) ∵ updating ! $
    use1 W₀ (later (‵ (fhide E) ⊛ ‵ (flent κ P))) (each_lends W₀ R.row R.copied q x.1 x.0.0 x.0.1 κ) $
    await ! tt $ split ! $ at_once ! $ keep ! (0 ∷ []) $
    pure_i ! (shr_slice_at R.row r (slice_val x.0 (length x.1) ∷ [])) (tt, (tt, tt)) (refl, room_of R (length x.1) sized) $ fjoin ! $ done !)

module _ {n : ℕ} (κs : Lfts n) where
  abbrev Owned : (p : Lending n) (x : Input (param p)) → GName → SProp 𝓥
  Owned p x γ = sep 𝓥 ⟦ ((slot p).row κs).own_val (arg κs p x γ) (passes (param p) x ∷ []) ⟧ (aside κs p x γ)

  lend_one : (σ : Memory) (p : Lending n) (x : Input (param p)) → Good σ (param p) x → ent 𝓥 (lent p x) ((Closed.H).⇛ (ex 𝓥 (Owned p x)))
  lend_one σ (by_value R) x g = qed W₀ (raw (emp 𝓥) ∷ []) ∵ updating ! $ use0 W₀ (‵ (R.row.own_val x (R.machine x ∷ []))) (R.makes x g) $ at_once ! $ show !
      (Owned (by_value R) x) 0 $ done !
  lend_one σ (to_write j ok R) x g = lends_slice W₀ R.row (named j) (lft_at n j ok κs) x.1 x.0.0 x.0.1 (room_of R (length x.1) g.2)
  lend_one σ (to_read j ok R) x g =
      qed W₀ (raw (row_share R x.1 x.0) ∷ []) ∵ updating ! $
      use1 W₀ (later (‵ (Read j (lft_at n j ok κs) R x))) (lend_read j (lft_at n j ok κs) R x g.2) $
      await ! tt $ at_once ! $
      show ! (Owned (to_read j ok R) x) 0 $ frame ! $ by ! (id⊢ 𝓥 (emp 𝓥))
  lend_one σ (to_read_with j ok R S T) x g =
      let r : Bor (List R.row.Denot) = record { ref_ptr = x.0.0; now = x.0.1 } in
      let a : NamedLft = named_lft n j ok κs in
      let p : Lending n = to_read_with j ok R S T in
      qed W₀ (raw (row_share R x.0.1 x.0.0) ∷ []) ∵ updating ! $
      use1 W₀ (later (‵ (Read j (lft_at n j ok κs) R x.0))) (lend_read j (lft_at n j ok κs) R x.0 g.0.2) $
      await ! tt $ at_once ! $
      show ! (Owned p x) 0 $ use0 W₀ (‵ (S.row.own_val x.1 (S.machine x.1 ∷ []))) (S.makes x.1 g.1) $ move ! (1 ∷ 0 ∷ []) $
      use2 W₀ (‵ ((T.row a).own_val (T.make a r x.1) (passes (param p) x ∷ []))) (T.made_owns a r x.1) $
      frame ! $ by ! (id⊢ 𝓥 (emp 𝓥))

  -- ---- and back

  abbrev pub Final : (p : Lending n) → ((slot p).row κs).Denot → Type 0
  Final p a = Last (((slot p).row κs).exit yes) a

-- a list that was lent to be written, back, as long as it was
abbrev stood : (R : Row) → machine.Lent R.row.Denot → List R.row.Denot → SProp 𝓥
stood R x ys = sep 𝓥 (fact 𝓥 (length ys ≡ length x.1)) (row_cells R ys x.0)

module _ (n : ℕ) (αs : Nums n) where
  abbrev κs : Lfts n
  κs = made n αs

  -- what a list that was lent to be written leaves at exit: its last entries, as many as there were, and its borrow
  abbrev Leaves : (j : ℕ) (ok : Within n j) (R : Row) (x : machine.Lent R.row.Denot) → GName → List R.row.Denot → Fml
  Leaves j ok R x γ w = fsep (fsep (finally R.row γ w) (feq ℕ (length w) (length x.1)))
      (fbor (lft_at n j ok κs) (Held R.row (length x.1) x.0.0 x.0.1 γ))

  back_one : (j : ℕ) (ok : Within n j) (R : Row) (x : machine.Lent R.row.Denot) (γ : GName) (w : List R.row.Denot)
      → ent 𝓥 (sep 𝓥 ⟦ Leaves j ok R x γ w ⟧
      (sep 𝓥 (A₀.lent (lft_at n j ok κs) (Held R.row (length x.1) x.0.0 x.0.1 γ)) (over n αs))) ((Closed.H).⇛ (stood R x w))
  back_one j ok R x γ w =
      qed W₀ (‵ (Leaves j ok R x γ w) ∷ ‵
      (flent (lft_at n j ok κs) (Held R.row (length x.1) x.0.0 x.0.1 γ)) ∷ raw (over n αs) ∷ []) ∵ updating ! $
      fsplit ! $ move ! (1 ∷ []) $ drop ! $
      move ! (2 ∷ []) $ use1 W₀ (‵ (fdead (lft_at n j ok κs))) (over_at n j ok αs) $ move ! (1 ∷ []) $ fsplit ! $ move ! (2 ∷ 3 ∷ 0 ∷ []) $
      use3 W₀ (later (‵ ((sem_types.Arr (mem R.row) (length x.1)).own_at w x.0.0 x.0.1)))
      (slice_back W₀ R.row (lft_at n j ok κs) γ w (length x.1) x.0.0 x.0.1) $ await ! tt $ at_once ! $
      keep ! (0 ∷ []) $ done !

-- ---- all parameters

-- a list and a value, with no name of the logic's
abbrev held : {X Y : Type 0} → Bor (List X) × Y → machine.Lent X × Y
held p = ((p.0.ref_ptr, p.0.now), p.1)

abbrev pub Names : {n : ℕ} → List (Lending n) → Type 0
Names [] = Unit {0}
Names (p ∷ ps) = GName × Names ps

abbrev pub lents : {n : ℕ} (ps : List (Lending n)) → Inputs (params ps) → SProp 𝓥
lents [] i = emp 𝓥
lents (p ∷ ps) i = sep 𝓥 (lent p i.0) (lents ps i.1)

abbrev pub stoods : {n : ℕ} (ps : List (Lending n)) → Inputs (params ps) → Outputs (params ps) → SProp 𝓥
stoods [] i o = emp 𝓥
stoods (by_value R ∷ ps) i o = stoods ps i.1 o
stoods (to_read j ok R ∷ ps) i o = stoods ps i.1 o
stoods (to_write j ok R ∷ ps) i o = sep 𝓥 (stood R i.0 o.0) (stoods ps i.1 o.1)
stoods (to_read_with j ok R S T ∷ ps) i o = stoods ps i.1 o

module _ {n : ℕ} (κs : Lfts n) where
  abbrev pub args : (ps : List (Lending n)) → Inputs (params ps) → Names ps → Denots (types_at (slots ps) κs)
  args [] i γs = tt
  args (p ∷ ps) i γs = (arg κs p i.0 γs.0, args ps i.1 γs.1)

  abbrev pub values : (ps : List (Lending n)) → Inputs (params ps) → Valss (types_at (slots ps) κs)
  values [] i = tt
  values (p ∷ ps) i = (passes (param p) i.0 ∷ [], values ps i.1)

  abbrev pub asides : (ps : List (Lending n)) → Inputs (params ps) → Names ps → SProp 𝓥
  asides [] i γs = emp 𝓥
  asides (p ∷ ps) i γs = sep 𝓥 (aside κs p i.0 γs.0) (asides ps i.1 γs.1)

  abbrev pub inputs : (ps : List (Lending n)) → Denots (types_at (slots ps) κs) → Inputs (params ps)
  inputs [] a = tt
  inputs (by_value R ∷ ps) a = (a.0, inputs ps a.1)
  inputs (to_read j ok R ∷ ps) a = ((a.0.ref_ptr, a.0.now), inputs ps a.1)
  inputs (to_write j ok R ∷ ps) a = ((a.0.ref_ptr, a.0.now), inputs ps a.1)
  inputs (to_read_with j ok R S T ∷ ps) a = (held (T.parts (named_lft n j ok κs) a.0), inputs ps a.1)

  abbrev pub outputs : (ps : List (Lending n)) → Outs κs (slots ps) (all yes (slots ps)) → Outputs (params ps)
  outputs [] e = tt
  outputs (by_value R ∷ ps) e = outputs ps e.1
  outputs (to_read j ok R ∷ ps) e = outputs ps e.1
  outputs (to_write j ok R ∷ ps) e = (e.0.now, outputs ps e.1)
  outputs (to_read_with j ok R S T ∷ ps) e = outputs ps e.1

  abbrev pub wrotes : (ps : List (Lending n)) (a : Denots (types_at (slots ps) κs)) → Fins κs (slots ps) (all yes (slots ps)) a → Outputs (params ps)
  wrotes [] a ws = tt
  wrotes (by_value R ∷ ps) a ws = wrotes ps a.1 ws.1
  wrotes (to_read j ok R ∷ ps) a ws = wrotes ps a.1 ws.1
  wrotes (to_write j ok R ∷ ps) a ws = (ws.0, wrotes ps a.1 ws.1)
  wrotes (to_read_with j ok R S T ∷ ps) a ws = wrotes ps a.1 ws.1

  pub inputs_are : (ps : List (Lending n)) (i : Inputs (params ps)) (γs : Names ps) → inputs ps (args ps i γs) ≡ i
  inputs_are [] i γs = refl
  inputs_are (by_value R ∷ ps) i γs = λ k. (i.0, inputs_are ps i.1 γs.1 k)
  inputs_are (to_read j ok R ∷ ps) i γs = λ k. (i.0, inputs_are ps i.1 γs.1 k)
  inputs_are (to_write j ok R ∷ ps) i γs = λ k. (i.0, inputs_are ps i.1 γs.1 k)
  inputs_are (to_read_with j ok R S T ∷ ps) i γs =
      let r : Bor (List R.row.Denot) = record { ref_ptr = i.0.0.0; now = i.0.0.1 } in
      λ k. (held (T.parts_made (named_lft n j ok κs) r i.0.1 k), inputs_are ps i.1 γs.1 k)

  pub outputs_are : (ps : List (Lending n)) (a : Denots (types_at (slots ps) κs)) (ws : Fins κs (slots ps) (all yes (slots ps)) a)
      → outputs ps (outs κs (slots ps) (all yes (slots ps)) a ws) ≡ wrotes ps a ws
  outputs_are [] a ws = refl
  outputs_are (by_value R ∷ ps) a ws = outputs_are ps a.1 ws.1
  outputs_are (to_read j ok R ∷ ps) a ws = outputs_are ps a.1 ws.1
  outputs_are (to_write j ok R ∷ ps) a ws = λ k. (ws.0, outputs_are ps a.1 ws.1 k)
  outputs_are (to_read_with j ok R S T ∷ ps) a ws = outputs_are ps a.1 ws.1

  pub passed_are : (ps : List (Lending n)) (i : Inputs (params ps)) → flat (types_at (slots ps) κs) (values ps i) ≡ passed (params ps) i
  passed_are [] i = refl
  passed_are (p ∷ ps) i = λ k. passes (param p) i.0 ∷ passed_are ps i.1 k

  abbrev pub Owneds : (ps : List (Lending n)) (i : Inputs (params ps)) → Names ps → SProp 𝓥
  Owneds ps i γs = sep 𝓥 ⟦ owns (types_at (slots ps) κs) (args ps i γs) (values ps i) ⟧ (asides ps i γs)

  pub lend : (σ : Memory) (ps : List (Lending n)) (i : Inputs (params ps)) → AllGood σ (params ps) i → ent 𝓥 (lents ps i) ((Closed.H).⇛ (ex 𝓥 (Owneds ps i)))
  lend σ [] i g = qed W₀ (raw (emp 𝓥) ∷ []) ∵ updating ! $ at_once ! $ show ! (Owneds [] i) tt $ frame ! $ by ! (id⊢ 𝓥 (emp 𝓥))
  lend σ (p ∷ ps) i g = qed W₀ (raw (lent p i.0) ∷ raw (lents ps i.1) ∷ []) ∵ updating ! $
      use1 W₀ (later (some (λ (γ : GName). ‵ (((slot p).row κs).own_val (arg κs p i.0 γ) (passes (param p) i.0 ∷ [])) ⊛ raw (aside κs p i.0 γ))))
      (lend_one κs σ p i.0 g.0) $ await ! tt $ pick ! (λ γ. split ! $ move ! (2 ∷ []) $
      use1 W₀ (later (some (λ (γs : Names ps). ‵ (owns (types_at (slots ps) κs) (args ps i.1 γs) (values ps i.1)) ⊛ raw (asides ps i.1 γs))))
      (lend σ ps i.1 g.1) $ await ! tt $ pick ! (λ γs. split ! $ at_once ! $
      show ! (Owneds (p ∷ ps) i) (γ, γs) $ move ! (2 ∷ 0 ∷ []) $ fjoin ! $ frame ! $ move ! (1 ∷ 0 ∷ []) $ done !))

module _ (n : ℕ) (αs : Nums n) where
  -- of a parameter that is not written nothing comes back
  back_rest : (p : Lending n) (ps : List (Lending n)) (i : Inputs (params (p ∷ ps))) (γs : Names (p ∷ ps))
      (ws : Fins (made n αs) (slots (p ∷ ps)) (all yes (slots (p ∷ ps))) (args (made n αs) (p ∷ ps) i γs))
      → ent 𝓥 (sep 𝓥 ⟦ lasts_of (made n αs) (slots ps) (all yes (slots ps)) (args (made n αs) ps i.1 γs.1) ws.1 ⟧
      (sep 𝓥 (asides (made n αs) ps i.1 γs.1) (over n αs)))
      ((Closed.H).⇛ (stoods ps i.1 (wrotes (made n αs) ps (args (made n αs) ps i.1 γs.1) ws.1)))
      → ent 𝓥 (sep 𝓥 ⟦ lasts_of (made n αs) (slots (p ∷ ps)) (all yes (slots (p ∷ ps))) (args (made n αs) (p ∷ ps) i γs) ws ⟧
      (sep 𝓥 (asides (made n αs) (p ∷ ps) i γs) (over n αs)))
      ((Closed.H).⇛ (stoods ps i.1 (wrotes (made n αs) ps (args (made n αs) ps i.1 γs.1) ws.1)))
  back_rest p ps i γs ws rest =
      qed W₀ (‵ (fsep (left (((slot p).row (made n αs)).exit yes) (arg (made n αs) p i.0 γs.0) ws.0)
      (lasts_of (made n αs) (slots ps) (all yes (slots ps)) (args (made n αs) ps i.1 γs.1) ws.1))
      ∷ (raw (aside (made n αs) p i.0 γs.0) ⊛ raw (asides (made n αs) ps i.1 γs.1)) ∷ raw (over n αs) ∷ []) ∵ updating ! $ fsplit ! $ move !
      (2 ∷ []) $ split ! $ move ! (3 ∷ 1 ∷ 4 ∷ []) $
      use3 W₀ (later (raw (stoods ps i.1 (wrotes (made n αs) ps (args (made n αs) ps i.1 γs.1) ws.1)))) rest $ await ! tt $ at_once ! $ keep !
      (0 ∷ []) $ done !

  pub back : (ps : List (Lending n)) (i : Inputs (params ps)) (γs : Names ps) (ws : Fins (made n αs) (slots ps) (all yes (slots ps)) (args (made n αs) ps i γs))
      → ent 𝓥 (sep 𝓥 ⟦ lasts_of (made n αs) (slots ps) (all yes (slots ps)) (args (made n αs) ps i γs) ws ⟧ (sep 𝓥 (asides (made n αs) ps i γs) (over n αs)))
      ((Closed.H).⇛ (stoods ps i (wrotes (made n αs) ps (args (made n αs) ps i γs) ws)))
  back [] i γs ws = via 𝓥 (emp 𝓥) (nothing (sep 𝓥 (emp 𝓥) (sep 𝓥 (emp 𝓥) (over n αs)))) (W₀.laws.⇛_intro (emp 𝓥))
  back (by_value R ∷ ps) i γs ws = back_rest (by_value R) ps i γs ws (back ps i.1 γs.1 ws.1)
  back (to_read j ok R ∷ ps) i γs ws = back_rest (to_read j ok R) ps i γs ws (back ps i.1 γs.1 ws.1)
  back (to_read_with j ok R S T ∷ ps) i γs ws = back_rest (to_read_with j ok R S T) ps i γs ws (back ps i.1 γs.1 ws.1)
  back (to_write j ok R ∷ ps) i γs ws =
      let p : Lending n = to_write j ok R in
      qed W₀ (‵ (fsep (left (((slot p).row (made n αs)).exit yes) (arg (made n αs) p i.0 γs.0) ws.0)
      (lasts_of (made n αs) (slots ps) (all yes (slots ps)) (args (made n αs) ps i.1 γs.1) ws.1))
      ∷ (raw (aside (made n αs) p i.0 γs.0) ⊛ raw (asides (made n αs) ps i.1 γs.1)) ∷ raw (over n αs) ∷ []) ∵ updating ! $ fsplit ! $ move !
      (2 ∷ []) $ split ! $ move ! (4 ∷ []) $
      use1 W₀ (raw (over n αs) ⊛ raw (over n αs)) (over_dup n αs) $ split ! $ move ! (4 ∷ 2 ∷ 0 ∷ []) $
      use3 W₀ (later (raw (stood R i.0 ws.0))) (back_one n αs j ok R i.0 γs.0 ws.0) $ await ! tt $ move ! (3 ∷ 2 ∷ 1 ∷ []) $
      use3 W₀ (later (raw (stoods ps i.1 (wrotes (made n αs) ps (args (made n αs) ps i.1 γs.1) ws.1)))) (back ps i.1 γs.1 ws.1) $ await !
      tt $ at_once ! $ move ! (1 ∷ 0 ∷ []) $ done !

-- ---- cells

-- a list that is lent to be read, beside the rest
read_in : (A : List ℕ) (σ : Memory) → Kept A σ → (ss : List Span) (R : Row) (x : machine.Lent R.row.Denot) → All (form R).Holds x.1
    → Aligned σ R.ty x.0 x.1 → Stands σ (span (form R) x.0 x.1) → All (Apart (span (form R) x.0 x.1)) ss → (C L : SProp 𝓥)
    → ent 𝓥 (sep 𝓥 C (shared 𝓥 Closed.ι A σ ss)) (sep 𝓥 L (shared 𝓥 Closed.ι A σ ss))
    → ent 𝓥 (sep 𝓥 C (shared 𝓥 Closed.ι A σ ss)) (sep 𝓥 (sep 𝓥 (row_share R x.1 x.0) L) (shared 𝓥 Closed.ι A σ ss))
read_in A σ kept ss R x h al st ap C L rest =
    let S : SProp 𝓥 = shared 𝓥 Closed.ι A σ ss in
    let Q : SProp 𝓥 = row_share R x.1 x.0 in
    qed W₀ (raw C ∷ raw S ∷ []) ∵ use2 W₀ (raw L ⊛ raw S) rest $ split ! $ move ! (1 ∷ []) $
    use1 W₀ (raw Q ⊛ raw S) (lent_share R A σ kept ss x.1 x.0 h al st ap) $ split ! $ move ! (0 ∷ 2 ∷ []) $ join ! $ done !

pub lents_in : (A : List ℕ) (σ : Memory) → Kept A σ → (ss : List Span) {n : ℕ} (ps : List (Lending n)) (i : Inputs (params ps)) → AllGood σ (params ps) i
    → All (Stands σ) (reads (params ps) i) → All (λ s. All (Apart s) ss) (reads (params ps) i)
    → ent 𝓥 (sep 𝓥 (lie 𝓥 Closed.ι (writes (params ps) i)) (shared 𝓥 Closed.ι A σ ss)) (sep 𝓥 (lents ps i) (shared 𝓥 Closed.ι A σ ss))
lents_in A σ kept ss [] i g st ap = id⊢ 𝓥 (sep 𝓥 (emp 𝓥) (shared 𝓥 Closed.ι A σ ss))
lents_in A σ kept ss (by_value R ∷ ps) i g st ap =
    via 𝓥 (sep 𝓥 (lents ps i.1) (shared 𝓥 Closed.ι A σ ss)) (lents_in A σ kept ss ps i.1 g.1 st ap)
    (mono_l 𝓥 (shared 𝓥 Closed.ι A σ ss) (emp∗ 𝓥 (lents ps i.1)))
lents_in A σ kept ss (to_read j ok R ∷ ps) i g st ap =
    read_in A σ kept ss R i.0 g.0.0 g.0.1 st.0 ap.0 (lie 𝓥 Closed.ι (writes (params ps) i.1)) (lents ps i.1)
    (lents_in A σ kept ss ps i.1 g.1 st.1 ap.1)
lents_in A σ kept ss (to_read_with j ok R S T ∷ ps) i g st ap =
    read_in A σ kept ss R i.0.0 g.0.0.0 g.0.0.1 st.0 ap.0 (lie 𝓥 Closed.ι (writes (params ps) i.1)) (lents ps i.1)
    (lents_in A σ kept ss ps i.1 g.1 st.1 ap.1)
lents_in A σ kept ss (to_write j ok R ∷ ps) i g st ap =
    let S : SProp 𝓥 = shared 𝓥 Closed.ι A σ ss in
    let C : SProp 𝓥 = cells 𝓥 Closed.ι full_share i.0.0.0 i.0.0.1 (cells_of (form R) i.0.1) in
    let D : SProp 𝓥 = row_cells R i.0.1 i.0.0 in
    let L : SProp 𝓥 = lents ps i.1 in
    qed W₀ ((raw C ⊛ raw (lie 𝓥 Closed.ι (writes (params ps) i.1))) ∷ raw S ∷ []) ∵ split ! $ move ! (1 ∷ 2 ∷ []) $
    use2 W₀ (raw L ⊛ raw S) (lents_in A σ kept ss ps i.1 g.1 st ap) $ split ! $ move ! (2 ∷ 1 ∷ []) $
    use2 W₀ (raw D ⊛ raw S) (lent_cells R A σ kept ss i.0.1 i.0.0 g.0.0 g.0.1) $ split ! $ move ! (0 ∷ 2 ∷ []) $ join ! $ done !
