-- In the closed model: all that may be had of a memory is owned beside the world and the thread's token; and what is owned is read off the memory.
use mathlib.Core.{Path.{◌≡◌, refl, sym, ◌∙◌, ap, subst}, Logic.{∥∥₁_prop, ∥∥₁_elim}, Option.{Option, none, some, none-ne-some, some-injective}}
use mathlib.Core.{Option.{is_set}, List.{List, [], ◌∷◌}, Bool.{Bool, true, false}, HLevel.{⊥_prop}}
use Prim.Native.Nat.{ℕ, ◌<◌}
use native.Mathlib.{Nat.{ℕ_set}, Omega.{arith}}
use lib.{ListN.{length, get_elem?}, Dec.{T, eqb}}
use seplogic.{Ra.Pcs.{OpDef}, Ra.Ura.{Ura}}
use base.{Mask.{every}, Fraction.{full_share}, FractionLaws.{not-OpDef-full_share}, Share.{three_quarters}}
use base.Share
use contract.Closed.{model⁺, any_memory⁺}
use seplogic.Bi.Sat
use mir.Mem.{Cell, Cell-set}
use base.{Fml.{Share}, Logic.{SProp, ent, sep, emp, ex, upd, via, upd_mono, upd_frame, emp∗, id⊢, mono_l, mono_r, mono∗, comm∗, assoc∗, assoc', fst∗, snd∗}}
use contract.Adequate.{Satisfies, sat_upd, sat_weaken, sat_fact, sat_ex}
use store.{Seg.{eqb→≡, eqb_same}, View.{cell, HMap, Row, Row-sub, shut, shut_row, row_of, row_at, view, RSub, Kept, aligns_of, Kept-any}}
use store.{Table.{Sub}, Rows.{pt_row, run_row, len_row, algn_row}, Cells.{pt_at, mem_a, mem_h, mem_h_intro, other, has, cells, cells→run}, Typed.{mem}, Instance.{model×}}
use store.{Instance.{model}}
use prog.Memory.{Memory, Block, entry_at, bind, pick}
use Rattle.machine.specs.Cells.{cell_at, RunAt, Span, Has, All}
use Rattle.machine.proofs.Heap.{pick_some, lie, less, keep_at, open_row, here_of, not_of, all_of, all_in_hand, owned, look, look_open, Seen, NotShut, opened, kept, rest, rest_has, map_of, NoneOf, run_out, shared, share_row, row_cell, row_algn, alignment_row, no_cells}
use ghost.Model as Closed
use Rattle.machine.specs.Cells as machine

abbrev pub 𝓥 : Ura Closed.Res
𝓥 = Closed.𝓤

-- the thread's token
abbrev token : SProp 𝓥
token = (Closed.A).tok every

abbrev pub own_all : Memory → SProp 𝓥
own_all σ = all_of 𝓥 Closed.ι (aligns_of σ) σ

pub mem_in : (σ : Memory) → ent 𝓥 (sep 𝓥 (mem_h 𝓥 Closed.ι σ) (sep 𝓥 Closed.world token)) (model⁺.mem σ)
unfolding model⁺ Closed.model Closed.ι Closed.world model× model mem
mem_in σ = assoc' 𝓥 (mem_h 𝓥 Closed.ι σ) Closed.world token

pub mem_out : (σ : Memory) → ent 𝓥 (model⁺.mem σ) (sep 𝓥 (mem_h 𝓥 Closed.ι σ) (sep 𝓥 Closed.world token))
unfolding model⁺ Closed.model Closed.ι Closed.world model× model mem
mem_out σ = assoc∗ 𝓥 (mem_h 𝓥 Closed.ι σ) Closed.world token

mem_table : (σ : Memory) → ent 𝓥 (model⁺.mem σ) (mem_h 𝓥 Closed.ι σ)
mem_table σ =
    via 𝓥 (sep 𝓥 (mem_h 𝓥 Closed.ι σ) (sep 𝓥 Closed.world token)) (mem_out σ) (fst∗ 𝓥 (mem_h 𝓥 Closed.ι σ) (sep 𝓥 Closed.world token))

-- from the empty memory, by one update
begun : (σ : Memory) → ent 𝓥 (sep 𝓥 (model⁺.mem []) (emp 𝓥)) (upd 𝓥 (sep 𝓥 (model⁺.mem σ) (own_all σ)))
begun σ =
    let Q : SProp 𝓥 = own_all σ in
    let E : SProp 𝓥 = mem_h 𝓥 Closed.ι [] in
    let G : SProp 𝓥 = mem_h 𝓥 Closed.ι σ in
    let W : SProp 𝓥 = sep 𝓥 Closed.world token in
    via 𝓥 (model⁺.mem []) (fst∗ 𝓥 (model⁺.mem []) (emp 𝓥))
    (via 𝓥 (sep 𝓥 E W) (mem_out [])
    (via 𝓥 (sep 𝓥 (upd 𝓥 (sep 𝓥 G Q)) W)
    (mono_l 𝓥 W (via 𝓥 (upd 𝓥 (sep 𝓥 (mem_a 𝓥 Closed.ι (aligns_of σ) σ) Q)) (all_in_hand 𝓥 Closed.ι (aligns_of σ) σ)
    (upd_mono 𝓥 (mono_l 𝓥 Q (mem_h_intro 𝓥 Closed.ι (aligns_of σ) σ (Kept-any σ))))))
    (via 𝓥 (upd 𝓥 (sep 𝓥 (sep 𝓥 G Q) W)) (upd_frame 𝓥 (sep 𝓥 G Q) W)
    (upd_mono 𝓥 (via 𝓥 (sep 𝓥 G (sep 𝓥 Q W)) (assoc∗ 𝓥 G Q W)
    (via 𝓥 (sep 𝓥 G (sep 𝓥 W Q)) (mono_r 𝓥 G (comm∗ 𝓥 Q W))
    (via 𝓥 (sep 𝓥 (sep 𝓥 G W) Q) (assoc' 𝓥 G W Q) (mono_l 𝓥 Q (mem_in σ)))))))))

pub whole : (σ : Memory) → Satisfies 𝓥 Closed.H model⁺ σ (own_all σ)
unfolding Satisfies
whole σ = sat_upd 𝓥 Closed.H model⁺ [] σ (emp 𝓥) (own_all σ) (begun σ)
    (Sat.mono 𝓥.op (via 𝓥 (sep 𝓥 (emp 𝓥) (model⁺.mem [])) (emp∗ 𝓥 (model⁺.mem [])) (comm∗ 𝓥 (emp 𝓥) (model⁺.mem []))) (any_memory⁺ []))

-- ---- a row that is owned is the memory's

pub seen : (q : Share) (σ : Memory) (b : ℕ) (r : Row) (P : SProp 𝓥) → ent 𝓥 P (has 𝓥 Closed.ι q b r) → Satisfies 𝓥 Closed.H model⁺ σ P → ∥ Seen σ b r ∥₁
seen q σ b r P h s = sat_fact 𝓥 Closed.H model⁺ σ P (Seen σ b r)
    (via 𝓥 (sep 𝓥 (mem_h 𝓥 Closed.ι σ) (has 𝓥 Closed.ι q b r))
    (mono∗ 𝓥 (mem_table σ) h)
    (look 𝓥 Closed.ι q σ b r)) s

-- what is owned at a share that is beside no half may be written
pub seen_open : (q : Share) → ¬ OpDef Share.op q (other 𝓥 Closed.ι) → (σ : Memory) (f : HMap) (P : SProp 𝓥) → ent 𝓥 P (owned 𝓥 Closed.ι q f)
    → Satisfies 𝓥 Closed.H model⁺ σ P → ∥ NotShut σ f ∥₁
seen_open q n σ f P h s = sat_fact 𝓥 Closed.H model⁺ σ P (NotShut σ f)
    (via 𝓥 (sep 𝓥 (mem_h 𝓥 Closed.ι σ) (owned 𝓥 Closed.ι q f)) (mono∗ 𝓥 (mem_table σ) h) (look_open 𝓥 Closed.ι q n σ f)) s

-- ---- what is owned, read off the memory

pub run_of : (σ : Memory) (b o : ℕ) (cs : List Cell) (P : SProp 𝓥) → ent 𝓥 P (cells 𝓥 Closed.ι full_share b o cs) → Satisfies 𝓥 Closed.H model⁺ σ P
    → RunAt σ b o cs
unfolding RSub run_row
run_of σ b o cs P h s = run_out σ b o cs (λ i w e.
    ∥∥₁_elim (seen full_share σ b (run_row o cs) P (via 𝓥 (cells 𝓥 Closed.ι full_share b o cs) h (cells→run 𝓥 Closed.ι full_share b o cs)) s)
    (is_set Cell-set (cell_at σ b i) (some w)) (λ t.
    sym (row_cell (entry_at σ b) (get_elem? t.0 b) i) ∙ t.2.0 i w e))

-- the length of a block
long : Option Block → Option ℕ
long none = none
long (some e) = some (length e.1)

row_long : (X : Option Block) (k : Option ℕ) → (row_of X k).1 ≡ long X
unfolding row_of long
row_long none k = refl
row_long (some e) k = refl

first_cell : (cs : List Cell) → 0 < length cs → (c : Cell) × (get_elem? cs 0 ≡ some c)
first_cell [] h = absurd (omega (arith, h))
first_cell (c ∷ cs) h = (c, refl)

-- no cell of a block that has one and may not be written is written
shut_first : (X : Option Block) (e : Block) → X ≡ some e → 0 < length e.1 → e.2 ≡ false → shut_row X 0 ≡ none → ⊥
unfolding shut_row
shut_first X e h l t n =
    let x = first_cell e.1 l in
    none-ne-some x.0 (sym n ∙ ap (λ (Y : Option Block). shut_row Y 0) h ∙ ap (λ (u : Bool). shut_row (some (e.0, e.1, u)) 0) t ∙ x.1)

T_of : (t : Bool) → (t ≡ false → ⊥) → T t
T_of true h = tt
T_of false h = absurd (h refl)

-- what a run left of what was kept, and the lists that came back
module _ (A : List ℕ) (σ : Memory) (is_kept : Kept A σ) (ss : List Span) (σ' : Memory) (P : SProp 𝓥) (left : ent 𝓥 P (shared 𝓥 Closed.ι A σ ss))
    (more : ent 𝓥 P (kept 𝓥 Closed.ι A σ ss)) (ts : List Span) (back : ent 𝓥 P (lie 𝓥 Closed.ι ts))
    (same : (b i : ℕ) → All (λ t. ¬ Has t b i) ts → All (λ s. ¬ Has s b i) ss) (s : Satisfies 𝓥 Closed.H model⁺ σ' P) where
  still : (b : ℕ) (r : Row) → RSub r (row_at A σ b) → All (λ s. (i : ℕ) (w : Cell) → r.0 i ≡ some w → Has s b i → ⊥) ss → ∥ Seen σ' b r ∥₁
  still b r S a =
      ∥∥₁_elim (sat_ex 𝓥 Closed.H model⁺ σ' (λ (q : Share). has 𝓥 Closed.ι q b r) (sat_weaken 𝓥 Closed.H model⁺ σ'
      (via 𝓥 (shared 𝓥 Closed.ι A σ ss) left
      (via 𝓥 (sep 𝓥 (ex 𝓥 (λ (q : Share). has 𝓥 Closed.ι q b r)) (shared 𝓥 Closed.ι A σ ss)) (share_row 𝓥 Closed.ι A σ ss b r S a)
      (fst∗ 𝓥 (ex 𝓥 (λ (q : Share). has 𝓥 Closed.ι q b r)) (shared 𝓥 Closed.ι A σ ss)))) s)) ∥∥₁_prop (λ q.
      seen q.0 σ' b r (has 𝓥 Closed.ι q.0 b r) (id⊢ 𝓥 (has 𝓥 Closed.ι q.0 b r)) q.1)

  point : (b i : ℕ) (c : Cell) → cell_at σ b i ≡ some c → RSub (pt_row i c) (row_at A σ b)
  unfolding RSub pt_row
  point b i c e = (
    λ j w d. let x : (eqb i j ≡ true) × (c ≡ w) = pick_some (eqb i j) c w d in
        row_cell (entry_at σ b) (get_elem? A b) j ∙ subst (λ (k : ℕ). cell_at σ b k ≡ some w) (eqb→≡ i j x.0) (e ∙ ap some x.1),
    λ n d. absurd (none-ne-some n d),
    λ a d. absurd (none-ne-some a d),
  )

  pub else_of : machine.ElseKept σ σ' ss
  unfolding RSub pt_row
  else_of b i c away e =
      ∥∥₁_elim (still b (pt_row i c) (point b i c e) (aways ss away))
      (is_set Cell-set (cell_at σ' b i) (some c)) (λ t. sym (row_cell (entry_at σ' b) (get_elem? t.0 b) i)
      ∙ t.2.0 i c (ap (λ (t' : Bool). pick t' c) (eqb_same i)))
    where
      aways : (ss : List Span) → All (λ s. ¬ Has s b i) ss → All (λ s. (j : ℕ) (w : Cell) → pick (eqb i j) c ≡ some w → Has s b j → ⊥) ss
      aways [] h = tt
      aways (s ∷ ss) h = (λ j w d x. h.0 (subst (λ (k : ℕ). Has s b k) (sym (eqb→≡ i j (pick_some (eqb i j) c w d).0)) x), aways ss h.1)

  as_long : (b : ℕ) (e : Block) → entry_at σ b ≡ some e → long (entry_at σ' b) ≡ some (length e.1)
  unfolding RSub len_row long
  as_long b e h =
      ∥∥₁_elim (still b (len_row (length e.1)) (
        λ j w d. absurd (none-ne-some w d),
        λ n d. row_long (entry_at σ b) (get_elem? A b) ∙ ap long h
            ∙ d,
        λ a d. absurd (none-ne-some a d),
      ) (no_cells b ss))
      (is_set ℕ_set (long (entry_at σ' b)) (some (length e.1))) (λ t. sym (row_long (entry_at σ' b) (get_elem? t.0 b)) ∙ t.2.1 (length e.1) refl)

  as_aligned : (b : ℕ) (e e' : Block) → entry_at σ b ≡ some e → entry_at σ' b ≡ some e' → e'.0 ≡ e.0
  unfolding RSub algn_row Kept
  as_aligned b e e' h h' =
      ∥∥₁_elim (still b (algn_row e.0) (alignment_row A σ b e.0 (is_kept.1 b e h)) (no_cells b ss)) (ℕ_set e'.0 e.0) (λ t.
      some-injective e'.0 e.0 (sym (t.1.1 b e' h') ∙ sym (row_algn (entry_at σ' b) (get_elem? t.0 b)) ∙ t.2.2 e.0 refl))

  -- ---- a block that may be written still may

  -- no list that came back has a cell in a block that may not be written
  not_back : (b : ℕ) (e' : Block) → entry_at σ' b ≡ some e' → 0 < length e'.1 → e'.2 ≡ false → (us : List Span) → ent 𝓥 P (lie 𝓥 Closed.ι us)
      → All (λ t. ¬ Has t b 0) us
  unfolding shut map_of has
  not_back b e' h l f [] k = tt
  not_back b e' h l f (u ∷ us) k = (one, not_back b e' h l f us (via 𝓥 (lie 𝓥 Closed.ι (u ∷ us)) k (snd∗ 𝓥 (cells 𝓥 Closed.ι full_share u.0 u.1 u.2) (lie 𝓥 Closed.ι us))))
    where
      one : Has u b 0 → ⊥
      one a =
          let w = here_of u b 0 a in
          ∥∥₁_elim (seen_open full_share (not-OpDef-full_share (other 𝓥 Closed.ι)) σ' (map_of u) P
          (via 𝓥 (lie 𝓥 Closed.ι (u ∷ us)) k (via 𝓥 (cells 𝓥 Closed.ι full_share u.0 u.1 u.2) (fst∗ 𝓥 (cells 𝓥 Closed.ι full_share u.0 u.1 u.2) (lie 𝓥 Closed.ι us))
          (cells→run 𝓥 Closed.ι full_share u.0 u.1 u.2))) s) ⊥_prop (λ n.
          shut_first (entry_at σ' b) e' h l f (n (cell b 0) w.0 w.1))

  none_of : (b i : ℕ) (us : List Span) → All (λ t. ¬ Has t b i) us → NoneOf (cell b i) us
  none_of b i [] h = tt
  none_of b i (u ∷ us) h = (not_of u b i h.0, none_of b i us h.1)

  still_open : (b : ℕ) (e e' : Block) → entry_at σ b ≡ some e → entry_at σ' b ≡ some e' → length e'.1 ≡ length e.1 → 0 < length e.1 → T e.2 → T e'.2
  unfolding shut less Sub
  still_open b e e' h h' l n t = T_of e'.2 (λ f.
      let n' : 0 < length e'.1 = omega (arith, l, n) in
      let x = first_cell e.1 n in
      let at : cell_at σ b 0 ≡ some x.0 = ap (λ (X : Option Block). bind X (λ y. get_elem? y.1 0)) h ∙ x.1 in
      let there : view A σ (cell b 0) ≡ some x.0 = Row-sub A σ b (pt_row 0 x.0) (point b 0 x.0 at) (cell b 0) x.0 (pt_at b 0 x.0) in
      let shown : shut_row (entry_at σ b) 0 ≡ none = open_row (entry_at σ b) (λ y q. subst (λ (z : Block). T z.2) (some-injective e y (sym h ∙ q)) t) 0 in
      let away : All (λ r. ¬ Has r b 0) ss = same b 0 (not_back b e' h' n' f ts back) in
      ∥∥₁_elim (seen_open three_quarters (λ d. absurd d) σ' (rest (opened A σ) ss) P more s) ⊥_prop (λ k.
      shut_first (entry_at σ' b) e' h' n' f
      (k (cell b 0) x.0 (rest_has (opened A σ) ss (cell b 0) x.0 (keep_at (shut_row (entry_at σ b) 0) (view A σ (cell b 0)) x.0 shown there) (none_of b 0 ss away)))))

  pub blocks_of : machine.BlockKept σ σ'
  unfolding long
  blocks_of b e h = go (entry_at σ' b) refl (as_long b e h)
    where
      go : (X : Option Block) → entry_at σ' b ≡ X → long X ≡ some (length e.1)
          → (e' : Block) × (entry_at σ' b ≡ some e') × (e'.0 ≡ e.0) × (length e'.1 ≡ length e.1) × (0 < length e.1 → T e.2 → T e'.2)
      go none x l = absurd (none-ne-some (length e.1) l)
      go (some e') x l =
          let n : length e'.1 ≡ length e.1 = some-injective (length e'.1) (length e.1) l in
          (e', x, as_aligned b e e' h x, n, still_open b e e' h x n)
