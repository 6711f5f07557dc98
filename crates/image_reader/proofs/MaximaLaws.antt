-- Running maxima along an order: the loop that writes them, and that over the later-neighbour counts they are `running_maxima`.
use Rattle.std.specs.Prelude.{◌≡◌, ◌∷◌, ◌++◌, ◌+◌, ◌≤◌, ◌<◌}
use Rattle.lists.{specs.Kit.{refl, sym, ap, ap₂, subst, ◌∙◌, inl, Bool, true, List, [], map, append_assoc, append-nil, ℕ, suc}}
use Rattle.lists.{specs.Kit.{max, arith, add-one, length, get_or, take, drop, set, length-set, take-append-drop, take-suc, drop-cons, drop-length, get_or-set_same}}
use Rattle.lists.{specs.Kit.{get_or-set_other}, specs.Lists.{count, In}, proofs.Distinct.{distinct_apart}, proofs.Range.{once_distinct, once_below}}
use Rattle.lists.{proofs.Member.{in_get_d}, proofs.Map.{map_append, map_ext}}
use Rattle.mesh.{specs.Graph.{neighbours_among}, specs.Orders.{each_once}, proofs.Cores.RunningMaximum.{running_maxima}, proofs.Cores.Orders.{each_once_of}}
use Rattle.image_reader.specs.Site.{running_maxima_of}

-- ---- over the later-neighbour counts

pub running_maxima_of_counts : (f : ℕ → ℕ → Bool) (c : ℕ → ℕ) (m : ℕ) (xs : List ℕ)
    → ((p : ℕ) → p < length xs → c (get_or xs p 0) ≡ count (f (get_or xs p 0)) (drop (suc p) xs)) → running_maxima_of c m xs ≡ running_maxima f m xs
unfolding running_maxima_of running_maxima neighbours_among
running_maxima_of_counts f c m [] h = refl
running_maxima_of_counts f c m (x ∷ xs) h =
    let top : ℕ = max m (count (f x) xs) in
    let here : max m (c x) ≡ top = ap (max m) (h 0 (omega arith)) in
    ap (λ (t : ℕ). t ∷ running_maxima_of c t xs) here
    ∙ ap {B = List ℕ} (λ zs. top ∷ zs) (running_maxima_of_counts f c top xs (λ p l. h (suc p) (omega arith)))

-- ---- the loop: i radios have their maximum, the last of which is `top`

pub record Running (c : ℕ → ℕ) (order start ranks : List ℕ) (top i : ℕ) : Type 0 where
  pub low : i ≤ length order
  pub long : length ranks ≡ length start
  pub is : map (λ v. get_or ranks v 0) (take i order) ++ running_maxima_of c top (drop i order) ≡ running_maxima_of c 0 order

-- an entry of the order is a radio
entry_below : (order : List ℕ) → each_once (length order) order ≡ true → (i : ℕ) → i < length order → get_or order i 0 < length order
entry_below order once i l = once_below (length order) order (each_once_of (length order) order once) (get_or order i 0) (in_get_d order i l)

-- so there is room for it in a table with an entry for each radio, also after writes
pub entry_room : (order : List ℕ) → each_once (length order) order ≡ true → (i : ℕ) → i < length order → (k m : ℕ) → length order ≤ k → m ≡ k
    → get_or order i 0 < m
entry_room order once i l k m h e = omega (arith, entry_below order once i l)

module _ {c : ℕ → ℕ} {order start ranks : List ℕ} {top i : ℕ} (r : Running c order start ranks top i) (once : each_once (length order) order ≡ true)
    (l : i < length order) (room : length order ≤ length start) where
  abbrev v : ℕ
  v = get_or order i 0

  abbrev new : ℕ
  new = max top (c v)

  abbrev after : List ℕ
  after = set ranks v new

  apart : (w : ℕ) → In w (take i order) → w ≡ v → ⊥
  apart w m e =
      distinct_apart (take i order) (drop i order)
      (rw (take-append-drop i order) (once_distinct (length order) order (each_once_of (length order) order once)))
      v (rw e at m) (rw (drop-cons order i 0 l) (inl refl))

  kept : map (λ w. get_or after w 0) (take i order) ≡ map (λ w. get_or ranks w 0) (take i order)
  kept = map_ext (λ w. get_or after w 0) (λ w. get_or ranks w 0) (take i order) (λ w m. get_or-set_other ranks v w new 0 (apart w m))

  here : get_or after v 0 ≡ new
  here = get_or-set_same ranks v new 0 (omega (arith, r.long, entry_below order once i l))

  front : map (λ w. get_or after w 0) (take (suc i) order) ≡ map (λ w. get_or ranks w 0) (take i order) ++ (new ∷ [])
  front =
      ap (map (λ w. get_or after w 0)) (take-suc order i 0 l) ∙ map_append (λ w. get_or after w 0) (take i order) (v ∷ [])
      ∙ ap₂ {C = List ℕ} (λ xs x. xs ++ (x ∷ [])) kept here

  running_new : Running c order start after new (i + 1)
  unfolding running_maxima_of
  running_new = record {
    low = omega arith;
    long = length-set ranks v new ∙ r.long;
    is = rw add-one (ap (λ (xs : List ℕ). xs ++ running_maxima_of c new (drop (suc i) order)) front
        ∙ append_assoc (map (λ w. get_or ranks w 0) (take i order)) (new ∷ []) (running_maxima_of c new (drop (suc i) order))
        ∙ ap (λ (xs : List ℕ). map (λ w. get_or ranks w 0) (take i order) ++ running_maxima_of c top xs) (sym (drop-cons order i 0 l)) ∙ r.is);
  }

  pub running_turn : (x : ℕ) → x ≡ new → Running c order start (set ranks v x) x (i + 1)
  running_turn x e = subst (λ (y : ℕ). Running c order start (set ranks v y) y (i + 1)) (sym e) running_new

pub running_end : (c : ℕ → ℕ) (order start ranks : List ℕ) (top i : ℕ) → Running c order start ranks top i → length order ≤ i
    → map (λ v. get_or ranks v 0) order ≡ running_maxima_of c 0 order
unfolding running_maxima_of
running_end c order start ranks top i r h =
    let e : i ≡ length order = omega (arith, r.low) in
    let none : drop i order ≡ [] = ap (λ (k : ℕ). drop k order) e ∙ drop-length order in
    let all_of : take i order ≡ order = sym (append-nil (take i order)) ∙ ap (λ (xs : List ℕ). take i order ++ xs) (sym none) ∙ take-append-drop i order in
    sym (append-nil (map (λ v. get_or ranks v 0) order))
    ∙ sym (ap₂ {C = List ℕ} (λ xs ys. map (λ v. get_or ranks v 0) xs ++ running_maxima_of c top ys) all_of none) ∙ r.is
