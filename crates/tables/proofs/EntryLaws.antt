-- Laws of tables of entries, whatever their width: one table copied into another, two tables compared.
--   copying_turn, copying_end       one entry more is copied; all are
--   comparing_turn, comparing_end   one entry more is equal; all are
--   comparing_differ                an entry is not
use Rattle.std.specs.Prelude.{◌≡◌, ◌++◌, ◌∷◌, ◌+◌, ◌<◌, ◌≤◌}
use Rattle.lists.{specs.Kit.{List, [], ℕ, sym, ap, ap₂, ◌∙◌, subst, length, get_or, set, take, drop, min, arith}}
use Rattle.lists.{specs.Kit.{length-take, zero-add, take_all, take-suc, add-one, paste}, specs.Lists.{overwrite}, proofs.Parts.{take_min}}
use Rattle.std.proofs.lemmas.{List.{get_or_default}, List.Edits.{paste_more}}

pub copying_turn :
    {X : Type 0} (d s t : List X) (i : ℕ) (x : X) → t ≡ paste d 0 s i → i < length d → i < length s → x ≡ get_or s i x →
    set t i x ≡ paste d 0 s (i + 1)
copying_turn d s t i x e l h is =
    ap (λ u. set u i x) e ∙ ap (λ y. set (paste d 0 s i) i y) is
    ∙ ap (λ k. set (paste d 0 s i) k (get_or s i x)) (sym (zero-add i)) ∙ paste_more d 0 s i x (omega arith) h

pub copying_end :
    {X : Type 0} (d s t : List X) (i : ℕ) → t ≡ paste d 0 s i → i ≡ min (length d) (length s) → t ≡ overwrite (take (length d) s) d
unfolding overwrite
copying_end d s t i e k =
    let long : length (take (length d) s) ≡ i = omega (arith, length-take (length d) s) in
    e ∙ ap₂ (λ u n. u ++ drop n d) (ap (λ n. take n s) k ∙ take_min (length d) s) (zero-add i ∙ sym long)

pub comparing_turn :
    {X : Type 0} (xs ys : List X) (i : ℕ) (x y : X) → take i xs ≡ take i ys → i < length xs → i < length ys → x ≡ get_or xs i x →
    y ≡ get_or ys i y → x ≡ y → take (i + 1) xs ≡ take (i + 1) ys
comparing_turn xs ys i x y e l h p q is =
    ap (λ n. take n xs) (add-one i) ∙ take-suc xs i x l ∙ ap₂ (λ u z. u ++ z ∷ []) e (sym p ∙ is ∙ q)
    ∙ sym (take-suc ys i y h) ∙ ap (λ n. take n ys) (sym (add-one i))

pub comparing_end :
    {X : Type 0} (xs ys : List X) (i : ℕ) → take i xs ≡ take i ys → length xs ≤ i → length ys ≤ i → xs ≡ ys
comparing_end xs ys i e l h = sym (take_all _ _ l) ∙ e ∙ take_all _ _ h

-- an entry differs where two tables are equal: never
pub comparing_differ :
    {X : Type 0} (xs ys : List X) (i : ℕ) (x y : X) → xs ≡ ys → i < length xs → x ≡ get_or xs i x → y ≡ get_or ys i y → x ≡ y
comparing_differ xs ys i x y e l p q = p ∙ ap (λ zs. get_or zs i x) e ∙ get_or_default ys i x y (subst (λ zs. i < length zs) e l) ∙ sym q
