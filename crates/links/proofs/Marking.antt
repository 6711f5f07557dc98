-- A set of radios that a list of radios was put into, one after the other: what it has, and its radios ascending.
use Rattle.std.specs.Prelude.{◌≡◌, ◌⊎◌, ◌||◌, ◌∷◌, ◌<◌}
use Rattle.lists.{specs.Kit.{refl, ap, ◌∙◌, inl, inr, Bool, true, false, cond, or-false, List, [], ℕ, arith, ltb, eqb}}
use Rattle.lists.{specs.Kit.{length, replicate, length-replicate, ne_eqb, ltb-true, ltb-false}}
use Rattle.lists.{specs.Facts.{folded}, specs.Lists.{range, member}, proofs.Tests.{bool_cases}, proofs.Range.{range_in}, proofs.Filter.{filter_ext}}
use Rattle.mesh.specs.Limits.{max_radios}
use Rattle.rows.{specs.Sets.{in_set, put_in, members}, proofs.SetLaws.{in_set_zeros, in_put_in, put_in_past, length_put_in}}
use Rattle.links.specs.Changes.{in_order}

-- a radio past the set is not put in, and is none of w's either
in_set_folded : (vs ws : List ℕ) (w : ℕ) → length ws ≡ 8 → w < max_radios → in_set (folded put_in vs ws) w ≡ (member w vs || in_set ws w)
unfolding folded member
in_set_folded [] ws w len l = refl
in_set_folded (v ∷ vs) ws w len l =
    in_set_folded vs (put_in v ws) w (length_put_in v ws ∙ len) l
    ∙ ap (λ (x : Bool). member w vs || x) (one (bool_cases (ltb v max_radios)))
    ∙ either (member w vs) (eqb v w) (in_set ws w)
  where
    either : (x y z : Bool) → (x || cond y true z) ≡ ((y || x) || z)
    either true true z = refl
    either true false z = refl
    either false true z = refl
    either false false z = refl

    one : (ltb v max_radios ≡ true) ⊎ (ltb v max_radios ≡ false) → in_set (put_in v ws) w ≡ cond (eqb v w) true (in_set ws w)
    one (inl e) = let b = ltb-true v max_radios e in in_put_in v w ws (omega arith)
    one (inr e) =
        let b = ltb-false v max_radios e in
        rw (ne_eqb v w (λ same. omega arith)) (ap (λ (s : List ℕ). in_set s w) (put_in_past ws v (omega arith)))

-- the set listed, once the list is put into an empty one
pub members_folded : (vs ws : List ℕ) → ws ≡ folded put_in vs (replicate 8 0) → members ws ≡ in_order vs
unfolding members in_order
members_folded vs ws e =
    filter_ext (in_set ws) (λ w. member w vs) (range 0 max_radios)
    (λ w m.
    ap (λ (s : List ℕ). in_set s w) e
    ∙ in_set_folded vs (replicate 8 0) w (length-replicate {A = ℕ} 8 0) (omega (arith, range_in 0 max_radios w m))
    ∙ ap (λ (x : Bool). member w vs || x) (in_set_zeros 8 w) ∙ or-false (member w vs))
