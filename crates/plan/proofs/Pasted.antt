-- A list copied over a part of another that is lent.
use Rattle.std.specs.Prelude.{◌≡◌, ◌++◌, ◌+◌, ◌-◌, ◌≤◌}
use Rattle.lists.{specs.Kit.{sym, ap, ap₂, ◌∙◌, List, append_assoc, ℕ, arith, length, take, drop, take_all, paste}}
use Rattle.lists.{specs.Lists.{overwrite}, proofs.Overwrite.{overwrite_take}}
use borrow.Rule.Slice.PartMut.{mid_of, put_mid, mid_len, Post-is}

-- ys copied over the part of xs that ends before place e
pub put_part : (xs ys new : List ℕ) (i e : ℕ) → i + length ys ≡ e → e ≤ length xs
    → new ≡ overwrite (take (length (mid_of i (e - i) xs)) ys) (mid_of i (e - i) xs) → put_mid i (e - i) xs new ≡ paste xs i ys (length ys)
put_part xs ys new i e h l q =
    let part = mid_of i (e - i) xs in
    let is : new ≡ take (length ys) ys =
    q ∙ overwrite_take ys part (omega (arith, mid_len i e xs l)) ∙ sym (take_all (length ys) ys (omega arith)) in
    ap (λ (z : List ℕ). take i xs ++ z) (ap₂ (λ (y z : List ℕ). y ++ z) is (Post-is i e xs (omega arith) ∙ ap (λ (k : ℕ). drop k xs) (sym h)))
    ∙ sym (append_assoc (take i xs) (take (length ys) ys) (drop (i + length ys) xs))
