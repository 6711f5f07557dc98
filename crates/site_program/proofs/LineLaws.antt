-- Lines of links and of nodes, one after another from the front of their tables.
use Rattle.std.specs.Prelude.{◌≡◌, ◌∷◌, ◌++◌, ◌+◌, ◌*◌, ◌<◌, ◌≤◌}
use Rattle.lists.specs.Kit.{refl, List, [], ℕ, suc, arith, add-one, length, drop, get_or, length-drop, drop_of_length-le}
use Rattle.lists.specs.Kit.{drop-cons}
use Rattle.mesh.specs.declared.Node.{Node}
use Rattle.site_program.specs.Texts.{link_line, pair_lines, node_line, node_lines}

-- ---- pair_lines

pub pair_next : (xs : List ℕ) (i a b : ℕ) → 2 * i + 1 < length xs → a ≡ get_or xs (2 * i) 0 → b ≡ get_or xs (2 * i + 1) 0
    → pair_lines (drop (2 * i) xs) ≡ link_line a b ++ pair_lines (drop (2 * (i + 1)) xs)
unfolding pair_lines
pair_next xs i a b h d e =
    let next : 2 * (i + 1) ≡ suc (suc (2 * i)) = omega arith in
    let odd : 2 * i + 1 ≡ suc (2 * i) = omega arith in
    let first : drop (2 * i) xs ≡ a ∷ drop (suc (2 * i)) xs = rw d (drop-cons xs (2 * i) 0 (omega (arith, h))) in
    let second : drop (suc (2 * i)) xs ≡ b ∷ drop (suc (suc (2 * i))) xs = rw (e, odd) (drop-cons xs (suc (2 * i)) 0 (omega (arith, h))) in
    rw (first, second, next)

pair_one : (xs : List ℕ) → length xs ≤ 1 → pair_lines xs ≡ []
unfolding pair_lines
pair_one [] h = refl
pair_one (a ∷ []) h = refl
pair_one (a ∷ b ∷ xs) h = absurd (omega (arith, h))

-- fewer than two entries are left
pub pair_end : (xs : List ℕ) (i : ℕ) → length xs ≤ 2 * i + 1 → pair_lines (drop (2 * i) xs) ≡ []
pair_end xs i h = pair_one (drop (2 * i) xs) (omega (arith, h, length-drop (2 * i) xs))

-- ---- node_lines

pub node_next : (xs : List Node) (i : ℕ) (x d : Node) → i < length xs → x ≡ get_or xs i d
    → node_lines (drop i xs) ≡ node_line x ++ node_lines (drop (i + 1) xs)
unfolding node_lines
node_next xs i x d h e = rw (add-one i, drop-cons xs i d h, ← e)

pub node_end : (xs : List Node) (i : ℕ) → length xs ≤ i → node_lines (drop i xs) ≡ []
unfolding node_lines
node_end xs i h = rw (drop_of_length-le xs h)
