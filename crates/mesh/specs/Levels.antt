-- Levels, and how a link call changes the order.
--   changed up a b g      the radios whose core number differs when the link a-b goes up or down, ascending
--   step_of up cs         document 01: the step, +1 or -1, or 0 when nothing changed
--   lower_level g a b     document 01: K, the smaller number of the two ends
--   stretch_start g k     how many radios have less than k: where the stretch of level k starts in the order
--   stretch_length g k    how many radios have k: how long that stretch is
--   laid_out              document 01's rule "the next is always the first, in the former order, with at most .. neighbours among .."
--   stretch_up            document 01: how a link going up lays the stretch out anew
--   stretch_down          document 01: how a link going down lays the stretch out anew
--   new_order up a b g xs the order after the call: xs with the stretch of level K laid out anew
-- Laws are in proofs/Links/Call.antt. Definitions only.
use Rattle.std.specs.Prelude.{◌∷◌, ◌++◌, ◌+◌, ◌-◌}
use Rattle.lists.specs.{Kit.{Bool, true, false, not, cond, List, [], ℕ, zero, suc, min, ltb, leb, eqb, ℤ, pos, negsuc, length, take, drop}}
use Rattle.lists.specs.{Lists.{count, filter, member}}
use Rattle.mesh.specs.{Graph.{Graph, radios, linked, neighbours_among, relinked}, Cores.{number}}

-- ---- what changes

-- document 01: the changed radios, ascending: their core number differs between the links before and after
unfoldable pub changed : (up : Bool) → (a b : ℕ) → Graph → List ℕ
changed u a b g =
    let before = number g in
    let after = number (relinked u a b g) in filter (λ v. not (eqb (before v) (after v))) (radios g)

-- document 01: the step. +1 or -1, or 0 when nothing changed
unfoldable pub step_of : (up : Bool) → (changed : List ℕ) → ℤ
step_of u [] = pos 0
step_of u (c ∷ cs) = cond u (pos 1) (negsuc 0)

-- ---- levels

-- document 01: K, the smaller number of the two ends
unfoldable pub lower_level : Graph → (a b : ℕ) → ℕ
lower_level g a b = let num = number g in min (num a) (num b)

-- document 01: level k is the radios with number k, and their entries in the order are one stretch. It starts after as many entries
-- as radios have less than k
unfoldable pub stretch_start : Graph → (k : ℕ) → ℕ
stretch_start g k = let num = number g in count (λ v. ltb (num v) k) (radios g)

-- document 01: and is as long as radios have k
unfoldable pub stretch_length : Graph → (k : ℕ) → ℕ
stretch_length g k = let num = number g in count (λ v. eqb (num v) k) (radios g)

-- ---- the stretch laid out anew

-- the first of xs with at most so many neighbours among `left` (what is not yet laid out) and `others`
unfoldable pub first_fitting : (neighbour : ℕ → ℕ → Bool) → (most : ℕ) → (left others xs : List ℕ) → ℕ
first_fitting f m ls os [] = 0
first_fitting f m ls os (x ∷ xs) =
    let rest = first_fitting f m ls os xs in
    cond (leb (neighbours_among f x ls + neighbours_among f x os) m) x rest

-- a list without its first v
unfoldable pub without : (v : ℕ) → List ℕ → List ℕ
without v [] = []
without v (x ∷ xs) = let rest = without v xs in cond (eqb x v) xs (x ∷ rest)

-- document 01: the next is always the first, in the former order, with at most `most` neighbours among the rest not yet laid out
-- and `others`
unfoldable pub laid_out : (turns : ℕ) → (neighbour : ℕ → ℕ → Bool) → (most : ℕ) → (left others : List ℕ) → List ℕ
laid_out zero f m ls os = []
laid_out (suc t) f m ls os = let v = first_fitting f m ls os ls in v ∷ laid_out t f m (without v ls) os

-- In the next three, `held` is what the stretch held, `above` what stands after it, `t` the graph after the call.

-- document 01: Up. Changed radios stand, in their former relative order, before the old members of level K + 1, which `above` begins
-- with. The rest of level K is laid out anew: the next is always the first, in the former order, with at most K neighbours
-- among the rest not yet laid out and all radios now above K
unfoldable pub stretch_up : (t : Graph) → (K : ℕ) → (changed held above : List ℕ) → List ℕ
stretch_up t k cs held above =
    let risen = filter (λ v. member v cs) held in
    let rest = filter (λ v. not (member v cs)) held in laid_out (length rest) (linked t) k rest (risen ++ above) ++ risen

-- document 01: Down. Changed radios stand after the old members of level K - 1, which stand before the stretch. They are laid out so:
-- the next is the first, in the former order, with at most K - 1 neighbours among the changed not yet laid out and all
-- radios still at K or above. The rest of level K keeps its relative order
unfoldable pub stretch_down : (t : Graph) → (K : ℕ) → (changed held above : List ℕ) → List ℕ
stretch_down t k cs held above =
    let fallen = filter (λ v. member v cs) held in
    let rest = filter (λ v. not (member v cs)) held in
    laid_out (length fallen) (linked t) (k - 1) fallen (rest ++ above) ++ rest

unfoldable pub new_stretch : (up : Bool) → (t : Graph) → (K : ℕ) → (changed held above : List ℕ) → List ℕ
new_stretch true t k cs held above = stretch_up t k cs held above
new_stretch false t k cs held above = stretch_down t k cs held above

-- `many` entries of xs from `start` on, laid out anew; the others keep their places
unfoldable pub with_stretch : (up : Bool) → (t : Graph) → (K : ℕ) → (changed : List ℕ) → (start many : ℕ) → List ℕ → List ℕ
with_stretch u t k cs i m xs =
    let held = take m (drop i xs) in
    let above = drop (i + m) xs in take i xs ++ (new_stretch u t k cs held above ++ above)

-- document 01: how a link call changes the order. Nothing but the stretch of level K changes
unfoldable pub new_order : (up : Bool) → (a b : ℕ) → Graph → (order : List ℕ) → List ℕ
new_order u a b g xs =
    let k = lower_level g a b in
    with_stretch u (relinked u a b g) k (changed u a b g) (stretch_start g k) (stretch_length g k) xs
