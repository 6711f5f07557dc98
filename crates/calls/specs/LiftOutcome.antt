-- The outcome of the question for one link that lifts a radio, as an executable definition.
--   pair           an answer
--   lift_outcome   the first pair that lifts v, by lower radio and then higher; or the refusal
-- The contract of the call (CallContracts.antt) is that its result is this outcome.
-- Definitions only.
use Rattle.lists.specs.Kit.{true, ℕ}
use Rattle.mesh.specs.{Tables.{Tables, graph_in}, Sound.{sound}}
use Rattle.calls.specs.{Questions.{ask, by_number, lengths_of, is_radio, site_refusal}, Lift.{lifting, first_pair, is_lifted}, declared.Pair.{Pair}}

-- document 02, W-212
abbrev pub pair : (number low high : ℕ) → Pair
pair r a b = record { number = r; low = a; high = b }

-- document 02, W-212: 1 to 4 and 20
unfoldable pub lift_outcome : (n v : ℕ) → Tables → Pair
lift_outcome n v t =
    let g = graph_in n t.links in
    let first = first_pair (lifting g v) in
    by_number (site_refusal n (lengths_of t) true (sound n t) (ask 4 (is_radio n v) (ask 20 (is_lifted (lifting g v)) 0)))
    (pair 0 first.low first.high) (λ q. pair q 0 0)
