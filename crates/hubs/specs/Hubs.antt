-- Two hubs, one mesh (document 02, W-214): hubs that take the same link calls in different arrangements hold the same mesh.
--   same_call, times   a link call by its direction and its two radios, in either order; how often it stands in a list
--   SameCalls         two lists have the same calls the same number of times
--   Cleared n t        the tables t were left by an accepted clearing of n radios
--   Singles n es ss    the list es is the single link calls ss, none refused; calls that only read may stand between them
--   TwoHubs C         two hubs that start cleared with the same n and take the same single link calls: C holds of what they hold
--   EqualSites        equal links and numbers, and so what is worked out from links
--   EqualAnswers      the shell tree, backbone and staircase calls with equal lent lists answer equal
-- Calls that stand for several link calls, committings, images and coming back to a mark lie outside.
-- The proofs are `confluence` and `calls_agree` in proofs/Confluence.antt. Definitions only.
use Rattle.std.specs.Prelude.{◌≡◌, ◌&&◌, ◌||◌, ◌∷◌, ◌+◌}
use Rattle.lists.specs.Kit.{Bool, cond, Bool·beq, List, [], ℕ, eqb}
use Rattle.mesh.specs.{Tables.{Tables}, declared.Node.{Node}}
use Rattle.calls.specs.{Switches.{Switch, switch}, Outcomes.{tabled, clear_outcome, backbone_outcome, tree_outcome, staircase_outcome}, Book.{Answer, Call}}
use Rattle.calls.specs.{Book.{linking, other}, Runs.{Event, event, events, after}}

-- ---- the same calls

-- a single link call by its direction and its two radios, whichever it names first
unfoldable pub same_call : (up : Bool) → (a b : ℕ) → Switch → Bool
same_call up a b s = Bool·beq s.up up && ((eqb s.a a && eqb s.b b) || (eqb s.a b && eqb s.b a))

-- how often it stands in the list
unfoldable pub times : (up : Bool) → (a b : ℕ) → List Switch → ℕ
times up a b [] = 0
times up a b (s ∷ ss) = cond (same_call up a b s) 1 0 + times up a b ss

-- the same calls the same number of times
unfoldable pub SameCalls : (ss rs : List Switch) → Type 0
SameCalls ss rs = (up : Bool) (a b : ℕ) → times up a b ss ≡ times up a b rs

-- ---- a hub

-- "both start cleared with the same n": left by an accepted clearing, whatever the tables held before
pub record Cleared (n : ℕ) (t : Tables) : Type 0 where
  pub before : Tables
  pub cleared : tabled 0 t ≡ clear_outcome n before

-- "single link calls only", none refused. A call that only reads is `other` to a run, and leaves the tables
pub data Singles (n : ℕ) : List Event → List Switch → Type 0 where
  no_more : Singles n [] []
  single :
      {up : Bool} {a b w : ℕ} {t v : Tables} {h : Answer} {es : List Event} {ss : List Switch} → h.number ≡ 0 → Singles n es ss →
      Singles n (event (linking up n a b w) t (h ∷ []) v ∷ es) (switch up a b ∷ ss)
  only_reads :
      {t v : Tables} {hs : List Answer} {es : List Event} {ss : List Switch} → Singles n es ss → Singles n (event other t hs v ∷ es) ss

-- ---- two hubs

-- v and w are what the hubs hold in the end. In a run each call gets the tables that the one before it left: nobody else writes them
unfoldable pub TwoHubs : ((n : ℕ) → (v w : Tables) → Type 0) → Type 0
TwoHubs C =
    (n : ℕ) (t u : Tables) (cs ds : List Call) (ss rs : List Switch) → Cleared n t → Cleared n u →
    Singles n (events cs t) ss → Singles n (events ds u) rs → SameCalls ss rs → C n (after cs t) (after ds u)

-- "equal links and numbers, and equal shell trees, backbones and staircase trees": the three are worked out from the links alone; orders and images may differ
pub record EqualSites (v w : Tables) : Type 0 where
  pub links : v.links ≡ w.links
  pub numbers : v.numbers ≡ w.numbers

-- what the two calls come back with and leave of what is lent; m is the n that both are given, right or wrong
pub record EqualAnswers (v w : Tables) : Type 0 where
  pub tree : (m : ℕ) (ns : List Node) (xs : List ℕ) → tree_outcome m v ns xs ≡ tree_outcome m w ns xs
  pub backbone : (m : ℕ) (xs : List ℕ) → backbone_outcome m v xs ≡ backbone_outcome m w xs
  pub staircase : (m : ℕ) (xs : List ℕ) → staircase_outcome m v xs ≡ staircase_outcome m w xs
