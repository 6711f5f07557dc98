-- Floods: from a radio, over radios of a set. A set is eight words (`in_set`).
--   LevelWord, LevelSet  the radios with number k or more, as a word from radio i on, and as a set
--   Spread ts s v w        links lead from v to w over radios of the set s
--   Flood                  a flood on its way: the set, the queue of the radios that came in, and how many these are
--   MarkedBy              a radio that stands in a stretch of a list has x as neighbour
--   RowsJoined            the neighbours of the radios of a stretch, as a set
--   LayerTaken            the neighbours of the radios that came in last come in where the set has them
--   Floodable              what the flood wants: the queue has room, and v may be a radio
--   FloodDone             what the flood leaves
-- That on sound tables the radios that come in are the connected core is `member_flood` in proofs/FloodCore.antt.
-- Definitions only.
use Rattle.std.specs.Prelude.{◌≡◌, ◌↔◌, ◌&&◌, ◌+◌, ◌-◌, ◌≤◌, ◌<◌}
use Rattle.lists.specs.{Kit.{Bool, true, not, List, ℕ, min, ltb, leb, eqb, length, get_or, take, sets}, Lists.{count}}
use Rattle.lists.specs.{Lists.{member}}
use Rattle.mesh.specs.{Limits.{max_radios}, Tables.{digit}}
use Rattle.rows.specs.{Rows.{row_listed}, Sets.{in_set, common}}

-- ---- the radios of a level

-- x is a radio with number k or more
unfoldable pub of_level : (numbers : List ℕ) → (level : ℕ) → (x : ℕ) → Bool
of_level ns k x = ltb x (length ns) && leb k (get_or ns x 0)

abbrev pub LevelWord : (numbers : List ℕ) → (level first word : ℕ) → Type 0
LevelWord ns k i w = (m : ℕ) → m < 64 → digit w m ≡ of_level ns k (i + m)

abbrev pub LevelSet : (numbers : List ℕ) → (level : ℕ) → (set : List ℕ) → Type 0
LevelSet ns k s = (x : ℕ) → x < max_radios → in_set s x ≡ of_level ns k x

-- ---- whom the flood reaches

pub data Spread (ts set : List ℕ) (v : ℕ) : ℕ → Type 0 where
  start : Spread ts set v v
  onward : {w x : ℕ} → Spread ts set v w → member x (row_listed ts w) ≡ true → in_set set x ≡ true → Spread ts set v x

-- ---- a flood on its way

pub record Flood : Type 0 where
  pub set : List ℕ
  pub queue : List ℕ
  pub count : ℕ

abbrev pub flood_at : (set queue : List ℕ) → (count : ℕ) → Flood
flood_at s q c = record { set = s; queue = q; count = c }

-- the radios that came in, first come first
abbrev pub came_in : Flood → List ℕ
came_in f = take f.count f.queue

-- row j of the list marks x, for a place j from `from` on and before `to`
pub record MarkedBy (ts list : List ℕ) (from to x : ℕ) : Type 0 where
  pub place : ℕ
  pub low : from ≤ place
  pub high : place < to
  pub marks : member x (row_listed ts (get_or list place 0)) ≡ true

-- the set s has them, and no other radio
pub record RowsJoined (ts list : List ℕ) (from to : ℕ) (s : List ℕ) : Type 0 where
  pub some : (x : ℕ) → in_set s x ≡ true → MarkedBy ts list from to x
  pub all : (x : ℕ) → MarkedBy ts list from to x → in_set s x ≡ true

-- f before, e after
pub record LayerTaken (ts : List ℕ) (from : ℕ) (f e : Flood) : Type 0 where
  pub long : length e.set ≡ 8
  pub reach : List ℕ
  pub some : (x : ℕ) → in_set reach x ≡ true → MarkedBy ts f.queue from f.count x
  pub all : (x : ℕ) → MarkedBy ts f.queue from f.count x → in_set reach x ≡ true
  pub counted : e.count ≡ f.count + min (length f.queue - f.count) (length (common reach f.set))
  pub queued : e.queue ≡ sets f.queue f.count (common reach f.set)
  pub left : (w : ℕ) → in_set e.set w ≡ (in_set f.set w && not (member w (common reach f.set)))

-- ---- the whole flood

-- v may be a radio, and the queue has an entry for each of 512 radios
pub record Floodable (v queue : ℕ) : Type 0 where
  pub radio : v < max_radios
  pub room : max_radios ≤ queue

-- r radios came in, each once, and stand in front of the queue; the set has them no more
pub record FloodDone (ts : List ℕ) (v : ℕ) (old : List ℕ) (r : ℕ) (set queue : List ℕ) : Type 0 where
  pub long : length set ≡ 8
  pub few : r ≤ max_radios
  pub once : (w : ℕ) → count (λ x. eqb x w) (take r queue) ≤ 1
  pub radios : (w : ℕ) → (member w (take r queue) ≡ true) ↔ Spread ts old v w
  pub bits : (w : ℕ) → in_set set w ≡ (in_set old w && not (member w (take r queue)))
