-- The peel of a level, as its loop sees it: f tells neighbours after the call.
--   stretch order start size   the entries of the level's stretch
--   above order start size     the entries after it
--   linked_after               neighbours after the call
--   Level                      what the peel is made from: numbers, order and places that fit together, and neighbours after the call
--   stretch_at start size      where a stretch stands
--   Turning                    so many radios are taken, what is left, its counters and the fitting places
--   LeftSet                   a set that has all radios but the taken
--   PeelReady                 the same before the first turn, with rows for the loop
--   PeelDone                  what the loop comes back with: the taken in front of the list, the stuck by their counters
-- Laws are in proofs/LevelLaws.antt and proofs/PeelTurns.antt. Definitions only.
use Rattle.std.specs.Prelude.{◌≡◌, ◌&&◌, ◌+◌, ◌*◌, ◌≤◌, ◌<◌}
use Rattle.lists.specs.{Kit.{Bool, true, false, not, List, [], ℕ, ltb, leb, length, get_or, take, drop}, Lists.{count, filter}}
use Rattle.lists.specs.{Lists.{member, In}}
use Rattle.mesh.specs.{Limits.{max_radios, row_bytes}, Graph.{linked, relinked}, Tables.{marked, put_link, graph_in}, Peel.{Takes, Peels}}
use Rattle.rows.specs.Sets.{in_set}
use Rattle.plan.specs.{Places.{level_start, level_size}, declared.turn.Call.{Call}, declared.stretch.Stretch.{Stretch}}

abbrev pub stretch : (order : List ℕ) → (start size : ℕ) → List ℕ
stretch os start size = take size (drop start os)

abbrev pub above : (order : List ℕ) → (start size : ℕ) → List ℕ
above os start size = drop (start + size) os

abbrev pub linked_after : (up : Bool) → (a b n : ℕ) → (links : List ℕ) → (v w : ℕ) → Bool
linked_after up a b n ts v w = linked (relinked up a b (graph_in n ts)) v w

pub record Level (f : ℕ → ℕ → Bool) (numbers order places : List ℕ) (k start size : ℕ) : Type 0 where
  pub small : length order ≤ max_radios
  pub numbers_length : length numbers ≡ length order
  pub places_length : length order ≤ length places
  pub fits : start + size ≤ length order
  pub radios : (p : ℕ) → p < length order → get_or order p 0 < length order
  pub placed : (p : ℕ) → start ≤ p → p < start + size → get_or places (get_or order p 0) 0 ≡ p
  pub numbered : (p : ℕ) → start ≤ p → p < start + size → get_or numbers (get_or order p 0) 0 ≡ k
  pub stands :
      (v : ℕ) → v < length order → get_or numbers v 0 ≡ k →
      (start ≤ get_or places v 0) × (get_or places v 0 < start + size) × (get_or order (get_or places v 0) 0 ≡ v)
  pub within : (v w : ℕ) → f v w ≡ true → w < length order
  pub irreflexive : (v : ℕ) → f v v ≡ false
  pub symmetric : (v w : ℕ) → f v w ≡ f w v

abbrev pub stretch_at : (start size : ℕ) → Stretch
stretch_at start size = record { start = start; size = size }

pub record Turning (f : ℕ → ℕ → Bool) (most : ℕ) (order places : List ℕ) (at : Stretch) (taken counters fits : List ℕ) : Type 0 where
  pub rest : List ℕ
  pub takes : Takes f most (above order at.start at.size) (stretch order at.start at.size) taken rest
  pub counted :
      (v : ℕ) → In v rest → get_or counters v 0 ≡ count (f v) rest + count (f v) (above order at.start at.size)
  pub fitting :
      (v : ℕ) → In v (stretch order at.start at.size) → in_set fits (get_or places v 0) ≡ (member v rest && leb (get_or counters v 0) most)
  pub standing : (p : ℕ) → p < max_radios → in_set fits p ≡ true → (at.start ≤ p) × (p < at.start + at.size)
  pub spent : (v : ℕ) → In v taken → get_or counters v 0 ≤ most
  pub counters_long : length order ≤ length counters
  pub fits_long : length fits ≡ 8

pub record LeftSet (taken left : List ℕ) : Type 0 where
  pub long : length left ≡ 8
  pub has : (v : ℕ) → v < max_radios → in_set left v ≡ not (member v taken)

pub record PeelReady (call : Call) (links numbers order places counters fits : List ℕ) : Type 0 where
  pub level : Level (linked_after call.up call.a call.b (length order) links) numbers order places call.level
      (level_start numbers call.level) (level_size numbers call.level)
  pub differ : call.a ≡ call.b → ⊥
  pub ends : (call.a < length order) × (call.b < length order)
  pub links_length : length links ≡ row_bytes * length order
  pub row_is :
      (v w : ℕ) → v < length order → w < max_radios → marked (put_link call.up call.a call.b links) v w
      ≡ linked_after call.up call.a call.b (length order) links v w
  pub turning :
      Turning (linked_after call.up call.a call.b (length order) links) call.most order places
      (stretch_at (level_start numbers call.level) (level_size numbers call.level)) [] counters fits

pub record PeelDone (call : Call) (links numbers order : List ℕ) (taken : ℕ) (counters list : List ℕ) : Type 0 where
  pub fits : taken ≤ level_size numbers call.level
  pub peels :
      Peels (linked_after call.up call.a call.b (length order) links) call.most
      (above order (level_start numbers call.level) (level_size numbers call.level))
      (stretch order (level_start numbers call.level) (level_size numbers call.level)) (take taken list)
      (filter (λ v. ltb call.most (get_or counters v 0)) (stretch order (level_start numbers call.level) (level_size numbers call.level)))
