-- The links and the order that an image lists, as they are read in place: bs is the image.
--   links_up_to n bs m           the first m links of the image bs of n radios
--   order_entry bs j             entry j of the order of the image bs
--   LinkAt                      a-b is link j of the image of n radios
--   passed m q                   how many of m links stand in the first q blocks of links
--   listed_links h bs            all links that the header says
--   links_before h q bs          those in the blocks of links before block q
--   key_of x                     the key of a link whose four bytes are the number x: 65536 times the lower radio, and the higher one
--   key_link k                   the link with the key k
--   next_key n p k               the link with the key k is proper and stands after the one with the key p
--   listed_from n p ls           the links ls are proper and stand ascending after p
--   Listed                       whether m links are listed well is what the first j, whose last one has a key, and the links after them decide
--   tallied rs s ls v            how many links of v in ls have another end w with the rank of v below that of w and the slack s
--   Tallied                      these counts for each radio below n
--   count_link rs s a b cs       the counts cs with the link a-b counted at each end whose rank is below that of the other and the slack s
--   LinkFits                    what counting a link wants
--   count_at rs s bs at cs       the same with the link that stands at a place of the image bs
--   LinkThere                   what counting the link at that place wants
--   few_ends most n ls           no radio below n has more than `most` links in ls
--   running_maxima_of value m xs the running maxima of the values along xs, and at least m
--   LinksRoom                   what going through the first m links wants
--   TallyRoom                   what counting over the first m links wants
--   PartIs                      where the links of a block stand, and how many there are
--   OrderRead                   the first k entries of the image's order are read
--   OrderCounted                an order with each radio once, and the counts of later neighbours
--   KOrderDecided              whether an order is a k-order, and then the numbers
--   SoundDecided                whether no radio has too many links, too
--   SiteRoom                    what deciding wants
--   SiteDecided                 whether the first m links and the order make a sound site, and then the order and the numbers
-- Definitions only.
use Rattle.std.specs.Prelude.{◌≡◌, ◌&&◌, ◌∷◌, ◌+◌, ◌*◌, ◌-◌, ◌/◌, ◌%◌, ◌≤◌, ◌<◌}
use Rattle.lists.specs.{Kit.{Bool, true, cond, List, [], map, ℕ, suc, min, max, ltb, leb, length, get_or, set}}
use Rattle.lists.specs.{Kit.{drop}, Lists.{range, all, count}}
use Rattle.image.specs.declared.header.Header.{Header}
use Rattle.image_reader.specs.declared.blocks.{Last.{Last}, Part.{Part}}
use Rattle.mesh.specs.{Limits.{max_radios, max_neighbours}, Graph.{Link, Graph, graph, link_of, link_before, other_ends, linked, proper, ascending}}
use Rattle.mesh.specs.{Cores.{number}, Orders.{each_once, is_k_order}, Image.{block_bytes, block_entries, block_links, order_blocks, block_count, word_at}}
use Rattle.mesh.specs.{Image.{entry_at, image_link, image_order}}

-- `image_links` of mesh is this with the image's own count
unfoldable pub links_up_to : (n : ℕ) → (image : List ℕ) → (m : ℕ) → List Link
links_up_to n bs m = map (image_link n bs) (range 0 m)

abbrev pub order_entry : (image : List ℕ) → (j : ℕ) → ℕ
order_entry bs j = word_at bs (entry_at 1 block_entries 2 j)

pub record LinkAt (n : ℕ) (image : List ℕ) (j a b : ℕ) : Type 0 where
  pub low : a ≡ (image_link n image j).low
  pub high : b ≡ (image_link n image j).high

abbrev pub passed : (m q : ℕ) → ℕ
passed m q = min m (block_links * q)

abbrev pub listed_links : Header → (image : List ℕ) → List Link
listed_links h bs = links_up_to h.radios bs h.links

abbrev pub links_before : Header → (q : ℕ) → (image : List ℕ) → List Link
links_before h q bs = links_up_to h.radios bs (passed h.links q)

unfoldable pub listed_from : (n : ℕ) → (before : Link) → List Link → Bool
listed_from n p [] = true
listed_from n p (l ∷ ls) = ((ltb l.low l.high && ltb l.high n) && link_before p l) && listed_from n l ls

unfoldable pub key_of : (x : ℕ) → ℕ
key_of x = 65536 * (x % 65536) + x / 65536

abbrev pub key_link : (key : ℕ) → Link
key_link k = link_of (k / 65536) (k % 65536)

unfoldable pub next_key : (n last key : ℕ) → Bool
next_key n p k = (ltb (k / 65536) (k % 65536) && ltb (k % 65536) n) && ltb p k

pub record Listed (h : Header) (image : List ℕ) (last : Last) (j : ℕ) : Type 0 where
  pub low : j ≤ h.links
  pub is :
      (proper h.radios (listed_links h image) && ascending (listed_links h image))
      ≡ (last.good && listed_from h.radios (key_link last.key) (map (image_link h.radios image) (range j (h.links - j))))

unfoldable pub tallied : (ranks : List ℕ) → (slack : ℕ) → List Link → (v : ℕ) → ℕ
tallied rs s ls v = count (λ w. ltb (get_or rs v 0) (get_or rs w 0 + s)) (other_ends v ls)

pub record Tallied (n : ℕ) (ranks : List ℕ) (slack : ℕ) (links : List Link) (counts : List ℕ) : Type 0 where
  pub at : (v : ℕ) → v < n → get_or counts v 0 ≡ tallied ranks slack links v

unfoldable pub count_link : (ranks : List ℕ) → (slack a b : ℕ) → (counts : List ℕ) → List ℕ
count_link rs s a b cs =
    let once = set cs a (get_or cs a 0 + cond (ltb (get_or rs a 0) (get_or rs b 0 + s)) 1 0) in
    set once b (get_or once b 0 + cond (ltb (get_or rs b 0) (get_or rs a 0 + s)) 1 0)

-- both ends have a count, and neither is full
pub record LinkFits (a b : ℕ) (counts : List ℕ) : Type 0 where
  pub lower : a < b
  pub there : b < length counts
  pub low_fits : get_or counts a 0 < 65535
  pub high_fits : get_or counts b 0 < 65535

abbrev pub count_at : (ranks : List ℕ) → (slack : ℕ) → (image : List ℕ) → (at : ℕ) → (counts : List ℕ) → List ℕ
count_at rs s bs at cs = count_link rs s (word_at bs at) (word_at bs (at + 2)) cs

-- its four bytes are there, and its radios have ranks
pub record LinkThere (image : List ℕ) (at ranks : ℕ) (counts : List ℕ) : Type 0 where
  pub whole : at + 4 ≤ length image
  pub ranked : word_at image (at + 2) < ranks
  pub fits : LinkFits (word_at image at) (word_at image (at + 2)) counts

unfoldable pub few_ends : (most n : ℕ) → List Link → Bool
few_ends most n ls = all (λ v. leb (length (other_ends v ls)) most) (range 0 n)

-- `running_maxima` of mesh is this with the later-neighbour counts
unfoldable pub running_maxima_of : (value : ℕ → ℕ) → (top : ℕ) → List ℕ → List ℕ
running_maxima_of c m [] = []
running_maxima_of c m (x ∷ xs) = let top = max m (c x) in top ∷ running_maxima_of c top xs

-- an image with blocks for m links
pub record LinksRoom (h : Header) (image : List ℕ) : Type 0 where
  pub most : h.radios ≤ max_radios
  pub few : h.links < 65536
  pub whole : block_bytes * block_count h.radios h.links ≤ length image

-- a rank and a count for each radio, and links that are proper
pub record TallyRoom (h : Header) (image : List ℕ) (ranks counts : ℕ) : Type 0 where
  pub most : h.radios ≤ max_radios
  pub few : h.links < 65536
  pub whole : block_bytes * block_count h.radios h.links ≤ length image
  pub ranked : ranks ≡ h.radios
  pub counted : counts ≡ h.radios
  pub is_proper : proper h.radios (links_up_to h.radios image h.links) ≡ true

pub record PartIs (h : Header) (q : ℕ) (part : Part) : Type 0 where
  pub at_is : part.at ≡ block_bytes * (1 + order_blocks h.radios + q) + 4
  pub count_is : part.count ≡ min block_links (h.links - block_links * q)

abbrev pub OrderRead : (image : List ℕ) → (k : ℕ) → (order : List ℕ) → Type 0
OrderRead bs k xs = (j : ℕ) → j < k → get_or xs j 0 ≡ order_entry bs j

-- entry q of the order is followed by the radios from place q + 1 on
pub record OrderCounted (n : ℕ) (links : List Link) (order later : List ℕ) : Type 0 where
  pub long : length order ≡ n
  pub once : each_once n order ≡ true
  pub counted : (q : ℕ) → q < length order → get_or later (get_or order q 0) 0 ≡ count (linked (graph n links) (get_or order q 0)) (drop (suc q) order)

-- xs is the order, and `after` holds a number for each radio
pub record KOrderDecided (g : Graph) (xs after : List ℕ) (r : Bool) : Type 0 where
  pub answer : r ≡ is_k_order g xs
  pub numbers : r ≡ true → (v : ℕ) → v < g.n → get_or after v 0 ≡ number g v

pub record SoundDecided (n : ℕ) (links : List Link) (xs after : List ℕ) (r : Bool) : Type 0 where
  pub answer : r ≡ (few_ends max_neighbours n links && is_k_order (graph n links) xs)
  pub numbers : r ≡ true → (v : ℕ) → v < n → get_or after v 0 ≡ number (graph n links) v

-- an image with blocks for n radios and m links, and two tables with an entry for each radio
pub record SiteRoom (h : Header) (image : List ℕ) (order numbers : ℕ) : Type 0 where
  pub most : h.radios ≤ max_radios
  pub few : h.links < 65536
  pub whole : block_bytes * block_count h.radios h.links ≤ length image
  pub order_long : order ≡ h.radios
  pub numbers_long : numbers ≡ h.radios

pub record SiteDecided (h : Header) (image order numbers : List ℕ) (r : Bool) : Type 0 where
  pub answer :
      r ≡ ((proper h.radios (listed_links h image) && ascending (listed_links h image))
      && (few_ends max_neighbours h.radios (listed_links h image) && is_k_order (graph h.radios (listed_links h image)) (image_order h.radios image)))
  pub order_is : r ≡ true → order ≡ image_order h.radios image
  pub numbers_are : r ≡ true → (v : ℕ) → v < h.radios → get_or numbers v 0 ≡ number (graph h.radios (listed_links h image)) v
