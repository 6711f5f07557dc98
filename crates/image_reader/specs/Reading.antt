-- The reader's questions about an image. An image says its n in its header, so the header's n is the only one to be tried.
--   alone_refusal      1, 9, 10, 15, 11
--   header_refusal     9, 10, and 11 where the header says no size
--   Opened            an image whose header is opened
--   OpenedAs          the header that is opened, or the question that refuses
--   ImageRoom         what deciding question 11 wants
--   ImageDecided      whether the bytes are an image of n radios, and then its order and its numbers
--   SourceRoom        what deciding questions 15 and 11 wants
--   SourceDecided     15, 11 or 0, and then the order and the numbers
-- Definitions only.
use Rattle.std.specs.Prelude.{Result, Ok, Err, ◌≡◌, ◌≤◌, ◌<◌}
use Rattle.lists.specs.Kit.{Bool, true, List, ℕ, get_or}
use Rattle.mesh.specs.{Limits.{max_radios, size_good}, Cores.{number}, Image.{word_at, image_order, image_graph, checks_good, is_image}}
use Rattle.calls.specs.{Answers.{refusal_number}, declared.Refusal.{Refusal}, Questions.{ask, blocks_refusal, image_refusal}, Chains.{source_refusal}}
use Rattle.image.specs.{Header.{HeaderOf}, declared.header.Header.{Header}}

-- an image alone, with no tables to read it into: 1, 9, 10, 15, 11
unfoldable pub alone_refusal : (n : ℕ) → (image : List ℕ) → ℕ
alone_refusal n bs = ask 1 (size_good n) (image_refusal n bs)

unfoldable pub header_refusal : (image : List ℕ) → ℕ
header_refusal bs = blocks_refusal bs (ask 11 (size_good (word_at bs 4)) 0)

-- the header gets yes, and says this, which is a size
pub record Opened (image : List ℕ) (header : Header) : Type 0 where
  pub asked : 0 ≡ header_refusal image
  pub said : HeaderOf image header
  pub small : header.radios ≤ max_radios

abbrev pub OpenedAs : (image : List ℕ) → Result Header Refusal → Type 0
OpenedAs bs (Ok h) = Opened bs h
OpenedAs bs (Err r) = refusal_number r ≡ header_refusal bs

-- an image of n radios and m links by its header, whose blocks pass their checks, and tables with an entry for each radio
pub record ImageRoom (h : Header) (image : List ℕ) (listed cores : ℕ) : Type 0 where
  pub most : h.radios ≤ max_radios
  pub says : HeaderOf image h
  pub checked : checks_good image ≡ true
  pub listed_long : listed ≡ h.radios
  pub cores_long : cores ≡ h.radios

pub record ImageDecided (n : ℕ) (image order numbers : List ℕ) (r : Bool) : Type 0 where
  pub answer : r ≡ is_image n image
  pub order_is : r ≡ true → order ≡ image_order n image
  pub numbers_are : r ≡ true → (v : ℕ) → v < n → get_or numbers v 0 ≡ number (image_graph n image) v

-- n and the radios of the header are sizes, and there is room for these radios
pub record SourceRoom (n : ℕ) (h : Header) (image : List ℕ) (listed cores : ℕ) : Type 0 where
  pub this_size : size_good n ≡ true
  pub says_size : size_good h.radios ≡ true
  pub room : ImageRoom h image listed cores

pub record SourceDecided (n : ℕ) (image order numbers : List ℕ) (r : ℕ) : Type 0 where
  pub answer : r ≡ source_refusal n image
  pub order_is : r ≡ 0 → order ≡ image_order n image
  pub numbers_are : r ≡ 0 → (v : ℕ) → v < n → get_or numbers v 0 ≡ number (image_graph n image) v
