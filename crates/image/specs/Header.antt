-- What block 0 of an image says.
--   HeaderOf bs h      the image bs says what is in the header h
--   header n m         the header that says n radios and m links
-- Definitions only.
use Rattle.std.specs.Prelude.{◌≡◌, ◌<◌}
use Rattle.lists.specs.Kit.{List, ℕ}
use Rattle.mesh.specs.Image.{word_at}
use Rattle.image.specs.declared.header.Header.{Header}

abbrev pub header : (radios links : ℕ) → Header
header n m = record { radios = n; links = m }

-- two bytes each
pub record HeaderOf (image : List ℕ) (h : Header) : Type 0 where
  pub radios_said : h.radios ≡ word_at image 4
  pub links_said : h.links ≡ word_at image 6
  pub radios_fit : h.radios < 65536
  pub links_fit : h.links < 65536
