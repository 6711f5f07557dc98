-- Links, numbers and order as a call is lent them: what its contract says of the three lists behind its references.
--   lent l k o    the tables with these lists
--   read_of t     the tables that are lent to be read, in one struct
-- Definitions only.
use Rattle.lists.specs.Kit.{List, ℕ}
use Rattle.mesh.specs.{Tables.{Tables, tables}, declared.Lent.{Lent}}

abbrev pub lent : (links numbers order : List ℕ) → Tables
lent l k o = tables l k o

abbrev pub read_of : Lent → Tables
read_of t = lent t.links.now t.numbers.now t.order.now
