-- Worked scripts of document 02, W-203. That every row is right is `cases_right` in proofs/Scripts.antt.
--   Case         a site's radios and links, with the script's lines and its length
--   case_good    is the row right
--   cases        the table
-- Definitions only.
use Rattle.std.specs.Prelude.{◌&&◌, ◌∷◌}
use Rattle.lists.specs.{Kit.{Bool, true, List, [], flat_map, ℕ, eqb}, Lists.{same}}
use Prim.Native.String.{String}
use Rattle.mesh.specs.Graph.{Graph, graph, link_of}
use Rattle.text.specs.Text.{bytes_of}
use Rattle.calls.specs.Script.{script_of, script_length}

pub record Case : Type 0 where
  pub site : Graph
  pub lines : List String
  pub size : ℕ

unfoldable pub case_good : Case → Bool
case_good c = same (script_of c.site) (flat_map bytes_of c.lines) && eqb (script_length c.site) c.size

unfoldable pub cases_good : List Case → Bool
cases_good [] = true
cases_good (c ∷ cs) = case_good c && cases_good cs

-- two linked radios and nothing else take 16 bytes; radios of one and of two digits, lower first; a site without links
unfoldable pub cases : List Case
cases =
    record { site = graph 2 (link_of 0 1 ∷ []); lines = "radios 2\n" ∷ "up 0 1\n" ∷ []; size = 16 }
    ∷ record {
      site = graph 12 (link_of 0 9 ∷ link_of 0 11 ∷ link_of 9 10 ∷ link_of 10 11 ∷ []);
      lines = "radios 12\n" ∷ "up 0 9\n" ∷ "up 0 11\n" ∷ "up 9 10\n" ∷ "up 10 11\n" ∷ [];
      size = 42;
    }
    ∷ record { site = graph 512 (link_of 99 511 ∷ []); lines = "radios 512\n" ∷ "up 99 511\n" ∷ []; size = 21 }
    ∷ record { site = graph 1 []; lines = "radios 1\n" ∷ []; size = 9 }
    ∷ []
