-- What a line after the first does to a site, and what it prints.
--   is_call l          is the line a link call
--   Called up n a b    a link call on tables and answer table, and the line that it prints
--   PassedOver        nothing is done and nothing printed
--   Played n l         what the line l does: tables and answer table before, the text, both after
--   Prints P b c       a text of which P holds is put into the printing buffer b, which is c after
-- Definitions only.
use Rattle.std.specs.Prelude.{◌≡◌}
use Rattle.lists.specs.Kit.{Bool, true, false, List, [], ℕ, take}
use Rattle.mesh.specs.Tables.{Tables}
use Rattle.calls.specs.{Replay.{link_line}, CallContracts.{LinkContract}, declared.Reply.{Reply}}
use Rattle.text.specs.Print.{Buffer, Puts}
use Rattle.script.specs.declared.lines.{Line.{Line}, Line.TheVariants.{Radios, Up, Down, Bad}}

-- document 01: all lines but the first are `up A B` or `down A B`
unfoldable pub is_call : Line → Bool
is_call (Radios n) = false
is_call (Up a b) = true
is_call (Down a b) = true
is_call Bad = false

-- t and w are the tables and the answer table before the call, v and x the same after it
pub record Called (up : Bool) (n a b : ℕ) (t : Tables) (w text : List ℕ) (v : Tables) (x : List ℕ) : Type 0 where
  pub reply : Reply
  pub does : LinkContract up n a b t w reply v x
  pub says : text ≡ link_line reply.number reply.step (take reply.count x)

-- no call: nothing is printed here, and the tables keep their content
pub record PassedOver (t : Tables) (w text : List ℕ) (v : Tables) (x : List ℕ) : Type 0 where
  pub says : text ≡ []
  pub tables : v ≡ t
  pub answer : x ≡ w

-- what a line does on a site of n radios
unfoldable pub Played : (n : ℕ) → Line → Tables → (w text : List ℕ) → Tables → (x : List ℕ) → Type 0
Played n (Radios k) t w text v x = PassedOver t w text v x
Played n (Up a b) t w text v x = Called true n a b t w text v x
Played n (Down a b) t w text v x = Called false n a b t w text v x
Played n Bad t w text v x = PassedOver t w text v x

-- a text of which P holds is put into the printing buffer
pub record Prints (P : List ℕ → Type 0) (b c : Buffer) : Type 0 where
  pub text : List ℕ
  pub holds : P text
  pub puts : Puts b text c
