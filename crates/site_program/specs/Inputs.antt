-- The inputs of the program `site`, and the statuses of its runs.
--   script_word      what a script begins with
--   kind_of bytes    is the input a script; any other is an image
--   wrong            the status of a run in which something goes wrong: 0 is that of the others
-- Definitions only.
use Rattle.site_program.specs.declared.kinds.{Kind.{Kind}, Kind.TheVariants.{Script, Image}}
use Rattle.lists.specs.{Kit.{cond, List, ℕ, take}, Lists.{same}}
use Rattle.text.specs.Text.{bytes_of}

-- document 01: line 1 is `radios N`
abbrev pub script_word : List ℕ
script_word = bytes_of "radios"

-- the input begins with the word; an image begins with a zero byte, its first block's kind
unfoldable pub kind_of : (input : List ℕ) → Kind
kind_of xs = cond (same (take 6 xs) script_word) Script Image

abbrev pub wrong : ℕ
wrong = 1
