-- The words of the program `site`.
--   plain_verb_of word   the verb of a word, of the ones that print what one call writes, or no call's
--   verb_of word         the verb of a word; `Unknown` where it is none
--   numbers_of verb      how many numbers follow the verb
-- Laws are in proofs/NameLaws.antt. Definitions only.
use Rattle.lists.specs.{Kit.{cond, List, ℕ}, Lists.{same}}
use Rattle.text.specs.Text.{bytes_of}
use Rattle.site_program.specs.declared.names.{Verb.{Verb}, Verb.TheVariants.{Help, Check, Numbers, Sheet, Script, Image, Backbone, Staircase, Tree}}
use Rattle.site_program.specs.declared.names.{Verb.TheVariants.{Core, Lift, Unknown}}

unfoldable pub plain_verb_of : (word : List ℕ) → Verb
plain_verb_of w =
    cond (same w (bytes_of "help")) Help
    (cond (same w (bytes_of "check")) Check
    (cond (same w (bytes_of "numbers")) Numbers
    (cond (same w (bytes_of "sheet")) Sheet (cond (same w (bytes_of "script")) Script (cond (same w (bytes_of "image")) Image Unknown)))))

unfoldable pub verb_of : (word : List ℕ) → Verb
verb_of w =
    cond (same w (bytes_of "backbone")) Backbone
    (cond (same w (bytes_of "staircase")) Staircase
    (cond (same w (bytes_of "tree")) Tree
    (cond (same w (bytes_of "core")) Core (cond (same w (bytes_of "lift")) Lift (plain_verb_of w)))))

unfoldable pub numbers_of : Verb → ℕ
numbers_of Core = 2
numbers_of Lift = 1
numbers_of Help = 0
numbers_of Check = 0
numbers_of Numbers = 0
numbers_of Sheet = 0
numbers_of Script = 0
numbers_of Image = 0
numbers_of Backbone = 0
numbers_of Staircase = 0
numbers_of Tree = 0
numbers_of Unknown = 0
