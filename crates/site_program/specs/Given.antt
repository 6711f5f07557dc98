-- The numbers after a verb.
--   numbers v k           the numbers
--   is_name word          may the word be a file's name
--   given_of takes count v k   the numbers of a verb that takes so many, of so many words, of which v and k are the first
-- Definitions only.
use Rattle.std.specs.Prelude.{◌∷◌, Option, Some, None}
use Rattle.lists.specs.Kit.{Bool, true, cond, List, [], ℕ, eqb, ltb}
use Rattle.script.specs.Texts.{value_of, alone_of}
use Rattle.site_program.specs.declared.arguments.Numbers.{Numbers}

-- it does not begin with a digit: '0' is 48, '9' is 57
unfoldable pub is_name : (word : List ℕ) → Bool
is_name [] = true
is_name (b ∷ bs) = cond (ltb b 48) true (ltb 57 b)

abbrev pub numbers : (v k : ℕ) → Option Numbers
numbers v k = Some (record { v = v; k = k })

-- the second number is read
abbrev pub second : (v : ℕ) → Option ℕ → Option Numbers
second v None = None
second v (Some k) = numbers v k

-- the first number is read, and the second where two are taken
abbrev pub first : (takes : ℕ) → Option ℕ → (k : List ℕ) → Option Numbers
first takes None k = None
first takes (Some v) k = cond (eqb takes 1) (numbers v 0) (second v (value_of (alone_of k)))

unfoldable pub given_of : (takes count : ℕ) → (v k : List ℕ) → Option Numbers
given_of takes count v k = cond (eqb takes count) (cond (eqb takes 0) (numbers 0 0) (first takes (value_of (alone_of v)) k)) None
