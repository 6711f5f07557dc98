-- What the refusal numbers mean, in words. Definitions only.
--   words_of q        what the number means
--   refused_text q    "refused by", the number, a colon, and the words
use Rattle.std.specs.Prelude.{◌∷◌, ◌++◌}
use Rattle.lists.specs.Kit.{cond, List, ℕ, eqb}
use Rattle.text.specs.Text.{bytes_of, space, decimal}

-- proposals, marks and lifts
unfoldable pub further_words : (q : ℕ) → List ℕ
further_words q =
    cond (eqb q 16) (bytes_of "the proposal is not what asking would give now")
    (cond (eqb q 17) (bytes_of "a place of the store or the name breaks the rules")
    (cond (eqb q 18) (bytes_of "there is no mark of this name")
    (cond (eqb q 19) (bytes_of "a new name finds 8 marks")
    (cond (eqb q 20) (bytes_of "no link would raise the radio's number")
    (bytes_of "the call is refused")))))

-- images
unfoldable pub image_words : (q : ℕ) → List ℕ
image_words q =
    cond (eqb q 9) (bytes_of "the length is 0 or no multiple of 512")
    (cond (eqb q 10) (bytes_of "a block does not pass its check")
    (cond (eqb q 11) (bytes_of "the bytes are the image of no sound site")
    (cond (eqb q 15) (bytes_of "the bytes are the image of a site of another size")
    (further_words q))))

-- tables
unfoldable pub table_words : (q : ℕ) → List ℕ
table_words q =
    cond (eqb q 1) (bytes_of "the count of radios is not from 1 to 512")
    (cond (eqb q 2) (bytes_of "a table has another length")
    (cond (eqb q 3) (bytes_of "the tables are not sound")
    (cond (eqb q 12) (bytes_of "the page is shorter than the sheet")
    (cond (eqb q 13) (bytes_of "the buffer is shorter than the script")
    (cond (eqb q 14) (bytes_of "a heard row marks its own radio or one that is none")
    (image_words q))))))

-- radios, links and levels; and all others
unfoldable pub words_of : (q : ℕ) → List ℕ
words_of q =
    cond (eqb q 4) (bytes_of "a radio named is not below the count of radios")
    (cond (eqb q 5) (bytes_of "the ends of the link are the same radio")
    (cond (eqb q 6) (bytes_of "the link is up already, or down already")
    (cond (eqb q 7) (bytes_of "an end has 40 neighbours")
    (cond (eqb q 8) (bytes_of "the level is above the radio's number")
    (table_words q)))))

unfoldable pub refused_text : (q : ℕ) → List ℕ
refused_text q = bytes_of "refused by" ++ ((space ∷ decimal q) ++ (bytes_of ": " ++ words_of q))
