-- Laws of a heard table, for its functions and their callers.
-- radios counted, word by word
pub mod TallyLaws
-- questions 14 and 7
pub mod AskLaws
-- the one-sided pairs
pub mod MarkLaws
-- the links to go down and to come up
pub mod WantLaws
-- Document 01's conditions row by row. `RowByRow`: tables are sound exactly when numbers rise along the order and every row is good.
-- `FirstLater`: the later neighbours of a radio, and the first of them, by its row and by the order. `HighestWord`: a word marks radios
-- of the site alone exactly when it is not above the highest such word.
pub mod RowByRow
pub mod FirstLater
pub mod HighestWord
