-- For the proofs of the functions: parts as parents, links taken, rows by words, the rows of a level, levels skipped,
-- levels on sound tables, the contract met.
pub mod PartLaws
pub mod TakingLaws
pub mod RowLaws
pub mod LevelRows
pub mod SkipLaws
pub mod LevelsTaken
pub mod LevelLaws
pub mod AnswerLaws
-- its functions in a linked program
pub mod World
