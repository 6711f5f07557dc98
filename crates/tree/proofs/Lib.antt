-- Laws of the shell tree's code.
-- one radio of a level
pub mod VisitSteps
-- the radios of a level, from the order
pub mod ShellSets
-- names and nodes, level by level
pub mod ShellCover
pub mod NodeLists
pub mod GrowLaws
pub mod LevelLoop
pub mod TreeLoop
-- the answer, refused and accepted
pub mod TreeAnswer
-- the tree in three tables, and as a list of nodes
pub mod ThreeTables
-- its functions in a linked program
pub mod World
