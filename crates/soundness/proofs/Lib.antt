-- Laws of the soundness check, for its functions and their callers.
-- the loops: the order, one row, all rows
pub mod CheckLoops
pub mod Tallies
pub mod RowChecks
pub mod AllRows
-- question 4 after the first three
pub mod RadioLaws
-- the later neighbours of a radio
pub mod WakeLaws
-- the whole check, and its callers
pub mod CheckLaws
-- what sound tables say
pub mod SoundSite
-- the high counts, over the graph that the table marks
pub mod HighCounts
-- rows with too many bits
pub mod LongRows
-- its functions in a linked program
pub mod World
