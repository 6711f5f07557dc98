-- Laws of the flood.
-- the radios of a level as words
pub mod LevelLaws
-- its steps as the code has them, its invariant, and the connected core
pub mod FloodSteps
pub mod FloodLaws
pub mod FloodCore
-- its functions in a linked program
pub mod World
