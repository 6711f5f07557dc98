-- Laws of the block reader.
-- a step
pub mod StepLaws
-- the functions in cells
pub mod Runs
-- its functions in a linked program
pub mod World
