-- Laws of the writer.
-- a block filled in
pub mod FillerLaws
-- links put into a block
pub mod LinksPut
-- the blocks
pub mod BlockFilling
-- the writer's outcomes
pub mod WriteLaws
-- its functions in a linked program
pub mod World
