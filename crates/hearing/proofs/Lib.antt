-- a hearing
pub mod HearLoops
pub mod HearCall
-- its functions in a linked program
pub mod World
