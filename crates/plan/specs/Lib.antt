-- the changed radios of a plan
pub mod Planned
-- Where a walk begins and goes on.
pub mod Places
-- The leaves of the walk by words.
pub mod WideSteps
-- What the parts of a link call come back with.
pub mod Plans
-- the questions, and a plan by them
pub mod Asked
-- the turns of the peel
pub mod Turns
-- the peel of a level
pub mod Peels
-- the walk of a link going up
pub mod Walks
-- the same by words
pub mod WideWalk
