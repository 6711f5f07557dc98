-- a plan applied
pub mod Applied
pub mod LinkCalls
-- not-lower counts after a link
pub mod CountLaws
-- places after a link
pub mod PlacesLaws
-- a link on tables known to be sound
pub mod StepLaws
-- a batch
pub mod BatchLaws
-- Laws of a plan that is applied.
-- a set that radios are put into; the stretch and the step; a plan that fits
pub mod Marking
pub mod ChangeLaws
-- Asking and committing meet their contracts, on plain values.
pub mod ProposalLaws
-- its functions in a linked program
pub mod World
