-- Document 01's definitions, and document 02's beside them, one file a subject, in the order in which a reader needs them.
pub mod Limits
pub mod Graph
pub mod Cores
pub mod Orders
pub mod Levels
pub mod Tables
pub mod Sound
pub mod Connected
pub mod Tree
pub mod Staircase
pub mod Image
pub mod Marks
-- what proofs and contracts cite beside them
pub mod Peel
pub mod Valid
pub mod Lent
pub mod MarkPlaces
