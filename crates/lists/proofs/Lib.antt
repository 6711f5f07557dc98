-- Laws of the words for lists, each in the module that bears its word's name. A law's name is its left side, outside in.
pub mod Tests
pub mod Member
pub mod Count
pub mod Sums
pub mod Distinct
pub mod Range
pub mod Filter
pub mod All
pub mod Ascending
pub mod Map
pub mod Parts
pub mod Overwrite
-- invariants of loops
pub mod Loops
