-- What the contracts of the leaf code cite beside the definitions of mesh and calls.
pub mod Widths
pub mod Sizes
pub mod Steps
