-- What the contracts of the writer cite beside the definitions of mesh and calls.
pub mod Filler
pub mod Blocks
