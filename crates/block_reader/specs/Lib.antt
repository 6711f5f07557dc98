-- What the contracts of the block reader cite beside the definitions of mesh and calls.
pub mod Reader
