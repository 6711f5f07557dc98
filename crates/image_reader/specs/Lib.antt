-- What the contracts of the reader cite beside the definitions of mesh and calls.
pub mod Reading
-- What the contracts of the crate cite beside the definitions of mesh.
pub mod Site
