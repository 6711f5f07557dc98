-- What the contracts of the rows cite beside the definitions of mesh.
pub mod Rows
-- What the contracts of the sets cite beside the definitions of rows and mesh.
pub mod Sets
-- What the contracts of the list of links cite beside the definitions of mesh and rows.
pub mod Links
