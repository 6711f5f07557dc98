-- What the contracts of the flood cite beside the definitions of mesh, calls and tables.
pub mod Floods
