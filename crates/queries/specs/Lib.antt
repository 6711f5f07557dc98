-- What the contracts of the backbone's code cite beside the definitions of mesh, calls and tables.
pub mod Parts
