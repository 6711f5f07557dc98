-- What the contracts of the check cite beside the definitions of mesh, calls and tables.
pub mod Checks
