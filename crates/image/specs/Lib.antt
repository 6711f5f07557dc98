-- What the contracts of the blocks' code cite beside the definitions of mesh and calls.
pub mod Header
pub mod Columns
-- What the contracts of the form's code cite beside the definitions of mesh and calls.
pub mod Form
