-- A mark put into its place; for the contracts of private functions.
pub mod Placing
-- The store as loops pass over it; what the calls promise is in mesh and calls.
pub mod Store
