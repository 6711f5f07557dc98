-- What the contracts of the shell tree's code cite beside the definitions of mesh, calls, tables and queries.
pub mod Trees
pub mod ThreeTables
