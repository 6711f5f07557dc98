-- What is proved of the exported calls.
-- each runs in cells, as crate hosts says of it
pub mod Runs
-- a step that is handed on
mod CommitStep
-- a node of the shell tree, in cells
mod NodeRow
-- and so in one linked program
pub mod World
