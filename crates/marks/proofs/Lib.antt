-- Bytes moved by one place, loop by loop; a mark put into its place; each call by its questions.
pub mod Moving
pub mod Placed
pub mod CallLaws
-- What is left of a list decides as the whole does.
pub mod Left
-- A place tested part by part; loops over the store.
pub mod MarkTests
pub mod StoreLoops
-- its functions in a linked program
pub mod World
