-- What the contracts of the program `site` cite: the numbers after a verb, the first block that is bad, and the buffer for a text.
pub mod Given
pub mod Blocks
pub mod Room
-- Refusals in words.
pub mod Words
-- The inputs of the program `site` and the statuses of its runs; what it says where something goes wrong.
pub mod Inputs
pub mod Errors
-- A script played by the program `site`: what a line does, bytes in turn, reads, the end of the input.
pub mod Course
-- What the program `site` prints: the words of its verbs, the texts, and the contract of each verb.
pub mod Names
pub mod Texts
pub mod Said
-- The status of a run.
pub mod Status
