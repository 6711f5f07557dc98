-- What the contracts of this crate cite: `Play` for the first line, `Lines` for what a line does, `Machine` for the bytes after
-- the first line, `Reading` for reads, the printing buffer and the status, `Words` for how a program is started. For readers: `Whole`, what a whole run
-- prints, line by line; `RunText`,
-- the same, executable; `Texts`, whole inputs with what they print.
pub mod Lines
pub mod Machine
pub mod Play
pub mod First
pub mod Whole
pub mod Reading
pub mod RunText
pub mod Texts
pub mod Words
-- The site that a run plays on.
pub mod Board
-- The reads of a run; lengths of fronts.
pub mod Reads
pub mod Counts
