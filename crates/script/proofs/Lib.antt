-- For callers of the parser: `Texts`, that it takes exactly the texts of the language, and `Cases`, worked ones; `NumberLaws`,
-- decimal digits read. For this crate's functions alone: `LineLaws`.
pub mod Cases
mod LineLaws
pub mod NumberLaws
pub mod Texts
-- How long the lines are, for callers; `StepLaws` for its functions alone.
pub mod LengthLaws
mod StepLaws
pub mod PrintedLaws
-- Laws of the code of the script: `PutLaws` for the text that is put piece by piece, `ScriptLengths` for its length, `ScriptOutcomes` for
-- the calls, `Scripts` that the worked scripts are right.
pub mod PutLaws
pub mod ScriptLengths
pub mod ScriptOutcomes
pub mod Scripts
-- its functions in a linked program
pub mod World
