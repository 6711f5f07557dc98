-- Laws of the definitions in specs/. For readers: `WholeLaws`, that bytes taken one by one print what the input's lines say;
-- `DecidedLaws`, that this is one text; `RunLaws`, that it is the executable one; `Texts`, whole inputs with what they print;
-- `SizeLaws`, how long texts are; `ReadingLaws`, that all of what the reads brought is printed, and is written or waits.
pub mod PlayLaws
pub mod LineLaws
pub mod MachineLaws
pub mod ByteLaws
pub mod BytesLaws
pub mod SplitLaws
pub mod WholeLaws
pub mod SizeLaws
pub mod BoardLaws
pub mod ReadingLaws
pub mod RunLaws
pub mod Texts
pub mod DecidedLaws
mod StatusLaws
mod WordLaws
-- Laws of the definitions in specs/: what a read found, and reads one after another.
pub mod ReadLaws
