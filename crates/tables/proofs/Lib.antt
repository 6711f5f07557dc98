-- Laws of what the contracts of the leaf code cite, for its functions and their callers.
-- tables of both widths
pub mod WidthLaws
-- tables of entries
pub mod EntryLaws
-- the signed step
pub mod StepLaws
-- the greatest number
pub mod NumberLaws
-- clearing
pub mod ClearLaws
-- its functions in a linked program
pub mod World
