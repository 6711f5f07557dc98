-- Laws of the code of the site sheet: `PutLaws` for the texts that are put piece by piece, `SheetOutcomes` for the call.
pub mod PutLaws
pub mod SheetOutcomes
-- its functions in a linked program
pub mod World
