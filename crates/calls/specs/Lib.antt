-- What calls promise, in the order in which a reader needs it. `Answers` has refusals and replies; `Sheet` is the printed page, `Script` the script that rebuilds a site;
-- `Outcomes`, `MarkOutcomes` and `LiftOutcome` are what each call comes to, worked out; `Chains` and `CallContracts` name questions and equations for the code;
-- `Results` is what a caller has after an accepted call (property 2); `Older` is what calls give of older tables and images; `Replay` is
-- what the replay program prints; `Heard` and `Hearing` are W-205, links that both ends hear; `Lift` is what lifts a radio (W-212);
-- `Marks` and `MarkResults` are the named marks of W-211; `Worked` and `Cases` are the worked cases of document 01, `SheetCases` the
-- site sheet's; `SheetCells` is for the code that prints the sheet.
pub mod Answers
pub mod Sheet
pub mod Script
pub mod Questions
pub mod Switches
pub mod Batches
pub mod Heard
pub mod Hearing
pub mod Lift
pub mod Marks
pub mod Outcomes
pub mod Chains
pub mod MarkOutcomes
pub mod LiftOutcome
pub mod CallContracts
pub mod Results
pub mod MarkResults
pub mod Older
pub mod Book
pub mod Runs
pub mod Demand
pub mod Replay
pub mod Worked
pub mod Cases
pub mod SheetCases
pub mod SheetCells
