-- Proofs about calls: `AnswerLaws` for what calls answer, `QuestionLaws`, `ChainLaws`, `ContractLaws` and `RecordLaws` for the crates whose functions meet the
-- contracts, `SheetLaws` the columns of the site sheet, `Refusals` what a refusal keeps, `Runs` lists of calls as relations,
-- `Proposals` that a link call is asking and then committing, `SoundSwitches` what links taken up or down leave of sound tables,
-- `Batches` what a batch comes to, `BatchCases` worked ones, `Turns` sorted links taken up or down in turn, `HeardLaws` that the single
-- calls of a hearing are allowed, `HearingLaws` what is left of them row by row, `HeardCalls` what a hearing comes to, `Accepted` what
-- a caller has after an accepted call (property 2), `MarkCalls` the same of calls on named marks, `ImageNumbers` which bytes reading
-- refuses by 15 and which by 11, `Older` what calls give of older tables and images, `Exactly` which radios a link call lists, `Cases`
-- that the worked cases hold by `ByPairs`, `WorkedState` and `WorkedLaws`, `SheetCases` that the worked sheets do, `LiftOutcome` the
-- question for one link that lifts a radio, `ScriptLaws` and `Rebuilt` the script that rebuilds a site, the others for demand 3.
pub mod QuestionLaws
pub mod AnswerLaws
pub mod ChainLaws
pub mod ContractLaws
pub mod RecordLaws
pub mod SheetLaws
pub mod Refusals
pub mod MarkCalls
pub mod LiftOutcome
pub mod LinkKept
pub mod Holds
pub mod SoundSwitches
pub mod Turns
pub mod HeardLaws
pub mod HearingLaws
pub mod HeardCalls
pub mod Batches
pub mod BatchCases
pub mod Runs
pub mod Steps
pub mod Histories
pub mod WholeList
pub mod HistoryRestored
pub mod Exactly
pub mod Proposals
pub mod ByPairs
pub mod WorkedState
pub mod WorkedLaws
pub mod Cases
pub mod SheetCases
pub mod Accepted
pub mod ScriptLaws
pub mod Rebuilt
pub mod ImageNumbers
pub mod Older
-- its functions in a linked program
pub mod World
