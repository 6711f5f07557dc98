-- Laws of the search: `SetLaws` for the sets of radios, `PeelLaws` for the leaves of the peel, `PeelSteps` for its turns, `TryLaws` for the leaves of a pair tried,
-- `TrySteps` for the pair, `OrderLaws` for where a pair may begin, `SearchLaws` and `SearchSteps` for the search.
mod SetLaws
mod PeelLaws
mod PeelSteps
mod TryLaws
mod TrySteps
mod OrderLaws
mod SearchLaws
mod SearchSteps
-- Laws of the tests, case by case.
pub mod CounterLaws
-- its functions in a linked program
pub mod World
