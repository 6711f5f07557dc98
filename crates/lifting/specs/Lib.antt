-- The search for one link that lifts a radio: a level peeled with one radio kept, pairs tried and ruled out; what a caller has; worked cases.
pub mod Peeling
pub mod Search
pub mod Tight
pub mod Results
pub mod Cases
