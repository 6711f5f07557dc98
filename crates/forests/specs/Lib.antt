-- The staircase tree as it grows, and its worked cases.
pub mod Growing
pub mod Cases
