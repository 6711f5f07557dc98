-- The histories are right, and a worked hearing.
pub mod Histories
pub mod HeardCases
