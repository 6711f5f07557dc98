-- the rows of a hearing, and its questions
pub mod Hearings
