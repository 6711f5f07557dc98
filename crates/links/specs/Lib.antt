-- a link on tables known to be sound
pub mod Steps
-- What applying a plan writes.
pub mod Changes
-- What committing holds a proposal against.
pub mod Proposed
-- What a batch answers.
pub mod Batched
