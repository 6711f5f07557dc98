-- The promises, proved.
pub mod Promises
