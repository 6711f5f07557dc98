-- Link histories, written by a separate program.
pub mod Histories
