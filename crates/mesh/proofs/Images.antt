-- The site image: its blocks, its checks, what is written and what is read.

pub mod Laws
pub mod Words
pub mod Blocks
pub mod Of
pub mod Checks
pub mod Read
pub mod Sites
pub mod Tables
pub mod OtherSize
pub mod Canonical
