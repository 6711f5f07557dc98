-- What the functions on a heard table come back with.
pub mod Hearing
-- What the contracts of the soundness check cite of a row's conditions.
pub mod Conditions
