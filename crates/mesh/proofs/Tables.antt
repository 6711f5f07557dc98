-- Links tables: digits and rows, what they read back as, soundness, a site's tables.

pub mod Digits
pub mod Laws
pub mod Rows
pub mod AscendingLinks
pub mod Relinked
pub mod ReadBack
pub mod Soundness
pub mod Sites
pub mod DegreeSum
pub mod OtherEnds
pub mod Older
