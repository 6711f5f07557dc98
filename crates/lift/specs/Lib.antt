-- The search as its functions carry it out: `Peels` is the peel, `Tries` a pair tried, `Search` the loops over pairs.
pub mod Peels
pub mod Tries
pub mod Search
-- The tests of the search for a link that lifts a radio.
pub mod Counters
