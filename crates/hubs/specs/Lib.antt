-- Two hubs, one mesh: the statement. The worked pair of histories stands in the table of cases of crate calls.
pub mod Hubs
