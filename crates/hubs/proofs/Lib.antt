-- Two hubs, one mesh: `Balance` how often each call was made tells which links are up, `Confluence` the theorems over runs, `Cases` that the
-- worked pair of histories are the same calls, `Differ` that it shows different orders and images.
pub mod Balance
pub mod Confluence
pub mod Cases
pub mod Differ
