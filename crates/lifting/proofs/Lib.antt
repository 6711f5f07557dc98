-- One link that lifts a radio. `Peeling`: the peel of a level with one radio kept. `Pairs`: what lifts a radio, what a peel shows of a pair.
-- `Tight`: where such a pair begins. `Search`: pairs tried in turn. `Answers`: what a caller has. `Cases`: the worked cases.
pub mod Peeling
pub mod Pairs
pub mod Tight
pub mod Search
pub mod Answers
pub mod Cases
