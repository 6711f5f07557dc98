-- Spanning forests, from the bottom up: what links join, labels of parts, acyclic lists and their length, links taken in turn, sums of
-- weights; `Heaviest`, `Ways`, `Widest` and `Turns` are the staircase tree's laws, `Tree` has them as one, and for the call;
-- `Levels` and `Shows` are for the code that lets it grow.
pub mod JoinedLaws
pub mod Labels
pub mod Forests
pub mod Keeping
pub mod Weights
pub mod Heaviest
pub mod Ways
pub mod Widest
pub mod Turns
pub mod Tree
pub mod Levels
pub mod Shows
pub mod Cases
