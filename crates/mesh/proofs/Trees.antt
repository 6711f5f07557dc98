-- Reachable radios, connected cores, the shell tree.

pub mod Reach
pub mod CoreLevels
pub mod NodeSets
pub mod ShellNames
pub mod Laws
pub mod Unique
pub mod Listed
