-- The one peel of both link calls, that it is document 01's layout, and what an accepted link call keeps and changes.

pub mod Peel
pub mod PeelSound
pub mod Moves
pub mod LevelCut
pub mod Call
pub mod Laws
pub mod Connectedness
pub mod Tables
