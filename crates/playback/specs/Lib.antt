-- `Plays`: the link calls of an input. `Back`: a script that rebuilds its site. `Cases`: one where the order differs.
pub mod Plays
pub mod Back
pub mod Cases
