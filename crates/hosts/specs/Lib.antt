-- Calls as a host makes them, at the machine: `Public` the exported calls, `Hosts` lists of them on one memory, `Made` that hosts exist.
pub mod Public
pub mod Hosts
pub mod Made
