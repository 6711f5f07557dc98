-- A host's list of calls: `Hosts` demand 3 at the machine, `Made` that hosts exist, `Cases` three calls, cell by cell.
pub mod Hosts
pub mod Made
pub mod Cases
