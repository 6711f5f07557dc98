-- Calls at the machine: what a call needs of a memory and leaves of it, in cells; a memory made for a call.
pub mod Cells
pub mod Made
