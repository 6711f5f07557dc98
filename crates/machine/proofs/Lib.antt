-- From the logic to cells: `Heap` a memory's table cut into what is written and the rest, `Whole` that every memory is owned whole and
-- what is owned is read off it, `Rows` plain data and lists of it in memory, `Lending` the parameters lent and taken back, `Left` what comes
-- back list by list, `Law` the law, `Numbers` the rows of the integers, `Made` that the premise of `Runs` can be had, `Again` that a memory
-- after a call is ready for the next, `Chain` what stands in cells is one list and is carried to another memory, `Cases` how cells look.
pub mod Heap
pub mod Whole
pub mod Rows
pub mod Lending
pub mod Left
pub mod Law
pub mod Numbers
pub mod Made
pub mod Again
pub mod Chain
pub mod Cases
