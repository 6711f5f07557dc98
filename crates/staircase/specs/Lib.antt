-- For the contracts of private functions: what taking links asks, the parts that kept links join, the rows of a level.
pub mod Taking
pub mod Parts
pub mod Rows
