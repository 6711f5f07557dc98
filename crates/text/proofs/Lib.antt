-- Laws of decimal digits, and of text put into a buffer.
pub mod DecimalLaws
pub mod PrintLaws
-- its functions in a linked program
pub mod World
