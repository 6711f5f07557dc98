-- Laws of the blocks' code.
-- how many blocks there are
pub mod LayoutLaws
-- a block's check
pub mod CheckLaws
-- the check by columns
pub mod ColumnLaws
-- Laws of the form of an image.
pub mod FormLaws
-- its functions in a linked program
pub mod World
