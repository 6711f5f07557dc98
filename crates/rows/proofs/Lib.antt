-- Laws of rows, for their functions and callers.
-- one bit by shift and mask
pub mod MaskLaws
-- words of eight bytes, and their set bits
pub mod WordLaws
-- a list written from the front: what is left gives what the whole gives
pub mod Listing
-- a row word by word
pub mod RowWords
-- the radios above a row's own
pub mod AboveWords
-- the neighbours that a row marks, as a list: for callers
pub mod RowListLaws
-- the first radio of a list, as an option: for callers
pub mod FirstLaws
-- Laws of sets of eight words, for their functions and callers.
pub mod SetLaws
-- Laws of the list of links, for its functions and their callers.
-- the neighbours above a radio
pub mod AboveLaws
-- the links from a row on
pub mod LinksFrom
-- the links of the graph that the table marks
pub mod GraphLinks
-- its functions in a linked program
pub mod World
