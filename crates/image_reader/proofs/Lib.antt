-- Laws of the reader.
-- the links table, link by link
pub mod TableWritten
-- question 11, part by part, and the tables
pub mod SiteLaws
-- questions 15 and 11 from the header's n
pub mod SourceLaws
-- the reader's outcomes
pub mod ReadLaws
-- Laws of the links and of the order that an image lists.
-- the links, whether they are listed well; entries of the order
pub mod ListedLaws
-- blocks of links
pub mod BlockLaws
-- counts over the links
pub mod TallyLaws
-- the two halves of a block side by side
pub mod HalvesLaws
-- running maxima along an order
pub mod MaximaLaws
-- what the counts decide
pub mod KOrderLaws
-- the parts together
pub mod SoundLaws
-- its functions in a linked program
pub mod World
