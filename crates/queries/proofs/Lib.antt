-- Laws of the questions' code.
-- chains of questions, and the contracts that go by them
pub mod RefusalLaws
pub mod AnswerLaws
pub mod CoreLaws
-- Laws of the backbone's code: the parts of a site, one after the other.
pub mod PartLaws
-- its functions in a linked program
pub mod World
