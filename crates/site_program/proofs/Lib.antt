-- Laws of the definitions in specs/: the numbers after a verb, the first bad block, and that the buffer holds every text.
pub mod GivenLaws
pub mod BlockLaws
pub mod RoomLaws
-- Laws of the definitions in specs/: each way through the code is one thing that a byte, a line or a read does.
pub mod CourseLaws
mod FirstLaws
-- `TextLaws`: texts put or refused; `LineLaws`: lines of links and nodes, one after another; `TreeLaws`: the shell tree's text;
-- `SaidLaws`: for `answer`; `NameLaws`: for the words of the verbs.
pub mod TextLaws
pub mod LineLaws
pub mod TreeLaws
pub mod SaidLaws
pub mod NameLaws
-- `StatusLaws`: the status of a run.
mod StatusLaws
