-- What the contracts of the parser cite, for its callers too: `Lines`, `Texts`. `Cases` for readers: texts and what they say.
pub mod Cases
pub mod Lines
pub mod Digits
pub mod Texts
-- How long a script can be, and worked scripts.
pub mod Longest
pub mod Scripts
