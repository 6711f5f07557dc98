-- Text as bytes, and text put into a lent buffer.
pub mod Text
pub mod Print
