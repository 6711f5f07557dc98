-- Named marks: the order of names, places in rising order, the store.

pub mod NameOrder
pub mod Lists
pub mod Ranks
pub mod Laws
pub mod Rules
pub mod Bytes
