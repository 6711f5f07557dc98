-- Words for lists that the definitions and contracts use.
pub mod Lists
pub mod Facts
-- words of the kit, passed on
pub mod Kit
