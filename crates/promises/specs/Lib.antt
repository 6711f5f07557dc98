-- The promises of the engine, as one statement.
pub mod Statement
