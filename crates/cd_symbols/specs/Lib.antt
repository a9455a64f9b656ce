pub mod Symbol
pub mod Table
