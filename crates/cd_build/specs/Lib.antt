pub mod Derivation
pub mod Refuting
pub mod Marks
pub mod Building
