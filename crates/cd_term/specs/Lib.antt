pub mod Terms
pub mod Instances
pub mod Symbols
pub mod Laws
