pub mod Weights
pub mod Orders
pub mod Sides
pub mod Kbo
pub mod Blocks
pub mod Laws
pub mod Stable
