pub mod Names
pub mod Orders
pub mod Shares
pub mod Waves
pub mod Laws
