pub mod Picks
pub mod Subsumption
pub mod Literals
pub mod Search
pub mod Laws
