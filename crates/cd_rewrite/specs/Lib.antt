pub mod Reduction
pub mod Equations
pub mod Walks
pub mod Rewriting
pub mod Laws
