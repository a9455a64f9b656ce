pub mod Literals
pub mod Forms
pub mod Multisets
pub mod Repeats
pub mod Keys
pub mod Laws
pub mod Parts
pub mod Eligibility
