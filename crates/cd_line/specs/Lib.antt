pub mod Reading
pub mod Lines
pub mod Held
pub mod Laws
