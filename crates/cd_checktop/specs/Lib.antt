pub mod Texts
pub mod Checked
pub mod Laws
